use Rattle.std.proofs.Common.{◌∙◌, ap, if◌then◌else◌, Some}
use Rattle.std.specs.Str.{bytes_eq}
use Rattle.aa_bytes.specs.NameMaps.{number_of}
use Rattle.aa_bytes.proofs.NameMapLemmas.{gives-number-by-order}
use Rattle.aa_bytes.proofs.name_map.NameMap.insert.Goals as goal

pub returns-clause-ok : goal.returns-clause-ok
returns-clause-ok c = λ name.
    gives-number-by-order c.args.self.now.by_name.entries c.insert.new.self.entries c.in_ok-from_slice.field-0 c.args.number c.in_ok-insert.ensures.updates.1 c.in_ok-insert.ensures.updates.3 name
    ∙ ap (λ text. if bytes_eq text name then Some c.args.number else number_of c.args.self.now name) c.in_ok-from_slice.ensures.items
