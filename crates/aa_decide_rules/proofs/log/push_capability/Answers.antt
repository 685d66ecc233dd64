use Rattle.std.proofs.Common.{◌++◌, codes, ap, ◌∙◌}
use Rattle.std.proofs.lemmas.Result.{on_ok_weaker}
use Rattle.std.specs.Fmt.{decimal}
use Rattle.aa_profile_data.specs.Capabilities.{capability_name}
use Rattle.aa_bytes.specs.Quoting.{quoted}
use Rattle.aa_decide_rules.proofs.LineLemmas.{two-behind}
use Rattle.aa_profile_data.specs.TableNames.{name_or_none}
use Rattle.aa_decide_rules.proofs.log.push_capability.Goals as goal

pub returns : goal.returns
returns c =
    on_ok_weaker c.push_table_name.result (λ last.
    two-behind c.args.line.now.items c.push_number.new.line.items c.push_table_name.new.line.items
    (codes " capability=") (decimal c.args.number)
    (codes " capname=") (quoted (name_or_none (capability_name c.args.number)))
    c.in_ok-push_number.ensures
    (last ∙ ap (λ name. c.push_number.new.line.items ++ codes " capname=" ++ quoted (name_or_none name)) c.capability_name.ensures))
    c.push_table_name.ensures
