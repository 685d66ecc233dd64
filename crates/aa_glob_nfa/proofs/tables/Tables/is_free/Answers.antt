use Rattle.std.proofs.Common.{◌∙◌, ap}
use Rattle.aa_glob_nfa.specs.Entries.{is_free}
use Rattle.aa_glob_nfa.specs.Tables.{entry_behind, set_of}
use Rattle.aa_glob_nfa.proofs.TableLemmas.{entry_of-graph_in}
use Rattle.aa_glob_nfa.proofs.tables.Tables.is_free.Goals as goal

pub returns : goal.returns
returns c =
    let t = c.args.self.now in
    let set = set_of t.classes.items c.args.number in
    rw (entry_of-graph_in t.states t.ways.items t.classes.items t.ends.items c.args.number c.requires)
    (c.is_free.ensures set ∙ ap (λ gate. is_free (entry_behind gate set)) c.gate.ensures)
