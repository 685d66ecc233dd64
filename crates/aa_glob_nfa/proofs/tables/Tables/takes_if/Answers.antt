use Rattle.std.proofs.Common.{◌∙◌, ap}
use Rattle.aa_glob_nfa.specs.Entries.{takes_byte}
use Rattle.aa_glob_nfa.specs.Tables.{entry_behind, set_of}
use Rattle.aa_glob_nfa.proofs.TableLemmas.{entry_of-graph_in}
use Rattle.aa_glob_nfa.proofs.tables.Tables.takes_if.Goals as goal

pub returns-in-Some : goal.returns-in-Some
returns-in-Some c =
    let t = c.args.self.now in
    let set = set_of t.classes.items c.args.number in
    rw (c.in-Some.is, entry_of-graph_in t.states t.ways.items t.classes.items t.ends.items c.args.number c.requires.is_state)
    (c.takes.ensures
    ∙ ap (λ classes. takes_byte (entry_behind c.gate.result (set_of classes c.args.number)) c.in-Some.byte) c.deref.ensures.value
    ∙ ap (λ gate. takes_byte (entry_behind gate set) c.in-Some.byte) c.gate.ensures)
