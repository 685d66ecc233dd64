use Rattle.aa_glob_nfa.specs.Tables.{ending}
use Rattle.aa_glob_nfa.proofs.PackedLemmas.{packed-set}
use Rattle.aa_glob_nfa.proofs.states.States.end.Goals as goal

pub returns : goal.returns
returns c =
    packed-set c.self.inside.packed.items c.args.self.now c.args.number c.index.result.now c.ending-state.result ending c.self.view_is c.requires c.index.ensures c.ending-state.ensures
