use Rattle.aa_glob_nfa.specs.Tables.{leading_on}
use Rattle.aa_glob_nfa.proofs.PackedLemmas.{packed-set}
use Rattle.aa_glob_nfa.proofs.states.States.lead_on.Goals as goal

pub returns : goal.returns
returns c =
    packed-set c.self.inside.packed.items c.args.self.now c.args.number c.index.result.now c.leading_on-state.result leading_on c.self.view_is c.requires c.index.ensures c.leading_on-state.ensures
