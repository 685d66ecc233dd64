use Rattle.aa_glob_nfa.specs.Tables.{leading_away}
use Rattle.aa_glob_nfa.proofs.PackedLemmas.{packed-set}
use Rattle.aa_glob_nfa.proofs.states.States.lead_away.Goals as goal

pub returns : goal.returns
returns c =
    packed-set c.self.inside.packed.items c.args.self.now c.args.number c.index.result.now c.leading_away-state.result leading_away c.self.view_is c.requires c.index.ensures c.leading_away-state.ensures
