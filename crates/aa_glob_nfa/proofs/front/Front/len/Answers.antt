use Rattle.std.proofs.Common.{ap, arith}
use Rattle.aa_glob_nfa.proofs.FrontLemmas.{length_distinct}
use Rattle.aa_glob_nfa.proofs.front.Front.len.Goals as goal

pub returns-clause-within : goal.returns-clause-within
returns-clause-within c =
    let front = c.self.inside in
    omega (arith, c.len.ensures, ap (λ f. f.room) c.self.view_is, length_distinct front.room front.states.items c.self.invariant.distinct c.self.invariant.below)
