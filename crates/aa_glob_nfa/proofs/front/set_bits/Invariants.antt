use Rattle.std.proofs.Common.{◌≡◌, ℕ, ◌||◌, take}
use Rattle.aa_bytes.specs.Bits.{has_bit}
use Rattle.aa_glob_nfa.specs.Fronts.{is_in}
use Rattle.aa_glob_nfa.proofs.front.set_bits.Given as goal

abbrev pub invariant-loop-state : goal.invariant-loop-state
invariant-loop-state l = (x : ℕ) → has_bit l.members x ≡ (is_in x (take l.state-index l.states) || has_bit l.initial.members x)
