use Rattle.std.proofs.Common.{◌≡◌, ℕ, ◌&&◌, nat_lt}
use Rattle.aa_bytes.specs.ByteSets.{has}
use Rattle.aa_bytes.specs.ByteMaps.{in_map}
use Rattle.aa_glob.proofs.element.map_of.Given as goal

abbrev pub invariant-loop-byte : goal.invariant-loop-byte
invariant-loop-byte l = (b : ℕ) → in_map l.map b ≡ (nat_lt b l.byte && has l.set b)
