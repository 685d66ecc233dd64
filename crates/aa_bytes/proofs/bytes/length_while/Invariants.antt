use Rattle.std.proofs.Common.{◌≡◌, ◌+◌, ◌<◌, ℕ, Bool, drop}
use Rattle.std.specs.List.{prefix_len}
use Rattle.aa_bytes.proofs.bytes.length_while.Given as goal

-- the bytes so far, and those of the rest, are all
abbrev pub invariant-loop-at : goal.invariant-loop-at
invariant-loop-at g l =
    goal.F-IsAlwaysCallable g l.passes
    × ((test : ℕ → Bool) → ((b : ℕ) (r : Bool) → b < 256 → goal.F-post g l.passes b r → r ≡ test b) → prefix_len test l.text ≡ l.at + prefix_len test (drop l.at l.text))
