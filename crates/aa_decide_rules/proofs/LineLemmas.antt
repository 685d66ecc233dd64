-- Pieces that are put behind a line one after the other.
use Rattle.std.proofs.Common.{◌≡◌, ℕ, List, ◌++◌, append_assoc, arith, ap, ◌∙◌}

-- a key and its value, twice
pub two-behind : (before first second k1 v1 k2 v2 : List ℕ) → first ≡ before ++ k1 ++ v1 → second ≡ first ++ k2 ++ v2 → second ≡ before ++ (k1 ++ v1 ++ k2 ++ v2)
two-behind before first second k1 v1 k2 v2 one two = two ∙ ap (λ l. l ++ k2 ++ v2) one ∙ grind (arith, append_assoc)

-- three times
pub three-behind : (before first second third k1 v1 k2 v2 k3 v3 : List ℕ) → first ≡ before ++ k1 ++ v1 → second ≡ first ++ k2 ++ v2 → third ≡ second ++ k3 ++ v3
    → third ≡ before ++ (k1 ++ v1 ++ k2 ++ v2 ++ k3 ++ v3)
three-behind before first second third k1 v1 k2 v2 k3 v3 one two three =
    three ∙ ap (λ l. l ++ k3 ++ v3) (two-behind before first second k1 v1 k2 v2 one two) ∙ grind (arith, append_assoc)
