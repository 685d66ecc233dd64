-- What is told of two folders, one part behind the other.
use Rattle.std.proofs.Common.{◌≡◌, ◌∙◌, ℕ, List, ◌++◌, append_assoc, sym}

-- what comes behind two texts is the same, put behind them part by part
pub part_by_part : (old new newly changes requests : List ℕ) → (old ++ new) ++ (newly ++ (changes ++ requests)) ≡ old ++ new ++ newly ++ changes ++ requests
part_by_part old new newly changes requests =
    sym (append_assoc (old ++ new) newly (changes ++ requests)) ∙ sym (append_assoc (old ++ new ++ newly) changes requests)
