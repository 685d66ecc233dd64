-- Logs, gathered one behind the other.
use Rattle.std.proofs.Common.{◌≡◌, ℕ, Bool, true, false, List, [], Option, Some, refl}
use Rattle.aatry_logs.specs.Gathered.{is_input, left_behind}
use Rattle.aatry_logs.specs.code.Reading.{left_by, was_read_by}
use Rattle.aatry_log_lines.specs.Selections.{Selection}
use Rattle.aatry_logs.specs.Inputs.{IsGatheredFrom}
use Rattle.aatry_logs.specs.LogRequests.{LogRequests, begun}

-- what is left of standard input behind a log goes by whether it was read by then
pub left_then : (path : List ℕ) (was_read now_read : Bool) (left now_left : Option (List ℕ)) → now_read ≡ was_read_by was_read path → (now_read ≡ false → now_left ≡ left)
    → left_by now_read now_left ≡ left_behind (left_by was_read left) path
left_then path was_read now_read left now_left is unread = by (is_input path) refl was_read now_read refl is unread
  where
    by : (i : Bool) → is_input path ≡ i → (w n : Bool) → w ≡ was_read → n ≡ was_read_by w path → (n ≡ false → now_left ≡ left)
        → left_by n now_left ≡ left_behind (left_by w left) path
    by true i w true same is unread = rw i refl
    by true i w false same is unread = let wrong : false ≡ true = rw i at is in cc
    by false i true true same is unread = rw i refl
    by false i true false same is unread = let wrong : false ≡ true = rw i at is in cc
    by false i false true same is unread = let wrong : true ≡ false = rw i at is in cc
    by false i false false same is unread = rw i (unread refl)

-- nothing is left of what was read
pub nothing_left : (selection : Selection) (file : Option (List ℕ)) (so_far : LogRequests) → IsGatheredFrom selection file (Some []) so_far (begun so_far)
nothing_left selection file so_far = ([], refl, refl, refl)
