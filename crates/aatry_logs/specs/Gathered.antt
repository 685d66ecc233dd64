-- Named logs, gathered one after the other.
use Rattle.std.specs.Prelude.{◌≡◌, ℕ, Bool, if◌then◌else◌, List, [], ◌∷◌, Option, None, Some, codes}
use Rattle.std.specs.Str.{bytes_eq}
use Rattle.aa_bytes.specs.Texts.{is_empty}
use Rattle.aa_start.specs.Known.{Known}
use Rattle.aatry_log_lines.specs.Selections.{Selection}
use Rattle.aatry_logs.specs.Inputs.{IsGatheredFrom}
use Rattle.aatry_logs.specs.LogRequests.{LogRequests}

-- this path is standard input
abbrev pub is_input : List ℕ → Bool
is_input path = bytes_eq path (codes "-")

-- the paths that are meant: standard input, where none is named
abbrev pub meant_paths : List (List ℕ) → List (List ℕ)
meant_paths paths = if is_empty paths then codes "-" ∷ [] else paths

-- what is still to be read of the log at a path, where that is known, by what is of standard input
abbrev pub left_at : Known → Option (List ℕ) → List ℕ → Option (List ℕ)
left_at known left path = if is_input path then left else known.bytes_at path

-- the path of the log at a path, where that isn't standard input
abbrev pub log_file : List ℕ → Option (List ℕ)
log_file path = if is_input path then None else Some path

-- what is still to be read of standard input after the log at a path: it is read to its end, and where it is named again nothing is left
abbrev pub left_behind : Option (List ℕ) → List ℕ → Option (List ℕ)
left_behind left path = if is_input path then Some [] else left

-- The lines of the logs at these paths were gathered after what was before, one log after the other.
abbrev pub AreGathered : Selection → Known → (left : Option (List ℕ)) → List (List ℕ) → (before after : LogRequests) → Type 0
AreGathered selection known left [] before after = after ≡ before
AreGathered selection known left (path ∷ paths) before after =
    (next : LogRequests) × IsGatheredFrom selection (log_file path) (left_at known left path) before next
    × AreGathered selection known (left_behind left path) paths next after
