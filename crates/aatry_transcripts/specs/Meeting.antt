-- Which output lines of a run meet those that a transcript wants.
use Rattle.std.specs.Prelude.{◌≡◌, ◌⊎◌, ℕ, Bool, true, false, ◌&&◌, if◌then◌else◌, List, [], ◌∷◌, ◌++◌, Option, None, Some, codes, nat_eq}
use Rattle.std.specs.List.{ends_with}
use Rattle.std.specs.Option.{option_map_or}
use Rattle.std.specs.Str.{bytes_eq}
use Rattle.aa_bytes.specs.Texts.{is_empty}
use Rattle.aatry_transcripts.specs.Replies.{is_audit_line}

-- the end of a wanted line whose audit line is left out
abbrev pub left_out : List ℕ
left_out = codes " .."

-- a wanted line leaves its audit line out
abbrev pub leaves_out : List ℕ → Bool
leaves_out wanted = ends_with nat_eq wanted left_out

-- a wanted line stands for this one, and for the audit line after it, whatever that is
abbrev pub stands_for : List ℕ → List ℕ → Bool
stands_for wanted line = bytes_eq wanted (line ++ left_out)

-- These are the lines that a wanted line asks for: itself, byte for byte; or the line that it stands for, followed by an audit line.
abbrev pub IsMetBy : List ℕ → List (List ℕ) → Type 0
IsMetBy wanted told =
    (told ≡ wanted ∷ [])
    ⊎ ((line audit : List ℕ) × (told ≡ line ∷ audit ∷ []) × (wanted ≡ line ++ left_out) × (is_audit_line audit ≡ true))

-- These are the lines that wanted lines ask for, each of them in turn, and no other.
abbrev pub AreMetBy : List (List ℕ) → List (List ℕ) → Type 0
AreMetBy [] told = told ≡ []
AreMetBy (wanted ∷ more) told = (own rest : List (List ℕ)) × (told ≡ own ++ rest) × IsMetBy wanted own × AreMetBy more rest

-- the output after an audit line, where one comes first
abbrev pub behind_audit_line : List (List ℕ) → Option (List (List ℕ))
behind_audit_line [] = None
behind_audit_line (line ∷ behind) = if is_audit_line line then Some behind else None

-- the output after the lines that a wanted line asks for, where these come first
abbrev pub behind_met : List ℕ → List (List ℕ) → Option (List (List ℕ))
behind_met wanted [] = None
behind_met wanted (line ∷ behind) =
    if bytes_eq wanted line then Some behind
    else if stands_for wanted line then behind_audit_line behind
    else None

-- whether these are the lines that wanted lines ask for, as a test: `AreMetBy`, by the law on comparisons
abbrev pub are_met : List (List ℕ) → List (List ℕ) → Bool
are_met [] told = is_empty told
are_met (wanted ∷ more) told = option_map_or (are_met more) (behind_met wanted told) false

-- lines are the same as others, in the same order
abbrev pub are_same : List (List ℕ) → List (List ℕ) → Bool
are_same [] [] = true
are_same [] (other ∷ others) = false
are_same (line ∷ lines) [] = false
are_same (line ∷ lines) (other ∷ others) = bytes_eq line other && are_same lines others
