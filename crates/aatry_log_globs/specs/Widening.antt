-- Wider patterns for paths, as they are written in the quotes of a profile's file.
use Rattle.std.specs.Prelude.{ℕ, ◌-◌, Bool, not, ◌==◌, ◌&&◌, ◌||◌, if◌then◌else◌, nat_le, List, [], ◌∷◌, ◌++◌, drop, length, Option, None, Some}
use Rattle.std.specs.Str.{bytes_eq}
use Rattle.aa_bytes.specs.Bytes.{backslash}
use Rattle.aa_explain_written.specs.Quotes.{needs_escape}
use Rattle.aa_glob.specs.Laws.{needs_backslash}
use Rattle.aa_glob_syntax.specs.Reading.{longest}
use Rattle.aatry_log_globs.specs.Runs.{Run, run_behind}
use Rattle.aatry_log_globs.specs.Variables.{bytes_of, front_parts, texts_of}
use Rattle.aatry_report.specs.Shown.{shown}

-- a byte of a path, after another, as it stands for itself in quotes
abbrev pub spelled_byte : ℕ → ℕ → List ℕ
spelled_byte before b = if needs_backslash b || needs_escape before b then backslash ∷ b ∷ [] else b ∷ []

-- bytes of a path, after another
abbrev pub spelled_behind : ℕ → List ℕ → List ℕ
spelled_behind before [] = []
spelled_behind before (b ∷ bs) = spelled_byte before b ++ spelled_behind b bs

abbrev pub spelled : List ℕ → List ℕ
spelled bytes = spelled_behind 0 bytes

-- the pattern for a byte, and for how many bytes after it
pub record Step : Type 0 where
  pub text : List ℕ
  pub covered : ℕ

-- the pattern for a byte, by the hash or number that begins with it, if one does
abbrev pub first_step : Option Run → ℕ → ℕ → Step
first_step None before b = record { text = spelled_byte before b; covered = 0 }
first_step (Some run) before b = record { text = run.pattern; covered = run.size - 1 }

-- the pattern for the first byte of a text after a byte, where so many of its first bytes are covered already
abbrev pub step : ℕ → ℕ → List ℕ → Step
step covered before [] = record { text = []; covered = covered }
step covered before (b ∷ bs) =
    if covered == 0 then first_step (run_behind before (b ∷ bs)) before b else record { text = []; covered = covered - 1 }

-- the bytes of a path after another, with a pattern in place of each hash and number
abbrev pub widened_behind : ℕ → ℕ → List ℕ → List ℕ
widened_behind covered before [] = []
widened_behind covered before (b ∷ bs) = (step covered before (b ∷ bs)).text ++ widened_behind (step covered before (b ∷ bs)).covered b bs

-- a path after what variables stand for
abbrev pub widened_rest : List ℕ → List ℕ
widened_rest path = widened_behind 0 0 (drop (length (bytes_of (front_parts path))) path)

-- The wider pattern for a path: variables in place of a home folder, and of what is a process's own in `/proc`, and classes in place of hashes and
-- numbers.
abbrev pub widened : List ℕ → List ℕ
widened path = texts_of (front_parts path) ++ widened_rest path

-- a pattern can be printed: a terminal obeys none of its bytes, and it isn't too long
abbrev pub can_be_told : List ℕ → Bool
can_be_told text = bytes_eq (shown text) text && nat_le (length text) longest

-- a pattern is offered where it can be printed, and something is widened
abbrev pub is_offered : List ℕ → List ℕ → Bool
is_offered path text = can_be_told text && not (bytes_eq text (spelled path))

abbrev pub wider : List ℕ → Option (List ℕ)
wider path = if is_offered path (widened path) then Some (widened path) else None
