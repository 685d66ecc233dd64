-- Lines of logs that make no question: those that can't be read, those of which the kernel knew no whole path, and those of learning profiles.
use Rattle.std.specs.Prelude.{ℕ, List, [], ◌∷◌, ◌++◌, Option, None, Some, codes, flat_map}
use Rattle.aatry_logs.specs.Apart.{KeptLine}
use Rattle.aatry_logs.specs.LogRequests.{LogRequests}
use Rattle.aatry_report.specs.Fields.{Number, Text, Words, told}
use Rattle.aatry_report.specs.declared.form.Form.{Form}

-- a line of standard input by its number, after the word of its kind; and one of a log by the path of that, too
unfoldable pub numbered_told : Form → (kind : List ℕ) → ℕ → (text : List ℕ) → List ℕ
numbered_told form kind line text =
    told form kind (Words (codes "line ") ∷ Number (codes "line") line ∷ Words (codes ": ") ∷ Words kind ∷ Words (codes ": ") ∷ Text (codes "text") text ∷ [])

unfoldable pub placed_told : Form → (kind file : List ℕ) → ℕ → (text : List ℕ) → List ℕ
placed_told form kind file line text =
    told form kind
    (Text (codes "file") file ∷ Words (codes ":") ∷ Number (codes "line") line ∷ Words (codes ": ") ∷ Words kind ∷ Words (codes ": ")
    ∷ Text (codes "text") text ∷ [])

abbrev pub told_at : Form → (kind : List ℕ) → Option (List ℕ) → ℕ → (text : List ℕ) → List ℕ
told_at form kind None line text = numbered_told form kind line text
told_at form kind (Some file) line text = placed_told form kind file line text

abbrev pub line_text : Form → List ℕ → KeptLine → List ℕ
line_text form kind line = told_at form kind line.file line.line line.text

-- such lines, in their order
abbrev pub kept_text : Form → List ℕ → List KeptLine → List ℕ
kept_text form kind lines = flat_map (line_text form kind) lines

-- the lines of logs that make no question, kind by kind
abbrev pub apart_text : Form → LogRequests → List ℕ
apart_text form logs =
    kept_text form (codes "unreadable") logs.unreadable.first ++ kept_text form (codes "disconnected") logs.disconnected.first
    ++ kept_text form (codes "learning") logs.learning.first
