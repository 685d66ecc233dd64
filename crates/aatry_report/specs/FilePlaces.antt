-- Files of a folder of policy, and places in them.
use Rattle.std.specs.Prelude.{ℕ, Bool, ◌==◌, if◌then◌else◌, List, [], ◌∷◌, ◌++◌, codes}
use Rattle.std.specs.List.{list_all}
use Rattle.aa_bytes.specs.Bytes.{slash}
use Rattle.aa_bytes.specs.Texts.{begins_with_byte}
use Rattle.aatry_report.specs.Columns.{column}
use Rattle.aatry_report.specs.Lines.{line_number}
use Rattle.aatry_report.specs.Records.{with_number, with_text}
use Rattle.serde_json.specs.Data.{Members}

-- a text that has no bytes but slashes
abbrev pub are_slashes : List ℕ → Bool
are_slashes text = list_all (λ b. b == slash) text

-- a path without the slashes at its end
abbrev pub without_slashes : List ℕ → List ℕ
without_slashes [] = []
without_slashes (b ∷ bs) = if are_slashes (b ∷ bs) then [] else b ∷ without_slashes bs

-- the path of a file in reports: its name below the folder of policy, whose path may end in slashes; a name that is a whole path is taken as it is
abbrev pub path_below : List ℕ → List ℕ → List ℕ
path_below base name = if begins_with_byte slash name then name else without_slashes base ++ codes "/" ++ name

-- a record with a place in a file: its name in reports, the line and the column
abbrev pub with_line_place : List ℕ → ℕ → ℕ → Members → Members
with_line_place path line column members = with_number (codes "column") column (with_number (codes "line") line (with_text (codes "file") path members))

-- a record with a place in the file's bytes
abbrev pub with_place : List ℕ → List ℕ → ℕ → Members → Members
with_place path text at members = with_line_place path (line_number text at) (column text at) members
