-- Walks over a text.
use Rattle.std.specs.Prelude.{◌≡◌, ℕ, List}
use Rattle.aatry_report.specs.Columns.{column}
use Rattle.aatry_report.specs.Lines.{line_number}
use Rattle.aatry_report.specs.declared.place.Walk.{Walk}

-- a walk is one of a text: what it knows of the place that it has reached is its line and its column there
abbrev pub IsOf : List ℕ → Walk → Type 0
IsOf text walk = (walk.place.line ≡ line_number text walk.at) × (walk.place.column ≡ column text walk.at)
