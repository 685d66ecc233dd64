-- How far the reading of logs has come.
use Rattle.std.specs.Prelude.{ℕ, Bool, ◌||◌, if◌then◌else◌, List, [], Option, Some}
use Rattle.aatry_logs.specs.Gathered.{is_input}

-- what is still to be read of standard input, by whether it was read
abbrev pub left_by : Bool → Option (List ℕ) → Option (List ℕ)
left_by was_read left = if was_read then Some [] else left

-- whether standard input was read, after the log at a path
abbrev pub was_read_by : Bool → List ℕ → Bool
was_read_by was_read path = is_input path || was_read
