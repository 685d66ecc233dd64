-- Requests by their source, if there is one.
use Rattle.std.specs.Prelude.{ℕ, Bool, if◌then◌else◌, List, [], ◌++◌, Option, None, Some, length, option_map}
use Rattle.std.specs.Borrow.{Bor}
use Rattle.aa_decide_ready.specs.Entries.{Loaded}
use Rattle.aatry_diff.specs.Differences.{difference_lines, told_differences}
use Rattle.aatry_diff.specs.Differing.{Difference, differences}
use Rattle.aatry_diff.specs.Folders.{BothFolders}
use Rattle.aatry_diff.specs.Summary.{summary_line}
use Rattle.aatry_report.specs.declared.form.Form.{Form}
use Rattle.aatry_requests.specs.Gathering.{Gathered, gathered}
use Rattle.aatry_requests.specs.Tallies.{Tally}
use Rattle.aatry_requests.specs.declared.sources.Source.{Source}

-- what is gathered of a source, by its form and its bytes
abbrev pub seen_source : Option (Source × Bor (List ℕ)) → Option Gathered
seen_source source = option_map (λ s. gathered s.0 s.1.now) source

-- the questions of a source
abbrev pub tallies_of : Option Gathered → List Tally
tallies_of None = []
tallies_of (Some requests) = requests.tallies

-- the questions whose answers differ between two policy sets, each with both answers
abbrev pub differences_of : List Loaded → List Loaded → Option Gathered → List Difference
differences_of old new requests = differences old new (tallies_of requests)

-- how many these are
abbrev pub differing_count : List Loaded → List Loaded → Option Gathered → ℕ
differing_count old new requests = length (differences_of old new requests)

-- the report on these
abbrev pub differences_text : Form → BothFolders → List Loaded → List Loaded → Option Gathered → List ℕ
differences_text form folders old new requests = difference_lines form folders old new (tallies_of requests)

-- the summary, by how many these are
abbrev pub summary_text : Form → Option Gathered → ℕ → List ℕ
summary_text form None differing = []
summary_text form (Some requests) differing = summary_line form requests differing

-- each question whose answers differ, unless only counts are reported
abbrev pub differences_unless : Form → Bool → BothFolders → List Difference → List ℕ
differences_unless form stat folders found = if stat then [] else told_differences form folders found

-- the report on a source by what is found: these, and the summary
abbrev pub told_requests : Form → Bool → BothFolders → Option Gathered → List Difference → List ℕ
told_requests form stat folders requests found = differences_unless form stat folders found ++ summary_text form requests (length found)

-- the report on a source by all answers that differ between two policy sets
abbrev pub requests_text : Form → Bool → BothFolders → List Loaded → List Loaded → Option Gathered → List ℕ
requests_text form stat folders old new requests = told_requests form stat folders requests (differences_of old new requests)
