-- The candidates that may attach to a path.
use Rattle.std.specs.Prelude.{ℕ, ◌+◌, if◌then◌else◌, List, [], ◌∷◌, ◌++◌, map, Option, None, Some, codes}
use Rattle.aa_bytes.specs.Texts.{is_empty}
use Rattle.aa_set_answers.specs.ProfileNames.{full_name_at}
use Rattle.aa_explain.specs.Candidates.{Candidate, best_pattern, patterns_of, rank_of}
use Rattle.aa_explain.specs.Standings.{standing_of}
use Rattle.aa_explain.specs.declared.standing.Standing.{Standing}
use Rattle.aa_explain.specs.declared.standing.Standing.TheVariants.{Attached, Lost, Tied}
use Rattle.aatry_report.specs.Headings.{heading_line}
use Rattle.aatry_report.specs.Fields.{Quoted, Word, Words, told}
use Rattle.aatry_report.specs.declared.form.Form.{Form}

-- the words for how a candidate ranks
abbrev pub standing_words : Standing → List ℕ
standing_words Attached = codes "attached"
standing_words Tied = codes "equally near"
standing_words Lost = codes "not attached"

-- how a candidate ranks, in words, by its full name and the pattern that fits the path best
unfoldable pub standing_told : Form → (standing name pattern : List ℕ) → List ℕ
standing_told form standing name pattern =
    told form (codes "attachment")
    (Words (codes "  ") ∷ Word (codes "standing") standing ∷ Words (codes ": ") ∷ Quoted (codes "name") name
    ∷ Words (codes " by ") ∷ Quoted (codes "pattern") pattern ∷ [])

-- the line of a candidate, by the pattern that fits the path best; without one that matches it has none
abbrev pub line_by : Form → Standing → Candidate → Option (List ℕ) → List ℕ
line_by form standing candidate None = []
line_by form standing candidate (Some pattern) =
    standing_told form (standing_words standing) (full_name_at candidate.entry.profile candidate.child) pattern

-- the line of the candidate at an index, by its rank among those of all candidates
abbrev pub candidate_line : Form → List ℕ → List ℕ → ℕ → Candidate → List ℕ
candidate_line form path ranks place candidate =
    line_by form (standing_of ranks place (rank_of path candidate)) candidate (best_pattern path (patterns_of candidate))

-- the line of each, where the first has this index
abbrev pub lines_from : Form → List ℕ → List ℕ → ℕ → List Candidate → List ℕ
lines_from form path ranks place [] = []
lines_from form path ranks place (candidate ∷ candidates) =
    candidate_line form path ranks place candidate ++ lines_from form path ranks (place + 1) candidates

-- lines below a heading; where there is no line, nothing
abbrev pub headed : Form → List ℕ → List ℕ → List ℕ
headed form words lines = if is_empty lines then [] else heading_line form words ++ lines

-- the lines of all candidates that have a pattern which matches the path, below a heading
abbrev pub attachment_lines : Form → List ℕ → List Candidate → List ℕ
attachment_lines form path candidates = headed form (codes "attachment") (lines_from form path (map (rank_of path) candidates) 0 candidates)
