-- How many lines, requests and questions a log has, for the summary.
use Rattle.std.specs.Prelude.{ℕ, ◌==◌, if◌then◌else◌, List, [], ◌∷◌, ◌++◌, codes, length}
use Rattle.std.specs.Fmt.{decimal}
use Rattle.aatry_report.specs.Fields.{Number, Said, Words, told}
use Rattle.aatry_report.specs.declared.form.Form.{Form}
use Rattle.aatry_requests.specs.Gathering.{Gathered}

-- a number, and of what
abbrev pub number_text : ℕ → List ℕ → List ℕ
number_text number words = decimal number ++ words

-- A share of the questions: how many they are, the words for them in a line, and the name of their number in a record.
pub record Share : Type 0 where
  pub number : ℕ
  pub words : List ℕ
  pub name : List ℕ

-- How many lines there were, and how many of them make a question; how many different questions these are, and how many of them belong to the share;
-- how many requests no question asks, and how many lines can't be read.
abbrev pub summary_fields : Gathered → Share → List Said
summary_fields gathered share =
    Number (codes "lines") gathered.lines ∷ Words (codes " lines, ")
    ∷ Number (codes "requests") gathered.asked ∷ Words (codes " requests, ")
    ∷ Number (codes "questions") (length gathered.tallies) ∷ Words (codes " questions, ")
    ∷ Number share.name share.number ∷ Words share.words
    ∷ Number (codes "others") gathered.others ∷ Words (codes " of another kind, ")
    ∷ Number (codes "unreadable") gathered.unreadable ∷ Words (codes " unreadable") ∷ []

-- the summary
abbrev pub summary_text : Form → Gathered → Share → List ℕ
summary_text form gathered share = told form (codes "summary") (summary_fields gathered share)
