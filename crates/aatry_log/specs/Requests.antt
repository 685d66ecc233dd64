-- The report on the requests of a log (docs/aatry.md).
use Rattle.std.specs.Prelude.{◌≡◌, ℕ, ◌+◌, ◌==◌, if◌then◌else◌, List, [], ◌∷◌, ◌++◌, Option, None, Some, codes, flat_map}
use Rattle.aatry_folder.specs.Reports.{failed_by}
use Rattle.aatry_log.specs.Prefixed.{prefixed_text}
use Rattle.aatry_policy.specs.Folders.{Folder, policy_in}
use Rattle.aatry_report.specs.Fields.{Bytes, Member, Plain, Times, Words, told}
use Rattle.aatry_report.specs.declared.form.Form.{Form}
use Rattle.aatry_requests.specs.Order.{IsMostAskedFirst}
use Rattle.aatry_requests.specs.Tallies.{Tally}
use Rattle.aatry_requests.specs.Texts.{question_text}
use Rattle.aatry_requests.specs.declared.spans.Span.{Span}
use Rattle.aatry_words.specs.Told.{time_text}
use Rattle.aatry_why.specs.Why.{asked_text, has_answer}

-- the last time, where it differs from the first
abbrev pub last_text : Span → List ℕ
last_text span = if span.first == span.last then [] else codes " to " ++ time_text span.last

-- the heading of a request: how often it occurred, when, and its question; by its first time, what is printed after that, and its last
unfoldable pub times_told : Form → (times : ℕ) → (first behind last question : List ℕ) → List ℕ
times_told form times first behind last question =
    told form (codes "request")
    (Times (codes "times") times ∷ Words (codes " (") ∷ Plain (codes "first") first ∷ Bytes behind
    ∷ Member (codes "last") last ∷ Words (codes "): ") ∷ Plain (codes "question") question ∷ [])

abbrev pub spanned_text : Form → (times : ℕ) → Span → (question : List ℕ) → List ℕ
spanned_text form times span question =
    times_told form times (time_text span.first) (last_text span) (time_text span.last) question

-- that of one whose times aren't known
unfoldable pub timeless_told : Form → (times : ℕ) → (question : List ℕ) → List ℕ
timeless_told form times question =
    told form (codes "request")
    (Times (codes "times") times ∷ Words (codes ": ") ∷ Plain (codes "question") question ∷ [])

abbrev pub head_by : Form → (times : ℕ) → Option Span → (question : List ℕ) → List ℕ
head_by form times None question = timeless_told form times question
head_by form times (Some span) question = spanned_text form times span question

abbrev pub head_text : Form → Tally → List ℕ
head_text form tally = head_by form tally.times tally.span (question_text tally.question)

-- a request, and below it, two spaces in, the present answer of a folder's policy, and on what that could depend, as `why` prints it
abbrev pub request_text : Form → Folder → Tally → List ℕ
request_text form folder tally = head_text form tally ++ prefixed_text form (codes "  ") (asked_text form folder tally.question)

-- requests, in this order
abbrev pub requests_text : Form → Folder → List Tally → List ℕ
requests_text form folder tallies = flat_map (request_text form folder) tallies

-- how many of them have an asker that isn't in the folder
abbrev pub nobody_count : Folder → List Tally → ℕ
nobody_count folder [] = 0
nobody_count folder (tally ∷ tallies) = failed_by (has_answer (policy_in folder) tally.question) + nobody_count folder tallies

-- A text is followed by each of some requests once, the most frequent first, with the answer of a folder's policy; so many of them have an asker
-- that isn't in the folder.
pub record AreRequestsTold (form : Form) (folder : Folder) (tallies : List Tally) (before text : List ℕ) (nobody : ℕ) : Type 0 where
  pub told : List Tally
  pub order : IsMostAskedFirst tallies told
  pub text_is : text ≡ before ++ requests_text form folder told
  pub counted : nobody ≡ nobody_count folder told
