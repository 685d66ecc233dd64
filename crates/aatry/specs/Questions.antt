-- Commands that ask a folder of policy a question by words.
use Rattle.std.specs.Prelude.{ℕ, Bool, List, Option, None}
use Rattle.aa_profile_parsing.specs.declared.language.Language.{Language}
use Rattle.aa_start.specs.Known.{Known}
use Rattle.aatry_folder.specs.Reports.{Report}
use Rattle.aatry_folder.specs.Told.{ToldFolders}
use Rattle.aatry_folder.specs.declared.fault.Fault.{Fault}
use Rattle.aatry_hints.specs.Hints.{cut_line}
use Rattle.aatry_report.specs.declared.form.Form.{Form}
use Rattle.aatry_requests.specs.AskedWords.{letting_words}
use Rattle.aatry_who.specs.Ends.{IsEndOfWho}
use Rattle.aatry_who.specs.Who.{IsWhoToldBelow}
use Rattle.aatry_why.specs.Ends.{IsEndOfWhy}
use Rattle.aatry_why.specs.Why.{IsWhyToldBelow}
use Rattle.aatry.specs.declared.questions.Inquiry.{Inquiry}
use Rattle.aatry.specs.declared.questions.Inquiry.TheVariants.{Who, Why}

-- the words that ask it
abbrev pub words_asking : Inquiry → List (List ℕ) → List (List ℕ)
words_asking Why words = words
words_asking Who words = letting_words words

-- the line that tells what was meant by words that ask none, if it shows: `who` takes no line of a log
abbrev pub hint_of : Inquiry → List (List ℕ) → Option (List ℕ)
hint_of Why words = cut_line words
hint_of Who words = None

-- what it comes to is told
abbrev pub IsToldBelow : Inquiry → Form → Bool → Language → ToldFolders → Known → List ℕ → List (List ℕ) → Report → Type 0
IsToldBelow Why form verbose language folders known base words report = IsWhyToldBelow form verbose language folders known base words report
IsToldBelow Who form verbose language folders known base words report = IsWhoToldBelow form verbose language folders known base words report

-- it may end with this fault
abbrev pub IsEndOf : Inquiry → ToldFolders → List ℕ → List (List ℕ) → Fault → Type 0
IsEndOf Why folders base words fault = IsEndOfWhy folders base words fault
IsEndOf Who folders base words fault = IsEndOfWho folders base words fault
