-- The report on questions to the policy of a folder (docs/aatry.md).
use Rattle.std.specs.Prelude.{◌≡◌, ℕ, Bool, true, false, List, [], ◌∷◌, ◌++◌, codes, is_ok, Option, None, Some, Result, Ok, Err}
use Rattle.std.specs.List.{before_first}
use Rattle.aa_decide.specs.Exec.{Asker}
use Rattle.aa_decide_rules.specs.declared.verdict.Answer.{Answer}
use Rattle.aa_decide_rules.specs.declared.verdict.Answer.TheVariants.{Allow, Complain, Deny, Refuse}
use Rattle.aa_decide_ready.specs.Confinement.{By, ByName, Confinement, Unconfined}
use Rattle.aa_decide_ready.specs.Entries.{Loaded}
use Rattle.aa_profile_data.specs.Request.{Request}
use Rattle.aa_profile_parsing.specs.declared.language.Language.{Language}
use Rattle.aa_set_answers.specs.Answers.{answered, lines_of, who_asks}
use Rattle.aa_set_answers.specs.Askers.{asker}
use Rattle.aa_set_answers.specs.declared.answers.Answered.{Answered}
use Rattle.aa_set_commands.specs.Question.{OfAccess, OfExec, Question}
use Rattle.aa_set_commands.specs.Refusal.{name_of, number_of}
use Rattle.aa_set_commands.specs.declared.refusal.Refusal.{Refusal}
use Rattle.aa_set_commands.specs.Lines.{is_line_feed}
use Rattle.aatry_why.specs.Sources.{Sources, asked_origin, written_by}
use Rattle.aa_start.specs.Gathering.{names_of}
use Rattle.aa_start.specs.Known.{Known}
use Rattle.aa_start.specs.declared.readable.UnreadFault.{UnreadFault}
use Rattle.aatry_folder.specs.Loadings.{AreTop, TopFile}
use Rattle.aatry_folder.specs.PolicyFolders.{AreBelow, tried_names}
use Rattle.aatry_folder.specs.Reports.{Report, failed_by}
use Rattle.aatry_folder.specs.Told.{ToldFolders}
use Rattle.aatry_policy.specs.Folders.{Folder, below, folder_at, left_out_in, left_out_note, origins_in, policy_in}
use Rattle.aa_text_files.specs.Files.{File}
use Rattle.aatry_requests.specs.AskedWords.{asked_by}
use Rattle.aatry_requests.specs.Questions.{rule_request}
use Rattle.aatry_why.specs.Asks.{asks_of}
use Rattle.aatry_why.specs.How.{confinement_of, how_lines}
use Rattle.aatry_why.specs.Meant.{meant_name}
use Rattle.aatry_why.specs.Unasked.{unasked_lines}
use Rattle.aatry_why.specs.Uncertain.{uncertain_in}
use Rattle.aatry_why_lines.specs.Why.{why_lines}
use Rattle.aatry_report.specs.Fields.{Member, Number, Quoted, Word, Words, told}
use Rattle.aatry_report.specs.declared.form.Form.{Form}
use Rattle.aatry_report.specs.declared.form.Form.TheVariants.{Lines, Records}

-- how the answer to the start of a program came about, after the rules that decide; for any other question nothing
abbrev pub how_of : Form → List Loaded → Question → List ℕ
how_of form entries (OfAccess who request) = []
how_of form entries (OfExec who owned path) = how_lines form entries who owned path

-- the line that logs an answer, without its line feed; empty where it isn't logged
abbrev pub audit_line : Answered → List ℕ
audit_line told = before_first is_line_feed told.logged

-- the answer to a question: the lines of the reply, or a record of the answer and the line that logs it
abbrev pub reply_text : Form → Answered → List ℕ
reply_text Lines answer = lines_of answer
reply_text Records answer =
    told Records (codes "answer") (Member (codes "answer") answer.text ∷ Member (codes "audit") (audit_line answer) ∷ [])

-- a refusal by its number and its name; and, on a line of its own, the name that may have been meant
unfoldable pub refused_alone : Form → ℕ → List ℕ → List ℕ
refused_alone form number name =
    told form (codes "refused")
    (Words (codes "refused ") ∷ Number (codes "number") number ∷ Words (codes " ") ∷ Word (codes "refusal") name ∷ [])

unfoldable pub refused_near : Form → ℕ → (name near : List ℕ) → List ℕ
refused_near form number name near =
    told form (codes "refused")
    (Words (codes "refused ") ∷ Number (codes "number") number ∷ Words (codes " ") ∷ Word (codes "refusal") name
    ∷ Words (codes "\ndid you mean ") ∷ Quoted (codes "near") near ∷ Words (codes "?") ∷ [])

-- the refusal of a question, with the name that may have been meant, if there is one
abbrev pub refused_text : Form → Refusal → Option (List ℕ) → List ℕ
refused_text form refusal None = refused_alone form (number_of refusal.refusal) (name_of refusal.refusal)
refused_text form refusal (Some name) = refused_near form (number_of refusal.refusal) (name_of refusal.refusal) name

-- no rule allows some of the request's needs, or nothing confines the asker
abbrev pub is_lacking : Option Answer → Bool
is_lacking None = true
is_lacking (Some Allow) = false
is_lacking (Some Deny) = false
is_lacking (Some Refuse) = true
is_lacking (Some Complain) = true

-- the rules that decide the answer to the asker, by what confines it: those by which it decides, also where it is disabled; in mode unconfined, that
-- none does
abbrev pub confined_reasons : Form → Sources → Asker → Request → Bool → Confinement → List ℕ
confined_reasons form sources who request lacking Unconfined = why_lines form (written_by sources who) request lacking
confined_reasons form sources who request lacking ByName = unasked_lines form
confined_reasons form sources who request lacking (By section mediation) = why_lines form (written_by sources who) request lacking

-- the rules that decide the answer to the asker; no one in particular has none
abbrev pub reasons : Form → Sources → Option (Option Asker) → Request → Bool → List ℕ
reasons form sources (Some (Some who)) request lacking = confined_reasons form sources who request lacking (confinement_of who)
reasons form sources _ request lacking = []

-- the answer to a question, the rules that decide it, and how it came about; or why the question is refused, and where the asker doesn't exist,
-- which loaded name may have been meant
abbrev pub replied_text : Form → Sources → List Loaded → Question → Result Answered Refusal → List ℕ
replied_text form sources entries question (Ok told) =
    reply_text form told ++ reasons form sources (asker entries (who_asks question)) (rule_request question) (is_lacking told.answer)
    ++ how_of form entries question
replied_text form sources entries question (Err refusal) = refused_text form refusal (meant_name entries (who_asks question) refusal.refusal)

-- the answer of a policy set to a question, with the rules that decide it
abbrev pub answered_text : Form → Sources → List Loaded → Question → List ℕ
answered_text form sources entries question = replied_text form sources entries question (answered entries question)

-- a question has an answer
abbrev pub has_answer : List Loaded → Question → Bool
has_answer entries question = is_ok (answered entries question)

-- where the rules of the asker are written, of a folder
abbrev pub sources_in : Folder → Question → Sources
sources_in folder question = record { below = below folder; origin = asked_origin (origins_in folder) question }

-- the answer of a folder's policy set, with the rules that decide it, and the profiles of files that are left out on which it could depend
abbrev pub asked_text : Form → Folder → Question → List ℕ
asked_text form folder question = answered_text form (sources_in folder question) (policy_in folder) question ++ uncertain_in form folder question

-- The words make a question of the policy set of a folder, and a text has the files that are left out, verbose or not, for the line of a log which
-- question that is, the answer, and the profiles of files that are left out on which it could depend.
abbrev pub IsWhyTold : Form → Bool → Folder → List (List ℕ) → List ℕ → Bool → Type 0
IsWhyTold form verbose folder words text found =
    (question : Question) × (asked_by words ≡ Some question)
    × (text ≡ left_out_in form verbose folder ++ asks_of form words question ++ asked_text form folder question)
    × (found ≡ has_answer (policy_in folder) question)

-- The question was asked of the files at the top of the folder, with all that lies below it, by a language: the text has its answer and the rules
-- that decide it, and it is noted how many files are left out. It failed where nothing of the name is loaded.
pub record IsWhyToldBelow (form : Form) (verbose : Bool) (language : Language) (folders : ToldFolders) (known : Known) (base : List ℕ) (words : List (List ℕ)) (report : Report) : Type 0 where
  pub files : List File
  pub unread : List (Option UnreadFault)
  pub below : AreBelow folders known base files unread
  pub top : List TopFile
  pub loaded : AreTop folders base (tried_names (names_of files) unread) top
  pub found : Bool
  pub told : IsWhyTold form verbose (folder_at language base files unread top) words report.text found
  pub noted : report.notes ≡ left_out_note (folder_at language base files unread top)
  pub counted : report.failed ≡ failed_by found
