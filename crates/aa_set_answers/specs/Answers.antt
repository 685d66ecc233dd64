-- Answers: what a policy set answers to a question, or what one of its profiles holds, and the lines that print it (docs/commands.md).
use Rattle.std.specs.Prelude.{ℕ, Bool, if◌then◌else◌, List, [], ◌∷◌, ◌++◌, Option, None, Some, Result, Ok, Err, codes, is_none}
use Rattle.std.specs.Option.{option_map}
use Rattle.aa_bytes.specs.Bytes.{line_feed}
use Rattle.aa_profile_data.specs.Request.{Request}
use Rattle.aa_set_commands.specs.Question.{OfAccess, OfExec, Question}
use Rattle.aa_set_commands.specs.Refusal.{plain}
use Rattle.aa_set_commands.specs.declared.refusal.Refusal.{Refusal}
use Rattle.aa_set_commands.specs.declared.refusal.RefusalKind.TheVariants.{Absent}
use Rattle.aa_decide_rules.specs.Answer.{answer_word}
use Rattle.aa_decide_ready.specs.Confinement.{By, ByName, Confinement, Unconfined}
use Rattle.aa_decide_ready.specs.Entries.{Loaded}
use Rattle.aa_decide.specs.Exec.{Asker, Base, ExecAnswer, Nowhere, Null, OnProfile, OnUnconfined, Stacked, Started, Unconfined as Free, Under, exec_answer, named_asker}
use Rattle.aa_decide_rules.specs.LogLines.{exec_line, log_line}
use Rattle.aa_decide_ready.specs.Sections.{decided_by}
use Rattle.aa_decide_rules.specs.declared.verdict.Answer.{Answer}
use Rattle.aa_decide_rules.specs.declared.verdict.Verdict.{Verdict}
use Rattle.aa_profile_data.specs.declared.profile.Profile.{Profile}
use Rattle.aa_bytes.specs.Quoting.{written_text}
use Rattle.aa_profile_data.specs.FullNames.{full_name}
use Rattle.aa_set_answers.specs.ProfileNames.{full_name_at}
use Rattle.aa_set_answers.specs.declared.answers.Answered.{Answered}
use Rattle.aa_set_answers.specs.Show.{show_lines}
use Rattle.aa_set_answers.specs.StackNames.{stack_name}
use Rattle.aa_set_answers.specs.Askers.{asker, confinement}

-- a line: text, and a line feed
abbrev pub line_with : List ℕ → List ℕ
line_with text = text ++ line_feed ∷ []

-- the verdict on a request, by what confines the asker; where nothing does, or a name alone, there is none
abbrev pub confined_answer : Confinement → Request → Option Verdict
confined_answer Unconfined request = None
confined_answer ByName request = None
confined_answer (By section mediation) request = Some (decided_by section mediation request)

-- the answer to a request by a verdict: its word, and the line that logs it, where it is logged; where there is no verdict, the word is `unconfined`
abbrev pub told_verdict : List ℕ → Request → Option Verdict → Answered
told_verdict who request None = record { answer = None; text = codes "unconfined"; logged = [] }
told_verdict who request (Some verdict) = record {
  answer = Some verdict.answer;
  text = answer_word verdict.answer;
  logged = log_line who request verdict;
}

-- the answer to a request by what confines the asker
abbrev pub confined_told : List ℕ → Request → Confinement → Answered
confined_told who request confinement = told_verdict who request (confined_answer confinement request)

-- the text that says that a program's environment is scrubbed
abbrev pub scrub_text : Bool → List ℕ
scrub_text scrub = if scrub then codes " scrub" else []

-- the text that says that a program runs under a profile, or a child or hat of it
abbrev pub under_text : Profile → Option ℕ → Bool → List ℕ
under_text profile child scrub = codes "allow to " ++ written_text (full_name_at profile child) ++ scrub_text scrub

-- the name of the base of a stack
abbrev pub base_name : Base → List ℕ
base_name (OnProfile entry child) = full_name_at entry.profile child
base_name OnUnconfined = codes "unconfined"

-- the text that says that it runs under a stack of these members, on a base of this name, if it has one
abbrev pub stack_text : Option (List ℕ) → List (List ℕ) → Bool → List ℕ
stack_text base members scrub = codes "allow to " ++ written_text (stack_name base members) ++ scrub_text scrub

-- the text that says that it runs under no profile
abbrev pub unconfined_text : Bool → List ℕ
unconfined_text scrub = codes "allow unconfined" ++ scrub_text scrub

-- under which profile a program runs, and whether its environment is scrubbed; where it isn't started, the answer's word
abbrev pub started_text : Answer → Started → Bool → List ℕ
started_text answer (Under entry child) scrub = under_text entry.profile child scrub
started_text answer Free scrub = unconfined_text scrub
started_text answer (Stacked base members) scrub = stack_text (option_map base_name base) members scrub
started_text answer Null scrub = codes "complain null"
started_text answer Nowhere scrub = answer_word answer

-- the answer to the start of a program: under which profile it runs, and the line that logs it, where it is logged
abbrev pub exec_told : List ℕ → List ℕ → ExecAnswer → Answered
exec_told who path answer = record {
  answer = Some answer.verdict.answer;
  text = started_text answer.verdict.answer answer.to answer.scrub;
  logged = exec_line who path answer.verdict;
}

-- the answer to a question, by the asker, if it exists
abbrev pub told_by : List Loaded → Question → Option Asker → Answered
told_by entries (OfAccess who request) asker = confined_told who request (confinement asker)
told_by entries (OfExec who owned path) asker = exec_told who path (exec_answer entries asker owned path)

-- the asker that a question names
abbrev pub who_asks : Question → List ℕ
who_asks (OfAccess who request) = who
who_asks (OfExec who owned path) = who

-- the answer to a question
abbrev pub answered : List Loaded → Question → Result Answered Refusal
answered entries question = elim (asker entries (who_asks question)) [
  | None ↦ Err (plain Absent)
  | Some asker ↦ Ok (told_by entries question asker)
]

-- the lines of an answer: its text, and the line that logs it, where it is logged
abbrev pub lines_of : Answered → List ℕ
lines_of told = line_with told.text ++ told.logged

-- the lines of the answer, or the refusal
abbrev pub reply_of : Result Answered Refusal → Result (List ℕ) Refusal
reply_of (Ok told) = Ok (lines_of told)
reply_of (Err refusal) = Err refusal

-- the lines of the reply to a question
abbrev pub reply_lines : List Loaded → Question → Result (List ℕ) Refusal
reply_lines entries question = reply_of (answered entries question)

-- the asker of a question is a profile, a child or a hat that doesn't exist
abbrev pub asks_absent : List Loaded → Question → Bool
asks_absent entries question = is_none (asker entries (who_asks question))

-- the lines of the reply to `show NAME`
abbrev pub shown : List Loaded → List ℕ → Result (List ℕ) Refusal
shown entries name = elim (named_asker entries (full_name name)) [
  | None ↦ Err (plain Absent)
  | Some named ↦ Ok (show_lines named.entry named.child)
]

-- what `show` names doesn't exist
abbrev pub shows_absent : List Loaded → List ℕ → Bool
shows_absent entries name = is_none (named_asker entries (full_name name))
