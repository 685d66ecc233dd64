-- A question to a policy, and the answer for each asker (docs/aatry.md).
use Rattle.std.specs.Prelude.{ℕ, Bool, List, Option, None, Some, Result}
use Rattle.std.specs.Option.{option_map}
use Rattle.aa_decide.specs.Exec.{Started, exec_answer}
use Rattle.aa_decide_rules.specs.declared.verdict.Answer.{Answer}
use Rattle.aa_decide_rules.specs.declared.verdict.Answer.TheVariants.{Allow}
use Rattle.aa_decide_ready.specs.Entries.{Loaded}
use Rattle.aa_decide_ready.specs.Slots.{filled}
use Rattle.aa_set_answers.specs.Answers.{answered}
use Rattle.aa_set_answers.specs.Askers.{asker}
use Rattle.aa_set_answers.specs.declared.answers.Answered.{Answered}
use Rattle.aa_set_commands.specs.Question.{OfExec, Question, seen_question}
use Rattle.aa_set_commands.specs.declared.refusal.Refusal.{Refusal}
use Rattle.aatry_policy.specs.FolderParts.{FolderParts, by_parts, seen_folder}
use Rattle.aatry_policy.specs.Folders.{Folder, policy_in}
use Rattle.aatry_requests.specs.Questions.{asked_as}
use Rattle.aatry_who.specs.declared.sought.Sought.{Sought as CodeSought}

-- a question, whose asker is no one in particular, and the policy of a folder, by its policy set and by its profiles, children and hats
pub record Sought : Type 0 where
  pub folder : FolderParts
  pub entries : List Loaded
  pub question : Question

-- the question and the policy of the code
abbrev pub seen_sought : CodeSought → Sought
seen_sought sought = record { folder = seen_folder sought.folder.now; entries = filled sought.slots; question = seen_question sought.question.now }

-- a question to the policy of a folder
abbrev pub sought_in : Folder → Question → Sought
sought_in folder question = record { folder = by_parts folder; entries = policy_in folder; question = question }

-- the answer to the question with this name as the asker
abbrev pub answer_to : Sought → List ℕ → Result Answered Refusal
answer_to sought name = answered sought.entries (asked_as name sought.question)

-- under which profile the program of a path runs that this name starts
abbrev pub started_by : List Loaded → List ℕ → Bool → List ℕ → Option Started
started_by entries name owned path = option_map (λ found. (exec_answer entries found owned path).to) (asker entries name)

-- under which profile that program runs, where the question is about the start of a program and its answer is that it is allowed; with any other
-- answer there is none
abbrev pub led_by : List Loaded → List ℕ → Question → Option Answer → Option Started
led_by entries name (OfExec who owned path) (Some Allow) = started_by entries name owned path
led_by entries name question answer = None

abbrev pub led : Sought → List ℕ → Option Answer → Option Started
led sought name answer = led_by sought.entries name sought.question answer
