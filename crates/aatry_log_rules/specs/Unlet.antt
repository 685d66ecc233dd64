-- Requests for which there is no rule to add, as they are printed.
use Rattle.std.specs.Prelude.{ℕ, ◌==◌, Bool, if◌then◌else◌, List, [], ◌∷◌, codes}
use Rattle.aa_profile_data.specs.Access.{EXEC}
use Rattle.aa_profile_data.specs.Request.{ForCapability, ForFile, ForSockets, Request}
use Rattle.aa_set_commands.specs.Question.{OfAccess, OfExec, Question}
use Rattle.aatry_log_rules.specs.Wanted.{Wanted}
use Rattle.aatry_log_rules.specs.declared.finding.NoRule.{NoRule}
use Rattle.aatry_log_rules.specs.declared.finding.NoRule.TheVariants.{Denied, InTheWay, Unwritten}
use Rattle.aatry_report.specs.Fields.{Plain, Times, Word, Words, told}
use Rattle.aatry_report.specs.declared.form.Form.{Form}
use Rattle.aatry_requests.specs.Texts.{question_text}

-- the words that say why there is none
abbrev pub reason_words : NoRule → List ℕ
reason_words Denied = codes "a rule denies it"
reason_words InTheWay = codes "a rule is in the way"
reason_words Unwritten = codes "its rule can't be written"

-- the question for a file: with `x` alone whether its program may be started
abbrev pub file_question : List ℕ → ℕ → Bool → List ℕ → Question
file_question who needs owned path = if needs == EXEC then OfExec who owned path else OfAccess who (ForFile needs owned path)

-- the question for a request of the asker
abbrev pub question_for : List ℕ → Request → Question
question_for who (ForFile needs owned path) = file_question who needs owned path
question_for who (ForCapability number) = OfAccess who (ForCapability number)
question_for who (ForSockets domain kind) = OfAccess who (ForSockets domain kind)

-- the question of a wanted request
abbrev pub question_of : Wanted → Question
question_of wanted = question_for wanted.who wanted.request

-- a question without a rule, by the reason, in words, and how often it was asked; in the line it is a comment
unfoldable pub no_rule_told : Form → (reason question : List ℕ) → (times : ℕ) → List ℕ
no_rule_told form reason question times =
    told form (codes "no_rule")
    (Words (codes "# ") ∷ Word (codes "reason") reason ∷ Words (codes ": ") ∷ Plain (codes "question") question
    ∷ Words (codes ", asked ") ∷ Times (codes "times") times ∷ [])

abbrev pub unlet_text : Form → NoRule → Question → ℕ → List ℕ
unlet_text form reason question times = no_rule_told form (reason_words reason) (question_text question) times
