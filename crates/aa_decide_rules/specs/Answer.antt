-- The words that answers are printed with (docs/commands.md).
use Rattle.std.specs.Prelude.{ℕ, List, codes}
use Rattle.aa_decide_rules.specs.declared.verdict.Answer.{Answer}
use Rattle.aa_decide_rules.specs.declared.verdict.Answer.TheVariants.{Allow, Deny, Refuse, Complain}

-- the word of an answer
abbrev pub answer_word : Answer → List ℕ
answer_word Allow = codes "allow"
answer_word Deny = codes "deny"
answer_word Refuse = codes "refuse"
answer_word Complain = codes "complain"
