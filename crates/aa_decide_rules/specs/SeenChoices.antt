-- What the code chooses, as the definitions see it.
use Rattle.aa_decide_rules.specs.Choices.{Choice, Denied, Leads, Missing}
use Rattle.aa_decide_rules.specs.declared.choice.ExecChoice.{ExecChoice}
use Rattle.aa_decide_rules.specs.declared.choice.ExecChoice.TheVariants as code

abbrev pub seen_choice : ExecChoice → Choice
seen_choice (code.Denied audited) = Denied audited
seen_choice code.Missing = Missing
seen_choice (code.Leading transition audited) = Leads transition.now audited
