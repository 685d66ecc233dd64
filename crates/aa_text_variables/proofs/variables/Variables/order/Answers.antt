use Rattle.aa_text_variables.specs.code.VariableWalks.{IsOrderOf}
use Rattle.aa_text_variables.proofs.CycleLemmas.{refusal-none}
use Rattle.aa_text_variables.proofs.SomeExpansionLaws.{some-expansion}
use Rattle.aa_text_variables.proofs.WalkLemmas.{settled-few, settled-nothing}
use Rattle.aa_text_variables.proofs.variables.Variables.order.Goals as goal

pub walk_text-requires : goal.walk_text-requires
walk_text-requires c = settled-nothing c.args.self.now c.new-order.result.keys c.new-order.ensures.empty

pub returns-clause-order : goal.returns-clause-order
returns-clause-order c = (c.in_ok-walk_text.ensures.fine c.if-not-branch.false).settled.ordered

pub returns-clause-few : goal.returns-clause-few
returns-clause-few c = settled-few c.args.self.now c.walk_text.new.order.keys (c.in_ok-walk_text.ensures.fine c.if-not-branch.false).settled

pub returns-clause-named : goal.returns-clause-named
returns-clause-named c = (c.in_ok-walk_text.ensures.fine c.if-not-branch.false).named

pub returns-clause-fine : goal.returns-clause-fine
returns-clause-fine c =
    let found : IsOrderOf c.args.self.now c.args.text.now c.new-order.result.keys c.walk_text.new.order.keys = c.in_ok-walk_text.ensures.fine c.if-not-branch.false in
    refusal-none c.args.self.now c.args.text.now c.walk_text.new.order.keys found.settled.ordered (returns-clause-few c) found.named c.in_ok-refuse_undefined.ensures.defined

pub returns-clause-some : goal.returns-clause-some
returns-clause-some c = some-expansion c.args.self.now c.args.text.now c.in_ok-refuse_undefined.ensures.variables (returns-clause-fine c)
