use Rattle.std.proofs.Common.{sym, subst, length}
use Rattle.std.proofs.lemmas.Result.{IfOk-weaker}
use Rattle.aa_text_variables.specs.code.ReachedVariables.{indexes_in}
use Rattle.aa_text_variables.specs.code.VariableWalks.{AllBelow}
use Rattle.aa_text_variables.proofs.WalkLemmas.{endless-text, gathered-is, starts-below, text-walked}
use Rattle.aa_text_variables.proofs.variables.Variables.walk_text.Goals as goal

pub walk-requires-clause-starts : goal.walk-requires-clause-starts
walk-requires-clause-starts c =
    let same = gathered-is c.new-starts.result.keys (indexes_in c.args.self.now c.args.text.now) c.note.new.reached.keys c.as_slice.result.now c.new-starts.ensures.empty c.in_ok-note.ensures c.as_slice.ensures.keys in
    subst (AllBelow (length c.args.self.now)) (sym same) (starts-below c.args.self.now c.args.text.now)

pub returns-clause-fine : goal.returns-clause-fine
returns-clause-fine c =
    let same = gathered-is c.new-starts.result.keys (indexes_in c.args.self.now c.args.text.now) c.note.new.reached.keys c.as_slice.result.now c.new-starts.ensures.empty c.in_ok-note.ensures c.as_slice.ensures.keys in
    IfOk-weaker c.walk.result _ _ (λ fine walked is. text-walked c.args.self.now c.args.text.now c.as_slice.result.now c.args.order.now.keys c.walk.new.order.keys same (walked is)) c.walk.ensures.fine

pub returns-clause-cycle : goal.returns-clause-cycle
returns-clause-cycle c =
    let same = gathered-is c.new-starts.result.keys (indexes_in c.args.self.now c.args.text.now) c.note.new.reached.keys c.as_slice.result.now c.new-starts.ensures.empty c.in_ok-note.ensures c.as_slice.ensures.keys in
    IfOk-weaker c.walk.result _ _ (λ fine endless is. endless-text c.args.self.now c.args.text.now c.as_slice.result.now same (endless is)) c.walk.ensures.cycle
