use Rattle.std.proofs.Common.{◌≡◌, ◌∙◌, ap, ◌<◌, [], ◌∷◌, sym, length, arith}
use Rattle.std.proofs.lemmas.List.{length-map}
use Rattle.aa_text_variables.specs.code.VariableWalks.{SomeEndless}
use Rattle.aa_text_variables.specs.code.VariablesMap.{as_variable}
use Rattle.aa_text_variables.proofs.CycleLemmas.{cycle-first, cycle-nowhere}
use Rattle.aa_text_variables.proofs.WalkLemmas.{endless-one, settled-few, settled-nothing}
use Rattle.aa_text_variables.proofs.variables.Variables.first_cyclic.Goals as goal

pub loop-index-init : goal.loop-index-init
loop-index-init c = record { settled = settled-nothing c.args.self.now c.args.order.now.keys c.requires; has = λ q below. absurd (omega arith) }

pub returns-then-not-branch : goal.returns-then-not-branch
returns-then-not-branch c =
    let count : length c.args.self.now ≡ c.len-index-end.result = sym (ap length c.self.view_is) ∙ length-map c.self.inside.entries.items as_variable ∙ sym c.self.inside.entries.ok.0 ∙ sym c.len-index-end.ensures in
    let within : c.loop-index.index < length c.args.self.now = omega arith in
    let endless : SomeEndless c.args.self.now (c.loop-index.index ∷ []) = c.in_ok-walk.ensures.cycle c.if-not-branch.true in
    sym (cycle-first c.args.self.now c.loop-index.order.keys c.loop-index.invariant.settled.ordered (settled-few c.args.self.now c.loop-index.order.keys c.loop-index.invariant.settled)
    c.loop-index.index within c.loop-index.invariant.has (endless-one c.args.self.now c.loop-index.index endless))

pub returns : goal.returns
returns c =
    let count : length c.args.self.now ≡ c.len-index-end.result = sym (ap length c.self.view_is) ∙ length-map c.self.inside.entries.items as_variable ∙ sym c.self.inside.entries.ok.0 ∙ sym c.len-index-end.ensures in
    sym (cycle-nowhere c.args.self.now c.loop-index.order.keys c.loop-index.invariant.settled.ordered (settled-few c.args.self.now c.loop-index.order.keys c.loop-index.invariant.settled)
    (λ q below. let within : q < c.loop-index.index = omega arith in c.loop-index.invariant.has q within))
