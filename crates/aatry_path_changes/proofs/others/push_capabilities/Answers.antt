use Rattle.std.proofs.Common.{◌∙◌, ◌++◌, ap, sym}
use Rattle.std.proofs.lemmas.List.{append-nil, append_assoc}
use Rattle.aa_explain_changes.specs.Sides.{seen_sides}
use Rattle.aatry_path_changes.specs.Others.{changed_if, capability_changes}
use Rattle.aatry_path_changes.specs.declared.others.Other.TheVariants.{Capability}
use Rattle.aatry_path_changes.proofs.StepLemmas.{capability_none, capability_step}
use Rattle.aatry_path_changes.proofs.others.push_capabilities.Goals as goal

pub loop-number-init : goal.loop-number-init
loop-number-init c =
    let found = c.args.found.now.items in
    sym (ap (λ more. found ++ more) (capability_none (seen_sides c.args.sides)) ∙ append-nil found)

pub loop-number-preserved : goal.loop-number-preserved
loop-number-preserved c =
    let found = c.args.found.now.items in
    let sides = seen_sides c.args.sides in
    let n = c.loop-number.number in
    let own = changed_if sides (Capability n) in
    c.in_ok-push_if.ensures ∙ ap (λ front. front ++ own) c.loop-number.invariant ∙ append_assoc found (capability_changes sides n) own
    ∙ ap (λ more. found ++ more) (sym (capability_step sides n))
