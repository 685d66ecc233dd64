use Rattle.std.proofs.Common.{◌∙◌, ◌++◌, ap, sym}
use Rattle.std.proofs.lemmas.List.{append-nil, append_assoc}
use Rattle.aa_explain_changes.specs.Sides.{seen_sides}
use Rattle.aatry_path_changes.specs.Others.{changed_if, type_changes}
use Rattle.aatry_path_changes.specs.declared.others.Other.TheVariants.{Sockets}
use Rattle.aatry_path_changes.proofs.StepLemmas.{type_none, type_step}
use Rattle.aatry_path_changes.proofs.others.push_types.Goals as goal

pub loop-kind-init : goal.loop-kind-init
loop-kind-init c =
    let found = c.args.found.now.items in
    sym (ap (λ more. found ++ more) (type_none (seen_sides c.args.sides) c.args.domain) ∙ append-nil found)

pub loop-kind-preserved : goal.loop-kind-preserved
loop-kind-preserved c =
    let found = c.args.found.now.items in
    let sides = seen_sides c.args.sides in
    let n = c.loop-kind.kind in
    let own = changed_if sides (Sockets c.args.domain n) in
    c.in_ok-push_if.ensures ∙ ap (λ front. front ++ own) c.loop-kind.invariant ∙ append_assoc found (type_changes sides c.args.domain n) own
    ∙ ap (λ more. found ++ more) (sym (type_step sides c.args.domain n))
