use Rattle.std.proofs.Common.{◌∙◌, ◌++◌, ap, sym}
use Rattle.std.proofs.lemmas.List.{append-nil, append_assoc}
use Rattle.aa_explain_changes.specs.Sides.{seen_sides}
use Rattle.aatry_path_changes.specs.Others.{socket_changes, type_changes}
use Rattle.aatry_path_changes.proofs.StepLemmas.{socket_none, socket_step}
use Rattle.aatry_path_changes.proofs.others.push_sockets.Goals as goal

pub loop-domain-init : goal.loop-domain-init
loop-domain-init c =
    let found = c.args.found.now.items in
    sym (ap (λ more. found ++ more) (socket_none (seen_sides c.args.sides)) ∙ append-nil found)

pub loop-domain-preserved : goal.loop-domain-preserved
loop-domain-preserved c =
    let found = c.args.found.now.items in
    let sides = seen_sides c.args.sides in
    let n = c.loop-domain.domain in
    let own = type_changes sides n 6 in
    c.in_ok-push_types.ensures ∙ ap (λ front. front ++ own) c.loop-domain.invariant ∙ append_assoc found (socket_changes sides n) own
    ∙ ap (λ more. found ++ more) (sym (socket_step sides n))
