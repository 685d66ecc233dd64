use Rattle.std.proofs.Common.{◌≤◌, ◌++◌, ap, length, subst, sym, take, ◌∙◌}
use Rattle.aa_text_expansion.specs.Joining.{most_kept}
use Rattle.aa_text_expansion.specs.code.Made.{listed, listed_at, made}
use Rattle.aa_text_expansion.proofs.MadeLemmas.{node-listed, node-single, none-at, some-steps}
use Rattle.aa_text_expansion.proofs.StepLemmas.{step-both, step-full, step-joined, step-none, step-text}
use Rattle.aa_text_expansion.proofs.writing.step.Goals as goal

pub returns-in_default : goal.returns-in_default
returns-in_default c = step-none (listed c.args.nodes.now) c.args.writing.now c.args.begun c.requires.stacked (none-at c.args.nodes.now c.args.begun.list (sym c.in_default.ensures))

pub returns-then-is_full : goal.returns-then-is_full
returns-then-is_full c =
    let nodes = c.args.nodes.now in
    let node = c.in-Some.node.now in
    let there = sym c.in-Some.ensures in
    let both = c.is_full.ensures c.if-is_full.true in
    step-full (listed nodes) c.args.writing.now c.go_on.new.self c.args.begun (node-single nodes c.requires.right c.args.begun.list node there both.0)
    (subst (λ list. 1 ≤ list.steps) (sym (node-listed nodes c.requires.right c.args.begun.list node there)) (some-steps (listed nodes) node.made))
    (subst (λ text. most_kept ≤ length text) c.as_slice.ensures.value both.1) (c.in_ok-go_on.ensures (listed nodes))

pub returns-in-Nothing : goal.returns-in-Nothing
returns-in-Nothing c =
    let nodes = c.args.nodes.now in
    step-none (listed nodes) c.args.writing.now c.args.begun c.requires.stacked
    (node-listed nodes c.requires.right c.args.begun.list c.in-Some.node.now (sym c.in-Some.ensures) ∙ ap (made (listed nodes)) c.in-Nothing.is)

pub returns-in_ok-go_on-in-Text : goal.returns-in_ok-go_on-in-Text
returns-in_ok-go_on-in-Text c =
    let nodes = c.args.nodes.now in
    step-text (listed nodes) c.args.writing.now c.go_on-in-Text.new.self c.args.begun c.in-Text.bytes c.put_behind.new.text.items
    (node-listed nodes c.requires.right c.args.begun.list c.in-Some.node.now (sym c.in-Some.ensures) ∙ ap (made (listed nodes)) c.in-Text.is)
    (c.in_ok-put_behind-in-Text.ensures ∙ ap (λ bytes. take most_kept (c.args.begun.text.items ++ bytes)) c.as_slice-in-Text.ensures) (c.in_ok-go_on-in-Text.ensures (listed nodes))

pub returns-in_ok-go_on_with-in-Joined : goal.returns-in_ok-go_on_with-in-Joined
returns-in_ok-go_on_with-in-Joined c =
    let nodes = c.args.nodes.now in
    step-joined (listed nodes) c.args.writing.now c.go_on_with.new.self c.args.begun (listed_at (listed nodes) c.in-Joined.first) (listed_at (listed nodes) c.in-Joined.second)
    (node-listed nodes c.requires.right c.args.begun.list c.in-Some.node.now (sym c.in-Some.ensures) ∙ ap (made (listed nodes)) c.in-Joined.is)
    (c.in_ok-go_on_with-in-Joined.ensures (listed nodes))

pub returns-in_ok-part-in-Both : goal.returns-in_ok-part-in-Both
returns-in_ok-part-in-Both c =
    let nodes = c.args.nodes.now in
    step-both (listed nodes) c.args.writing.now c.part.new.self c.args.begun (listed_at (listed nodes) c.in-Both.first) (listed_at (listed nodes) c.in-Both.second)
    (node-listed nodes c.requires.right c.args.begun.list c.in-Some.node.now (sym c.in-Some.ensures) ∙ ap (made (listed nodes)) c.in-Both.is)
    (c.in_ok-part-in-Both.ensures (listed nodes))
