use Rattle.std.proofs.Common.{◌≡◌, ◌∙◌, ℕ, ap}
use Rattle.aa_explain_changes.specs.Changes.{answers_at, changes_of}
use Rattle.aa_explain_changes.specs.Rules.{FileChange, change_told, changed_by, is_matched_by}
use Rattle.aa_explain_changes.specs.Sides.{seen_sides}
use Rattle.aa_explain_changes.specs.code.Kinds.{letter_list}
use Rattle.aa_explain_changes.specs.declared.change.Change.{Change}
use Rattle.aa_explain_changes.proofs.rules.told_for.Goals as goal

pub returns : goal.returns
returns c =
    let sides = seen_sides c.args.sides in
    let rule = c.args.rule.now in
    let path = c.args.kind.now.path.items in
    let owned = c.args.owned in
    let held = letter_list c.changes_for-changes.result in
    let all : held ≡ changes_of sides path owned = c.changes_for-changes.ensures sides c.requires.kind in
    let matched : c.args.matched ≡ is_matched_by rule path = c.requires.matched in
    let told : Change → ℕ → FileChange =
    λ change letters. record { path = path; owned = owned; change = change; letters = letters; answers = answers_at sides path owned letters } in
    (λ i. record {
      path = (c.in_ok-from_slice.ensures.items ∙ c.deref.ensures.value) i;
      owned = owned;
      change = c.change_told-change.result;
      letters = c.changed_by-letters.result.0;
      answers = c.answers_on-answers.ensures i;
    })
    ∙ ap (told c.change_told-change.result) c.changed_by-letters.ensures
    ∙ ap (λ change. told change (changed_by change rule c.args.matched owned held)) c.change_told-change.ensures
    ∙ (λ i. told (change_told rule (matched i) owned (all i)) (changed_by (change_told rule (matched i) owned (all i)) rule (matched i) owned (all i)))
