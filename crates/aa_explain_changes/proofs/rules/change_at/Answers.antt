use Rattle.std.proofs.Common.{◌≡◌, ◌∙◌, ap, false, sym, true}
use Rattle.std.specs.Prelude.{Some}
use Rattle.aa_explain_changes.specs.Rules.{changes_by, changes_for}
use Rattle.aa_explain_changes.specs.Sides.{seen_sides}
use Rattle.aa_explain_changes.proofs.RuleLemmas.{told-none, told-others, told-owned}
use Rattle.aa_explain_changes.proofs.rules.change_at.Goals as goal

pub returns-then-changes_by : goal.returns-then-changes_by
returns-then-changes_by c =
    let sides = seen_sides c.args.sides in
    let rule = c.args.rule.now in
    let path = c.args.kind.now.path.items in
    let changes : changes_for sides rule path false ≡ true =
    (λ i. changes_by rule (sym c.requires.matched i) false (sym c.requires.kind.others i)) ∙ sym c.changes_by.ensures ∙ c.if-changes_by.true in
    ap Some c.in_ok-told_for.ensures ∙ told-others sides rule path changes

pub returns-then-changes_by-2 : goal.returns-then-changes_by-2
returns-then-changes_by-2 c =
    let sides = seen_sides c.args.sides in
    let rule = c.args.rule.now in
    let path = c.args.kind.now.path.items in
    let none : changes_for sides rule path false ≡ false =
    (λ i. changes_by rule (sym c.requires.matched i) false (sym c.requires.kind.others i)) ∙ sym c.changes_by.ensures ∙ c.if-changes_by.false in
    let changes : changes_for sides rule path true ≡ true =
    (λ i. changes_by rule (sym c.requires.matched i) true (sym c.requires.kind.owned i)) ∙ sym c.changes_by-2.ensures ∙ c.if-changes_by-2.true in
    ap Some c.in_ok-told_for-2.ensures ∙ told-owned sides rule path none changes

pub returns : goal.returns
returns c =
    let sides = seen_sides c.args.sides in
    let rule = c.args.rule.now in
    let path = c.args.kind.now.path.items in
    let none : changes_for sides rule path false ≡ false =
    (λ i. changes_by rule (sym c.requires.matched i) false (sym c.requires.kind.others i)) ∙ sym c.changes_by.ensures ∙ c.if-changes_by.false in
    let neither : changes_for sides rule path true ≡ false =
    (λ i. changes_by rule (sym c.requires.matched i) true (sym c.requires.kind.owned i)) ∙ sym c.changes_by-2.ensures ∙ c.if-changes_by-2.false in
    told-none sides rule path none neither
