use Rattle.std.proofs.Common.{◌≡◌, ◌∙◌, ap, nat_eq, subst}
use Rattle.std.specs.Prelude.{Some, slice_get}
use Rattle.std.specs.List.{list_any}
use Rattle.aa_profile_data.specs.declared.profile.Rule.TheVariants.{File}
use Rattle.aa_explain_changes.specs.code.Kinds.{rules_of}
use Rattle.aa_explain_changes.proofs.RuleLemmas.{matched-place}
use Rattle.aa_explain_changes.proofs.rules.is_matched.Goals as goal

pub returns-then-is_old : goal.returns-then-is_old
returns-then-is_old c = λ sides rule is at.
    let kind = c.args.kind.now in
    let own = subst (λ b. slice_get (rules_of sides b) c.args.number ≡ Some (File rule)) c.if-is_old.true at in
    c.contains.ensures.value ∙ ap (list_any (λ y. nat_eq y c.args.number)) c.deref.ensures.value
    ∙ matched-place sides.old.rules kind.path.items kind.old.items c.args.number rule is.old.found own

pub returns-else-is_old : goal.returns-else-is_old
returns-else-is_old c = λ sides rule is at.
    let kind = c.args.kind.now in
    let own = subst (λ b. slice_get (rules_of sides b) c.args.number ≡ Some (File rule)) c.if-is_old.false at in
    c.contains-else-is_old.ensures.value ∙ ap (list_any (λ y. nat_eq y c.args.number)) c.deref-else-is_old.ensures.value
    ∙ matched-place sides.new.rules kind.path.items kind.new.items c.args.number rule is.new.found own
