use Rattle.std.proofs.Common.{◌≡◌, ◌∙◌, ◌++◌, ◌∷◌, ◌-◌, ap, drop, length, map, refl, subst, sym, take}
use Rattle.std.proofs.lemmas.List.Elements.{All-head, All-rest}
use Rattle.aa_explain_changes.specs.FileChanges.{seen_rule_change}
use Rattle.aa_explain_changes.specs.Lone.{seen_lone}
use Rattle.aa_explain_changes.specs.Sides.{seen_sides}
use Rattle.aa_explain_changes.specs.code.Kinds.{AreLoneOf, IsLoneOf, paths_of_kinds, told_of}
use Rattle.aa_explain_changes.proofs.KindLemmas.{map-then, split-first}
use Rattle.aa_explain_changes.proofs.rules.rule_changes.Goals as goal

pub first_change-requires-clause-lone : goal.first_change-requires-clause-lone
first_change-requires-clause-lone c =
    let sides = seen_sides c.args.sides in
    let one = c.one-item.result in
    let all = c.loop-rest.rest.now in
    let rest = take (length all - 1) (drop 1 all) in
    let split : all ≡ one ∷ rest = split-first all one _ c.in-len1-up.len_at_least c.one-item.is in
    All-head (IsLoneOf sides c.args.is_old) (seen_lone one) (map seen_lone rest)
    (subst (λ l. AreLoneOf sides c.args.is_old (map seen_lone l)) split c.loop-rest.invariant.0)

pub loop-rest-preserved : goal.loop-rest-preserved
loop-rest-preserved c =
    let sides = seen_sides c.args.sides in
    let one = c.one-item.result in
    let all = c.loop-rest.rest.now in
    let rest = take (length all - 1) (drop 1 all) in
    let paths = paths_of_kinds c.args.kinds.now in
    let before = c.loop-rest.told.items in
    let more = map (told_of sides paths) (map seen_lone rest) in
    let inv = c.loop-rest.invariant in
    let split : all ≡ one ∷ rest = split-first all one _ c.in-len1-up.len_at_least c.one-item.is in
    let here = subst (λ l. AreLoneOf sides c.args.is_old (map seen_lone l)) split inv.0 in (
      All-rest (IsLoneOf sides c.args.is_old) (seen_lone one) (map seen_lone rest) (map seen_lone (one ∷ rest)) refl here,
      ap (λ l. map seen_rule_change l ++ more) c.in_ok-push.ensures.items
          ∙ map-then seen_rule_change before (record { lone = one; change = c.in_ok-first_change.field-0 }) more
          ∙ ap (λ t. map seen_rule_change before ++ record { lone = seen_lone one; told = t } ∷ more) c.in_ok-first_change.ensures
          ∙ ap (λ l. map seen_rule_change before ++ map (told_of sides paths) (map seen_lone l)) (sym split) ∙ inv.1,
    )
