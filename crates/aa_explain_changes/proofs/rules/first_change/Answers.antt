use Rattle.std.proofs.Common.{◌≡◌, ◌∙◌, ◌∷◌, ◌-◌, ap, drop, length, refl, subst, sym, take}
use Rattle.std.specs.List.{All}
use Rattle.std.specs.Prelude.{option_map}
use Rattle.std.proofs.lemmas.List.Elements.{All-head, All-rest}
use Rattle.aa_explain_changes.specs.Rules.{seen_change}
use Rattle.aa_explain_changes.specs.Sides.{seen_sides}
use Rattle.aa_explain_changes.specs.code.Kinds.{IsKind, first_told, paths_of_kinds}
use Rattle.aa_explain_changes.proofs.KindLemmas.{split-first}
use Rattle.aa_explain_changes.proofs.RuleLemmas.{first-here, first-later}
use Rattle.aa_explain_changes.proofs.rules.first_change.Goals as goal

pub change_at-requires-clause-kind : goal.change_at-requires-clause-kind
change_at-requires-clause-kind c =
    let sides = seen_sides c.args.sides in
    let kind = c.kind-item.result in
    let all = c.loop-rest.rest.now in
    let rest = take (length all - 1) (drop 1 all) in
    let split : all ≡ kind ∷ rest = split-first all kind _ c.in-len1-up.len_at_least c.kind-item.is in
    All-head (IsKind sides) kind rest (subst (All (IsKind sides)) split c.loop-rest.invariant.0)

pub change_at-requires-clause-matched : goal.change_at-requires-clause-matched
change_at-requires-clause-matched c =
    let sides = seen_sides c.args.sides in
    let kind = c.kind-item.result in
    let all = c.loop-rest.rest.now in
    let rest = take (length all - 1) (drop 1 all) in
    let split : all ≡ kind ∷ rest = split-first all kind _ c.in-len1-up.len_at_least c.kind-item.is in
    let is = All-head (IsKind sides) kind rest (subst (All (IsKind sides)) split c.loop-rest.invariant.0) in
    c.is_matched-matched.ensures sides c.args.lone.rule.now is c.requires.lone

pub returns-in-Some : goal.returns-in-Some
returns-in-Some c =
    let sides = seen_sides c.args.sides in
    let rule = c.args.lone.rule.now in
    let kind = c.kind-item.result in
    let all = c.loop-rest.rest.now in
    let rest = take (length all - 1) (drop 1 all) in
    let inv = c.loop-rest.invariant in
    let split : all ≡ kind ∷ rest = split-first all kind _ c.in-len1-up.len_at_least c.kind-item.is in
    sym (first-here sides rule kind.path.items (paths_of_kinds rest) (seen_change c.in-Some.change)
    (sym c.in_ok-change.ensures ∙ ap (option_map seen_change) c.in-Some.is))
    ∙ ap (λ l. first_told sides rule (paths_of_kinds l)) (sym split) ∙ inv.1

pub loop-rest-preserved : goal.loop-rest-preserved
loop-rest-preserved c =
    let sides = seen_sides c.args.sides in
    let rule = c.args.lone.rule.now in
    let kind = c.kind-item.result in
    let all = c.loop-rest.rest.now in
    let rest = take (length all - 1) (drop 1 all) in
    let inv = c.loop-rest.invariant in
    let split : all ≡ kind ∷ rest = split-first all kind _ c.in-len1-up.len_at_least c.kind-item.is in
    let here = subst (All (IsKind sides)) split inv.0 in (
      All-rest (IsKind sides) kind rest (kind ∷ rest) refl here,
      sym (first-later sides rule kind.path.items (paths_of_kinds rest) (sym c.in_ok-change.ensures ∙ ap (option_map seen_change) c.in-None.is))
          ∙ ap (λ l. first_told sides rule (paths_of_kinds l)) (sym split) ∙ inv.1,
    )
