use Rattle.std.proofs.Common.{◌≡◌, ◌∙◌, drop, length, refl, subst, sym, take, ◌∷◌, ◌-◌}
use Rattle.std.specs.List.{All}
use Rattle.std.proofs.lemmas.List.Elements.{All-head, All-rest}
use Rattle.aa_explain_changes.specs.code.Kinds.{IsKind}
use Rattle.aa_explain_changes.proofs.KindLemmas.{any-here, any-later, split-first}
use Rattle.aa_explain_changes.proofs.kinds.some_change_so.Goals as goal

pub returns-then-kind_changes_so : goal.returns-then-kind_changes_so
returns-then-kind_changes_so c = λ sides are.
    let kind = c.kind-item.result in
    let all = c.loop-rest.rest.now in
    let rest = take (length all - 1) (drop 1 all) in
    let inv = c.loop-rest.invariant sides are in
    let split : all ≡ kind ∷ rest = split-first all kind _ c.in-len1-up.len_at_least c.kind-item.is in
    let is = All-head (IsKind sides) kind rest (subst (All (IsKind sides)) split inv.0) in
    any-here sides c.args.change kind all rest split (sym (c.kind_changes_so.ensures sides is) ∙ c.if-kind_changes_so.true) ∙ inv.1

pub loop-rest-preserved : goal.loop-rest-preserved
loop-rest-preserved c = λ sides are.
    let kind = c.kind-item.result in
    let all = c.loop-rest.rest.now in
    let rest = take (length all - 1) (drop 1 all) in
    let inv = c.loop-rest.invariant sides are in
    let split : all ≡ kind ∷ rest = split-first all kind _ c.in-len1-up.len_at_least c.kind-item.is in
    let here = subst (All (IsKind sides)) split inv.0 in (
      All-rest (IsKind sides) kind rest (kind ∷ rest) refl here,
      any-later sides c.args.change kind all rest split (sym (c.kind_changes_so.ensures sides (All-head (IsKind sides) kind rest here)) ∙ c.if-kind_changes_so.false) ∙ inv.1,
    )
