use Rattle.std.proofs.Common.{◌≡◌, ◌∙◌, ◌∷◌, ◌-◌, drop, length, refl, subst, sym, take}
use Rattle.std.specs.List.{All}
use Rattle.std.proofs.lemmas.List.Elements.{All-head, All-rest}
use Rattle.aa_explain_changes.proofs.KindLemmas.{split-first}
use Rattle.aa_explain_redundant.specs.code.Kinds.{IsKind}
use Rattle.aa_explain_redundant.proofs.KindLemmas.{any-here, any-later}
use Rattle.aa_explain_redundant.proofs.trying.some_kind_changes.Goals as goal

pub kind_changes-requires : goal.kind_changes-requires
kind_changes-requires c =
    let kind = c.kind-item.result in
    let all = c.loop-rest.rest.now in
    let rest = take (length all - 1) (drop 1 all) in
    let rules = c.requires.0 in
    let inv = c.loop-rest.invariant rules c.requires.1 in
    let split : all ≡ kind ∷ rest = split-first all kind _ c.in-len1-up.len_at_least c.kind-item.is in
    (rules, All-head (IsKind rules) kind rest (subst (All (IsKind rules)) split inv.0))

pub returns-then-branch : goal.returns-then-branch
returns-then-branch c = λ rules are.
    let kind = c.kind-item.result in
    let all = c.loop-rest.rest.now in
    let rest = take (length all - 1) (drop 1 all) in
    let inv = c.loop-rest.invariant rules are in
    let split : all ≡ kind ∷ rest = split-first all kind _ c.in-len1-up.len_at_least c.kind-item.is in
    let is = All-head (IsKind rules) kind rest (subst (All (IsKind rules)) split inv.0) in
    any-here c.args.audit rules c.args.gone.now c.args.number kind all rest split (sym c.if-branch.true ∙ c.in_ok-kind_changes.ensures rules is) ∙ inv.1

pub loop-rest-preserved : goal.loop-rest-preserved
loop-rest-preserved c = λ rules are.
    let kind = c.kind-item.result in
    let all = c.loop-rest.rest.now in
    let rest = take (length all - 1) (drop 1 all) in
    let inv = c.loop-rest.invariant rules are in
    let split : all ≡ kind ∷ rest = split-first all kind _ c.in-len1-up.len_at_least c.kind-item.is in
    let here = subst (All (IsKind rules)) split inv.0 in
    let is = All-head (IsKind rules) kind rest here in (
      All-rest (IsKind rules) kind rest (kind ∷ rest) refl here,
      any-later c.args.audit rules c.args.gone.now c.args.number kind all rest split (sym c.if-branch.false ∙ c.in_ok-kind_changes.ensures rules is) ∙ inv.1,
    )
