use Rattle.std.proofs.Common.{◌≡◌, ◌∙◌, ◌++◌, ◌∷◌, [], ℕ, List, Some, ap, refl, subst, sym}
use Rattle.std.proofs.lemmas.Result.{on_ok_weaker}
use Rattle.std.specs.BTreeMap.{BTreeMap, get}
use Rattle.std.specs.Option.{option_copied_mut}
use Rattle.std.specs.Ordering.{nat_cmp}
use Rattle.std.specs.Prelude.{IsSome, unwrap_or}
use Rattle.aa_glob_pairs.proofs.GainLemmas.{row_updated}
use Rattle.aa_glob_pairs.specs.Waiting.{row_at, SetsRow}
use Rattle.aa_glob_pairs.proofs.rows.Rows.push.Goals as goal

pub returns-in-Some : goal.returns-in-Some
returns-in-Some c =
    let old = c.self.inside.rows in
    let first = c.args.first in
    let second = c.args.second in
    let had = c.in-Some.row.now in
    let new = c.get_mut.follows.lender c.push.new.self in
    let found : get nat_cmp old first ≡ Some had = sym c.get_mut.ensures.value ∙ ap option_copied_mut c.in-Some.is in
    let row : row_at old.entries first ≡ had = ap (λ o. unwrap_or o []) found in
    on_ok_weaker c.push.result (λ pushed.
    subst (λ l. SetsRow l new.entries first (row_at l first ++ second ∷ [])) c.self.view_is
    (subst (λ (l : List ℕ). SetsRow old.entries new.entries first l) (pushed ∙ ap (λ l. l ++ second ∷ []) (sym row))
    (row_updated old new first (Some c.push.new.self) ((c.get_mut.follows.holds c.push.new.self).3 (subst IsSome (sym found) refl)))))
    c.push.ensures

pub returns-in-None : goal.returns-in-None
returns-in-None c =
    let old = c.self.inside.rows in
    let first = c.args.first in
    let second = c.args.second in
    let none : row_at old.entries first ≡ [] = ap (λ o. unwrap_or o []) (sym c.get_mut.ensures.value ∙ ap option_copied_mut c.in-None.is) in
    on_ok_weaker c.begin.result (λ begun.
    subst (λ l. SetsRow l c.begin.new.self first (row_at l first ++ second ∷ [])) c.self.view_is
    (subst (λ (l : List ℕ). SetsRow old.entries c.begin.new.self first (l ++ second ∷ [])) (sym none)
    (subst (λ (m : BTreeMap ℕ (List ℕ)). SetsRow m.entries c.begin.new.self first (second ∷ [])) c.get_mut.follows.holds-at-none begun)))
    c.begin.ensures
