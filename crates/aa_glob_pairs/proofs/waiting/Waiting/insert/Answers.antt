use Rattle.std.proofs.Common.{◌≡◌, ◌∙◌, ◌+◌, ◌++◌, ◌∷◌, [], ℕ, List, true, false, ap, subst, sym}
use Rattle.std.proofs.lemmas.Result.{on_ok_weaker}
use Rattle.aa_glob_pairs.proofs.GainLemmas.{gains_pushed}
use Rattle.aa_glob_pairs.proofs.RowLemmas.{row_here, row_next, row_others, sets_front, sets_next, sets_others}
use Rattle.aa_glob_pairs.specs.Waiting.{Gains, row_at, SetsRow}
use Rattle.aa_glob_pairs.proofs.waiting.Waiting.insert.Goals as goal

abbrev Rows : Type 0
Rows = List (ℕ × List ℕ)

pub returns-then-first-self : goal.returns-then-first-self
returns-then-first-self c =
    let k = c.self.inside.state in
    let own = c.self.inside.row in
    let others : Rows = (k + 1, c.self.inside.next) ∷ c.self.inside.rows in
    let first = c.args.first in
    let second = c.args.second in
    let more = c.push.new.self in
    let old : Rows = (k, own) ∷ others in
    let new : Rows = (k, more) ∷ others in
    on_ok_weaker c.push.result (λ pushed.
    subst (λ l. Gains l new (λ q r. (q ≡ first) × (r ≡ second))) c.self.view_is
    (gains_pushed old new first second
    (subst (λ (l : List ℕ). SetsRow old new first l) (pushed ∙ ap (λ l. l ++ second ∷ []) (sym (row_here k own others first c.if-first-self.true)))
    (sets_front k own more others first c.if-first-self.true))))
    c.push.ensures

pub returns-then-is_next : goal.returns-then-is_next
returns-then-is_next c =
    let k = c.self.inside.state in
    let own = c.self.inside.row in
    let next = c.self.inside.next in
    let rows = c.self.inside.rows in
    let first = c.args.first in
    let second = c.args.second in
    let more = c.push-then-is_next.new.self in
    let old : Rows = (k, own) ∷ (k + 1, next) ∷ rows in
    let new : Rows = (k, own) ∷ (k + 1, more) ∷ rows in
    let here = c.is_next.ensures.0 c.if-is_next.true in
    on_ok_weaker c.push-then-is_next.result (λ pushed.
    subst (λ l. Gains l new (λ q r. (q ≡ first) × (r ≡ second))) c.self.view_is
    (gains_pushed old new first second
    (subst (λ (l : List ℕ). SetsRow old new first l) (pushed ∙ ap (λ l. l ++ second ∷ []) (sym (row_next k own next rows first c.if-first-self.false here)))
    (sets_next k own next more rows first c.if-first-self.false here))))
    c.push-then-is_next.ensures

pub returns-else-is_next : goal.returns-else-is_next
returns-else-is_next c =
    let k = c.self.inside.state in
    let own = c.self.inside.row in
    let next = c.self.inside.next in
    let rows = c.self.inside.rows in
    let first = c.args.first in
    let second = c.args.second in
    let more = c.push-else-is_next.new.self in
    let old : Rows = (k, own) ∷ (k + 1, next) ∷ rows in
    let new : Rows = (k, own) ∷ (k + 1, next) ∷ more in
    let not_next : first ≡ k + 1 → ⊥ = (λ same. let wrong : false ≡ true = sym c.if-is_next.false ∙ c.is_next.ensures.1 same in absurd (cc)) in
    on_ok_weaker c.push-else-is_next.result (λ pushed.
    subst (λ l. Gains l new (λ q r. (q ≡ first) × (r ≡ second))) c.self.view_is
    (gains_pushed old new first second
    (subst (λ (l : List ℕ). SetsRow old new first (l ++ second ∷ [])) (sym (row_others k own next rows first c.if-first-self.false not_next))
    (sets_others k own next rows more first (row_at rows first ++ second ∷ []) c.if-first-self.false not_next pushed))))
    c.push-else-is_next.ensures
