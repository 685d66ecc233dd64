use Rattle.std.proofs.Common.{◌≡◌, subst, List, ℕ}
use Rattle.std.proofs.lemmas.Result.{on_ok_weaker}
use Rattle.std.specs.Prelude.{Contains}
use Rattle.aa_glob_pairs.proofs.GoLemmas.{go_all}
use Rattle.aa_glob_pairs.specs.Nodes.{AreShared}
use Rattle.aa_glob_pairs.specs.Waiting.{Gains, Ordered}
use Rattle.aa_glob_pairs.specs.declared.moves.Step.{Step}
use Rattle.aa_glob_pairs.proofs.visit.visit.Goals as goal

pub returns : goal.returns
returns c =
    on_ok_weaker c.go_both.result (λ both.
    go_all c.args.first.now c.args.second.now c.args.row c.args.column c.args.waiting.now c.go_first.new.waiting c.go_second.new.waiting c.go_both.new.waiting
    (subst (λ (l : List ℕ). Gains c.args.waiting.now c.go_first.new.waiting (Ordered (λ x y. Contains l x × (y ≡ c.args.column)))) c.deref.ensures.value c.in_ok-go_first.ensures)
    (subst (λ (l : List ℕ). Gains c.go_first.new.waiting c.go_second.new.waiting (Ordered (λ x y. (x ≡ c.args.row) × Contains l y))) c.deref-2.ensures.value c.in_ok-go_second.ensures)
    (subst (λ (l : List Step). Gains c.go_second.new.waiting c.go_both.new.waiting (Ordered (AreShared l c.args.second.now.steps.items))) c.deref-3.ensures.value
    (subst (λ (l : List Step). Gains c.go_second.new.waiting c.go_both.new.waiting (Ordered (AreShared c.deref-3.result.now l))) c.deref-4.ensures.value both)))
    c.go_both.ensures
