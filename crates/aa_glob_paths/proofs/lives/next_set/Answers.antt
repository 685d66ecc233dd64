use Rattle.std.proofs.Common.{◌≡◌, ◌∷◌, ◌++◌, ◌<◌, List, ℕ, ap, length, subst, ◌∙◌}
use Rattle.std.specs.Prelude.{All}
use Rattle.std.specs.List.Sorted.{IsPermutation}
use Rattle.aa_glob_nfa.specs.OfTables.{graph_of}
use Rattle.aa_glob_paths.proofs.LiveLemmas.{set-in_order, whole-permutation}
use Rattle.aa_glob_paths.proofs.lives.next_set.Goals as goal

pub returns-clause-leads : goal.returns-clause-leads
returns-clause-leads c = λ past at.
    let set = c.put_in_order.new.states.items in
    let copied : c.extend_from_slice.new.self.items ≡ c.follow.new.next.states =
    c.in_ok-extend_from_slice.ensures.items ∙ ap (λ (l : List ℕ). l ++ c.states.result.now) c.clear.ensures.items ∙ c.states.ensures.states in
    whole-permutation (graph_of c.args.tables.now) (c.args.byte ∷ past) c.follow.new.next.states set
    (subst (λ (l : List ℕ). IsPermutation l set) copied c.put_in_order.ensures.same) (c.in_ok-follow.ensures.leads past at)

pub returns-clause-set : goal.returns-clause-set
returns-clause-set c =
    let room = length c.args.tables.now.states in
    let found = c.follow.new.next.states in
    let set = c.put_in_order.new.states.items in
    let copied : c.extend_from_slice.new.self.items ≡ found =
    c.in_ok-extend_from_slice.ensures.items ∙ ap (λ (l : List ℕ). l ++ c.states.result.now) c.clear.ensures.items ∙ c.states.ensures.states in
    let below = subst (λ (l : List ℕ). All (λ r. r < room) l) c.states.ensures.states (subst (λ (n : ℕ). All (λ r. r < n) c.states.result.now) c.in_ok-follow.ensures.next c.states.ensures.below) in
    set-in_order room found set (subst (λ (l : List ℕ). IsPermutation l set) copied c.put_in_order.ensures.same) c.put_in_order.ensures.order (c.in_ok-follow.ensures.distinct, below)
