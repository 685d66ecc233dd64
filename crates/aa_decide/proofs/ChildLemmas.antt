-- Ranks of children, one after the other.
use Rattle.std.proofs.Common.{◌≡◌, ◌∙◌, ℕ, zero, suc, ◌+◌, ◌<◌, List, [], ◌∷◌, ◌++◌, length, take, map, get_or, Some, arith, ap, sym}
use Rattle.std.specs.Prelude.{slice_get}
use Rattle.std.proofs.lemmas.Option.{slice_get-get_or}
use Rattle.aa_decide_rules.specs.Ranks.{best_rank}
use Rattle.aa_profile_data.specs.declared.profile.Child.{Child}
use Rattle.aa_decide_ready.specs.Visits.{child_attachments}

-- one more is told of the next child
map-more : (rank : Child → ℕ) (children : List Child) (place : ℕ) (child : Child) → place < length children → child ≡ get_or children place child
    → map rank (take place children) ++ rank child ∷ [] ≡ map rank (take (suc place) children)
map-more rank [] place child within is = absurd (omega arith)
map-more rank (first ∷ children) zero child within is = ap (λ child. rank child ∷ []) is
map-more rank (first ∷ children) (suc place) child within is = ap (λ ranks. rank first ∷ ranks) (map-more rank children place child (omega arith) is)

pub ranks-more : (path : List ℕ) (children : List Child) (place : ℕ) (ranks more : List ℕ) (rank : ℕ) (child : Child) → place < length children → child ≡ get_or children place child
    → ranks ≡ map (λ child. best_rank path child.attachments) (take place children)
    → rank ≡ best_rank path (child_attachments (slice_get children place))
    → more ≡ ranks ++ rank ∷ []
    → more ≡ map (λ child. best_rank path child.attachments) (take (place + 1) children)
ranks-more path children place ranks more rank child within is before found after =
    let there : slice_get children place ≡ Some child = slice_get-get_or children place child within ∙ ap Some (sym is) in
    let own : rank ≡ best_rank path child.attachments = found ∙ ap (λ found. best_rank path (child_attachments found)) there in
    let plain : suc place ≡ place + 1 = omega arith in
    after
    ∙ ap (λ rank. ranks ++ rank ∷ []) own
    ∙ ap (λ ranks. ranks ++ best_rank path child.attachments ∷ []) before
    ∙ map-more (λ child. best_rank path child.attachments) children place child within is
    ∙ ap (λ count. map (λ child. best_rank path child.attachments) (take count children)) plain
