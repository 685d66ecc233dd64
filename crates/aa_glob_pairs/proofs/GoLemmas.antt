-- What follows from a pair, by one free way or one step more.
use Rattle.std.proofs.Common.{◌≡◌, ◌⊎◌, ◌↔◌, ℕ, ◌+◌, ◌<◌, List, [], ◌∷◌, ◌++◌, length, take, get_or, sym, ap, subst, ◌∙◌, inl, inr}
use Rattle.std.proofs.lemmas.List.{take_more}
use Rattle.std.proofs.lemmas.List.Elements.{Contains-append_cases, Contains-append_left, Contains-append_right, Contains-push, Contains-push_cases}
use Rattle.std.specs.Prelude.{Contains}
use Rattle.aa_glob_pairs.specs.Bytes.{IsShared}
use Rattle.aa_glob_pairs.specs.Nodes.{AreShared, FollowsBy, HasStep}
use Rattle.aa_glob_pairs.specs.Waiting.{Gains, Ordered}
use Rattle.aa_glob_pairs.specs.declared.moves.Moves.{Moves}
use Rattle.aa_glob_pairs.specs.declared.moves.Step.{Step}
use Rattle.aa_glob_pairs.proofs.GainLemmas.{nothing_there, pairs_as, pairs_then}

abbrev Rows : Type 0
Rows = List (ℕ × List ℕ)

-- one more of some is there
pub more_there : (xs : List ℕ) (i d x : ℕ) → i < length xs → (Contains (take (i + 1) xs) x ↔ (Contains (take i xs) x ⊎ (x ≡ get_or xs i d)))
more_there xs i d x within = rw (take_more xs i d within) (
  λ h. elim (Contains-push_cases (take i xs) (get_or xs i d) x h) [ inl early ↦ inl early | inr last ↦ inr (sym last) ],
  λ h. elim h [
    | inl early ↦ Contains-append_left (take i xs) (get_or xs i d ∷ []) x early
    | inr last ↦ subst (λ y. Contains (take i xs ++ get_or xs i d ∷ []) y) (sym last) (Contains-push (take i xs) (get_or xs i d))
  ],
)

-- a step is among some steps or among others
pub steps_append : (steps more : List Step) (c x : ℕ) → (HasStep (steps ++ more) c x ↔ (HasStep steps c x ⊎ HasStep more c x))
steps_append steps more c x = (
  λ h. elim (Contains-append_cases steps more h.0 h.1) [ inl early ↦ inl (h.0, early, h.2, h.3) | inr late ↦ inr (h.0, late, h.2, h.3) ],
  λ h. elim h [
    | inl early ↦ (early.0, Contains-append_left steps more early.0 early.1, early.2, early.3)
    | inr late ↦ (late.0, Contains-append_right steps more late.0 late.1, late.2, late.3)
  ],
)

pub shared_append : (steps more others : List Step) (x y : ℕ) → (AreShared (steps ++ more) others x y ↔ (AreShared steps others x y ⊎ AreShared more others x y))
shared_append steps more others x y = (
  λ h. elim ((steps_append steps more h.0 x).0 h.2) [ inl early ↦ inl (h.0, h.1, early, h.3) | inr late ↦ inr (h.0, h.1, late, h.3) ],
  λ h. elim h [
    | inl early ↦ (early.0, early.1, (steps_append steps more early.0 x).1 (inl early.2), early.3)
    | inr late ↦ (late.0, late.1, (steps_append steps more late.0 x).1 (inr late.2), late.3)
  ],
)

pub shared_append_other : (steps others more : List Step) (x y : ℕ) → (AreShared steps (others ++ more) x y ↔ (AreShared steps others x y ⊎ AreShared steps more x y))
shared_append_other steps others more x y = (
  λ h. elim ((steps_append others more h.0 y).0 h.3) [ inl early ↦ inl (h.0, h.1, h.2, early) | inr late ↦ inr (h.0, h.1, h.2, late) ],
  λ h. elim h [
    | inl early ↦ (early.0, early.1, early.2, (steps_append others more early.0 y).1 (inl early.3))
    | inr late ↦ (late.0, late.1, late.2, (steps_append others more late.0 y).1 (inr late.3))
  ],
)

-- one more free way of the first
pub go_first_more : (old mid new : Rows) (xs : List ℕ) (i d column : ℕ) → i < length xs → Gains old mid (Ordered (λ x y. Contains (take i xs) x × (y ≡ column)))
    → Gains mid new (Ordered (λ q r. (q ≡ get_or xs i d) × (r ≡ column))) → Gains old new (Ordered (λ x y. Contains (take (i + 1) xs) x × (y ≡ column)))
go_first_more old mid new xs i d column within one two =
    pairs_then old mid new (λ x y. Contains (take i xs) x × (y ≡ column)) (λ q r. (q ≡ get_or xs i d) × (r ≡ column)) (λ x y. Contains (take (i + 1) xs) x × (y ≡ column)) one two (λ x y. (
      λ h. elim ((more_there xs i d x within).0 h.0) [ inl early ↦ inl (early, h.1) | inr last ↦ inr (last, h.1) ],
      λ h. elim h [ inl early ↦ ((more_there xs i d x within).1 (inl early.0), early.1) | inr last ↦ ((more_there xs i d x within).1 (inr last.0), last.1) ],
    ))

-- one more of the second
pub go_second_more : (old mid new : Rows) (xs : List ℕ) (i d row : ℕ) → i < length xs → Gains old mid (Ordered (λ x y. (x ≡ row) × Contains (take i xs) y))
    → Gains mid new (Ordered (λ q r. (q ≡ row) × (r ≡ get_or xs i d))) → Gains old new (Ordered (λ x y. (x ≡ row) × Contains (take (i + 1) xs) y))
go_second_more old mid new xs i d row within one two =
    pairs_then old mid new (λ x y. (x ≡ row) × Contains (take i xs) y) (λ q r. (q ≡ row) × (r ≡ get_or xs i d)) (λ x y. (x ≡ row) × Contains (take (i + 1) xs) y) one two (λ x y. (
      λ h. elim ((more_there xs i d y within).0 h.1) [ inl early ↦ inl (h.0, early) | inr last ↦ inr (h.0, last) ],
      λ h. elim h [ inl early ↦ (early.0, (more_there xs i d y within).1 (inl early.1)) | inr last ↦ (last.0, (more_there xs i d y within).1 (inr last.1)) ],
    ))

-- one more step of the first
pub go_both_more : (old mid new : Rows) (steps : List Step) (i : ℕ) (d : Step) (others : List Step) → i < length steps → Gains old mid (Ordered (AreShared (take i steps) others))
    → Gains mid new (Ordered (AreShared (get_or steps i d ∷ []) others)) → Gains old new (Ordered (AreShared (take (i + 1) steps) others))
go_both_more old mid new steps i d others within one two =
    rw (take_more steps i d within)
    (pairs_then old mid new (AreShared (take i steps) others) (AreShared (get_or steps i d ∷ []) others) (AreShared (take i steps ++ get_or steps i d ∷ []) others) one two
    (shared_append (take i steps) (get_or steps i d ∷ []) others))

-- one more of the second
pub go_beside_more : (old mid new : Rows) (steps others : List Step) (i : ℕ) (d : Step) → i < length others → Gains old mid (Ordered (AreShared steps (take i others)))
    → Gains mid new (Ordered (AreShared steps (get_or others i d ∷ []))) → Gains old new (Ordered (AreShared steps (take (i + 1) others)))
go_beside_more old mid new steps others i d within one two =
    rw (take_more others i d within)
    (pairs_then old mid new (AreShared steps (take i others)) (AreShared steps (get_or others i d ∷ [])) (AreShared steps (take i others ++ get_or others i d ∷ [])) one two
    (shared_append_other steps (take i others) (get_or others i d ∷ [])))

-- the one step
alone : (s t : Step) → Contains (s ∷ []) t → s ≡ t
alone s t h = elim (Contains-push_cases [] s t h) [ inl none ↦ absurd (nothing_there t none) | inr same ↦ same ]

-- two steps that share a byte
pub go_shared : (old new : Rows) (s t : Step) → IsShared s.bytes t.bytes → Gains old new (Ordered (λ q r. (q ≡ s.to) × (r ≡ t.to))) → Gains old new (Ordered (AreShared (s ∷ []) (t ∷ [])))
go_shared old new s t shared gains =
    pairs_as old new (λ q r. (q ≡ s.to) × (r ≡ t.to)) (AreShared (s ∷ []) (t ∷ [])) gains (λ x y. (
      λ e. (shared.0, shared.1, (s, Contains-push [] s, sym e.0, shared.2.0), (t, Contains-push [] t, sym e.1, shared.2.1)),
      λ a. (sym a.2.2 ∙ ap (λ w. w.to) (sym (alone s a.2.0 a.2.1)), sym a.3.2 ∙ ap (λ w. w.to) (sym (alone t a.3.0 a.3.1))),
    ))

-- the three ways in which a pair follows
pub go_all : (m k : Moves) (q r : ℕ) (a b c d : Rows) → Gains a b (Ordered (λ x y. Contains m.free.items x × (y ≡ r))) → Gains b c (Ordered (λ x y. (x ≡ q) × Contains k.free.items y))
    → Gains c d (Ordered (AreShared m.steps.items k.steps.items)) → Gains a d (Ordered (FollowsBy m k q r))
go_all m k q r a b c d one two three =
    pairs_then a b d (λ x y. Contains m.free.items x × (y ≡ r)) (λ x y. ((x ≡ q) × Contains k.free.items y) ⊎ AreShared m.steps.items k.steps.items x y) (FollowsBy m k q r) one
    (pairs_then b c d (λ x y. (x ≡ q) × Contains k.free.items y) (AreShared m.steps.items k.steps.items) (λ x y. ((x ≡ q) × Contains k.free.items y) ⊎ AreShared m.steps.items k.steps.items x y) two three
    (λ x y. (λ h. h, λ h. h)))
    (λ x y. (λ h. h, λ h. h))
