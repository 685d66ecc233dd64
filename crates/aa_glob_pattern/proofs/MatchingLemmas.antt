-- The test of a match decides whether the text can be cut into one text for each item.
use Rattle.std.proofs.Common.{◌≡◌, ℕ, Bool, true, ◌||◌, ◌&&◌, ◌==◌, ◌≢◌, List, [], ◌∷◌, ◌++◌, refl, ap, subst, inl, inr, not, Decides}
use Rattle.std.proofs.lemmas.Bool.Decides.{Decides-eqb, Decides-not, Decides-and, Decides-or, Decides-by_and}
use Rattle.std.proofs.lemmas.Bool.{or_cases, or_right, and_parts, and_from, false≢true}
use Rattle.std.proofs.lemmas.Slice.Eq.{bytes_eq-Decides}
use Rattle.std.specs.List.{list_all}
use Rattle.std.specs.Str.{bytes_eq}
use Rattle.aa_bytes.specs.ByteSets.{has, is_inside}
use Rattle.aa_glob_syntax.specs.Items.{Item, Byte, Set, Star, DoubleStar, Group, Pattern, End, Next, Patterns, NoMore, More}
use Rattle.aa_glob_syntax.specs.Matching.{some_split, is_one_of, is_of, matches, some_matches, IsInside, IsOf, Matches, SomeMatches}

-- some split passes a test exactly where the text can be cut in two so that what the test decides holds
Decides-some_split : (test : List ℕ → List ℕ → Bool) (P : List ℕ → List ℕ → Type 0) → ((u v : List ℕ) → Decides (test u v) (P u v)) → (s : List ℕ) → Decides (some_split test s) ((u v : List ℕ) × (s ≡ u ++ v) × P u v)
Decides-some_split test P each s = (found test P each s, λ cut. passes test P each s cut.0 cut.1 cut.2 cut.3)
  where
    found : (test : List ℕ → List ℕ → Bool) (P : List ℕ → List ℕ → Type 0) → ((u v : List ℕ) → Decides (test u v) (P u v)) → (s : List ℕ) → some_split test s ≡ true → (u v : List ℕ) × (s ≡ u ++ v) × P u v
    found test P each [] h = ([], [], refl, (each [] []).0 h)
    found test P each (b ∷ bs) h = elim (or_cases (test [] (b ∷ bs)) (some_split (λ u v. test (b ∷ u) v) bs) h) [
      | inl now ↦ ([], b ∷ bs, refl, (each [] (b ∷ bs)).0 now)
      | inr later ↦ let cut = found (λ u v. test (b ∷ u) v) (λ u v. P (b ∷ u) v) (λ u v. each (b ∷ u) v) bs later in (b ∷ cut.0, cut.1, ap (λ l. b ∷ l) cut.2, cut.3)
    ]

    here : (test : List ℕ → List ℕ → Bool) (s : List ℕ) → test [] s ≡ true → some_split test s ≡ true
    here test [] h = h
    here test (b ∷ bs) h = rw h refl

    passes : (test : List ℕ → List ℕ → Bool) (P : List ℕ → List ℕ → Type 0) → ((u v : List ℕ) → Decides (test u v) (P u v)) → (s u v : List ℕ) → s ≡ u ++ v → P u v → some_split test s ≡ true
    passes test P each s [] v e p = rw e (here test v ((each [] v).1 p))
    passes test P each [] (b ∷ u) v e p = absurd (cc)
    passes test P each (x ∷ s) (b ∷ u) v e p =
        let same : b ≡ x = cc in
        let left : s ≡ u ++ v = cc in
        let p_here : P (x ∷ u) v = subst (λ (y : ℕ). P (y ∷ u) v) same p in
        or_right (test [] (x ∷ s)) _ (passes (λ u v. test (x ∷ u) v) (λ u v. P (x ∷ u) v) (λ u v. each (x ∷ u) v) s u v left p_here)

-- a byte within a segment
Decides-is_inside : (b : ℕ) → Decides (is_inside b) (IsInside b)
Decides-is_inside b = Decides-and (not (b == 0)) (not (b == 47)) (Decides-not (b == 0) (Decides-eqb b 0)) (Decides-not (b == 47) (Decides-eqb b 47))

-- one byte of a set
Decides-is_one_of : (set : ℕ → Bool) (u : List ℕ) → Decides (is_one_of set u) ((b : ℕ) × (u ≡ b ∷ []) × (set b ≡ true))
Decides-is_one_of set [] = (λ h. absurd (false≢true h), λ one. absurd (cc (one.1)))
Decides-is_one_of set (x ∷ xs) = (
  λ h. let parts = and_parts (set x) (bytes_eq xs []) h in (x, ap (λ l. x ∷ l) ((bytes_eq-Decides xs []).0 parts.1), parts.0),
  λ one.
      let same : one.0 ≡ x = cc (one.1) in
      let nothing : xs ≡ [] = cc (one.1) in
      and_from (set x) (bytes_eq xs []) (subst (λ b. set b ≡ true) same one.2) ((bytes_eq-Decides xs []).1 nothing),
)

mutual
  Decides-is_of : (item : Item) (u : List ℕ) → Decides (is_of item u) (IsOf item u)
  Decides-is_of (Byte b) u = bytes_eq-Decides u (b ∷ [])
  Decides-is_of (Set set) u = Decides-is_one_of (has set) u
  Decides-is_of Star u = Decides-by_and is_inside IsInside (list_all is_inside) Decides-is_inside refl (λ _ _. refl) u
  Decides-is_of DoubleStar u = Decides-by_and (λ b. not (b == 0)) (λ b. b ≢ 0) (list_all (λ b. not (b == 0))) (λ b. Decides-not (b == 0) (Decides-eqb b 0)) refl (λ _ _. refl) u
  Decides-is_of (Group first second others) u =
      Decides-or (matches first u) (matches second u || some_matches others u) (Decides-matches first u) (Decides-or (matches second u) (some_matches others u) (Decides-matches second u) (Decides-some_matches others u))

  -- the test and the relation agree
  pub Decides-matches : (items : Pattern) (s : List ℕ) → Decides (matches items s) (Matches items s)
  Decides-matches End s = bytes_eq-Decides s []
  Decides-matches (Next item items) s =
      let cut = Decides-some_split (λ u v. is_of item u && matches items v) (λ u v. IsOf item u × Matches items v) (λ u v. Decides-and (is_of item u) (matches items v) (Decides-is_of item u) (Decides-matches items v)) s in
      (λ h. let found = cut.0 h in (found.0, found.1, found.2, found.3.0, found.3.1), λ m. cut.1 (m.0, m.1, m.2, (m.3, m.4)))

  Decides-some_matches : (patterns : Patterns) (s : List ℕ) → Decides (some_matches patterns s) (SomeMatches patterns s)
  Decides-some_matches NoMore s = (λ h. absurd (false≢true h), λ none. absurd none)
  Decides-some_matches (More pattern patterns) s = Decides-or (matches pattern s) (some_matches patterns s) (Decides-matches pattern s) (Decides-some_matches patterns s)
