-- What reads a pattern behind a text is that text, and then one that matches the pattern.
use mathlib.Core.List.{reverse_aux}
use Rattle.std.proofs.Common.{◌≡◌, ◌≢◌, ℕ, Bool, true, ◌==◌, ◌&&◌, ◌||◌, not, List, [], ◌∷◌, ◌++◌, reverse, refl, sym, ap, ◌∙◌, subst, ◌⊎◌, inl, inr, Decides}
use Rattle.std.proofs.lemmas.Bool.{and_from, and_parts, false≢true, or_cases, or_left, or_right}
use Rattle.std.proofs.lemmas.Bool.Decides.{Decides-and, Decides-eqb, Decides-not}
use Rattle.std.proofs.lemmas.List.{reverse-reverse}
use Rattle.std.proofs.lemmas.List.Elements.{All-append, All-cons, All-from_recursion, All-nil, recursion_from_All}
use Rattle.std.specs.List.{All}
use Rattle.aa_bytes.specs.ByteSets.{has, is_inside}
use Rattle.aa_glob_syntax.specs.Items.{Item, Byte, Set, Star, DoubleStar, Group, Pattern, End, Next, Patterns, NoMore, More}
use Rattle.aa_glob_syntax.specs.Matching.{IsInside, IsOf, Matches, SomeMatches}
use Rattle.aa_glob_pattern.specs.Reads.{empty_text, item_behind, one_behind, pattern_behind, patterns_behind, run_behind, Texts}

-- a text is one that passes a test, and then one of which P holds
abbrev IsBehind : (List ℕ → Type 0) → Texts → List ℕ → Type 0
IsBehind P before past = (u v : List ℕ) × (past ≡ reverse_aux v u) × (before u ≡ true) × P v

-- reading one text and then another
read_both : (v w u : List ℕ) → reverse_aux (v ++ w) u ≡ reverse_aux w (reverse_aux v u)
read_both [] w u = refl
read_both (b ∷ v) w u = read_both v w (b ∷ u)

-- where one fact follows from another, so does what it says of a text
weaker : (P Q : List ℕ → Type 0) (before : Texts) (past : List ℕ) → ((v : List ℕ) → P v → Q v) → IsBehind P before past → IsBehind Q before past
weaker P Q before past f h = (h.0, h.1, h.2, h.3, f h.1 h.4)

-- either of two facts
Decides-behind_or : (P Q : List ℕ → Type 0) (first second before : Texts) (past : List ℕ) → Decides (first past) (IsBehind P before past) → Decides (second past) (IsBehind Q before past) → Decides (first past || second past) (IsBehind (λ v. P v ⊎ Q v) before past)
Decides-behind_or P Q first second before past p q = (
  λ h. elim (or_cases (first past) (second past) h) [
    | inl one ↦ weaker P (λ v. P v ⊎ Q v) before past (λ v m. inl m) (p.0 one)
    | inr other ↦ weaker Q (λ v. P v ⊎ Q v) before past (λ v m. inr m) (q.0 other)
  ],
  λ h. passes h.0 h.1 h.2 h.3 h.4,
)
  where
    passes : (u v : List ℕ) → past ≡ reverse_aux v u → before u ≡ true → P v ⊎ Q v → (first past || second past) ≡ true
    passes u v e b (inl m) = or_left (first past) (second past) (p.1 (u, v, e, b, m))
    passes u v e b (inr m) = or_right (first past) (second past) (q.1 (u, v, e, b, m))

-- one byte
Decides-one_behind : (test : ℕ → Bool) (P : ℕ → Type 0) → ((b : ℕ) → Decides (test b) (P b)) → (before : Texts) (past : List ℕ) → Decides (one_behind test before past) (IsBehind (λ v. (b : ℕ) × (v ≡ b ∷ []) × P b) before past)
Decides-one_behind test P each before past = (found past, λ h. passes h.0 h.1 h.2 h.3 h.4.0 h.4.1 h.4.2)
  where
    found : (past : List ℕ) → one_behind test before past ≡ true → IsBehind (λ v. (b : ℕ) × (v ≡ b ∷ []) × P b) before past
    found [] h = absurd (false≢true h)
    found (c ∷ past) h = let parts = and_parts (test c) (before past) h in (past, c ∷ [], refl, parts.1, (c, refl, (each c).0 parts.0))

    passes : (u v : List ℕ) → past ≡ reverse_aux v u → before u ≡ true → (b : ℕ) → v ≡ b ∷ [] → P b → one_behind test before past ≡ true
    passes u v e h b one p =
        let whole : past ≡ b ∷ u = e ∙ ap (λ w. reverse_aux w u) one in
        ap (one_behind test before) whole ∙ and_from (test b) (before u) ((each b).1 p) h

-- any number of bytes
All-tail : (P : ℕ → Type 0) (b : ℕ) (v : List ℕ) → All P (b ∷ v) → P b × All P v
All-tail P b v each = let parts = recursion_from_All P (b ∷ v) each in (parts.0, All-from_recursion P v parts.1)

Decides-run_behind : (test : ℕ → Bool) (P : ℕ → Type 0) → ((b : ℕ) → Decides (test b) (P b)) → (before : Texts) (past : List ℕ) → Decides (run_behind test before past) (IsBehind (All P) before past)
Decides-run_behind test P each before past = (found past, λ h. ap (run_behind test before) h.2 ∙ passes h.1 h.0 (here h.0 h.3) h.4)
  where
    here : (u : List ℕ) → before u ≡ true → run_behind test before u ≡ true
    here [] h = h
    here (c ∷ u) h = or_left (before (c ∷ u)) (test c && run_behind test before u) h

    found : (past : List ℕ) → run_behind test before past ≡ true → IsBehind (All P) before past
    found [] h = ([], [], refl, h, All-nil P)
    found (c ∷ past) h = elim (or_cases (before (c ∷ past)) (test c && run_behind test before past) h) [
      | inl none ↦ (c ∷ past, [], refl, none, All-nil P)
      | inr more ↦
          let parts = and_parts (test c) (run_behind test before past) more in
          let rest = found past parts.1 in
          (rest.0, rest.1 ++ c ∷ [], ap (λ l. c ∷ l) rest.2 ∙ sym (read_both rest.1 (c ∷ []) rest.0), rest.3, All-append P rest.1 (c ∷ []) rest.4 (All-cons P c [] ((each c).0 parts.0) (All-nil P)))
    ]

    passes : (v u : List ℕ) → run_behind test before u ≡ true → All P v → run_behind test before (reverse_aux v u) ≡ true
    passes [] u h all = h
    passes (b ∷ v) u h all =
        let parts = All-tail P b v all in
        passes v (b ∷ u) (or_right (before (b ∷ u)) (test b && run_behind test before u) (and_from (test b) (run_behind test before u) ((each b).1 parts.0) h)) parts.1

-- a byte within a segment
Decides-inside : (b : ℕ) → Decides (is_inside b) (IsInside b)
Decides-inside b = Decides-and (not (b == 0)) (not (b == 47)) (Decides-not (b == 0) (Decides-eqb b 0)) (Decides-not (b == 47) (Decides-eqb b 47))

mutual
  Decides-item_behind : (item : Item) (before : Texts) (past : List ℕ) → Decides (item_behind item before past) (IsBehind (IsOf item) before past)
  Decides-item_behind (Byte b) before past =
      let one = Decides-one_behind (λ c. c == b) (λ c. c ≡ b) (λ c. Decides-eqb c b) before past in (
        λ h. weaker (λ v. (c : ℕ) × (v ≡ c ∷ []) × (c ≡ b)) (λ v. v ≡ b ∷ []) before past (λ v m. m.1 ∙ ap (λ c. c ∷ []) m.2) (one.0 h),
        λ h. one.1 (weaker (λ v. v ≡ b ∷ []) (λ v. (c : ℕ) × (v ≡ c ∷ []) × (c ≡ b)) before past (λ v m. (b, m, refl)) h),
      )
  Decides-item_behind (Set set) before past = Decides-one_behind (has set) (λ c. has set c ≡ true) (λ c. (λ h. h, λ h. h)) before past
  Decides-item_behind Star before past = Decides-run_behind is_inside IsInside Decides-inside before past
  Decides-item_behind DoubleStar before past = Decides-run_behind (λ b. not (b == 0)) (λ b. b ≢ 0) (λ b. Decides-not (b == 0) (Decides-eqb b 0)) before past
  Decides-item_behind (Group first second others) before past =
      Decides-behind_or (Matches first) (λ v. Matches second v ⊎ SomeMatches others v) (pattern_behind first before) (λ p. pattern_behind second before p || patterns_behind others before p) before past (Decides-pattern_behind first before past)
      (Decides-behind_or (Matches second) (SomeMatches others) (pattern_behind second before) (patterns_behind others before) before past (Decides-pattern_behind second before past) (Decides-patterns_behind others before past))

  Decides-pattern_behind : (items : Pattern) (before : Texts) (past : List ℕ) → Decides (pattern_behind items before past) (IsBehind (Matches items) before past)
  Decides-pattern_behind End before past = (λ h. (past, [], refl, h, refl), λ h. ap before (h.2 ∙ ap (λ v. reverse_aux v h.0) h.4) ∙ h.3)
  Decides-pattern_behind (Next item items) before past =
      let rest = Decides-pattern_behind items (item_behind item before) past in (
        λ h.
            let behind = rest.0 h in
            let first = (Decides-item_behind item before behind.0).0 behind.3 in
            (first.0, first.1 ++ behind.1, behind.2 ∙ ap (reverse_aux behind.1) first.2 ∙ sym (read_both first.1 behind.1 first.0), first.3, (first.1, behind.1, refl, first.4, behind.4)),
        λ h.
            let m = h.4 in
            let first = (Decides-item_behind item before (reverse_aux m.0 h.0)).1 (h.0, m.0, refl, h.3, m.3) in
            rest.1 (reverse_aux m.0 h.0, m.1, h.2 ∙ ap (λ v. reverse_aux v h.0) m.2 ∙ read_both m.0 m.1 h.0, first, m.4),
      )

  Decides-patterns_behind : (patterns : Patterns) (before : Texts) (past : List ℕ) → Decides (patterns_behind patterns before past) (IsBehind (SomeMatches patterns) before past)
  Decides-patterns_behind NoMore before past = (λ h. absurd (false≢true h), λ h. absurd h.4)
  Decides-patterns_behind (More pattern patterns) before past =
      Decides-behind_or (Matches pattern) (SomeMatches patterns) (pattern_behind pattern before) (patterns_behind patterns before) before past (Decides-pattern_behind pattern before past) (Decides-patterns_behind patterns before past)

empty_is : (u : List ℕ) → empty_text u ≡ true → u ≡ []
empty_is [] h = refl
empty_is (b ∷ u) h = absurd (false≢true h)

-- What reads a pattern behind the empty text is what matches it.
pub Decides-reading : (items : Pattern) (path : List ℕ) → Decides (pattern_behind items empty_text (reverse path)) (Matches items path)
Decides-reading items path =
    let whole = Decides-pattern_behind items empty_text (reverse path) in (
      λ h.
          let behind = whole.0 h in
          let same : reverse path ≡ reverse behind.1 = behind.2 ∙ ap (reverse_aux behind.1) (empty_is behind.0 behind.3) in
          let back : behind.1 ≡ path = sym (reverse-reverse behind.1) ∙ ap reverse (sym same) ∙ reverse-reverse path in
          subst (Matches items) back behind.4,
      λ m. whole.1 ([], path, refl, refl, m),
    )
