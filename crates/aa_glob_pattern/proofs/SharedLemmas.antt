-- One text reads two trails exactly where the test says so.
use Rattle.std.proofs.Common.{◌≡◌, ℕ, zero, suc, ◌+◌, ◌^◌, ◌<◌, ◌≤◌, ◌||◌, ◌&&◌, Bool, true, false, List, [], ◌∷◌, ◌++◌, length, refl, sym, ap, ◌∙◌, subst, inl, inr, arith}
use Rattle.std.specs.Prelude.{All, Contains, if◌then◌else◌}
use Rattle.std.proofs.lemmas.Bool.{and_parts, or_cases, or_left, or_right}
use Rattle.std.proofs.lemmas.List.Elements.{All-cons, All-head, All-nil, All-tail, Contains-append_left, Contains-append_right, Contains-push}
use Rattle.aa_glob_syntax.specs.Elements.{Element}
use Rattle.aa_glob_pattern.specs.Laws.{SomeAreReadAsOneIs, SourcesAreShorter, TrailsAreReadBehindSources}
use Rattle.aa_glob_pattern.specs.Reads.{reads}
use Rattle.aa_glob_pattern.specs.Shared.{back_freely, back_over, goes_over, is_free, is_start, share_text, some_below, some_pass, takes}
use Rattle.aa_glob_pattern.specs.Trails.{sources, Trail}
use Rattle.aa_glob_pattern.proofs.ReadLemmas.{free_back, HasNoGroup, over_back, read_of, start_read}
use Rattle.aa_glob_pattern.proofs.TestLemmas.{alone, and_both, below_of, if_contains, is_off, of_below, pass_in, pass_of}

-- each number of a text is a byte
abbrev pub Bytes : List ℕ → Type 0
Bytes text = All (λ b. b < 2 ^ 8) text

module _ (behind : TrailsAreReadBehindSources) (some : SomeAreReadAsOneIs) (shorter : SourcesAreShorter) where
  -- a text that reads both
  abbrev pub ReadsBoth : Trail → Trail → Type 0
  ReadsBoth s t = (past : List ℕ) × Bytes past × (reads s past ≡ true) × (reads t past ≡ true)

  -- What the test tells is so.
  pub shared-sound : (n : ℕ) (s t : Trail) → share_text n s t ≡ true → ReadsBoth s t
  shared-sound zero s t h = absurd (is_off false refl h)
  shared-sound (suc n) s t h = elim (or_cases starts (freely || (other_freely || by_byte)) h) [
    | inl both ↦ let at = and_parts (is_start s) (is_start t) both in ([], All-nil (λ b. b < 2 ^ 8), start_read behind some s at.0, start_read behind some t at.1)
    | inr more ↦ elim (or_cases freely (other_freely || by_byte) more) [
      | inl free ↦
          let pair = pass_of (share_text n) (back_freely s) (t ∷ []) free in
          let read = shared-sound n pair.0 pair.1 pair.4 in
          (read.0, read.1, free_back behind some s pair.0 read.0 pair.2 read.2, subst (λ (x : Trail). reads x read.0 ≡ true) (sym (alone t pair.1 pair.3)) read.3)
      | inr rest ↦ elim (or_cases other_freely by_byte rest) [
        | inl free ↦
            let pair = pass_of (share_text n) (s ∷ []) (back_freely t) free in
            let read = shared-sound n pair.0 pair.1 pair.4 in
            (read.0, read.1, subst (λ (x : Trail). reads x read.0 ≡ true) (sym (alone s pair.0 pair.2)) read.2, free_back behind some t pair.1 read.0 pair.3 read.3)
        | inr byte ↦
            let at = below_of (2 ^ 8) (λ c. some_pass (share_text n) (back_over c s) (back_over c t)) byte in
            let pair = pass_of (share_text n) (back_over at.0 s) (back_over at.0 t) at.2 in
            let read = shared-sound n pair.0 pair.1 pair.4 in
            (at.0 ∷ read.0, All-cons (λ b. b < 2 ^ 8) at.0 read.0 at.1 read.1, over_back behind some at.0 s pair.0 read.0 pair.2 read.2, over_back behind some at.0 t pair.1 read.0 pair.3 read.3)
      ]
    ]
  ]
    where
      starts : Bool
      starts = is_start s && is_start t

      freely : Bool
      freely = some_pass (share_text n) (back_freely s) (t ∷ [])

      other_freely : Bool
      other_freely = some_pass (share_text n) (s ∷ []) (back_freely t)

      by_byte : Bool
      by_byte = some_below (2 ^ 8) (λ c. some_pass (share_text n) (back_over c s) (back_over c t))

  -- the sources of a trail are shorter, and have no group if it has none
  no_group_suffix : (more source trail : Trail) → more ++ source ≡ trail → HasNoGroup trail → HasNoGroup source
  no_group_suffix [] source trail is fine = subst (λ (t : Trail). HasNoGroup t) (sym is) fine
  no_group_suffix (e ∷ more) source trail is fine = no_group_suffix more source (more ++ source) refl (subst (λ (t : Trail). HasNoGroup t) (sym is) fine).1

  source_fine : (trail source : Trail) → Contains (sources trail) source → HasNoGroup trail → HasNoGroup source
  source_fine trail source h fine = let at = shorter trail source h in no_group_suffix at.0 source trail at.1 fine

  source_shorter : (trail source : Trail) → Contains (sources trail) source → length source < length trail
  source_shorter trail source h = (shorter trail source h).2

  -- the four ways in which the test tells yes
  module _ (n : ℕ) (s t : Trail) where
    abbrev starts : Bool
    starts = is_start s && is_start t

    abbrev freely : Bool
    freely = some_pass (share_text n) (back_freely s) (t ∷ [])

    abbrev other_freely : Bool
    other_freely = some_pass (share_text n) (s ∷ []) (back_freely t)

    abbrev by_byte : Bool
    by_byte = some_below (2 ^ 8) (λ c. some_pass (share_text n) (back_over c s) (back_over c t))

    share_start : is_start s ≡ true → is_start t ≡ true → share_text (suc n) s t ≡ true
    share_start first second = or_left starts (freely || (other_freely || by_byte)) (and_both (is_start s) (is_start t) first second)

    share_freely : (source : Trail) → Contains (back_freely s) source → share_text n source t ≡ true → share_text (suc n) s t ≡ true
    share_freely source h shared =
        or_right starts (freely || (other_freely || by_byte)) (or_left freely (other_freely || by_byte)
        (pass_in (share_text n) (back_freely s) (t ∷ []) source t h (Contains-push [] t) shared))

    share_other_freely : (source : Trail) → Contains (back_freely t) source → share_text n s source ≡ true → share_text (suc n) s t ≡ true
    share_other_freely source h shared =
        or_right starts (freely || (other_freely || by_byte)) (or_right freely (other_freely || by_byte) (or_left other_freely by_byte
        (pass_in (share_text n) (s ∷ []) (back_freely t) s source (Contains-push [] s) h shared)))

    share_by : (c : ℕ) (source other : Trail) → c < 2 ^ 8 → Contains (back_over c s) source → Contains (back_over c t) other → share_text n source other ≡ true
        → share_text (suc n) s t ≡ true
    share_by c source other small first second shared =
        or_right starts (freely || (other_freely || by_byte)) (or_right freely (other_freely || by_byte) (or_right other_freely by_byte
        (of_below (2 ^ 8) (λ c. some_pass (share_text n) (back_over c s) (back_over c t)) c small
        (pass_in (share_text n) (back_over c s) (back_over c t) source other first second shared))))

  -- a source, and a trail itself, among what it leads back to
  freely_there : (e : Element) (s source : Trail) → is_free e ≡ true → Contains (sources (e ∷ s)) source → Contains (back_freely (e ∷ s)) source
  freely_there e s source free h = if_contains (is_free e) (sources (e ∷ s)) source free h

  took_there : (c : ℕ) (e : Element) (s source : Trail) → takes e c ≡ true → Contains (sources (e ∷ s)) source → Contains (back_over c (e ∷ s)) source
  took_there c e s source took h =
      Contains-append_left (if takes e c then sources (e ∷ s) else []) (if goes_over e c then (e ∷ s) ∷ [] else []) source (if_contains (takes e c) (sources (e ∷ s)) source took h)

  over_there : (c : ℕ) (e : Element) (s : Trail) → goes_over e c ≡ true → Contains (back_over c (e ∷ s)) (e ∷ s)
  over_there c e s on =
      Contains-append_right (if takes e c then sources (e ∷ s) else []) (if goes_over e c then (e ∷ s) ∷ [] else []) (e ∷ s)
      (if_contains (goes_over e c) ((e ∷ s) ∷ []) (e ∷ s) on (Contains-push [] (e ∷ s)))

  start_past : (past : List ℕ) → reads [] past ≡ true → past ≡ []
  start_past [] h = refl
  start_past (c ∷ past) h = absurd (is_off false refl h)

  -- What is so the test tells.
  pub shared-complete : (k n : ℕ) (s t : Trail) (past : List ℕ) → HasNoGroup s → HasNoGroup t → Bytes past → length past + length s + length t ≤ k → length s + length t < n
      → reads s past ≡ true → reads t past ≡ true → share_text n s t ≡ true
  shared-complete k zero s t past one two bytes size steps first second = absurd (omega (arith, steps))
  shared-complete k (suc n) [] [] past one two bytes size steps first second = share_start n [] [] refl refl
  shared-complete zero (suc n) (e ∷ s) t past one two bytes size steps first second = absurd (omega (arith, size))
  shared-complete zero (suc n) [] (f ∷ t) past one two bytes size steps first second = absurd (omega (arith, size))
  shared-complete (suc k) (suc n) [] (f ∷ t) past one two bytes size steps first second = elim (read_of behind some f t past two.0 second) [
    | inl free ↦
        let shorter = source_shorter (f ∷ t) free.1.0 free.1.1 in
        share_other_freely n [] (f ∷ t) free.1.0 (freely_there f t free.1.0 free.0 free.1.1)
        (shared-complete k n [] free.1.0 past one (source_fine (f ∷ t) free.1.0 free.1.1 two) bytes (omega (arith, size, shorter)) (omega (arith, steps, shorter)) first free.1.2)
    | inr byte ↦ absurd (no_byte past byte.0 byte.1 (start_past past first) byte.2)
  ]
    where
      no_byte : (past : List ℕ) (c : ℕ) (before : List ℕ) → past ≡ [] → past ≡ c ∷ before → ⊥
      no_byte past c before none is = absurd cc
  shared-complete (suc k) (suc n) (e ∷ s) [] past one two bytes size steps first second = elim (read_of behind some e s past one.0 first) [
    | inl free ↦
        let shorter = source_shorter (e ∷ s) free.1.0 free.1.1 in
        share_freely n (e ∷ s) [] free.1.0 (freely_there e s free.1.0 free.0 free.1.1)
        (shared-complete k n free.1.0 [] past (source_fine (e ∷ s) free.1.0 free.1.1 one) two bytes (omega (arith, size, shorter)) (omega (arith, steps, shorter)) free.1.2 second)
    | inr byte ↦ absurd (no_byte past byte.0 byte.1 (start_past past second) byte.2)
  ]
    where
      no_byte : (past : List ℕ) (c : ℕ) (before : List ℕ) → past ≡ [] → past ≡ c ∷ before → ⊥
      no_byte past c before none is = absurd cc
  shared-complete (suc k) (suc n) (e ∷ s) (f ∷ t) past one two bytes size steps first second = elim (read_of behind some e s past one.0 first) [
    | inl free ↦
        let shorter = source_shorter (e ∷ s) free.1.0 free.1.1 in
        share_freely n (e ∷ s) (f ∷ t) free.1.0 (freely_there e s free.1.0 free.0 free.1.1)
        (shared-complete k n free.1.0 (f ∷ t) past (source_fine (e ∷ s) free.1.0 free.1.1 one) two bytes (omega (arith, size, shorter)) (omega (arith, steps, shorter)) free.1.2 second)
    | inr byte ↦ elim (read_of behind some f t past two.0 second) [
      | inl free ↦
          let shorter = source_shorter (f ∷ t) free.1.0 free.1.1 in
          share_other_freely n (e ∷ s) (f ∷ t) free.1.0 (freely_there f t free.1.0 free.0 free.1.1)
          (shared-complete k n (e ∷ s) free.1.0 past one (source_fine (f ∷ t) free.1.0 free.1.1 two) bytes (omega (arith, size, shorter)) (omega (arith, steps, shorter)) first free.1.2)
      | inr other ↦
          let c = byte.0 in
          let before = byte.1 in
          let same : other.0 ≡ c = same_head other.0 c other.1 before (sym other.2 ∙ byte.2) in
          let rest : other.1 ≡ before = same_rest other.0 c other.1 before (sym other.2 ∙ byte.2) in
          let within : Bytes (c ∷ before) = subst (λ (l : List ℕ). Bytes l) byte.2 bytes in
          let small : c < 2 ^ 8 = All-head (λ b. b < 2 ^ 8) c before within in
          let all : Bytes before = All-tail (λ b. b < 2 ^ 8) c before within in
          let less : length past ≡ suc (length before) = ap length byte.2 in
          elim byte.3 [
            | inl took ↦ elim other.3 [
              | inl took_too ↦
                  let shorter = source_shorter (e ∷ s) took.1.0 took.1.1 in
                  let shorter_too = source_shorter (f ∷ t) took_too.1.0 took_too.1.1 in
                  share_by n (e ∷ s) (f ∷ t) c took.1.0 took_too.1.0 small (took_there c e s took.1.0 took.0 took.1.1)
                  (took_there c f t took_too.1.0 (subst (λ b. takes f b ≡ true) same took_too.0) took_too.1.1)
                  (shared-complete k n took.1.0 took_too.1.0 before (source_fine (e ∷ s) took.1.0 took.1.1 one) (source_fine (f ∷ t) took_too.1.0 took_too.1.1 two) all
                  (omega (arith, size, shorter, shorter_too, less)) (omega (arith, steps, shorter, shorter_too)) took.1.2
                  (subst (λ (l : List ℕ). reads took_too.1.0 l ≡ true) rest took_too.1.2))
              | inr over ↦
                  let shorter = source_shorter (e ∷ s) took.1.0 took.1.1 in
                  share_by n (e ∷ s) (f ∷ t) c took.1.0 (f ∷ t) small (took_there c e s took.1.0 took.0 took.1.1)
                  (over_there c f t (subst (λ b. goes_over f b ≡ true) same over.0))
                  (shared-complete k n took.1.0 (f ∷ t) before (source_fine (e ∷ s) took.1.0 took.1.1 one) two all (omega (arith, size, shorter, less)) (omega (arith, steps, shorter))
                  took.1.2 (subst (λ (l : List ℕ). reads (f ∷ t) l ≡ true) rest over.1))
            ]
            | inr over ↦ elim other.3 [
              | inl took ↦
                  let shorter = source_shorter (f ∷ t) took.1.0 took.1.1 in
                  share_by n (e ∷ s) (f ∷ t) c (e ∷ s) took.1.0 small (over_there c e s over.0)
                  (took_there c f t took.1.0 (subst (λ b. takes f b ≡ true) same took.0) took.1.1)
                  (shared-complete k n (e ∷ s) took.1.0 before one (source_fine (f ∷ t) took.1.0 took.1.1 two) all (omega (arith, size, shorter, less)) (omega (arith, steps, shorter))
                  over.1 (subst (λ (l : List ℕ). reads took.1.0 l ≡ true) rest took.1.2))
              | inr over_too ↦
                  shared-complete k (suc n) (e ∷ s) (f ∷ t) before one two all (omega (arith, size, less)) steps over.1
                  (subst (λ (l : List ℕ). reads (f ∷ t) l ≡ true) rest over_too.1)
            ]
          ]
    ]
  ]
    where
      same_head : (a b : ℕ) (xs ys : List ℕ) → a ∷ xs ≡ b ∷ ys → a ≡ b
      same_head a b xs ys is = cc

      same_rest : (a b : ℕ) (xs ys : List ℕ) → a ∷ xs ≡ b ∷ ys → xs ≡ ys
      same_rest a b xs ys is = cc
