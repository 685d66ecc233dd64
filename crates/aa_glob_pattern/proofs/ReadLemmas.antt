-- How a trail is read: freely, by its last byte, or by a star that goes on over it.
use Rattle.std.proofs.Common.{◌≡◌, ◌⊎◌, ℕ, ◌==◌, ◌&&◌, not, Bool, true, false, List, [], ◌∷◌, refl, sym, ◌∙◌, subst, inl, inr}
use Rattle.std.specs.Prelude.{Contains, if◌then◌else◌}
use Rattle.std.proofs.lemmas.Bool.{and_parts, or_cases, or_left, or_right}
use Rattle.std.proofs.lemmas.List.Elements.{Contains-append_cases}
use Rattle.aa_bytes.specs.ByteSets.{has, is_inside}
use Rattle.aa_glob_syntax.specs.Elements.{Element, Single, Open, Comma, Close, Fault}
use Rattle.aa_glob_syntax.specs.Items.{Byte, Set, Star, DoubleStar, Group}
use Rattle.aa_glob_pattern.specs.Laws.{SomeAreReadAsOneIs, TrailsAreReadBehindSources}
use Rattle.aa_glob_pattern.specs.Reads.{element_behind, reads, run_behind, some_reads}
use Rattle.aa_glob_pattern.specs.Shared.{back_freely, back_over, goes_over, is_free, is_start, takes}
use Rattle.aa_glob_pattern.specs.Trails.{sources, Trail}
use Rattle.aa_glob_pattern.proofs.TestLemmas.{alone, and_both, contains_if, is_off, nothing_there}

-- a trail of which a source is read by a text
abbrev pub ReadBefore : Trail → List ℕ → Type 0
ReadBefore trail past = (source : Trail) × Contains (sources trail) source × (reads source past ≡ true)

-- how a trail is read: freely, by the last byte, or by a star that goes on over it
abbrev pub Read : Element → Trail → List ℕ → Type 0
Read e trail past =
    ((is_free e ≡ true) × ReadBefore (e ∷ trail) past)
    ⊎ ((c : ℕ) × (before : List ℕ) × (past ≡ c ∷ before)
    × (((takes e c ≡ true) × ReadBefore (e ∷ trail) before) ⊎ ((goes_over e c ≡ true) × (reads (e ∷ trail) before ≡ true))))

-- an element that is no group as one item
abbrev pub IsNoGroup : Element → Type 0
IsNoGroup (Single (Group first second others)) = ⊥
IsNoGroup _ = Unit

abbrev pub HasNoGroup : Trail → Type 0
HasNoGroup [] = Unit
HasNoGroup (e ∷ trail) = IsNoGroup e × HasNoGroup trail

module _ (behind : TrailsAreReadBehindSources) (some : SomeAreReadAsOneIs) where
  before_of : (trail : Trail) (past : List ℕ) → some_reads (sources trail) past ≡ true → ReadBefore trail past
  before_of trail past h = (some (sources trail) past).0 h

  of_before : (trail : Trail) (past : List ℕ) → ReadBefore trail past → some_reads (sources trail) past ≡ true
  of_before trail past h = (some (sources trail) past).1 h

  -- a run of bytes behind the sources
  run_read : (e : Element) (trail : Trail) (test : ℕ → Bool) (past : List ℕ) → is_free e ≡ true → ((c : ℕ) → goes_over e c ≡ test c)
      → ((p : List ℕ) → reads (e ∷ trail) p ≡ run_behind test (some_reads (sources (e ∷ trail))) p) → reads (e ∷ trail) past ≡ true → Read e trail past
  run_read e trail test [] free over is h = inl (free, before_of (e ∷ trail) [] (sym (is []) ∙ h))
  run_read e trail test (c ∷ past) free over is h = elim (or_cases (some_reads (sources (e ∷ trail)) (c ∷ past)) (test c && run_behind test (some_reads (sources (e ∷ trail))) past) (sym (is (c ∷ past)) ∙ h)) [
    | inl before ↦ inl (free, before_of (e ∷ trail) (c ∷ past) before)
    | inr on ↦ let both = and_parts (test c) (run_behind test (some_reads (sources (e ∷ trail))) past) on in
        inr (c, past, refl, inr (over c ∙ both.0, is past ∙ both.1))
  ]

  abbrev one_before : Element → Trail → List ℕ → Bool
  one_before e trail [] = false
  one_before e trail (c ∷ past) = takes e c && some_reads (sources (e ∷ trail)) past

  one_read : (e : Element) (trail : Trail) (past : List ℕ) → ((p : List ℕ) → reads (e ∷ trail) p ≡ one_before e trail p) → reads (e ∷ trail) past ≡ true → Read e trail past
  one_read e trail [] is h = absurd (is_off (reads (e ∷ trail) []) (is []) h)
  one_read e trail (c ∷ past) is h =
      let both = and_parts (takes e c) (some_reads (sources (e ∷ trail)) past) (sym (is (c ∷ past)) ∙ h) in
      inr (c, past, refl, inl (both.0, before_of (e ∷ trail) past both.1))

  run_freely : (test : ℕ → Bool) (before : List ℕ → Bool) (past : List ℕ) {read : Bool} → read ≡ run_behind test before past → before past ≡ true → read ≡ true
  run_freely test before [] is h = is ∙ h
  run_freely test before (c ∷ past) is h = is ∙ or_left (before (c ∷ past)) (test c && run_behind test before past) h

  run_over : (test : ℕ → Bool) (before : List ℕ → Bool) (c : ℕ) (past : List ℕ) {read : Bool} → read ≡ run_behind test before (c ∷ past) → test c ≡ true
      → run_behind test before past ≡ true → read ≡ true
  run_over test before c past is passes h = is ∙ or_right (before (c ∷ past)) (test c && run_behind test before past) (and_both (test c) (run_behind test before past) passes h)

  at_past : (e : Element) (trail : Trail) (past : List ℕ) → reads (e ∷ trail) past ≡ element_behind e (some_reads (sources (e ∷ trail))) past
  at_past e trail past = behind e trail past

  pub read_of : (e : Element) (trail : Trail) (past : List ℕ) → IsNoGroup e → reads (e ∷ trail) past ≡ true → Read e trail past
  read_of (Single (Byte b)) trail past fine h = one_read (Single (Byte b)) trail past by h
    where
      by : (p : List ℕ) → reads (Single (Byte b) ∷ trail) p ≡ one_before (Single (Byte b)) trail p
      by [] = at_past (Single (Byte b)) trail []
      by (c ∷ p) = at_past (Single (Byte b)) trail (c ∷ p)
  read_of (Single (Set set)) trail past fine h = one_read (Single (Set set)) trail past by h
    where
      by : (p : List ℕ) → reads (Single (Set set) ∷ trail) p ≡ one_before (Single (Set set)) trail p
      by [] = at_past (Single (Set set)) trail []
      by (c ∷ p) = at_past (Single (Set set)) trail (c ∷ p)
  read_of (Single Star) trail past fine h = run_read (Single Star) trail is_inside past refl (λ c. refl) (at_past (Single Star) trail) h
  read_of (Single DoubleStar) trail past fine h = run_read (Single DoubleStar) trail (λ c. not (c == 0)) past refl (λ c. refl) (at_past (Single DoubleStar) trail) h
  read_of (Single (Group first second others)) trail past fine h = absurd fine
  read_of Open trail past fine h = inl (refl, before_of (Open ∷ trail) past (sym (at_past Open trail past) ∙ h))
  read_of Comma trail past fine h = inl (refl, before_of (Comma ∷ trail) past (sym (at_past Comma trail past) ∙ h))
  read_of Close trail past fine h = inl (refl, before_of (Close ∷ trail) past (sym (at_past Close trail past) ∙ h))
  read_of (Fault error) trail past fine h = absurd (is_off (reads (Fault error ∷ trail) past) (at_past (Fault error) trail past) h)

  -- back: freely
  pub reads_freely : (e : Element) (trail : Trail) (past : List ℕ) → is_free e ≡ true → ReadBefore (e ∷ trail) past → reads (e ∷ trail) past ≡ true
  reads_freely (Single (Byte b)) trail past free before = absurd (is_off false refl free)
  reads_freely (Single (Set set)) trail past free before = absurd (is_off false refl free)
  reads_freely (Single Star) trail past free before = run_freely is_inside (some_reads (sources (Single Star ∷ trail))) past (at_past (Single Star) trail past) (of_before (Single Star ∷ trail) past before)
  reads_freely (Single DoubleStar) trail past free before = run_freely (λ c. not (c == 0)) (some_reads (sources (Single DoubleStar ∷ trail))) past (at_past (Single DoubleStar) trail past) (of_before (Single DoubleStar ∷ trail) past before)
  reads_freely (Single (Group first second others)) trail past free before = absurd (is_off false refl free)
  reads_freely Open trail past free before = at_past Open trail past ∙ of_before (Open ∷ trail) past before
  reads_freely Comma trail past free before = at_past Comma trail past ∙ of_before (Comma ∷ trail) past before
  reads_freely Close trail past free before = at_past Close trail past ∙ of_before (Close ∷ trail) past before
  reads_freely (Fault error) trail past free before = absurd (is_off false refl free)

  -- back: by a byte
  pub reads_by : (e : Element) (trail : Trail) (c : ℕ) (past : List ℕ) → takes e c ≡ true → ReadBefore (e ∷ trail) past → reads (e ∷ trail) (c ∷ past) ≡ true
  reads_by (Single (Byte b)) trail c past took before = at_past (Single (Byte b)) trail (c ∷ past) ∙ and_both (c == b) (some_reads (sources (Single (Byte b) ∷ trail)) past) took (of_before (Single (Byte b) ∷ trail) past before)
  reads_by (Single (Set set)) trail c past took before = at_past (Single (Set set)) trail (c ∷ past) ∙ and_both (has set c) (some_reads (sources (Single (Set set) ∷ trail)) past) took (of_before (Single (Set set) ∷ trail) past before)
  reads_by (Single Star) trail c past took before = absurd (is_off false refl took)
  reads_by (Single DoubleStar) trail c past took before = absurd (is_off false refl took)
  reads_by (Single (Group first second others)) trail c past took before = absurd (is_off false refl took)
  reads_by Open trail c past took before = absurd (is_off false refl took)
  reads_by Comma trail c past took before = absurd (is_off false refl took)
  reads_by Close trail c past took before = absurd (is_off false refl took)
  reads_by (Fault error) trail c past took before = absurd (is_off false refl took)

  -- back: over a byte
  pub reads_over : (e : Element) (trail : Trail) (c : ℕ) (past : List ℕ) → goes_over e c ≡ true → reads (e ∷ trail) past ≡ true → reads (e ∷ trail) (c ∷ past) ≡ true
  reads_over (Single (Byte b)) trail c past on h = absurd (is_off false refl on)
  reads_over (Single (Set set)) trail c past on h = absurd (is_off false refl on)
  reads_over (Single Star) trail c past on h =
      run_over is_inside (some_reads (sources (Single Star ∷ trail))) c past (at_past (Single Star) trail (c ∷ past)) on (sym (at_past (Single Star) trail past) ∙ h)
  reads_over (Single DoubleStar) trail c past on h =
      run_over (λ c. not (c == 0)) (some_reads (sources (Single DoubleStar ∷ trail))) c past (at_past (Single DoubleStar) trail (c ∷ past)) on (sym (at_past (Single DoubleStar) trail past) ∙ h)
  reads_over (Single (Group first second others)) trail c past on h = absurd (is_off false refl on)
  reads_over Open trail c past on h = absurd (is_off false refl on)
  reads_over Comma trail c past on h = absurd (is_off false refl on)
  reads_over Close trail c past on h = absurd (is_off false refl on)
  reads_over (Fault error) trail c past on h = absurd (is_off false refl on)

  -- What a trail leads back to is read before it.
  pub free_back : (s source : Trail) (past : List ℕ) → Contains (back_freely s) source → reads source past ≡ true → reads s past ≡ true
  free_back [] source past h read = absurd (nothing_there source h)
  free_back (e ∷ s) source past h read =
      let at = contains_if (is_free e) (sources (e ∷ s)) source h in
      reads_freely e s past at.0 (source, at.1, read)

  pub over_back : (c : ℕ) (s source : Trail) (past : List ℕ) → Contains (back_over c s) source → reads source past ≡ true → reads s (c ∷ past) ≡ true
  over_back c [] source past h read = absurd (nothing_there source h)
  over_back c (e ∷ s) source past h read = elim (Contains-append_cases (if takes e c then sources (e ∷ s) else []) (if goes_over e c then (e ∷ s) ∷ [] else []) source h) [
    | inl took ↦ let at = contains_if (takes e c) (sources (e ∷ s)) source took in reads_by e s c past at.0 (source, at.1, read)
    | inr on ↦ let at = contains_if (goes_over e c) ((e ∷ s) ∷ []) source on in
        reads_over e s c past at.0 (subst (λ (t : Trail). reads t past ≡ true) (sym (alone (e ∷ s) source at.1)) read)
  ]

  pub start_read : (s : Trail) → is_start s ≡ true → reads s [] ≡ true
  start_read [] start = refl
  start_read (e ∷ s) start = absurd (is_off false refl start)
