-- What it takes to come into a state, and what it takes to read an element.
use Rattle.std.proofs.Common.{◌≡◌, ℕ, ◌<◌, ◌^◌, ◌==◌, Bool, true, false, ◌&&◌, not, ◌⊎◌, inl, inr, List, [], ◌∷◌, sym, ap, ◌∙◌, refl}
use Rattle.std.proofs.lemmas.Bool.{and_from, and_parts, false≢true, or_cases, or_left, or_right}
use Rattle.aa_bytes.specs.ByteSets.{has, is_inside}
use Rattle.aa_glob_syntax.specs.Elements.{Element, Single, Open, Comma, Close, Fault}
use Rattle.aa_glob_syntax.specs.Items.{Byte, Set, Star, DoubleStar, Group}
use Rattle.aa_glob.specs.Drawn.{Suits}
use Rattle.aa_glob_nfa.specs.Entries.{is_free, stays_at, takes_byte}
use Rattle.aa_glob_nfa.specs.declared.entry.Entry.{Entry}
use Rattle.aa_glob_pattern.specs.Reads.{element_behind, run_behind, Texts}

-- a run may be empty
empty_run : (test : ℕ → Bool) (before : Texts) (past : List ℕ) → before past ≡ true → run_behind test before past ≡ true
empty_run test before [] h = h
empty_run test before (c ∷ past) h = or_left (before (c ∷ past)) (test c && run_behind test before past) h

-- Where no byte is taken to come in, what is read before is read behind too.
pub free-behind : (e : Element) (entry : Entry) (before : Texts) (past : List ℕ) → Suits e entry → is_free entry ≡ true → before past ≡ true → element_behind e before past ≡ true
free-behind (Single (Byte b)) entry before past suits free h = absurd (false≢true (sym (ap is_free suits) ∙ free))
free-behind (Single (Set set)) entry before past suits free h = absurd (false≢true (sym suits.not_free ∙ free))
free-behind (Single Star) entry before past suits free h = empty_run is_inside before past h
free-behind (Single DoubleStar) entry before past suits free h = empty_run (λ c. not (c == 0)) before past h
free-behind (Single (Group first second others)) entry before past suits free h = absurd suits
free-behind Open entry before past suits free h = h
free-behind Comma entry before past suits free h = h
free-behind Close entry before past suits free h = h
free-behind (Fault error) entry before past suits free h = absurd suits

-- no byte is taken
takes_none : (entry other : Entry) (c : ℕ) → entry ≡ other → takes_byte other c ≡ false → takes_byte entry c ≡ true → ⊥
takes_none entry other c same none takes = false≢true (sym none ∙ sym (ap (λ x. takes_byte x c) same) ∙ takes)

-- Where a byte is taken to come in, it is read behind what is read before.
pub takes-behind : (e : Element) (entry : Entry) (before : Texts) (past : List ℕ) (c : ℕ) → Suits e entry → c < 2 ^ 8 → takes_byte entry c ≡ true → before past ≡ true → element_behind e before (c ∷ past) ≡ true
takes-behind (Single (Byte b)) entry before past c suits byte takes h = and_from (c == b) (before past) (sym (ap (λ x. takes_byte x c) suits) ∙ takes) h
takes-behind (Single (Set set)) entry before past c suits byte takes h = and_from (has set c) (before past) (sym (suits.bytes c byte) ∙ takes) h
takes-behind (Single Star) entry before past c suits byte takes h = absurd (takes_none entry _ c suits refl takes)
takes-behind (Single DoubleStar) entry before past c suits byte takes h = absurd (takes_none entry _ c suits refl takes)
takes-behind (Single (Group first second others)) entry before past c suits byte takes h = absurd suits
takes-behind Open entry before past c suits byte takes h = absurd (takes_none entry _ c suits refl takes)
takes-behind Comma entry before past c suits byte takes h = absurd (takes_none entry _ c suits refl takes)
takes-behind Close entry before past c suits byte takes h = absurd (takes_none entry _ c suits refl takes)
takes-behind (Fault error) entry before past c suits byte takes h = absurd suits

-- no byte leaves the state as it is
stays_never : (entry other : Entry) (c : ℕ) → entry ≡ other → stays_at other c ≡ false → stays_at entry c ≡ true → ⊥
stays_never entry other c same never stays = false≢true (sym never ∙ sym (ap (λ x. stays_at x c) same) ∙ stays)

-- one more byte of a run
longer_run : (test : ℕ → Bool) (before : Texts) (past : List ℕ) (c : ℕ) → test c ≡ true → run_behind test before past ≡ true → run_behind test before (c ∷ past) ≡ true
longer_run test before past c one h = or_right (before (c ∷ past)) (test c && run_behind test before past) (and_from (test c) (run_behind test before past) one h)

-- Where a byte leaves a state as it is, it is read behind what reads the element.
pub stays-behind : (e : Element) (entry : Entry) (before : Texts) (past : List ℕ) (c : ℕ) → Suits e entry → stays_at entry c ≡ true → element_behind e before past ≡ true → element_behind e before (c ∷ past) ≡ true
stays-behind (Single (Byte b)) entry before past c suits stays h = absurd (stays_never entry _ c suits refl stays)
stays-behind (Single (Set set)) entry before past c suits stays h = absurd (false≢true (sym (suits.not_staying c) ∙ stays))
stays-behind (Single Star) entry before past c suits stays h = longer_run is_inside before past c (sym (ap (λ x. stays_at x c) suits) ∙ stays) h
stays-behind (Single DoubleStar) entry before past c suits stays h = longer_run (λ b. not (b == 0)) before past c (sym (ap (λ x. stays_at x c) suits) ∙ stays) h
stays-behind (Single (Group first second others)) entry before past c suits stays h = absurd suits
stays-behind Open entry before past c suits stays h = absurd (stays_never entry _ c suits refl stays)
stays-behind Comma entry before past c suits stays h = absurd (stays_never entry _ c suits refl stays)
stays-behind Close entry before past c suits stays h = absurd (stays_never entry _ c suits refl stays)
stays-behind (Fault error) entry before past c suits stays h = absurd suits

-- how a text that reads an element behind what is read before comes into the element's state
abbrev pub Arrives : Element → Entry → Texts → List ℕ → Type 0
Arrives e entry before [] = (is_free entry ≡ true) × (before [] ≡ true)
Arrives e entry before (c ∷ past) =
    (is_free entry ≡ true) × (before (c ∷ past) ≡ true)
    ⊎ ((takes_byte entry c ≡ true) × (before past ≡ true) ⊎ (stays_at entry c ≡ true) × (element_behind e before past ≡ true))

-- the last byte of a text is a byte
abbrev pub EndsWithByte : List ℕ → Type 0
EndsWithByte [] = Unit
EndsWithByte (c ∷ past) = c < 2 ^ 8

-- no byte is taken
arrives-free : (e : Element) (entry : Entry) (before : Texts) (past : List ℕ) → is_free entry ≡ true → before past ≡ true → Arrives e entry before past
arrives-free e entry before [] free h = (free, h)
arrives-free e entry before (c ∷ past) free h = inl (free, h)

-- What reads an element behind what is read before comes into the element's state.
pub arrives : (e : Element) (entry : Entry) (before : Texts) (past : List ℕ) → Suits e entry → EndsWithByte past → element_behind e before past ≡ true → Arrives e entry before past
arrives (Single (Byte b)) entry before [] suits byte h = absurd (false≢true h)
arrives (Single (Byte b)) entry before (c ∷ past) suits byte h = let parts = and_parts (c == b) (before past) h in inr (inl (ap (λ x. takes_byte x c) suits ∙ parts.0, parts.1))
arrives (Single (Set set)) entry before [] suits byte h = absurd (false≢true h)
arrives (Single (Set set)) entry before (c ∷ past) suits byte h = let parts = and_parts (has set c) (before past) h in inr (inl (suits.bytes c byte ∙ parts.0, parts.1))
arrives (Single Star) entry before [] suits byte h = (ap is_free suits, h)
arrives (Single Star) entry before (c ∷ past) suits byte h = elim (or_cases (before (c ∷ past)) (is_inside c && run_behind is_inside before past) h) [
  | inl none ↦ inl (ap is_free suits, none)
  | inr more ↦ let parts = and_parts (is_inside c) (run_behind is_inside before past) more in inr (inr (ap (λ x. stays_at x c) suits ∙ parts.0, parts.1))
]
arrives (Single DoubleStar) entry before [] suits byte h = (ap is_free suits, h)
arrives (Single DoubleStar) entry before (c ∷ past) suits byte h = elim (or_cases (before (c ∷ past)) (not (c == 0) && run_behind (λ b. not (b == 0)) before past) h) [
  | inl none ↦ inl (ap is_free suits, none)
  | inr more ↦ let parts = and_parts (not (c == 0)) (run_behind (λ b. not (b == 0)) before past) more in inr (inr (ap (λ x. stays_at x c) suits ∙ parts.0, parts.1))
]
arrives (Single (Group first second others)) entry before past suits byte h = absurd suits
arrives Open entry before past suits byte h = arrives-free Open entry before past (ap is_free suits) h
arrives Comma entry before past suits byte h = arrives-free Comma entry before past (ap is_free suits) h
arrives Close entry before past suits byte h = arrives-free Close entry before past (ap is_free suits) h
arrives (Fault error) entry before past suits byte h = absurd suits
