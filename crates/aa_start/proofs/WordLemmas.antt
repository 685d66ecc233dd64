-- What the walk of `clap` makes of any word is what the word tells.
use Rattle.std.proofs.Common.{◌≡◌, inl, inr, ◌∙◌, ◌≤◌, ◌+◌, ℕ, Bool, true, false, List, [], ◌∷◌, length, Option, Some, None, refl, sym, eqb, subst, true≢false, arith, codes}
use Rattle.std.specs.Prelude.{slice_get, is_some}
use Rattle.std.specs.Str.{bytes_eq, chars}
use Rattle.std.proofs.lemmas.Bool.Decides.{eqb_tells}
use Rattle.aa_start.specs.Lines.{Reads, TakesValue}
use Rattle.aa_start.specs.Options.{Asked, ForHelp, ForThis, ForVersion, Nothing, Open, Options, Settled, SoFar, ValueNext, by_letters, by_name_effect, by_word, is_option}
use Rattle.aa_start.specs.Parsing.{AreBad}
use Rattle.aa_start.proofs.WalkLemmas.{Idle, IsTaken, OfValue, OfWords, Reading, held_at, held_open, no_letters, no_letters_fault, pending_next, rows_at, rows_next, rows_worded, same_id, size, size_next, state_at, state_open, taken_plain, taken_short, top}
use Rattle.aa_start.proofs.OptionLemmas.{OptionTo, Stops, all_letters, first_alone, letters_open, long_open, long_to}
use Rattle.clap.specs.Lexer.{usize_max, long_of, name_and_value, short_of}
use Rattle.clap.specs.Words.{App, Row, Rule, Shape, Text}
use Rattle.clap.specs.Faults.{flags_fault, long_fault, turn_fault}
use Rattle.clap.specs.Walk.{Held, Outcome, Walk, arg_by_long, bundle_met, done, idle, long_met, option, plain, refused, used, waits, walked}
use Rattle.clap.specs.Kinds.{Kinds}
use Rattle.clap.specs.declared.error.kind.ErrorKind.{ErrorKind}
use Rattle.clap.specs.declared.error.kind.ErrorKind.TheVariants as kind

-- what settles what is asked for has one kind
pub stops_one : {A : Type 0} (a : Asked A) (kinds : Kinds) → Stops a kinds → (k : ErrorKind) × (kinds ≡ k ∷ [])
stops_one (ForThis thing) kinds h = absurd h
stops_one ForHelp kinds h = (kind.DisplayHelp, h)
stops_one ForVersion kinds h = (kind.DisplayVersion, h)
stops_one Nothing kinds h = (h.0, h.1)

-- where the walk stands behind an option
abbrev state_behind : Held → Outcome → Walk
state_behind h (waits id) = record { held = h; waiting = option id; position = 1; is_trailing = false; stopped = None }
state_behind h _ = record { held = h; waiting = idle; position = 1; is_trailing = false; stopped = None }

-- an option that is done, or waits for a value
abbrev IsRead : Outcome → Type 0
IsRead done = Unit {0}
IsRead (waits id) = Unit {0}
IsRead other = ⊥

module _ {A : Type 0} (options : Options A) (line : App) (Shows : A → List Row → Type 0) (reads : Reads options line Shows) where
  abbrev The : Type 0
  The = Reading options line Shows reads

  abbrev shape : Shape
  shape = top options line Shows reads

  abbrev rules : List Rule
  rules = shape.rules

  abbrev at : List Row → The → Held
  at = held_at options line Shows reads

  abbrev open_at : Rule → List Row → Held
  open_at = held_open options line Shows reads

  abbrev between : Bool → List Row → The → Walk
  between = state_at options line Shows reads

  abbrev open_between : Bool → Rule → List Row → Walk
  open_between = state_open options line Shows reads

  abbrev behind : List Row → The → List Row
  behind = rows_at options line Shows reads

  abbrev many : The → ℕ
  many = size options line Shows reads

  abbrev To : SoFar A → Kinds → Held × Outcome → Type 0
  To = OptionTo options line Shows reads

  -- ---- an option that the walk takes, or that is at fault

  long_turn : (rows : List Row) (p : The) (word name : Text) (v : Option Text) (k : ErrorKind) → bytes_eq word (codes "--") ≡ false → long_of word ≡ Some (name, v)
      → long_fault rules true (arg_by_long rules name) v (at rows p) ≡ k ∷ [] → turn_fault shape [] (between false rows p) word ≡ k ∷ []
  long_turn rows Idle word name v k d l f = let again = reads.again in rw (again, d, l, f) refl
  long_turn rows (OfWords n ns) word name v k d l f = let again = reads.again in rw (again, d, l, f) refl
  long_turn rows (OfValue r t value) word name v k d l f = let again = reads.again in rw (again, d, l, f) refl

  short_turn : (rows : List Row) (p : The) (word flags : Text) (k : ErrorKind) → bytes_eq word (codes "--") ≡ false → long_of word ≡ None → short_of word ≡ Some flags
      → flags_fault rules true (length flags) flags 0 (at rows p) ≡ k ∷ [] → turn_fault shape [] (between false rows p) word ≡ k ∷ []
  short_turn rows Idle word flags k d l s f = let again = reads.again in rw (again, d, l, s, f) refl
  short_turn rows (OfWords n ns) word flags k d l s f = let again = reads.again in rw (again, d, l, s, f) refl
  short_turn rows (OfValue r t value) word flags k d l s f = let again = reads.again in rw (again, d, l, s, f) refl

  letters_walked : (rows : List Row) (p : The) (word flags : Text) (h : Held) (o : Outcome) → IsRead o → bytes_eq word (codes "--") ≡ false → long_of word ≡ None
      → short_of word ≡ Some flags → bundle_met rules (length flags) flags 0 plain (at rows p) ≡ (h, o)
      → walked rules [] (between false rows p) word ≡ state_behind h o
  unfolding walked
  letters_walked rows Idle word flags h done a d l s b = rw (d, l, s, b) refl
  letters_walked rows Idle word flags h (waits id) a d l s b = rw (d, l, s, b) refl
  letters_walked rows (OfWords n ns) word flags h done a d l s b = rw (d, l, s, b) refl
  letters_walked rows (OfWords n ns) word flags h (waits id) a d l s b = rw (d, l, s, b) refl
  letters_walked rows (OfValue r t value) word flags h done a d l s b = rw (d, l, s, b) refl
  letters_walked rows (OfValue r t value) word flags h (waits id) a d l s b = rw (d, l, s, b) refl
  letters_walked rows p word flags h plain a d l s b = absurd a
  letters_walked rows p word flags h refused a d l s b = absurd a

  letters_pass : (rows : List Row) (p : The) (word flags : Text) (h : Held) (o : Outcome) → IsRead o → bytes_eq word (codes "--") ≡ false → long_of word ≡ None
      → short_of word ≡ Some flags → bundle_met rules (length flags) flags 0 plain (at rows p) ≡ (h, o)
      → flags_fault rules true (length flags) flags 0 (at rows p) ≡ [] → turn_fault shape [] (between false rows p) word ≡ []
  letters_pass rows Idle word flags h done a d l s b f = let again = reads.again in rw (again, d, l, s, f, b) refl
  letters_pass rows Idle word flags h (waits id) a d l s b f = let again = reads.again in rw (again, d, l, s, f, b) refl
  letters_pass rows (OfWords n ns) word flags h done a d l s b f = let again = reads.again in rw (again, d, l, s, f, b) refl
  letters_pass rows (OfWords n ns) word flags h (waits id) a d l s b f = let again = reads.again in rw (again, d, l, s, f, b) refl
  letters_pass rows (OfValue r t value) word flags h done a d l s b f = let again = reads.again in rw (again, d, l, s, f, b) refl
  letters_pass rows (OfValue r t value) word flags h (waits id) a d l s b f = let again = reads.again in rw (again, d, l, s, f, b) refl
  letters_pass rows p word flags h plain a d l s b f = absurd a
  letters_pass rows p word flags h refused a d l s b f = absurd a

  long_walked : (rows : List Row) (p : The) (word name : Text) (v : Option Text) (h : Held) (o : Outcome) → IsRead o → bytes_eq word (codes "--") ≡ false
      → long_of word ≡ Some (name, v) → long_met rules (arg_by_long rules name) v (at rows p) ≡ (h, o)
      → walked rules [] (between false rows p) word ≡ state_behind h o
  unfolding walked
  long_walked rows Idle word name v h done a d l b = rw (d, l, b) refl
  long_walked rows Idle word name v h (waits id) a d l b = rw (d, l, b) refl
  long_walked rows (OfWords n ns) word name v h done a d l b = rw (d, l, b) refl
  long_walked rows (OfWords n ns) word name v h (waits id) a d l b = rw (d, l, b) refl
  long_walked rows (OfValue r t value) word name v h done a d l b = rw (d, l, b) refl
  long_walked rows (OfValue r t value) word name v h (waits id) a d l b = rw (d, l, b) refl
  long_walked rows p word name v h plain a d l b = absurd a
  long_walked rows p word name v h refused a d l b = absurd a

  long_pass : (rows : List Row) (p : The) (word name : Text) (v : Option Text) (h : Held) (o : Outcome) → IsRead o → bytes_eq word (codes "--") ≡ false
      → long_of word ≡ Some (name, v) → long_met rules (arg_by_long rules name) v (at rows p) ≡ (h, o)
      → long_fault rules true (arg_by_long rules name) v (at rows p) ≡ [] → turn_fault shape [] (between false rows p) word ≡ []
  long_pass rows Idle word name v h done a d l b f = let again = reads.again in rw (again, d, l, f, b) refl
  long_pass rows Idle word name v h (waits id) a d l b f = let again = reads.again in rw (again, d, l, f, b) refl
  long_pass rows (OfWords n ns) word name v h done a d l b f = let again = reads.again in rw (again, d, l, f, b) refl
  long_pass rows (OfWords n ns) word name v h (waits id) a d l b f = let again = reads.again in rw (again, d, l, f, b) refl
  long_pass rows (OfValue r t value) word name v h done a d l b f = let again = reads.again in rw (again, d, l, f, b) refl
  long_pass rows (OfValue r t value) word name v h (waits id) a d l b f = let again = reads.again in rw (again, d, l, f, b) refl
  long_pass rows p word name v h plain a d l b f = absurd a
  long_pass rows p word name v h refused a d l b f = absurd a

  -- ---- each word in the place of any

  -- the walk makes of a word what the word tells
  abbrev pub WordTo : SoFar A → Walk → Text → ℕ → Type 0
  WordTo (Open given) w word m = (turn_fault shape [] w word ≡ [])
      × ((rows : List Row) × (p : The) × (walked rules [] w word ≡ between false rows p) × Shows given (behind rows p) × (many p ≤ m))
  WordTo (ValueNext given) w word m = (turn_fault shape [] w word ≡ [])
      × ((rows : List Row) × (r : Rule) × TakesValue rules reads.words r × (walked rules [] w word ≡ open_between false r rows)
      × ((value : Text) → Shows (given value) (used r (value ∷ []) rows)))
  WordTo (Settled asked) w word m = Stops asked (turn_fault shape [] w word)

  pub word_taken : (rows : List Row) (p : The) (word : Text) (given : A) (m : ℕ) → Shows given (behind rows p) → many p ≤ m
      → IsTaken options line Shows reads false rows p word → WordTo (Open (options.with_words (word ∷ []) given)) (between false rows p) word (m + 1)
  word_taken rows p word given m shows fits taken = (
    taken.1,
    (
      rows_next options line Shows reads rows p,
      pending_next options line Shows reads p word,
      taken.0,
      subst (Shows (options.with_words (word ∷ []) given)) (sym (rows_worded options line Shows reads rows p word)) (reads.shows_word word given (behind rows p) shows),
      size_next options line Shows reads p word m fits,
    ),
  )

  long_word : (t : SoFar A) (rows : List Row) (p : The) (word name : Text) (v : Option Text) (m : ℕ) → bytes_eq word (codes "--") ≡ false
      → long_of word ≡ Some (name, v) → To t (long_fault rules true (arg_by_long rules name) v (at rows p)) (long_met rules (arg_by_long rules name) v (at rows p))
      → WordTo t (between false rows p) word m
  long_word (Open given) rows p word name v m d l to = (
    long_pass rows p word name v (at to.1.0 Idle) done tt d l to.1.1 to.0,
    (to.1.0, Idle, long_walked rows p word name v (at to.1.0 Idle) done tt d l to.1.1, to.1.2, omega arith),
  )
  long_word (ValueNext given) rows p word name v m d l to = (
    long_pass rows p word name v (open_at to.1.1 to.1.0) (waits to.1.1.id) tt d l to.1.3 to.0,
    (to.1.0, to.1.1, to.1.2, long_walked rows p word name v (open_at to.1.1 to.1.0) (waits to.1.1.id) tt d l to.1.3, to.1.4),
  )
  long_word (Settled a) rows p word name v m d l to =
      let one = stops_one a (long_fault rules true (arg_by_long rules name) v (at rows p)) to in
      subst (Stops a) (one.1 ∙ sym (long_turn rows p word name v one.0 d l one.1)) to

  letters_word : (t : SoFar A) (rows : List Row) (p : The) (word flags : Text) (m : ℕ) → bytes_eq word (codes "--") ≡ false → long_of word ≡ None → short_of word ≡ Some flags
      → (x : ℕ) → slice_get (chars flags) 0 ≡ Some x
      → To t (flags_fault rules true (length flags) flags 0 (at rows p)) (bundle_met rules (length flags) flags 0 done (at rows p))
      → WordTo t (between false rows p) word m
  letters_word (Open given) rows p word flags m d l s x e to =
      let met = first_alone options line Shows reads flags x plain (at rows p) e ∙ to.1.1 in (
        letters_pass rows p word flags (at to.1.0 Idle) done tt d l s met to.0,
        (to.1.0, Idle, letters_walked rows p word flags (at to.1.0 Idle) done tt d l s met, to.1.2, omega arith),
      )
  letters_word (ValueNext given) rows p word flags m d l s x e to =
      let met = first_alone options line Shows reads flags x plain (at rows p) e ∙ to.1.3 in (
        letters_pass rows p word flags (open_at to.1.1 to.1.0) (waits to.1.1.id) tt d l s met to.0,
        (to.1.0, to.1.1, to.1.2, letters_walked rows p word flags (open_at to.1.1 to.1.0) (waits to.1.1.id) tt d l s met, to.1.4),
      )
  letters_word (Settled a) rows p word flags m d l s x e to =
      let one = stops_one a (flags_fault rules true (length flags) flags 0 (at rows p)) to in
      subst (Stops a) (one.1 ∙ sym (short_turn rows p word flags one.0 d l s one.1)) to

  -- the walk makes of any word what the word tells
  abbrev IsMet : List Row → The → A → ℕ → Text → Type 0
  IsMet rows p given m word = WordTo (by_word options word given) (between false rows p) word (m + 1)

  met_long : (rows : List Row) (p : The) (given : A) (m d : ℕ) (ds : List ℕ) → Shows given (behind rows p) → many p ≤ usize_max → IsMet rows p given m (45 ∷ 45 ∷ d ∷ ds)
  unfolding chars
  met_long rows p given m d ds shows fits =
      let named = name_and_value (d ∷ ds) in
      long_word (by_name_effect (options.by_name named.0) named.1 given) rows p (45 ∷ 45 ∷ d ∷ ds) named.0 named.1 (m + 1) refl refl
      (long_to options line Shows reads named.0 named.1 given rows p shows fits)

  met_short : (rows : List Row) (p : The) (given : A) (m c : ℕ) (cs : List ℕ) → m ≤ usize_max → Shows given (behind rows p) → many p ≤ m → eqb c 45 ≡ false
      → IsMet rows p given m (45 ∷ c ∷ cs)
  met_short rows p given m c cs most shows fits other =
      let dashes : bytes_eq (45 ∷ c ∷ cs) (codes "--") ≡ false = rw other refl in
      let long : long_of (45 ∷ c ∷ cs) ≡ None = rw other refl in
      let short : short_of (45 ∷ c ∷ cs) ≡ Some (c ∷ cs) = rw other refl in
      by (slice_get (chars (c ∷ cs)) 0) refl dashes long short
    where
      by : (letter : Option ℕ) → slice_get (chars (c ∷ cs)) 0 ≡ letter → bytes_eq (45 ∷ c ∷ cs) (codes "--") ≡ false → long_of (45 ∷ c ∷ cs) ≡ None
          → short_of (45 ∷ c ∷ cs) ≡ Some (c ∷ cs) → IsMet rows p given m (45 ∷ c ∷ cs)
      by None e dashes long short =
          rw e (word_taken rows p (45 ∷ c ∷ cs) given m shows fits (taken_short options line Shows reads rows p (45 ∷ c ∷ cs) (c ∷ cs) dashes long short e))
      by (Some x) e dashes long short =
          let by_its_letters : by_word options (45 ∷ c ∷ cs) given ≡ by_letters options (c ∷ cs) given = rw (e, other) refl in
          subst (λ (t : SoFar A). WordTo t (between false rows p) (45 ∷ c ∷ cs) (m + 1)) (sym by_its_letters)
          (letters_word (by_letters options (c ∷ cs) given) rows p (45 ∷ c ∷ cs) (c ∷ cs) (m + 1) dashes long short x e
          (all_letters options line Shows reads c cs x given rows p e shows (omega (arith, fits, most))))

  pub met : (rows : List Row) (p : The) (given : A) (m : ℕ) (word : Text) → m ≤ usize_max → Shows given (behind rows p) → many p ≤ m
      → bytes_eq word (codes "--") ≡ false → IsMet rows p given m word
  unfolding chars
  met rows p given m [] most shows fits d = word_taken rows p [] given m shows fits (taken_plain options line Shows reads rows p [] refl refl refl)
  met rows p given m (b ∷ rest) most shows fits d = elim (eqb_tells b 45) [
    | inl h ↦ subst (λ n. IsMet rows p given m (n ∷ rest)) (sym h.1) (hyphen rest (rw h.0 at d))
    | inr h ↦ rw h.0 (word_taken rows p (b ∷ rest) given m shows fits (taken_plain options line Shows reads rows p (b ∷ rest) d (rw h.0 refl) (rw h.0 refl)))
  ]
    where
      double : (cs : List ℕ) → bytes_eq cs [] ≡ false → IsMet rows p given m (45 ∷ 45 ∷ cs)
      double [] d = absurd (true≢false d)
      double (e ∷ es) d = met_long rows p given m e es shows (omega (arith, fits, most))

      hyphen : (rest : List ℕ) → bytes_eq rest (45 ∷ []) ≡ false → IsMet rows p given m (45 ∷ rest)
      hyphen [] d = word_taken rows p (45 ∷ []) given m shows fits (taken_plain options line Shows reads rows p (45 ∷ []) refl refl refl)
      hyphen (c ∷ cs) d = elim (eqb_tells c 45) [
        | inl h ↦ subst (λ n. IsMet rows p given m (45 ∷ n ∷ cs)) (sym h.1) (double cs (rw h.0 at d))
        | inr h ↦ met_short rows p given m c cs most shows fits h.0
      ]

  -- ---- a word in the place of a value

  -- the walk takes the word as the value
  abbrev IsValue : (r : Rule) → TakesValue rules reads.words r → List Row → Text → Type 0
  IsValue r t rows word = (turn_fault shape [] (open_between false r rows) word ≡ []) × (walked rules [] (open_between false r rows) word ≡ between false rows (OfValue r t word))

  value_plain : (r : Rule) (t : TakesValue rules reads.words r) (rows : List Row) (word : Text) → bytes_eq word (codes "--") ≡ false → long_of word ≡ None
      → short_of word ≡ None → IsValue r t rows word
  unfolding walked
  value_plain r t rows word d l s =
      let found = t.found in
      let same = same_id r.id in
      let most = t.most in
      (rw (d, l, s) refl, rw (d, l, s, found, same, most) refl)

  value_short : (r : Rule) (t : TakesValue rules reads.words r) (rows : List Row) (word flags : Text) → bytes_eq word (codes "--") ≡ false → long_of word ≡ None
      → short_of word ≡ Some flags → slice_get (chars flags) 0 ≡ None → IsValue r t rows word
  unfolding walked
  value_short r t rows word flags d l s x =
      let met = no_letters options line Shows reads flags (open_at r rows) plain x in
      let none = no_letters_fault options line Shows reads flags (open_at r rows) x in
      let again = reads.again in
      let found = t.found in
      let same = same_id r.id in
      let most = t.most in
      (rw (again, d, l, s, none, met) refl, rw (d, l, s, met, found, same, most) refl)

  -- an option in the place of the value is at fault
  value_long_turn : (r : Rule) (rows : List Row) (word name : Text) (v : Option Text) (k : ErrorKind) → bytes_eq word (codes "--") ≡ false → long_of word ≡ Some (name, v)
      → long_fault rules true (arg_by_long rules name) v (open_at r rows) ≡ k ∷ [] → turn_fault shape [] (open_between false r rows) word ≡ k ∷ []
  value_long_turn r rows word name v k d l f = let again = reads.again in rw (again, d, l, f) refl

  value_short_turn : (r : Rule) (rows : List Row) (word flags : Text) (k : ErrorKind) → bytes_eq word (codes "--") ≡ false → long_of word ≡ None
      → short_of word ≡ Some flags → flags_fault rules true (length flags) flags 0 (open_at r rows) ≡ k ∷ []
      → turn_fault shape [] (open_between false r rows) word ≡ k ∷ []
  value_short_turn r rows word flags k d l s f = let again = reads.again in rw (again, d, l, s, f) refl

  -- What a word in the place of a value is: the value where it is no option, and a fault where it is one.
  abbrev pub IsMetOpen : (r : Rule) → TakesValue rules reads.words r → List Row → Text → Type 0
  IsMetOpen r t rows word = (is_option word ≡ false → IsValue r t rows word)
      × (is_option word ≡ true → bytes_eq word (codes "--") ≡ false → AreBad (turn_fault shape [] (open_between false r rows) word))

  open_long : (r : Rule) (t : TakesValue rules reads.words r) (rows : List Row) (d : ℕ) (ds : List ℕ) → IsMetOpen r t rows (45 ∷ 45 ∷ d ∷ ds)
  unfolding chars
  open_long r t rows d ds = (λ h. absurd (letter (d ∷ ds) h), λ _ _. fault)
    where
      letter : (ds : List ℕ) → is_some (slice_get (chars (45 ∷ ds)) 0) ≡ false → ⊥
      letter [] h = cc
      letter (d ∷ ds) h = cc

      fault : AreBad (turn_fault shape [] (open_between false r rows) (45 ∷ 45 ∷ d ∷ ds))
      fault =
          let named = name_and_value (d ∷ ds) in
          let bad = long_open options line Shows reads r t named.0 named.1 rows in
          let turn = value_long_turn r rows (45 ∷ 45 ∷ d ∷ ds) named.0 named.1 bad.0 refl refl bad.1 in
          subst AreBad (bad.1 ∙ sym turn) bad

  open_short : (r : Rule) (t : TakesValue rules reads.words r) (rows : List Row) (c : ℕ) (cs : List ℕ) → eqb c 45 ≡ false → IsMetOpen r t rows (45 ∷ c ∷ cs)
  open_short r t rows c cs other =
      let dashes : bytes_eq (45 ∷ c ∷ cs) (codes "--") ≡ false = rw other refl in
      let long : long_of (45 ∷ c ∷ cs) ≡ None = rw other refl in
      let short : short_of (45 ∷ c ∷ cs) ≡ Some (c ∷ cs) = rw other refl in
      by (slice_get (chars (c ∷ cs)) 0) refl dashes long short
    where
      by : (letter : Option ℕ) → slice_get (chars (c ∷ cs)) 0 ≡ letter → bytes_eq (45 ∷ c ∷ cs) (codes "--") ≡ false → long_of (45 ∷ c ∷ cs) ≡ None
          → short_of (45 ∷ c ∷ cs) ≡ Some (c ∷ cs) → IsMetOpen r t rows (45 ∷ c ∷ cs)
      by None e dashes long short = ((λ _. value_short r t rows (45 ∷ c ∷ cs) (c ∷ cs) dashes long short e), rw e (λ h. cc))
      by (Some x) e dashes long short = (rw e (λ h. cc), λ _ _. fault)
        where
          fault : AreBad (turn_fault shape [] (open_between false r rows) (45 ∷ c ∷ cs))
          fault =
              let bad = letters_open options line Shows reads r t (c ∷ cs) x rows e in
              subst AreBad (bad.1 ∙ sym (value_short_turn r rows (45 ∷ c ∷ cs) (c ∷ cs) bad.0 dashes long short bad.1)) bad

  pub met_open : (r : Rule) (t : TakesValue rules reads.words r) (rows : List Row) (word : Text) → IsMetOpen r t rows word
  unfolding chars
  met_open r t rows [] = ((λ _. value_plain r t rows [] refl refl refl), λ h. cc)
  met_open r t rows (b ∷ rest) = elim (eqb_tells b 45) [
    | inl h ↦ subst (λ n. IsMetOpen r t rows (n ∷ rest)) (sym h.1) (hyphen rest)
    | inr h ↦ (
      λ _. value_plain r t rows (b ∷ rest) (rw h.0 refl) (rw h.0 refl) (rw h.0 refl),
      rw h.0 (λ x. cc),
    )
  ]
    where
      double : (cs : List ℕ) → IsMetOpen r t rows (45 ∷ 45 ∷ cs)
      double [] = ((λ h. cc), λ h d. absurd (true≢false d))
      double (e ∷ es) = open_long r t rows e es

      hyphen : (rest : List ℕ) → IsMetOpen r t rows (45 ∷ rest)
      hyphen [] = ((λ _. value_plain r t rows (45 ∷ []) refl refl refl), λ h. cc)
      hyphen (c ∷ cs) = elim (eqb_tells c 45) [
        | inl h ↦ subst (λ n. IsMetOpen r t rows (45 ∷ n ∷ cs)) (sym h.1) (double cs)
        | inr h ↦ open_short r t rows c cs h.0
      ]

  pub open_dashes : (r : Rule) (rows : List Row) → (turn_fault shape [] (open_between false r rows) (codes "--") ≡ [])
      × (walked rules [] (open_between false r rows) (codes "--") ≡ open_between true r rows)
  unfolding walked
  open_dashes r rows = (refl, refl)

  -- behind `--` no word is a value
  pub open_trailing : (r : Rule) (t : TakesValue rules reads.words r) (rows : List Row) (word : Text)
      → turn_fault shape [] (open_between true r rows) word ≡ kind.InvalidValue ∷ []
  open_trailing r t rows word =
      let placed = reads.placed in
      let other = t.other in
      let found = t.found in
      let again = reads.again in
      rw (placed, other, found, again) (t.none rows)
