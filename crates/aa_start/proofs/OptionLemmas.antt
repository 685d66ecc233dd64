-- What the walk of `clap` makes of an option.
use Rattle.std.proofs.Common.{◌≡◌, ◌≤◌, ℕ, Bool, true, false, List, [], ◌∷◌, length, Option, Some, None, refl, suc, arith}
use Rattle.std.specs.Prelude.{◌==◌, drop, slice_get}
use Rattle.std.specs.Char.{encode_utf8}
use Rattle.std.specs.Str.{chars}
use Rattle.aa_start.specs.Lines.{GoesOn, IsDoneBy, Reads, TakesValue}
use Rattle.aa_start.specs.Options.{Asked, Effect, Flag, ForHelp, ForThis, ForVersion, Help, Nothing, Open, Options, Settled, SoFar, Unknown, Value, ValueNext, Version, by_letters, by_name_effect, equals_sign}
use Rattle.aa_start.specs.Parsing.{AreBad}
use Rattle.aa_start.proofs.WalkLemmas.{Idle, Reading, held_at, held_open, rows_at, rows_settled, settle_open, settle_passes, size, top}
use Rattle.clap.specs.Lexer.{usize_max}
use Rattle.clap.specs.Words.{App, Row, Rule, Text}
use Rattle.clap.specs.Faults.{flags_fault, long_fault, option_fault, settle_fault}
use Rattle.clap.specs.Walk.{Held, Outcome, arg_by_long, arg_by_short, attached_value, bundle_met, done, long_met, settled, takes_values, used, waits}
use Rattle.clap.specs.Kinds.{Kinds}
use Rattle.clap.specs.declared.error.kind.ErrorKind.TheVariants as kind

pub bad_unknown : AreBad (kind.UnknownArgument ∷ [])
bad_unknown = (kind.UnknownArgument, refl, refl)

pub bad_values : AreBad (kind.TooManyValues ∷ [])
bad_values = (kind.TooManyValues, refl, refl)

pub bad_value : AreBad (kind.InvalidValue ∷ [])
bad_value = (kind.InvalidValue, refl, refl)

-- the kinds of a word that settles what is asked for
abbrev pub Stops : {A : Type 0} → Asked A → Kinds → Type 0
Stops (ForThis given) kinds = ⊥
Stops ForHelp kinds = kinds ≡ kind.DisplayHelp ∷ []
Stops ForVersion kinds = kinds ≡ kind.DisplayVersion ∷ []
Stops Nothing kinds = AreBad kinds

-- no text has no first letter
no_first : (x : ℕ) → slice_get (chars []) 0 ≡ Some x → ⊥
unfolding chars
no_first x e = let bad : None ≡ Some x = e in cc

-- an option that takes one value takes some
takes_one : {rules : List Rule} {words r : Rule} → TakesValue rules words r → takes_values r ≡ true
takes_one t = let most = t.most in rw most refl

module _ {A : Type 0} (options : Options A) (line : App) (Shows : A → List Row → Type 0) (reads : Reads options line Shows) where
  abbrev The : Type 0
  The = Reading options line Shows reads

  abbrev rules : List Rule
  rules = (top options line Shows reads).rules

  abbrev at : List Row → The → Held
  at = held_at options line Shows reads

  abbrev open_at : Rule → List Row → Held
  open_at = held_open options line Shows reads

  abbrev behind : List Row → The → List Row
  behind = rows_at options line Shows reads

  abbrev many : The → ℕ
  many = size options line Shows reads

  -- what an option comes to, by what it tells
  abbrev pub OptionTo : SoFar A → Kinds → Held × Outcome → Type 0
  OptionTo (Open given) kinds met = (kinds ≡ []) × ((rows : List Row) × (met ≡ (at rows Idle, done)) × Shows given rows)
  OptionTo (ValueNext given) kinds met = (kinds ≡ []) × ((rows : List Row) × (r : Rule) × TakesValue rules reads.words r × (met ≡ (open_at r rows, waits r.id))
      × ((value : Text) → Shows (given value) (used r (value ∷ []) rows)))
  OptionTo (Settled asked) kinds met = Stops asked kinds

  -- ---- an option of two hyphens

  pub long_to : (name : Text) (value : Option Text) (given : A) (rows : List Row) (p : The) → Shows given (behind rows p) → many p ≤ usize_max
      → OptionTo (by_name_effect (options.by_name name) value given) (long_fault rules true (arg_by_long rules name) value (at rows p))
      (long_met rules (arg_by_long rules name) value (at rows p))
  long_to name value given rows p shows fits = by (options.by_name name) (arg_by_long rules name) (reads.by_name name) value
    where
      used_up : settle_fault rules true (at rows p) ≡ []
      used_up = settle_passes options line Shows reads rows p fits

      now : (settled rules (at rows p)).rows ≡ behind rows p
      now = rows_settled options line Shows reads rows p

      by : (effect : Effect A) (rule : Option Rule) → IsDoneBy Shows rules reads.words effect rule → (value : Option Text)
          → OptionTo (by_name_effect effect value given) (long_fault rules true rule value (at rows p)) (long_met rules rule value (at rows p))
      by (Flag change) (Some r) d None = let none = d.0 in let passes = d.1 (behind rows p) in
          (rw (none, used_up, now) passes, (used r [] (behind rows p), rw (none, now) refl, d.2 given (behind rows p) shows))
      by (Flag change) (Some r) d (Some v) = let none = d.0 in rw none bad_values
      by (Value change) (Some r) d None = let takes = takes_one d.0 in
          (rw (takes, used_up) refl, (behind rows p, r, d.0, rw (takes, now) refl, λ v. d.1 v given (behind rows p) shows))
      by (Value change) (Some r) d (Some v) = let takes = takes_one d.0 in let passes = d.0.one v (behind rows p) in
          (rw (takes, used_up, now) passes, (used r (v ∷ []) (behind rows p), rw (takes, now) refl, d.1 v given (behind rows p) shows))
      by Help (Some r) d None = let none = d.0 in let asks = d.1 (behind rows p) in rw (none, used_up, now) asks
      by Help (Some r) d (Some v) = let none = d.0 in rw none bad_values
      by Version (Some r) d None = let none = d.0 in let asks = d.1 (behind rows p) in rw (none, used_up, now) asks
      by Version (Some r) d (Some v) = let none = d.0 in rw none bad_values
      by Unknown None d v = bad_unknown
      by (Flag change) None d v = absurd d
      by (Value change) None d v = absurd d
      by Help None d v = absurd d
      by Version None d v = absurd d
      by Unknown (Some r) d v = absurd d

  -- an option of two hyphens in the place of a value
  pub long_open : (r : Rule) → TakesValue rules reads.words r → (name : Text) (value : Option Text) (rows : List Row)
      → AreBad (long_fault rules true (arg_by_long rules name) value (open_at r rows))
  long_open o t name value rows = by (options.by_name name) (arg_by_long rules name) (reads.by_name name) value
    where
      wanting : settle_fault rules true (open_at o rows) ≡ kind.InvalidValue ∷ []
      wanting = settle_open options line Shows reads o t rows

      by : (effect : Effect A) (rule : Option Rule) → IsDoneBy Shows rules reads.words effect rule → (value : Option Text)
          → AreBad (long_fault rules true rule value (open_at o rows))
      by (Flag change) (Some r) d None = let none = d.0 in rw (none, wanting) bad_value
      by (Flag change) (Some r) d (Some v) = let none = d.0 in rw none bad_values
      by (Value change) (Some r) d None = let takes = takes_one d.0 in rw (takes, wanting) bad_value
      by (Value change) (Some r) d (Some v) = let takes = takes_one d.0 in rw (takes, wanting) bad_value
      by Help (Some r) d None = let none = d.0 in rw (none, wanting) bad_value
      by Help (Some r) d (Some v) = let none = d.0 in rw none bad_values
      by Version (Some r) d None = let none = d.0 in rw (none, wanting) bad_value
      by Version (Some r) d (Some v) = let none = d.0 in rw none bad_values
      by Unknown None d v = bad_unknown
      by (Flag change) None d v = absurd d
      by (Value change) None d v = absurd d
      by Help None d v = absurd d
      by Version None d v = absurd d
      by Unknown (Some r) d v = absurd d

  -- ---- letters

  -- letters behind another one, from any rows
  abbrev AfterLetters : List ℕ → Type 0
  AfterLetters rest = (given : A) (rows : List Row) → Shows given rows
      → OptionTo (by_letters options rest given) (flags_fault rules true (length rest) rest 0 (at rows Idle)) (bundle_met rules (length rest) rest 0 done (at rows Idle))

  -- letters behind a word, from any rows
  abbrev FirstLetter : ℕ → List ℕ → A → List Row → The → Type 0
  FirstLetter b rest given rows p = OptionTo (by_letters options (b ∷ rest) given)
      (flags_fault rules true (suc (length rest)) (b ∷ rest) 0 (at rows p))
      (bundle_met rules (suc (length rest)) (b ∷ rest) 0 done (at rows p))

  -- an option that takes a value: it stands behind its letter, or is the next word
  value_letter : (b : ℕ) (rest : List ℕ) (x : ℕ) (given : A) (rows : List Row) (p : The) (change : Text → A → A) (r : Rule) → options.by_letter x ≡ Value change
      → arg_by_short rules x ≡ Some r → IsDoneBy Shows rules reads.words (Value change) (Some r) → length (encode_utf8 x) ≡ 1 → slice_get (chars (b ∷ rest)) 0 ≡ Some x
      → Shows given (behind rows p) → many p ≤ usize_max → FirstLetter b rest given rows p
  unfolding bundle_met flags_fault
  value_letter b [] x given rows p change r i k d byte e shows fits =
      let takes = takes_one d.0 in
      let used_up = settle_passes options line Shows reads rows p fits in
      let now = rows_settled options line Shows reads rows p in
      rw (e, i, k, byte, takes) (used_up, (behind rows p, r, d.0, rw now refl, λ v. d.1 v given (behind rows p) shows))
  value_letter b (c ∷ cs) x given rows p change r i k d byte e shows fits = by (c == equals_sign) refl
    where
      used_up : settle_fault rules true (at rows p) ≡ []
      used_up = settle_passes options line Shows reads rows p fits

      now : (settled rules (at rows p)).rows ≡ behind rows p
      now = rows_settled options line Shows reads rows p

      takes : takes_values r ≡ true
      takes = takes_one d.0

      by : (equals : Bool) → (c == equals_sign) ≡ equals → FirstLetter b (c ∷ cs) given rows p
      by true q = let passes = d.0.one cs (behind rows p) in
          rw (e, i, k, byte, takes, q) (rw (used_up, now) passes, (used r (cs ∷ []) (behind rows p), rw now refl, d.1 cs given (behind rows p) shows))
      by false q = let passes = d.0.one (c ∷ cs) (behind rows p) in
          rw (e, i, k, byte, takes, q) (rw (used_up, now) passes, (used r ((c ∷ cs) ∷ []) (behind rows p), rw now refl, d.1 (c ∷ cs) given (behind rows p) shows))

  first_letter : (b : ℕ) (rest : List ℕ) (x : ℕ) (given : A) (rows : List Row) (p : The) → slice_get (chars (b ∷ rest)) 0 ≡ Some x
      → Shows given (behind rows p) → many p ≤ usize_max → AfterLetters rest → FirstLetter b rest given rows p
  unfolding bundle_met flags_fault
  first_letter b rest x given rows p e shows fits more =
      by (options.by_letter x) refl (arg_by_short rules x) refl (reads.by_letter x) (reads.one_byte x)
    where
      used_up : settle_fault rules true (at rows p) ≡ []
      used_up = settle_passes options line Shows reads rows p fits

      now : (settled rules (at rows p)).rows ≡ behind rows p
      now = rows_settled options line Shows reads rows p

      by : (effect : Effect A) → options.by_letter x ≡ effect → (rule : Option Rule) → arg_by_short rules x ≡ rule → IsDoneBy Shows rules reads.words effect rule
          → (GoesOn effect → length (encode_utf8 x) ≡ 1) → FirstLetter b rest given rows p
      by (Flag change) i (Some r) k d one =
          let none = d.0 in
          let passes = d.1 (behind rows p) in
          let byte = one tt in
          rw (e, i, k, byte, none, used_up, now, passes) (more (change given) (used r [] (behind rows p)) (d.2 given (behind rows p) shows))
      by (Value change) i (Some r) k d one = value_letter b rest x given rows p change r i k d (one tt) e shows fits
      by Help i (Some r) k d one = let none = d.0 in let asks = d.1 (behind rows p) in rw (e, i, k, none, used_up, now, asks) refl
      by Version i (Some r) k d one = let none = d.0 in let asks = d.1 (behind rows p) in rw (e, i, k, none, used_up, now, asks) refl
      by Unknown i None k d one = rw (e, i, k) bad_unknown
      by (Flag change) i None k d one = absurd d
      by (Value change) i None k d one = absurd d
      by Help i None k d one = absurd d
      by Version i None k d one = absurd d
      by Unknown i (Some r) k d one = absurd d

  -- letters behind another one
  letters : (flags : List ℕ) → AfterLetters flags
  unfolding bundle_met flags_fault
  letters [] given rows shows = (refl, (rows, refl, shows))
  letters (b ∷ rest) given rows shows = by (slice_get (chars (b ∷ rest)) 0) refl (letters rest)
    where
      by : (letter : Option ℕ) → slice_get (chars (b ∷ rest)) 0 ≡ letter → AfterLetters rest → FirstLetter b rest given rows Idle
      by None e more = rw e (refl, (rows, refl, shows))
      by (Some x) e more = first_letter b rest x given rows Idle e shows (omega arith) more

  -- the letters of a word, from any rows
  pub all_letters : (b : ℕ) (rest : List ℕ) (x : ℕ) (given : A) (rows : List Row) (p : The) → slice_get (chars (b ∷ rest)) 0 ≡ Some x
      → Shows given (behind rows p) → many p ≤ usize_max → FirstLetter b rest given rows p
  all_letters b rest x given rows p e shows fits = first_letter b rest x given rows p e shows fits (letters rest)

  -- what an option's letters come to doesn't depend on what came before its first one
  pub first_alone : (flags : List ℕ) (x : ℕ) (before : Outcome) (h : Held) → slice_get (chars flags) 0 ≡ Some x
      → bundle_met rules (length flags) flags 0 before h ≡ bundle_met rules (length flags) flags 0 done h
  unfolding bundle_met
  first_alone [] x before h e = absurd (no_first x e)
  first_alone (b ∷ rest) x before h e = rw e refl

  -- letters in the place of a value
  pub letters_open : (o : Rule) → TakesValue rules reads.words o → (flags : List ℕ) (x : ℕ) (rows : List Row) → slice_get (chars flags) 0 ≡ Some x
      → AreBad (flags_fault rules true (length flags) flags 0 (open_at o rows))
  unfolding flags_fault
  letters_open o t [] x rows e = absurd (no_first x e)
  letters_open o t (b ∷ rest) x rows e = by (options.by_letter x) (arg_by_short rules x) refl (reads.by_letter x)
    where
      wanting : settle_fault rules true (open_at o rows) ≡ kind.InvalidValue ∷ []
      wanting = settle_open options line Shows reads o t rows

      by : (effect : Effect A) (rule : Option Rule) → arg_by_short rules x ≡ rule → IsDoneBy Shows rules reads.words effect rule
          → AreBad (flags_fault rules true (suc (length rest)) (b ∷ rest) 0 (open_at o rows))
      by (Flag change) (Some r) k d = let none = d.0 in rw (e, k, none, wanting) bad_value
      by (Value change) (Some r) k d = let takes = takes_one d.0 in rw (e, k, takes) (attach (attached_value (drop (length (encode_utf8 x)) (b ∷ rest))))
        where
          attach : (value : Option Text) → AreBad (option_fault rules true r value (open_at o rows))
          attach None = rw wanting bad_value
          attach (Some v) = rw wanting bad_value
      by Help (Some r) k d = let none = d.0 in rw (e, k, none, wanting) bad_value
      by Version (Some r) k d = let none = d.0 in rw (e, k, none, wanting) bad_value
      by Unknown None k d = rw (e, k) bad_unknown
      by (Flag change) None k d = absurd d
      by (Value change) None k d = absurd d
      by Help None k d = absurd d
      by Version None k d = absurd d
      by Unknown (Some r) k d = absurd d
