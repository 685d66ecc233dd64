-- What the walk of `clap` makes of one word that is no option.
use Rattle.std.proofs.Common.{◌≡◌, ◌++◌, ◌≤◌, ◌+◌, ℕ, Bool, true, false, List, [], ◌∷◌, length, Option, Some, None, length-append, refl, arith, codes}
use Rattle.std.specs.Prelude.{slice_get}
use Rattle.std.specs.Str.{bytes_eq, chars}
use Rattle.std.proofs.lemmas.Slice.Eq.{bytes_eq-Decides}
use Rattle.aa_start.specs.Lines.{Reads, TakesValue}
use Rattle.aa_start.specs.Options.{Options}
use Rattle.clap.specs.Lexer.{usize_max, long_of, short_of}
use Rattle.clap.specs.Words.{App, Row, Rule, Shape, Text}
use Rattle.clap.specs.Simple.{built}
use Rattle.clap.specs.Faults.{flags_fault, settle_fault, turn_fault}
use Rattle.clap.specs.Walk.{Held, Outcome, Waiting, Walk, bundle_met, idle, option, plain, positional, settled, used, walked}
use Rattle.clap.specs.declared.error.kind.ErrorKind.TheVariants as kind

-- what is being read: nothing, words, or an option's value that is there
pub data Pending (rules : List Rule) (words : Rule) : Type 0 where
  Idle : Pending rules words
  OfWords : Text → List Text → Pending rules words
  OfValue : (r : Rule) → TakesValue rules words r → Text → Pending rules words

pub same_id : (id : Text) → bytes_eq id id ≡ true
same_id id = (bytes_eq-Decides id id).1 refl

module _ {A : Type 0} (options : Options A) (line : App) (Shows : A → List Row → Type 0) (reads : Reads options line Shows) where
  abbrev pub top : Shape
  top = (built line).top

  abbrev pub Reading : Type 0
  Reading = Pending top.rules reads.words

  abbrev pending_texts : Reading → Option (Text × List Text)
  pending_texts Idle = None
  pending_texts (OfWords n ns) = Some (reads.words.id, n ∷ ns)
  pending_texts (OfValue r t value) = Some (r.id, value ∷ [])

  abbrev waiting_at : Reading → Waiting
  waiting_at (OfWords n ns) = positional
  waiting_at _ = idle

  abbrev pub held_at : List Row → Reading → Held
  held_at rows p = record { rows = rows; pending = pending_texts p; skip = 0 }

  -- where the walk stands between two words
  abbrev pub state_at : Bool → List Row → Reading → Walk
  state_at trailing rows p = record { held = held_at rows p; waiting = waiting_at p; position = 1; is_trailing = trailing; stopped = None }

  -- the rows, once what is being read is used
  abbrev pub rows_at : List Row → Reading → List Row
  rows_at rows Idle = rows
  rows_at rows (OfWords n ns) = used reads.words (n ∷ ns) rows
  rows_at rows (OfValue r t value) = used r (value ∷ []) rows

  -- how many words are being read
  abbrev pub size : Reading → ℕ
  size (OfWords n ns) = length (n ∷ ns)
  size _ = 0

  pub rows_settled : (rows : List Row) (p : Reading) → (settled top.rules (held_at rows p)).rows ≡ rows_at rows p
  rows_settled rows Idle = refl
  rows_settled rows (OfWords n ns) = let found = reads.found in rw found refl
  rows_settled rows (OfValue r t value) = let found = t.found in rw found refl

  -- where the walk stands, once an option's value has to be the next word
  abbrev pub held_open : Rule → List Row → Held
  held_open r rows = record { rows = rows; pending = Some (r.id, []); skip = 0 }

  abbrev pub state_open : Bool → Rule → List Row → Walk
  state_open trailing r rows = record { held = held_open r rows; waiting = option r.id; position = 1; is_trailing = trailing; stopped = None }

  pub settle_passes : (rows : List Row) (p : Reading) → size p ≤ usize_max → settle_fault top.rules true (held_at rows p) ≡ []
  settle_passes rows Idle fits = refl
  settle_passes rows (OfWords n ns) fits = let found = reads.found in rw found (reads.passes n ns rows fits)
  settle_passes rows (OfValue r t value) fits = let found = t.found in rw found (t.one value rows)

  pub settle_open : (r : Rule) → TakesValue top.rules reads.words r → (rows : List Row) → settle_fault top.rules true (held_open r rows) ≡ kind.InvalidValue ∷ []
  settle_open r t rows = let found = t.found in rw found (t.none rows)

  -- ---- a word that is one more of the words

  abbrev pub rows_next : List Row → Reading → List Row
  rows_next rows (OfValue r t value) = used r (value ∷ []) rows
  rows_next rows _ = rows

  abbrev pub pending_next : Reading → Text → Reading
  pending_next (OfWords n ns) word = OfWords n (ns ++ word ∷ [])
  pending_next _ word = OfWords word []

  pub rows_worded : (rows : List Row) (p : Reading) (word : Text) → rows_at (rows_next rows p) (pending_next p word) ≡ used reads.words (word ∷ []) (rows_at rows p)
  rows_worded rows Idle word = refl
  rows_worded rows (OfWords n ns) word = reads.in_turn n ns word rows
  rows_worded rows (OfValue r t value) word = refl

  pub size_next : (p : Reading) (word : Text) (m : ℕ) → size p ≤ m → size (pending_next p word) ≤ m + 1
  size_next Idle word m h = omega arith
  size_next (OfWords n ns) word m h = omega (arith, length-append ns (word ∷ []))
  size_next (OfValue r t value) word m h = omega arith

  -- the walk takes the word as one more of the words
  abbrev pub IsTaken : Bool → List Row → Reading → Text → Type 0
  IsTaken trailing rows p word = (walked top.rules [] (state_at trailing rows p) word ≡ state_at trailing (rows_next rows p) (pending_next p word))
      × (turn_fault top [] (state_at trailing rows p) word ≡ [])

  pub taken_trailing : (rows : List Row) (p : Reading) (word : Text) → IsTaken true rows p word
  unfolding walked
  taken_trailing rows Idle word =
      let placed = reads.placed in
      let multiple = reads.multiple in
      (rw (placed, multiple) refl, rw placed refl)
  taken_trailing rows (OfWords n ns) word =
      let placed = reads.placed in
      let multiple = reads.multiple in
      let several = reads.several in
      let same = same_id reads.words.id in
      (rw (placed, multiple, same, several) refl, rw (placed, same, several) refl)
  taken_trailing rows (OfValue r t value) word =
      let placed = reads.placed in
      let multiple = reads.multiple in
      let other = t.other in
      let found = t.found in
      let again = reads.again in
      (rw (placed, multiple, other, found) refl, rw (placed, other, found, again) (t.one value rows))

  pub taken_plain : (rows : List Row) (p : Reading) (word : Text) → bytes_eq word (codes "--") ≡ false → long_of word ≡ None → short_of word ≡ None → IsTaken false rows p word
  unfolding walked
  taken_plain rows Idle word d l s =
      let placed = reads.placed in
      let multiple = reads.multiple in
      let free = reads.free_words in
      (rw (d, l, s, placed, multiple, free) refl, rw (d, l, s, placed) refl)
  taken_plain rows (OfWords n ns) word d l s =
      let placed = reads.placed in
      let multiple = reads.multiple in
      let free = reads.free_words in
      let several = reads.several in
      let same = same_id reads.words.id in
      (rw (d, l, s, placed, multiple, free, same, several) refl, rw (d, l, s, placed, same, several) refl)
  taken_plain rows (OfValue r t value) word d l s =
      let placed = reads.placed in
      let multiple = reads.multiple in
      let free = reads.free_words in
      let other = t.other in
      let found = t.found in
      let again = reads.again in
      (rw (d, l, s, placed, multiple, free, other, found) refl, rw (d, l, s, placed, other, found, again) (t.one value rows))

  -- letters of which there is none, are none
  pub no_letters : (flags : List ℕ) (h : Held) (o : Outcome) → slice_get (chars flags) 0 ≡ None → bundle_met top.rules (length flags) flags 0 o h ≡ (h, o)
  unfolding bundle_met
  no_letters [] h o x = refl
  no_letters (c ∷ cs) h o x = rw x refl

  pub no_letters_fault : (flags : List ℕ) (h : Held) → slice_get (chars flags) 0 ≡ None → flags_fault top.rules true (length flags) flags 0 h ≡ []
  unfolding flags_fault
  no_letters_fault [] h x = refl
  no_letters_fault (c ∷ cs) h x = rw x refl

  pub taken_short : (rows : List Row) (p : Reading) (word flags : List ℕ) → bytes_eq word (codes "--") ≡ false → long_of word ≡ None → short_of word ≡ Some flags
      → slice_get (chars flags) 0 ≡ None → IsTaken false rows p word
  unfolding walked
  taken_short rows Idle word flags d l s x =
      let met = no_letters flags (held_at rows Idle) plain x in
      let none = no_letters_fault flags (held_at rows Idle) x in
      let placed = reads.placed in
      let multiple = reads.multiple in
      let free = reads.free_words in
      let again = reads.again in
      (rw (d, l, s, met, placed, multiple, free) refl, rw (again, d, l, s, met, none, placed) refl)
  taken_short rows (OfWords n ns) word flags d l s x =
      let met = no_letters flags (held_at rows (OfWords n ns)) plain x in
      let none = no_letters_fault flags (held_at rows (OfWords n ns)) x in
      let placed = reads.placed in
      let multiple = reads.multiple in
      let free = reads.free_words in
      let several = reads.several in
      let same = same_id reads.words.id in
      let again = reads.again in
      (rw (d, l, s, met, placed, multiple, free, same, several) refl, rw (again, d, l, s, met, none, placed, same, several) refl)
  taken_short rows (OfValue r t value) word flags d l s x =
      let met = no_letters flags (held_at rows (OfValue r t value)) plain x in
      let none = no_letters_fault flags (held_at rows (OfValue r t value)) x in
      let placed = reads.placed in
      let multiple = reads.multiple in
      let free = reads.free_words in
      let other = t.other in
      let found = t.found in
      let again = reads.again in
      (rw (d, l, s, met, placed, multiple, free, other, found) refl, rw (again, d, l, s, met, none, placed, other, found, again) (t.one value rows))

  pub dashes_walked : (rows : List Row) (p : Reading) → walked top.rules [] (state_at false rows p) (codes "--") ≡ state_at true rows p
  unfolding walked
  dashes_walked rows Idle = refl
  dashes_walked rows (OfWords n ns) = refl
  dashes_walked rows (OfValue r t value) = refl

  pub dashes_pass : (rows : List Row) (p : Reading) → turn_fault top [] (state_at false rows p) (codes "--") ≡ []
  unfolding walked
  dashes_pass rows Idle = refl
  dashes_pass rows (OfWords n ns) = refl
  dashes_pass rows (OfValue r t value) = refl
