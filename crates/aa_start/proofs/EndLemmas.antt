-- What `clap` makes of words is what they ask for.
use Rattle.std.proofs.Common.{◌≡◌, ◌⊎◌, inl, inr, ◌∙◌, ◌≤◌, ◌+◌, ℕ, Bool, true, false, List, [], ◌∷◌, length, refl, sym, ap, ap₂, subst, arith, codes}
use Rattle.std.specs.Prelude.{drop, fold, if◌then◌else◌, is_some, map}
use Rattle.std.specs.Str.{bytes_eq}
use Rattle.std.proofs.lemmas.Slice.Eq.{bytes_eq-Decides}
use Rattle.aa_start.specs.Lines.{Reads, TakesValue}
use Rattle.aa_start.specs.Options.{Asked, ForHelp, ForThis, ForVersion, Nothing, Open, Options, Settled, SoFar, ValueNext, asked_behind, by_word, is_option}
use Rattle.aa_start.specs.Parsing.{AreBad, IsReadAs, with_defaults}
use Rattle.aa_start.proofs.OptionLemmas.{Stops, bad_value}
use Rattle.aa_start.proofs.WalkLemmas.{Idle, OfValue, Reading, dashes_pass, dashes_walked, pending_next, rows_at, rows_next, rows_settled, rows_worded, settle_open, settle_passes, size, size_next, state_at, state_open, taken_trailing, top}
use Rattle.aa_start.proofs.WordLemmas.{WordTo, met, met_open, open_dashes, open_trailing}
use Rattle.clap.specs.Lexer.{usize_max}
use Rattle.clap.specs.Words.{App, Row, Rule, Shape, Text, fault_of, matches_of}
use Rattle.clap.specs.Simple.{argument_words, built, entered, label_of, names_of}
use Rattle.clap.specs.Faults.{built_fault, check_fault, defaults_fault, entered_fault, settle_fault, turn_fault, walk_fault}
use Rattle.clap.specs.Walk.{Names, Walk, finished, nothing_held, rows_after, settled, used, walk_from, walked, with_default}
use Rattle.clap.specs.Kinds.{Kinds, or_else}
use Rattle.clap.specs.declared.error.kind.ErrorKind.TheVariants as kind

-- a fault that comes first is the fault
first_bad : (kinds more : Kinds) → AreBad kinds → AreBad (or_else kinds more)
first_bad kinds more h = (h.0, (let is = h.1 in rw is refl), h.2)

-- the kinds of the faults that come after the walk of an App
abbrev end_of : App → Bool → Walk → Kinds
end_of app again w = or_else (entered_fault app w.stopped)
    (or_else (settle_fault app.top.rules again w.held)
    (or_else (defaults_fault (settled app.top.rules w.held).rows app.top.rules)
    (check_fault app.top (finished app.top.rules w.held) (is_some (entered app w.stopped)))))

-- where the walk begins
abbrev begun : Walk
begun = walk_from nothing_held

-- the faults of an App without subcommands
faults_of : (app : App) (words : List Text) → names_of app ≡ [] → app.top.args_override_self ≡ true
    → built_fault app nothing_held words ≡ or_else (walk_fault app.top [] begun words) (end_of app true (fold (walked app.top.rules []) begun words))
faults_of app words none again =
    ap (λ (names : Names). or_else (walk_fault app.top names begun words) (end_of app app.top.args_override_self (fold (walked app.top.rules names) begun words))) none
    ∙ ap (λ again. or_else (walk_fault app.top [] begun words) (end_of app again (fold (walked app.top.rules []) begun words))) again

module _ {A : Type 0} (options : Options A) (line : App) (Shows : A → List Row → Type 0) (reads : Reads options line Shows) where
  abbrev The : Type 0
  The = Reading options line Shows reads

  abbrev shape : Shape
  shape = top options line Shows reads

  abbrev rules : List Rule
  rules = shape.rules

  abbrev between : Bool → List Row → The → Walk
  between = state_at options line Shows reads

  abbrev open_between : Bool → Rule → List Row → Walk
  open_between = state_open options line Shows reads

  abbrev behind : List Row → The → List Row
  behind = rows_at options line Shows reads

  abbrev many : The → ℕ
  many = size options line Shows reads

  abbrev To : SoFar A → Walk → Text → ℕ → Type 0
  To = WordTo options line Shows reads

  -- the kinds of the faults that come after the walk
  abbrev end_fault : Walk → Kinds
  end_fault = end_of (built line) true

  abbrev walked_over : Walk → List Text → Walk
  walked_over w words = fold (walked rules []) w words

  -- where the walk ends, for what is given
  abbrev Reaches : A → Walk → List Text → Type 0
  Reaches given w words = (trailing : Bool) × (rows : List Row) × (p : The) × (walked_over w words ≡ between trailing rows p)
      × Shows given (behind rows p) × (many p ≤ usize_max)

  -- the walk over the words ends as they ask
  abbrev Ends : Asked A → Walk → List Text → Type 0
  Ends (ForThis given) w words = (walk_fault shape [] w words ≡ []) × Reaches given w words
  Ends ForHelp w words = walk_fault shape [] w words ≡ kind.DisplayHelp ∷ []
  Ends ForVersion w words = walk_fault shape [] w words ≡ kind.DisplayVersion ∷ []
  Ends Nothing w words = AreBad (walk_fault shape [] w words)
      ⊎ ((walk_fault shape [] w words ≡ []) × ((end : Walk) × (walked_over w words ≡ end) × AreBad (end_fault end)))

  -- the same at the next word
  step_ends : (a : Asked A) (w next : Walk) (word : Text) (words : List Text) → walked rules [] w word ≡ next → turn_fault shape [] w word ≡ []
      → Ends a next words → Ends a w (word ∷ words)
  unfolding walk_fault
  step_ends (ForThis given) w next word words e f h = rw (f, e) h
  step_ends ForHelp w next word words e f h = rw (f, e) h
  step_ends ForVersion w next word words e f h = rw (f, e) h
  step_ends Nothing w next word words e f (inl h) = inl (rw (f, e) h)
  step_ends Nothing w next word words e f (inr h) = inr (rw (f, e) h.0, (h.1.0, rw e h.1.1, h.1.2))

  -- a word that stops the walk
  stopped_ends : (a : Asked A) (w : Walk) (word : Text) (words : List Text) → Stops a (turn_fault shape [] w word) → Ends a w (word ∷ words)
  unfolding walk_fault
  stopped_ends (ForThis given) w word words h = absurd h
  stopped_ends ForHelp w word words h = rw h refl
  stopped_ends ForVersion w word words h = rw h refl
  stopped_ends Nothing w word words h = inl (first_bad (turn_fault shape [] w word) (walk_fault shape [] (walked rules [] w word) words) h)

  -- ---- the end of the words

  -- an option that has no value at the end of the words is at fault
  end_wants : (trailing : Bool) (r : Rule) (t : TakesValue rules reads.words r) (rows : List Row) → AreBad (end_fault (open_between trailing r rows))
  end_wants trailing r t rows = let wanting = settle_open options line Shows reads r t rows in rw wanting bad_value

  -- the words end here
  at_end : (trailing : Bool) (rows : List Row) (p : The) (given : A) → many p ≤ usize_max → Shows given (behind rows p)
      → Ends (ForThis given) (between trailing rows p) []
  unfolding walk_fault
  at_end trailing rows p given fits shows = (refl, (trailing, rows, p, refl, shows, fits))

  -- behind `--` no word is an option
  trailing_ends : (words : List Text) (rows : List Row) (p : The) (given : A) (m : ℕ) → m + length words ≤ usize_max → many p ≤ m → Shows given (behind rows p)
      → Ends (ForThis (options.with_words words given)) (between true rows p) words
  trailing_ends [] rows p given m fits small shows =
      subst (λ given. Ends (ForThis given) (between true rows p) []) (sym (reads.none_more given)) (at_end true rows p given (omega (arith, fits, small)) shows)
  trailing_ends (word ∷ words) rows p given m fits small shows =
      let taken = taken_trailing options line Shows reads rows p word in
      let on = rows_next options line Shows reads rows p in
      let reading = pending_next options line Shows reads p word in
      let more = trailing_ends words on reading (options.with_words (word ∷ []) given) (m + 1) (omega (arith, fits)) (size_next options line Shows reads p word m small)
      (subst (Shows (options.with_words (word ∷ []) given)) (sym (rows_worded options line Shows reads rows p word)) (reads.shows_word word given (behind rows p) shows)) in
      step_ends (ForThis (options.with_words (word ∷ words) given)) (between true rows p) (between true on reading) word words taken.0 taken.1
      (subst (λ given. Ends (ForThis given) (between true on reading) words) (reads.one_more word words given) more)

  -- behind `--` no value comes any more
  doomed_ends : (r : Rule) (t : TakesValue rules reads.words r) (words : List Text) (rows : List Row) → Ends Nothing (open_between true r rows) words
  unfolding walk_fault
  doomed_ends r t [] rows = inr (refl, (open_between true r rows, refl, end_wants true r t rows))
  doomed_ends r t (word ∷ words) rows =
      stopped_ends Nothing (open_between true r rows) word words (subst AreBad (sym (open_trailing options line Shows reads r t rows word)) bad_value)

  -- where the walk stands, once words have come to this
  abbrev At : SoFar A → Walk → ℕ → Type 0
  At (Open given) w m = (rows : List Row) × (p : The) × (w ≡ between false rows p) × Shows given (behind rows p) × (many p ≤ m)
  At (ValueNext given) w m = (rows : List Row) × (r : Rule) × TakesValue rules reads.words r × (w ≡ open_between false r rows)
      × ((value : Text) → Shows (given value) (used r (value ∷ []) rows))
  At (Settled a) w m = ⊥

  -- from where the walk stands, all words that follow
  abbrev EndsFrom : List Text → Type 0
  EndsFrom words = (t : SoFar A) (w : Walk) (m : ℕ) → At t w m → m + length words ≤ usize_max → Ends (asked_behind options t words) w words

  -- a word that is met as it tells
  word_ends : (t : SoFar A) (w : Walk) (word : Text) (words : List Text) (m : ℕ) → m + length words ≤ usize_max → To t w word m → EndsFrom words
      → Ends (asked_behind options t words) w (word ∷ words)
  word_ends (Open given) w word words m fits to more =
      step_ends (asked_behind options (Open given) words) w (between false to.1.0 to.1.1) word words to.1.2 to.0
      (more (Open given) (between false to.1.0 to.1.1) m (to.1.0, to.1.1, refl, to.1.3, to.1.4) fits)
  word_ends (ValueNext given) w word words m fits to more =
      step_ends (asked_behind options (ValueNext given) words) w (open_between false to.1.1 to.1.0) word words to.1.3 to.0
      (more (ValueNext given) (open_between false to.1.1 to.1.0) m (to.1.0, to.1.1, to.1.2, refl, to.1.4) fits)
  word_ends (Settled a) w word words m fits to more = stopped_ends a w word words to

  open_ends : (word : Text) (words : List Text) (rows : List Row) (p : The) (given : A) (m : ℕ) → m + 1 + length words ≤ usize_max → Shows given (behind rows p)
      → many p ≤ m → EndsFrom words → Ends (asked_behind options (Open given) (word ∷ words)) (between false rows p) (word ∷ words)
  open_ends word words rows p given m fits shows small more = by (bytes_eq word (codes "--")) refl
    where
      by : (dashes : Bool) → bytes_eq word (codes "--") ≡ dashes → Ends (asked_behind options (Open given) (word ∷ words)) (between false rows p) (word ∷ words)
      by true d =
          let same = (bytes_eq-Decides word (codes "--")).0 d in
          rw d (step_ends (ForThis (options.with_words words given)) (between false rows p) (between true rows p) word words
          (subst (λ t. walked rules [] (between false rows p) t ≡ between true rows p) (sym same) (dashes_walked options line Shows reads rows p))
          (subst (λ t. turn_fault shape [] (between false rows p) t ≡ []) (sym same) (dashes_pass options line Shows reads rows p))
          (trailing_ends words rows p given m (omega (arith, fits)) small shows))
      by false d = rw d (word_ends (by_word options word given) (between false rows p) word words (m + 1) fits
          (met options line Shows reads rows p given m word (omega (arith, fits)) shows small d) more)

  value_ends : (r : Rule) (t : TakesValue rules reads.words r) (word : Text) (words : List Text) (rows : List Row) (given : Text → A) (m : ℕ)
      → m + length words ≤ usize_max → ((value : Text) → Shows (given value) (used r (value ∷ []) rows))
      → EndsFrom words → Ends (asked_behind options (ValueNext given) (word ∷ words)) (open_between false r rows) (word ∷ words)
  value_ends r t word words rows given m fits shows more = by (is_option word) refl (bytes_eq word (codes "--")) refl
    where
      by : (option : Bool) → is_option word ≡ option → (dashes : Bool) → bytes_eq word (codes "--") ≡ dashes
          → Ends (asked_behind options (ValueNext given) (word ∷ words)) (open_between false r rows) (word ∷ words)
      by false o dashes d =
          let taken = (met_open options line Shows reads r t rows word).0 o in
          rw o (step_ends (asked_behind options (Open (given word)) words) (open_between false r rows) (between false rows (OfValue r t word)) word words taken.1 taken.0
          (more (Open (given word)) (between false rows (OfValue r t word)) m (rows, OfValue r t word, refl, shows word, omega arith) fits))
      by true o true d =
          let same = (bytes_eq-Decides word (codes "--")).0 d in
          let dashes = open_dashes options line Shows reads r rows in
          rw o (step_ends Nothing (open_between false r rows) (open_between true r rows) word words
          (subst (λ t. walked rules [] (open_between false r rows) t ≡ open_between true r rows) (sym same) dashes.1)
          (subst (λ t. turn_fault shape [] (open_between false r rows) t ≡ []) (sym same) dashes.0)
          (doomed_ends r t words rows))
      by true o false d = rw o (stopped_ends Nothing (open_between false r rows) word words ((met_open options line Shows reads r t rows word).1 o d))

  ends : (words : List Text) → EndsFrom words
  unfolding walk_fault
  ends [] (Open given) w m at fits =
      subst (λ (w : Walk). Ends (ForThis given) w []) (sym at.2) (at_end false at.0 at.1 given (omega (arith, at.4, fits)) at.3)
  ends [] (ValueNext given) w m at fits =
      subst (λ (w : Walk). Ends Nothing w []) (sym at.3) (inr (refl, (open_between false at.1 at.0, refl, end_wants false at.1 at.2 at.0)))
  ends [] (Settled a) w m at fits = absurd at
  ends (word ∷ words) (Open given) w m at fits =
      subst (λ (w : Walk). Ends (asked_behind options (Open given) (word ∷ words)) w (word ∷ words)) (sym at.2)
      (open_ends word words at.0 at.1 given m (omega (arith, fits)) at.3 at.4 (ends words))
  ends (word ∷ words) (ValueNext given) w m at fits =
      subst (λ (w : Walk). Ends (asked_behind options (ValueNext given) (word ∷ words)) w (word ∷ words)) (sym at.3)
      (value_ends at.1 at.2 word words at.0 given m (omega (arith, fits)) at.4 (ends words))
  ends (word ∷ words) (Settled a) w m at fits = absurd at

  -- all words
  abbrev first_state : Walk
  first_state = between false [] Idle

  all_end : (words : List Text) → length words ≤ usize_max → Ends (asked_behind options (Open reads.bare) words) first_state words
  all_end words fits = ends words (Open reads.bare) first_state 0 ([], Idle, refl, reads.shows_bare, omega arith) (omega (arith, fits))

  -- the words come without the program's name
  own_words : (words : List Text) → argument_words line words ≡ words
  own_words words = ap (λ own. if own then words else drop 1 words) reads.own_name

  -- what `clap` says of words is told by the walk and its end
  fault_is : (words : List Text) → fault_of line words ≡ or_else (walk_fault shape [] first_state words) (end_fault (walked_over first_state words))
  fault_is words = ap (built_fault (built line) nothing_held) (own_words words) ∙ faults_of (built line) words (ap (map label_of) reads.subs) reads.again

  matches_are : (words : List Text) → matches_of line words ≡ finished rules (walked_over first_state words).held
  matches_are words =
      ap (rows_after rules (names_of (built line))) (own_words words)
      ∙ ap (λ (names : Names). rows_after rules names words) (ap (map label_of) reads.subs)

  finished_are : (trailing : Bool) (rows : List Row) (p : The) → finished rules (between trailing rows p).held ≡ with_defaults line (behind rows p)
  finished_are trailing rows p = ap (λ rows. fold with_default rows rules) (rows_settled options line Shows reads rows p)

  end_passes : (trailing : Bool) (rows : List Row) (p : The) → many p ≤ usize_max
      → end_fault (between trailing rows p) ≡ check_fault shape (with_defaults line (behind rows p)) false
  end_passes trailing rows p fits =
      let used_up = settle_passes options line Shows reads rows p fits in
      let free = ap (λ rows. defaults_fault rows rules) (rows_settled options line Shows reads rows p) ∙ reads.defaults (behind rows p) in
      let checked = ap (λ rows. check_fault shape rows false) (finished_are trailing rows p) in
      ap₂ or_else used_up (ap₂ or_else free checked)

  -- `clap` makes of words what the options ask for
  pub words_are_read : (words : List Text) → length words ≤ usize_max → IsReadAs line Shows words (asked_behind options (Open reads.bare) words)
  words_are_read words fits = by (asked_behind options (Open reads.bare) words) (all_end words fits)
    where
      by : (a : Asked A) → Ends a first_state words → IsReadAs line Shows words a
      by (ForThis given) e = (
        behind e.1.1 e.1.2,
        e.1.4,
        matches_are words ∙ ap (λ (w : Walk). finished rules w.held) e.1.3 ∙ finished_are e.1.0 e.1.1 e.1.2,
        fault_is words ∙ ap₂ or_else e.0 (ap end_fault e.1.3 ∙ end_passes e.1.0 e.1.1 e.1.2 e.1.5),
      )
      by ForHelp e = fault_is words ∙ ap (λ kinds. or_else kinds (end_fault (walked_over first_state words))) e
      by ForVersion e = fault_is words ∙ ap (λ kinds. or_else kinds (end_fault (walked_over first_state words))) e
      by Nothing (inl e) = subst AreBad (sym (fault_is words)) (first_bad (walk_fault shape [] first_state words) (end_fault (walked_over first_state words)) e)
      by Nothing (inr e) =
          subst AreBad (sym (fault_is words ∙ ap₂ or_else e.0 (ap end_fault e.1.1))) e.1.2
