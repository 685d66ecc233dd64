-- The laws of matching: an exact pattern matches one text, and no pattern matches a zero byte.
use Rattle.std.proofs.Common.{◌≡◌, ◌≢◌, ℕ, ◌+◌, ◌-◌, Bool, true, false, ◌==◌, not, List, [], ◌∷◌, ◌++◌, length, refl, sym, ap, ap₂, ◌∙◌, inl, inr, if◌then◌else◌, nat_le, Result, Ok, Err, ◌↔◌, IsTrue}
use Rattle.std.proofs.lemmas.Bool.{cases_Bool, false≢true, false_from_ne_true, not-true, ne_eqb, and_parts, or_from, or_parts}
use Rattle.std.proofs.lemmas.List.Folds.{list_any-append, list_any_none}
use Rattle.std.specs.List.{All}
use Rattle.aa_bytes.specs.Bytes.{is_letter_or_digit}
use Rattle.aa_glob.proofs.ReadingLaws.{reading-quoted}
use Rattle.aa_bytes.specs.ByteSets.{has}
use Rattle.aa_glob_syntax.specs.Items.{Item, Byte, Set, Star, DoubleStar, Group, Pattern, End, Next, Patterns, NoMore, More}
use Rattle.aa_glob_syntax.specs.Exactness.{is_exact}
use Rattle.aa_glob_syntax.specs.Symbols.{symbols}
use Rattle.aa_glob_syntax.specs.Elements.{Element, Single, Open, Comma, Close, Fault, context_after, begins_plain, behind_class, class_element, is_whole_segment, stars, run, elements}
use Rattle.aa_glob_syntax.specs.Classes.{class}
use Rattle.aa_glob_syntax.specs.Reading.{Pieces, Cut, Ending, Ended, Closed, Refused, onto, behind_comma, group, deepest, pieces, whole, longest, begins_with_slash, has_zero, reading, items_read, items_of, HasNoFirstFault}
use Rattle.aa_glob_syntax.specs.Matching.{matches, IsOf, Matches, SomeMatches}
use Rattle.aa_glob.specs.Laws.{quoted, bytes_pattern, bytes_of}
use Rattle.aa_glob_pattern.specs.Laws.{MatchingIsBySplits}
use Rattle.aa_bytes.specs.declared.byte_set.ByteSet.{ByteSet}
use Rattle.aa_bytes.specs.declared.byte_set.ByteSet.TheVariants.{Inside, Class}
use Rattle.aa_glob_syntax.specs.declared.symbol.Symbol.{Symbol}
use Rattle.aa_glob_syntax.specs.declared.symbol.Symbol.TheVariants.{Plain, Escaped, Broken}
use Rattle.aa_glob_syntax.specs.declared.pattern_error.PatternError.{PatternError}
use Rattle.aa_glob_syntax.specs.declared.context.Context.{Context}
use Rattle.aa_glob_syntax.specs.declared.context.Context.TheVariants.{AfterSlash, AfterStar, Elsewhere}

Matches-exact : (items : Pattern) (text : List ℕ) → is_exact items ≡ true → (Matches items text ↔ (text ≡ bytes_of items))
Matches-exact End text exact = (λ m. m, λ same. same)
Matches-exact (Next (Byte b) items) text exact = (
  λ m. m.2 ∙ ap₂ (λ u v. u ++ v) m.3 ((Matches-exact items m.1 exact).0 m.4),
  λ same. (b ∷ [], bytes_of items, same, refl, (Matches-exact items (bytes_of items) exact).1 refl),
)
Matches-exact (Next (Set set) items) text exact = absurd (false≢true exact)
Matches-exact (Next Star items) text exact = absurd (false≢true exact)
Matches-exact (Next DoubleStar items) text exact = absurd (false≢true exact)
Matches-exact (Next (Group first second others) items) text exact = absurd (false≢true exact)

-- A pattern whose items are all bytes matches the text of these bytes alone.
pub matches-exact : MatchingIsBySplits → (items : Pattern) (text : List ℕ) → is_exact items ≡ true → (IsTrue (matches items text) ↔ (text ≡ bytes_of items))
matches-exact splits items text exact =
    let test = splits items text in
    let one = Matches-exact items text exact in
    (λ h. one.0 (test.0 h), λ same. test.1 (one.1 same))

bytes_pattern-exact : (text : List ℕ) → is_exact (bytes_pattern text) ≡ true
bytes_pattern-exact [] = refl
bytes_pattern-exact (b ∷ bs) = bytes_pattern-exact bs

bytes_of-bytes_pattern : (text : List ℕ) → bytes_of (bytes_pattern text) ≡ text
bytes_of-bytes_pattern [] = refl
bytes_of-bytes_pattern (b ∷ bs) = ap (λ l. b ∷ l) (bytes_of-bytes_pattern bs)

-- A text with a backslash before each byte that needs one matches itself alone.
pub matches-quoted : MatchingIsBySplits → (text path : List ℕ) → HasNoFirstFault (quoted text) → (IsTrue (matches (items_of (quoted text)) path) ↔ (path ≡ text))
matches-quoted splits text path fine =
    let reads : items_of (quoted text) ≡ bytes_pattern text = ap items_read (reading-quoted text fine) in
    let one = matches-exact splits (bytes_pattern text) path (bytes_pattern-exact text) in
    let spelled = bytes_of-bytes_pattern text in
    (λ h. one.0 (ap (λ items. matches items path) (sym reads) ∙ h) ∙ spelled, λ same. ap (λ items. matches items path) reads ∙ one.1 (same ∙ sym spelled))

-- No item stands for a zero byte: no byte that stands for itself is zero. No set holds zero.
abbrev mutual
  ItemHasNoZero : Item → Type 0
  ItemHasNoZero (Byte b) = (b == 0) ≡ false
  ItemHasNoZero (Set set) = Unit
  ItemHasNoZero Star = Unit
  ItemHasNoZero DoubleStar = Unit
  ItemHasNoZero (Group first second others) = HasNoZero first × HasNoZero second × EachHasNoZero others

  HasNoZero : Pattern → Type 0
  HasNoZero End = Unit
  HasNoZero (Next item items) = ItemHasNoZero item × HasNoZero items

  EachHasNoZero : Patterns → Type 0
  EachHasNoZero NoMore = Unit
  EachHasNoZero (More pattern patterns) = HasNoZero pattern × EachHasNoZero patterns

no_zero-has : (set : ByteSet) (b : ℕ) → has set b ≡ true → (b == 0) ≡ false
no_zero-has Inside b holds = not-true (b == 0) (and_parts (not (b == 0)) _ holds).0
no_zero-has (Class negated ranges) b holds = not-true (b == 0) (and_parts (not (b == 0)) _ holds).0

no_zero-all : (text : List ℕ) → All (λ b. b ≢ 0) text → has_zero text ≡ false
no_zero-all text each = list_any_none (λ b. b == 0) text (λ k d within. ne_eqb _ 0 (each k d within))

-- Then no text that matches holds one.
mutual
  no_zero-IsOf : (item : Item) → ItemHasNoZero item → (u : List ℕ) → IsOf item u → has_zero u ≡ false
  no_zero-IsOf (Byte b) safe u m = ap has_zero m ∙ or_from (b == 0) false safe refl
  no_zero-IsOf (Set set) safe u m = ap has_zero m.1 ∙ or_from (m.0 == 0) false (no_zero-has set m.0 m.2) refl
  no_zero-IsOf Star safe u m = no_zero-all u (λ k d within. (m k d within).0)
  no_zero-IsOf DoubleStar safe u m = no_zero-all u m
  no_zero-IsOf (Group first second others) safe u (inl m) = no_zero-Matches first safe.0 u m
  no_zero-IsOf (Group first second others) safe u (inr (inl m)) = no_zero-Matches second safe.1 u m
  no_zero-IsOf (Group first second others) safe u (inr (inr m)) = no_zero-SomeMatches others safe.2 u m

  no_zero-Matches : (items : Pattern) → HasNoZero items → (s : List ℕ) → Matches items s → has_zero s ≡ false
  no_zero-Matches End safe s m = ap has_zero m
  no_zero-Matches (Next item items) safe s m =
      ap has_zero m.2 ∙ list_any-append (λ b. b == 0) m.0 m.1 ∙ or_from (has_zero m.0) (has_zero m.1) (no_zero-IsOf item safe.0 m.0 m.3) (no_zero-Matches items safe.1 m.1 m.4)

  no_zero-SomeMatches : (patterns : Patterns) → EachHasNoZero patterns → (s : List ℕ) → SomeMatches patterns s → has_zero s ≡ false
  no_zero-SomeMatches NoMore safe s m = absurd m
  no_zero-SomeMatches (More pattern patterns) safe s (inl m) = no_zero-Matches pattern safe.0 s m
  no_zero-SomeMatches (More pattern patterns) safe s (inr m) = no_zero-SomeMatches patterns safe.1 s m

-- what holds on both branches
either_way : {A : Type 0} {x y : A} (P : A → Type 0) (c : Bool) → P x → P y → P (if c then x else y)
either_way P true then_holds else_holds = then_holds
either_way P false then_holds else_holds = else_holds

-- the same of symbols
abbrev SymbolsHaveNoZero : List Symbol → Type 0
SymbolsHaveNoZero [] = Unit
SymbolsHaveNoZero (Plain b ∷ ls) = ((b == 0) ≡ false) × SymbolsHaveNoZero ls
SymbolsHaveNoZero (Escaped b ∷ ls) = ((b == 0) ≡ false) × SymbolsHaveNoZero ls
SymbolsHaveNoZero (Broken ∷ ls) = SymbolsHaveNoZero ls

no_zero-symbols : (text : List ℕ) → has_zero text ≡ false → SymbolsHaveNoZero (symbols text)
no_zero-symbols [] safe = tt
no_zero-symbols (b ∷ []) safe =
    let parts = or_parts (b == 0) false safe in
    either_way {x = Broken} {y = Plain b} (λ l. SymbolsHaveNoZero (l ∷ [])) (b == 92) tt (parts.0, tt)
no_zero-symbols (b ∷ c ∷ bs) safe =
    let parts = or_parts (b == 0) (has_zero (c ∷ bs)) safe in
    let behind = or_parts (c == 0) (has_zero bs) parts.1 in
    either_way SymbolsHaveNoZero (b == 92) (either_way SymbolsHaveNoZero (is_letter_or_digit c) tt (behind.0, no_zero-symbols bs behind.1)) (parts.0, no_zero-symbols (c ∷ bs) parts.1)

-- the same of elements
abbrev ElementsHaveNoZero : List Element → Type 0
ElementsHaveNoZero [] = Unit
ElementsHaveNoZero (Single item ∷ es) = ItemHasNoZero item × ElementsHaveNoZero es
ElementsHaveNoZero (Open ∷ es) = ElementsHaveNoZero es
ElementsHaveNoZero (Comma ∷ es) = ElementsHaveNoZero es
ElementsHaveNoZero (Close ∷ es) = ElementsHaveNoZero es
ElementsHaveNoZero (Fault error ∷ es) = ElementsHaveNoZero es

no_zero-stars : (ls : List Symbol) (es : List Element) → ElementsHaveNoZero es → ElementsHaveNoZero (stars ls ∷ es)
no_zero-stars ls es safe = either_way {x = DoubleStar} {y = Star} (λ item. ElementsHaveNoZero (Single item ∷ es)) (begins_plain 42 ls) (tt, safe) (tt, safe)

no_zero-run : (context : Context) (ls : List Symbol) (es : List Element) → ElementsHaveNoZero es → ElementsHaveNoZero (run context ls ++ es)
no_zero-run AfterStar ls es safe = safe
no_zero-run AfterSlash ls es safe = elim (cases_Bool (is_whole_segment AfterSlash ls)) [
  | inl ends ↦ rw ends (tt, no_zero-stars ls es safe)
  | inr goes_on ↦ rw goes_on (no_zero-stars ls es safe)
]
no_zero-run Elsewhere ls es safe = no_zero-stars ls es safe

no_zero-class : (set : Result ByteSet PatternError) (es : List Element) → ElementsHaveNoZero es → ElementsHaveNoZero (class_element set ∷ es)
no_zero-class (Ok set) es safe = (tt, safe)
no_zero-class (Err error) es safe = safe

mutual
  no_zero-elements : (context : Context) (ls : List Symbol) → SymbolsHaveNoZero ls → ElementsHaveNoZero (elements context ls)
  no_zero-elements context [] safe = tt
  no_zero-elements context (Broken ∷ ls) safe = tt
  no_zero-elements context (Escaped b ∷ ls) safe = (safe.0, no_zero-elements (context_after b) ls safe.1)
  no_zero-elements context (Plain b ∷ ls) safe =
      either_way ElementsHaveNoZero (b == 42) (no_zero-run context ls _ (no_zero-elements AfterStar ls safe.1))
      (either_way ElementsHaveNoZero (b == 91) (no_zero-class (class ls) _ (no_zero-behind_class ls safe.1))
      (either_way ElementsHaveNoZero (b == 63) (tt, no_zero-elements Elsewhere ls safe.1)
      (either_way ElementsHaveNoZero (b == 123) (no_zero-elements Elsewhere ls safe.1)
      (either_way ElementsHaveNoZero (b == 44) (no_zero-elements Elsewhere ls safe.1)
      (either_way ElementsHaveNoZero (b == 125) (no_zero-elements Elsewhere ls safe.1)
      (safe.0, no_zero-elements (context_after b) ls safe.1))))))

  no_zero-behind_class : (ls : List Symbol) → SymbolsHaveNoZero ls → ElementsHaveNoZero (behind_class ls)
  no_zero-behind_class [] safe = tt
  no_zero-behind_class (Broken ∷ ls) safe = no_zero-behind_class ls safe
  no_zero-behind_class (Escaped b ∷ ls) safe = no_zero-behind_class ls safe.1
  no_zero-behind_class (Plain b ∷ ls) safe = either_way ElementsHaveNoZero (b == 93) (no_zero-elements Elsewhere ls safe.1) (no_zero-behind_class ls safe.1)

-- the same of pieces
abbrev mutual
  PiecesHaveNoZero : Pieces → Type 0
  PiecesHaveNoZero (Cut first others ending) = HasNoZero first × EachHasNoZero others × EndingHasNoZero ending

  EndingHasNoZero : Ending → Type 0
  EndingHasNoZero Ended = Unit
  EndingHasNoZero (Closed after) = PiecesHaveNoZero after
  EndingHasNoZero (Refused error) = Unit

no_zero-onto : (item : Item) (p : Pieces) → ItemHasNoZero item → PiecesHaveNoZero p → PiecesHaveNoZero (onto item p)
no_zero-onto item (Cut first others ending) safe_item safe = ((safe_item, safe.0), safe.1, safe.2)

no_zero-behind_comma : (p : Pieces) → PiecesHaveNoZero p → PiecesHaveNoZero (behind_comma p)
no_zero-behind_comma (Cut first others ending) safe = (tt, (safe.0, safe.1), safe.2)

no_zero-group : (p : Pieces) → PiecesHaveNoZero p → PiecesHaveNoZero (group p)
no_zero-group (Cut first others Ended) safe = (tt, tt, tt)
no_zero-group (Cut first others (Refused error)) safe = (tt, tt, tt)
no_zero-group (Cut first NoMore (Closed after)) safe = (tt, tt, tt)
no_zero-group (Cut first (More second others) (Closed after)) safe = no_zero-onto (Group first second others) after (safe.0, safe.1.0, safe.1.1) safe.2

no_zero-pieces : (depth : ℕ) (es : List Element) → ElementsHaveNoZero es → PiecesHaveNoZero (pieces depth es)
no_zero-pieces depth [] safe = (tt, tt, tt)
no_zero-pieces depth (Single item ∷ es) safe = no_zero-onto item (pieces depth es) safe.0 (no_zero-pieces depth es safe.1)
no_zero-pieces depth (Open ∷ es) safe = either_way PiecesHaveNoZero (depth == deepest) (tt, tt, tt) (no_zero-group (pieces (depth + 1) es) (no_zero-pieces (depth + 1) es safe))
no_zero-pieces depth (Comma ∷ es) safe =
    either_way PiecesHaveNoZero (depth == 0) (no_zero-onto (Byte 44) (pieces depth es) refl (no_zero-pieces depth es safe)) (no_zero-behind_comma (pieces depth es) (no_zero-pieces depth es safe))
no_zero-pieces depth (Close ∷ es) safe = (tt, tt, no_zero-pieces (depth - 1) es safe)
no_zero-pieces depth (Fault error ∷ es) safe = (tt, tt, tt)

-- the same of what a text reads as
abbrev ResultHasNoZero : Result Pattern PatternError → Type 0
ResultHasNoZero r = HasNoZero (items_read r)

no_zero-whole : (p : Pieces) → PiecesHaveNoZero p → ResultHasNoZero (whole p)
no_zero-whole (Cut first others Ended) safe = safe.0
no_zero-whole (Cut first others (Closed after)) safe = tt
no_zero-whole (Cut first others (Refused error)) safe = tt

no_zero-reading : (text : List ℕ) → ResultHasNoZero (reading text)
no_zero-reading text = either_way ResultHasNoZero (not (nat_le (length text) longest)) tt (elim (cases_Bool (has_zero text)) [
  | inl zero_byte ↦ rw zero_byte tt
  | inr no_zero ↦
      let ls = symbols text in
      let es = elements Elsewhere ls in
      let safe = no_zero-pieces 0 es (no_zero-elements Elsewhere ls (no_zero-symbols text no_zero)) in
      rw no_zero (either_way ResultHasNoZero (not (begins_with_slash text)) tt (no_zero-whole (pieces 0 es) safe))
])

-- No pattern that was read matches a text with a zero byte.
pub no_zero-matches : MatchingIsBySplits → (pattern text : List ℕ) → has_zero text ≡ true → matches (items_of pattern) text ≡ false
no_zero-matches splits pattern text zero_byte =
    let test = splits (items_of pattern) text in
    false_from_ne_true (matches (items_of pattern) text) (λ h. false≢true (sym (no_zero-Matches (items_of pattern) (no_zero-reading pattern) text (test.0 h)) ∙ zero_byte))
