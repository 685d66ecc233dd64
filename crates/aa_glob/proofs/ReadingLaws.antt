-- The laws of reading: a text with backslashes reads as its bytes, and a fault is told alike whatever follows it.
use Rattle.std.proofs.Common.{◌≡◌, ℕ, zero, suc, ◌+◌, ◌-◌, ◌≤◌, Bool, true, false, ◌==◌, ◌&&◌, not, List, [], ◌∷◌, ◌++◌, length, refl, sym, ap, subst, ◌∙◌, arith, inl, inr, if◌then◌else◌, nat_le, nat_lt, Result, Ok, Err}
use Rattle.std.proofs.lemmas.Bool.{cases_Bool, cases_eq, false≢true}
use Rattle.std.proofs.lemmas.Bool.Decides.{nat_tests}
use Rattle.std.proofs.lemmas.List.Elements.{All-head, All-tail}
use Rattle.std.specs.List.{All, list_any}
use Rattle.aa_bytes.specs.Bytes.{is_letter_or_digit}
use Rattle.aa_glob_syntax.specs.Items.{Item, Byte, Set, Pattern, Patterns, NoMore, More}
use Rattle.aa_glob_syntax.specs.Symbols.{byte_of, is_broken, is_plain, symbols}
use Rattle.aa_glob_syntax.specs.Elements.{Element, Single, Open, Comma, Close, Fault, behind_class, class_element, context_after, is_whole_segment, run, elements}
use Rattle.aa_glob_syntax.specs.Classes.{class, is_range, members, set_of}
use Rattle.aa_glob_syntax.proofs.ClassLemmas.{behind_first, behind_first-alone, is_dash, members-first}
use Rattle.aa_glob_syntax.proofs.FaultLemmas.{reading-whole}
use Rattle.aa_glob_syntax.proofs.SymbolLemmas.{symbols-plain}
use Rattle.aa_glob_syntax.specs.Reading.{Pieces, Cut, Ended, Closed, Refused, onto, behind_comma, group, deepest, pieces, whole, longest, begins_with_slash, HasNoFirstFault, reading}
use Rattle.aa_glob.specs.Laws.{needs_backslash, quoted, bytes_pattern, ends_with_backslash, is_met_before_end, IsRefusedBeforeEnd, IsRefusedHoweverItEnds}
use Rattle.aa_bytes.specs.declared.byte_set.ByteRange.{ByteRange}
use Rattle.aa_bytes.specs.declared.byte_set.ByteSet.TheVariants.{Inside}
use Rattle.aa_glob_syntax.specs.declared.symbol.Symbol.{Symbol}
use Rattle.aa_glob_syntax.specs.declared.symbol.Symbol.TheVariants.{Plain, Escaped, Broken}
use Rattle.aa_glob_syntax.specs.declared.pattern_error.PatternError.{PatternError}
use Rattle.aa_glob_syntax.specs.declared.pattern_error.PatternError.TheVariants.{NotAbsolute, UnclosedClass, EmptyClass, UnclosedGroup, FewAlternatives, BadEscape, TooLong, TooDeep, ZeroByte}
use Rattle.aa_glob_syntax.specs.declared.context.Context.{Context}
use Rattle.aa_glob_syntax.specs.declared.context.Context.TheVariants.{AfterSlash, AfterStar, Elsewhere}

-- a byte that needs a backslash is no letter and no digit
marked-no_letter : (b : ℕ) → needs_backslash b ≡ true → is_letter_or_digit b ≡ false
marked-no_letter b marked = grind (arith, nat_tests)

-- a byte that needs none passes none of the tests that a reader makes, but that for a comma
unmarked : (b : ℕ) → needs_backslash b ≡ false → ((b == 92) ≡ false) × ((b == 42) ≡ false) × ((b == 91) ≡ false) × ((b == 63) ≡ false) × ((b == 123) ≡ false) × ((b == 125) ≡ false)
unmarked b plain = (grind (arith, nat_tests), grind (arith, nat_tests), grind (arith, nat_tests), grind (arith, nat_tests), grind (arith, nat_tests), grind (arith, nat_tests))

-- outside groups it reads as itself, a comma too
pieces-comma : (context : Context) (ls : List Symbol) → pieces 0 (elements context (Plain 44 ∷ ls)) ≡ onto (Byte 44) (pieces 0 (elements (context_after 44) ls))
pieces-comma context ls = refl

pieces-plain : (context : Context) (b : ℕ) (ls : List Symbol) → needs_backslash b ≡ false → pieces 0 (elements context (Plain b ∷ ls)) ≡ onto (Byte b) (pieces 0 (elements (context_after b) ls))
pieces-plain context b ls plain =
    let tests = unmarked b plain in
    elim (cases_eq b 44) [
      | inl comma ↦ rw comma (pieces-comma context ls)
      | inr other ↦ let no_comma : (b == 44) ≡ false = grind (arith, nat_tests) in rw (tests.1, tests.2, tests.3, tests.4, no_comma, tests.5) refl
    ]

-- what the text reads as, wherever it stands outside groups
pieces-quoted : (context : Context) (text : List ℕ) → pieces 0 (elements context (symbols (quoted text))) ≡ Cut (bytes_pattern text) NoMore Ended
pieces-quoted context [] = refl
pieces-quoted context (b ∷ bs) = elim (cases_Bool (needs_backslash b)) [
  | inl marked ↦ rw (marked, marked-no_letter b marked) (ap (onto (Byte b)) (pieces-quoted (context_after b) bs))
  | inr plain ↦ rw (plain, symbols-plain b (quoted bs) (unmarked b plain).0) (pieces-plain context b (symbols (quoted bs)) plain ∙ ap (onto (Byte b)) (pieces-quoted (context_after b) bs))
]

-- A text with a backslash before each byte that needs one reads as its bytes.
pub reading-quoted : (text : List ℕ) → HasNoFirstFault (quoted text) → reading (quoted text) ≡ Ok (bytes_pattern text)
reading-quoted text fine = reading-whole (quoted text) fine ∙ ap whole (pieces-quoted Elsewhere text)

quoted-plain : (text : List ℕ) → All (λ b. needs_backslash b ≡ false) text → quoted text ≡ text
quoted-plain [] each = refl
quoted-plain (b ∷ bs) each = rw (All-head (λ b. needs_backslash b ≡ false) b bs each) (ap (λ l. b ∷ l) (quoted-plain bs (All-tail (λ b. needs_backslash b ≡ false) b bs each)))

-- A text of bytes that need none reads as itself.
pub reading-plain : (text : List ℕ) → HasNoFirstFault text → All (λ b. needs_backslash b ≡ false) text → reading text ≡ Ok (bytes_pattern text)
reading-plain text fine each =
    let same = quoted-plain text each in
    ap reading (sym same) ∙ reading-quoted text (subst HasNoFirstFault (sym same) fine)

-- Symbols begin like others: these end first, or with a backslash that the others may tell apart, or both break off.
data Goes (late : PatternError → Bool) : List Symbol → List Symbol → Type 0 where
  Out : {ms : List Symbol} → Goes late [] ms
  CutShort : {ms : List Symbol} → late BadEscape ≡ true → Goes late (Broken ∷ []) ms
  BothBroken : Goes late (Broken ∷ []) (Broken ∷ [])
  Along : {ls ms : List Symbol} → (l : Symbol) → Goes late ls ms → Goes late (l ∷ ls) (l ∷ ms)

-- Elements begin like others, as far as faults go: these end first, or with a late fault, which the others may lack, or with a
-- fault that both have. Items don't matter.
data Alike (late : PatternError → Bool) : List Element → List Element → Type 0 where
  Stops : {es : List Element} → Alike late [] es
  Late : {ds es : List Element} → (error : PatternError) → late error ≡ true → Alike late (Fault error ∷ ds) es
  Same : {ds es : List Element} → (error : PatternError) → Alike late (Fault error ∷ ds) (Fault error ∷ es)
  Opens : {ds es : List Element} → Alike late ds es → Alike late (Open ∷ ds) (Open ∷ es)
  Commas : {ds es : List Element} → Alike late ds es → Alike late (Comma ∷ ds) (Comma ∷ es)
  Closes : {ds es : List Element} → Alike late ds es → Alike late (Close ∷ ds) (Close ∷ es)
  Left : {ds es : List Element} → (item : Item) → Alike late ds es → Alike late (Single item ∷ ds) es
  Right : {ds es : List Element} → (item : Item) → Alike late ds es → Alike late ds (Single item ∷ es)

single : {late : PatternError → Bool} {ds es : List Element} → (item : Item) → Alike late ds es → Alike late (Single item ∷ ds) (Single item ∷ es)
single item alike = Left item (Right item alike)

alike-if : {late : PatternError → Bool} {ds es ds' es' : List Element} → (c : Bool) → Alike late ds es → Alike late ds' es' → Alike late (if c then ds else ds') (if c then es else es')
alike-if true then_alike else_alike = then_alike
alike-if false then_alike else_alike = else_alike

-- a run of stars is no fault, whatever it reads as
run-left : {late : PatternError → Bool} {ds es : List Element} → (context : Context) (ls : List Symbol) → Alike late ds es → Alike late (run context ls ++ ds) es
run-left AfterStar ls alike = alike
run-left AfterSlash ls alike = elim (cases_Bool (is_whole_segment AfterSlash ls)) [
  | inl ends ↦ rw ends (Left _ (Left _ alike))
  | inr goes_on ↦ rw goes_on (Left _ alike)
]
run-left Elsewhere ls alike = Left _ alike

run-right : {late : PatternError → Bool} {ds es : List Element} → (context : Context) (ls : List Symbol) → Alike late ds es → Alike late ds (run context ls ++ es)
run-right AfterStar ls alike = alike
run-right AfterSlash ls alike = elim (cases_Bool (is_whole_segment AfterSlash ls)) [
  | inl ends ↦ rw ends (Right _ (Right _ alike))
  | inr goes_on ↦ rw goes_on (Right _ alike)
]
run-right Elsewhere ls alike = Right _ alike

-- The members of two classes are the same, or those of the first are cut short by a late fault.
data AgreeMembers (late : PatternError → Bool) : Result (List ByteRange) PatternError → Result (List ByteRange) PatternError → Type 0 where
  LateMembers : {read : Result (List ByteRange) PatternError} → (error : PatternError) → late error ≡ true → AgreeMembers late (Err error) read
  SameMembers : (read : Result (List ByteRange) PatternError) → AgreeMembers late read read

agree-members-if : {late : PatternError → Bool} {r s r' s' : Result (List ByteRange) PatternError} → (c : Bool) → AgreeMembers late r s → AgreeMembers late r' s' → AgreeMembers late (if c then r else r') (if c then s else s')
agree-members-if true then_agree else_agree = then_agree
agree-members-if false then_agree else_agree = else_agree

no_range : (l : Symbol) (ls : List Symbol) → is_plain 45 l ≡ false → is_range (l ∷ ls) ≡ false
no_range l [] other = refl
no_range l (end ∷ ls) other = rw other refl

-- Where a text ends too soon to tell how far a member reaches, its class isn't closed. The length bounds how often this is asked.
abbrev MembersAgree : (PatternError → Bool) → ℕ → Type 0
MembersAgree late n = (ls ms : List Symbol) → Goes late ls ms → length ls ≤ n → (before : List ByteRange) → AgreeMembers late (members before ls) (members before ms)

behind_first-agree : {late : PatternError → Bool} → late UnclosedClass ≡ true → (n : ℕ) → MembersAgree late n → (before : List ByteRange) (first : Symbol) → {ls ms : List Symbol} → Goes late ls ms → length ls ≤ n
    → AgreeMembers late (behind_first before first ls) (behind_first before first ms)
behind_first-agree unclosed n each before first Out within = LateMembers UnclosedClass unclosed
behind_first-agree unclosed n each before first (CutShort escape) within = LateMembers BadEscape escape
behind_first-agree unclosed n each before first BothBroken within = SameMembers _
behind_first-agree unclosed n each before first (Along {ms = ms} l Out) within = elim (cases_Bool (is_plain 45 l)) [
  | inl dash ↦ rw (is_dash l dash) (LateMembers UnclosedClass unclosed)
  | inr other ↦ rw (behind_first-alone before first (l ∷ ms) (no_range l ms other)) (each _ _ (Along l Out) within _)
]
behind_first-agree unclosed n each before first (Along {ms = ms} l (CutShort escape)) within = elim (cases_Bool (is_plain 45 l)) [
  | inl dash ↦ rw (is_dash l dash) (LateMembers BadEscape escape)
  | inr other ↦ rw (behind_first-alone before first (l ∷ Broken ∷ []) (no_range l (Broken ∷ []) other), behind_first-alone before first (l ∷ ms) (no_range l ms other)) (each _ _ (Along l (CutShort escape)) within _)
]
behind_first-agree unclosed n each before first (Along l BothBroken) within = SameMembers _
behind_first-agree unclosed n each before first (Along l (Along m goes)) within =
    agree-members-if (is_plain 45 l && not (is_plain 93 m))
    (agree-members-if (is_broken m) (SameMembers _) (agree-members-if (nat_lt (byte_of m) (byte_of first)) (SameMembers _) (each _ _ goes (omega arith) _)))
    (each _ _ (Along l (Along m goes)) within _)

members-agree : {late : PatternError → Bool} → late UnclosedClass ≡ true → (n : ℕ) → {ls ms : List Symbol} → Goes late ls ms → length ls ≤ n → (before : List ByteRange) → AgreeMembers late (members before ls) (members before ms)
members-agree unclosed n Out within before = LateMembers UnclosedClass unclosed
members-agree unclosed n (CutShort escape) within before = LateMembers BadEscape escape
members-agree unclosed n BothBroken within before = SameMembers _
members-agree unclosed zero (Along l goes) within before = absurd (omega arith)
members-agree unclosed (suc n) (Along {ls = ls} {ms = ms} l goes) within before =
    rw (members-first before l ls, members-first before l ms)
    (agree-members-if (is_plain 93 l) (SameMembers _) (agree-members-if (is_broken l) (SameMembers _) (behind_first-agree unclosed n (λ ls ms. members-agree unclosed n) before l goes (omega arith))))

set_of-alike : {late : PatternError → Bool} {ds es : List Element} {r s : Result (List ByteRange) PatternError} → (negated : Bool) → AgreeMembers late r s → Alike late ds es
    → Alike late (class_element (set_of negated r) ∷ ds) (class_element (set_of negated s) ∷ es)
set_of-alike negated (LateMembers error is_late) alike = Late error is_late
set_of-alike negated (SameMembers (Err error)) alike = Same error
set_of-alike negated (SameMembers (Ok [])) alike = Same EmptyClass
set_of-alike negated (SameMembers (Ok (range ∷ ranges))) alike = single _ alike

class-alike : {late : PatternError → Bool} {ls ms : List Symbol} {ds es : List Element} → late UnclosedClass ≡ true → Goes late ls ms → Alike late ds es → Alike late (class_element (class ls) ∷ ds) (class_element (class ms) ∷ es)
class-alike unclosed Out alike = Late UnclosedClass unclosed
class-alike unclosed (CutShort escape) alike = Late BadEscape escape
class-alike unclosed BothBroken alike = Same BadEscape
class-alike unclosed (Along {ls = ls} l goes) alike = elim (cases_Bool (is_plain 94 l)) [
  | inl negated ↦ rw negated (set_of-alike true (members-agree unclosed (length ls) goes (omega arith) []) alike)
  | inr listed ↦ rw listed (set_of-alike false (members-agree unclosed (length ls + 1) (Along l goes) (omega arith) []) alike)
]

-- a text of symbols, and a longer one
mutual
  elements-alike : {late : PatternError → Bool} → late UnclosedClass ≡ true → (context : Context) → {ls ms : List Symbol} → Goes late ls ms → Alike late (elements context ls) (elements context ms)
  elements-alike unclosed context Out = Stops
  elements-alike unclosed context (CutShort escape) = Late BadEscape escape
  elements-alike unclosed context BothBroken = Same BadEscape
  elements-alike unclosed context (Along Broken goes) = Same BadEscape
  elements-alike unclosed context (Along (Escaped b) goes) = single (Byte b) (elements-alike unclosed (context_after b) goes)
  elements-alike unclosed context (Along {ls = ls} {ms = ms} (Plain b) goes) =
      alike-if (b == 42) (run-left context ls (run-right context ms (elements-alike unclosed AfterStar goes)))
      (alike-if (b == 91) (class-alike unclosed goes (behind_class-alike unclosed goes))
      (alike-if (b == 63) (single (Set Inside) (elements-alike unclosed Elsewhere goes))
      (alike-if (b == 123) (Opens (elements-alike unclosed Elsewhere goes))
      (alike-if (b == 44) (Commas (elements-alike unclosed Elsewhere goes))
      (alike-if (b == 125) (Closes (elements-alike unclosed Elsewhere goes))
      (single (Byte b) (elements-alike unclosed (context_after b) goes)))))))

  behind_class-alike : {late : PatternError → Bool} → late UnclosedClass ≡ true → {ls ms : List Symbol} → Goes late ls ms → Alike late (behind_class ls) (behind_class ms)
  behind_class-alike unclosed Out = Stops
  behind_class-alike unclosed (CutShort escape) = Stops
  behind_class-alike unclosed BothBroken = Stops
  behind_class-alike unclosed (Along l goes) = alike-if (is_plain 93 l) (elements-alike unclosed Elsewhere goes) (behind_class-alike unclosed goes)

ends-behind : (b : ℕ) (bs : List ℕ) → ends_with_backslash bs ≡ true → ends_with_backslash (b ∷ bs) ≡ true
ends-behind b [] ends = absurd (false≢true ends)
ends-behind b (c ∷ bs) ends = ends

-- a text of bytes, and a longer one
symbols-goes : {late : PatternError → Bool} → (front more : List ℕ) → (ends_with_backslash front ≡ true → late BadEscape ≡ true) → Goes late (symbols front) (symbols (front ++ more))
symbols-goes [] more escape = Out
symbols-goes (b ∷ []) more escape = elim (cases_Bool (b == 92)) [
  | inl backslash ↦ rw backslash (CutShort (escape backslash))
  | inr plain ↦ rw (symbols-plain b [] plain, symbols-plain b more plain) (Along (Plain b) Out)
]
symbols-goes (b ∷ c ∷ bs) more escape = elim (cases_Bool (b == 92)) [
  | inl backslash ↦ elim (cases_Bool (is_letter_or_digit c)) [
    | inl symbol ↦ rw (backslash, symbol) BothBroken
    | inr other ↦ rw (backslash, other) (Along (Escaped c) (symbols-goes bs more (λ ends. escape (ends-behind c bs ends))))
  ]
  | inr plain ↦ rw plain (Along (Plain b) (symbols-goes (c ∷ bs) more escape))
]

-- Pieces end like others, as far as faults go: these come to an end, or to a late fault, or both to the same fault, or both to
-- a brace, behind one alternative or behind more.
data Agree (late : PatternError → Bool) : Pieces → Pieces → Type 0 where
  Unended : {pieces : Pieces} → (first : Pattern) (others : Patterns) → Agree late (Cut first others Ended) pieces
  TooLate : {pieces : Pieces} → (first : Pattern) (others : Patterns) (error : PatternError) → late error ≡ true → Agree late (Cut first others (Refused error)) pieces
  BothRefused : {first first' : Pattern} {others others' : Patterns} → (error : PatternError) → Agree late (Cut first others (Refused error)) (Cut first' others' (Refused error))
  BothAlone : {first first' : Pattern} {after after' : Pieces} → Agree late after after' → Agree late (Cut first NoMore (Closed after)) (Cut first' NoMore (Closed after'))
  BothMore : {first first' second second' : Pattern} {others others' : Patterns} {after after' : Pieces} → Agree late after after' → Agree late (Cut first (More second others) (Closed after)) (Cut first' (More second' others') (Closed after'))

agree-if : {late : PatternError → Bool} {p q p' q' : Pieces} → (c : Bool) → Agree late p q → Agree late p' q' → Agree late (if c then p else p') (if c then q else q')
agree-if true then_agree else_agree = then_agree
agree-if false then_agree else_agree = else_agree

onto-left : {late : PatternError → Bool} {p q : Pieces} → (item : Item) → Agree late p q → Agree late (onto item p) q
onto-left item (Unended first others) = Unended _ _
onto-left item (TooLate first others error is_late) = TooLate _ _ error is_late
onto-left item (BothRefused error) = BothRefused error
onto-left item (BothAlone agree) = BothAlone agree
onto-left item (BothMore agree) = BothMore agree

onto-right : {late : PatternError → Bool} {p q : Pieces} → (item : Item) → Agree late p q → Agree late p (onto item q)
onto-right item (Unended first others) = Unended _ _
onto-right item (TooLate first others error is_late) = TooLate _ _ error is_late
onto-right item (BothRefused error) = BothRefused error
onto-right item (BothAlone agree) = BothAlone agree
onto-right item (BothMore agree) = BothMore agree

comma-agree : {late : PatternError → Bool} {p q : Pieces} → Agree late p q → Agree late (behind_comma p) (behind_comma q)
comma-agree (Unended first others) = Unended _ _
comma-agree (TooLate first others error is_late) = TooLate _ _ error is_late
comma-agree (BothRefused error) = BothRefused error
comma-agree (BothAlone agree) = BothMore agree
comma-agree (BothMore agree) = BothMore agree

group-agree : {late : PatternError → Bool} {p q : Pieces} → late UnclosedGroup ≡ true → Agree late p q → Agree late (group p) (group q)
group-agree unclosed (Unended first others) = TooLate _ _ UnclosedGroup unclosed
group-agree unclosed (TooLate first others error is_late) = TooLate _ _ error is_late
group-agree unclosed (BothRefused error) = BothRefused error
group-agree unclosed (BothAlone agree) = BothRefused FewAlternatives
group-agree unclosed (BothMore agree) = onto-left _ (onto-right _ agree)

pieces-agree : {late : PatternError → Bool} → late UnclosedGroup ≡ true → (depth : ℕ) → {ds es : List Element} → Alike late ds es → Agree late (pieces depth ds) (pieces depth es)
pieces-agree unclosed depth Stops = Unended _ _
pieces-agree unclosed depth (Late error is_late) = TooLate _ _ error is_late
pieces-agree unclosed depth (Same error) = BothRefused error
pieces-agree unclosed depth (Opens alike) = agree-if (depth == deepest) (BothRefused TooDeep) (group-agree unclosed (pieces-agree unclosed (depth + 1) alike))
pieces-agree unclosed depth (Commas alike) = agree-if (depth == 0) (onto-left _ (onto-right _ (pieces-agree unclosed depth alike))) (comma-agree (pieces-agree unclosed depth alike))
pieces-agree unclosed depth (Closes alike) = BothAlone (pieces-agree unclosed (depth - 1) alike)
pieces-agree unclosed depth (Left item alike) = onto-left item (pieces-agree unclosed depth alike)
pieces-agree unclosed depth (Right item alike) = onto-right item (pieces-agree unclosed depth alike)

-- a fault that isn't late is told alike
whole-agree : {late : PatternError → Bool} {p q : Pieces} → (error : PatternError) → late error ≡ false → Agree late p q → whole p ≡ Err error → whole q ≡ Err error
whole-agree error early (Unended first others) refuses = absurd (cc)
whole-agree {late} error early (TooLate first others other is_late) refuses =
    let same : other ≡ error = cc in
    absurd (false≢true (sym early ∙ ap late (sym same) ∙ is_late))
whole-agree error early (BothRefused other) refuses = refuses
whole-agree error early (BothAlone agree) refuses = refuses
whole-agree error early (BothMore agree) refuses = refuses

-- a fault that is told before the end is none of those that are told first
met-behind : (text : List ℕ) (error : PatternError) (test : Bool) (first : PatternError) (rest : Result Pattern PatternError) → is_met_before_end text first ≡ false → is_met_before_end text error ≡ true → (if test then Err first else rest) ≡ Err error → rest ≡ Err error
met-behind text error true first rest unmet met refuses =
    let same : first ≡ error = cc in
    absurd (false≢true (sym unmet ∙ ap (is_met_before_end text) same ∙ met))
met-behind text error false first rest unmet met refuses = refuses

-- A text that is refused by a fault that is told before its end is refused behind the faults that are told first.
reading-refused : (text : List ℕ) (error : PatternError) → IsRefusedBeforeEnd text error → whole (pieces 0 (elements Elsewhere (symbols text))) ≡ Err error
reading-refused text error refused =
    let behind_length = met-behind text error (not (nat_le (length text) longest)) TooLong _ refl refused.1 refused.0 in
    let behind_zero = met-behind text error (list_any (λ b. b == 0) text) ZeroByte _ refl refused.1 behind_length in
    met-behind text error (not (begins_with_slash text)) NotAbsolute _ refl refused.1 behind_zero

-- A fault that is told before the end of a text is told alike, whatever follows.
pub reading-first_fault : (front : List ℕ) (error : PatternError) → IsRefusedBeforeEnd front error → IsRefusedHoweverItEnds front error
reading-first_fault front error refused more fine =
    let met = refused.1 in
    let late = λ (e : PatternError). not (is_met_before_end front e) in
    let goes = symbols-goes {late = late} front more (λ ends. rw ends refl) in
    let agree = pieces-agree {late = late} refl 0 (elements-alike refl Elsewhere goes) in
    reading-whole (front ++ more) fine ∙ whole-agree error (rw met refl) agree (reading-refused front error refused)
