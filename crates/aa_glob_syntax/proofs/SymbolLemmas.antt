-- Symbols, and the text that is cut behind a class.
use Rattle.std.proofs.Common.{◌≡◌, ◌≢◌, ◌∙◌, ℕ, ◌+◌, ◌==◌, Bool, true, false, List, [], ◌∷◌, ◌++◌, take, refl, sym, ap, inl, inr, if◌then◌else◌, arith, ◌&&◌, not, Ok, Err}
use Rattle.std.proofs.Math.Bool.{and-false}
use Rattle.std.proofs.lemmas.Bool.{cases_Bool, false≢true, ne_eqb}
use Rattle.std.proofs.lemmas.Bool.Decides.{nat_tests}
use Rattle.aa_bytes.specs.Bytes.{closing_bracket, is_letter_or_digit}
use Rattle.aa_bytes.specs.declared.byte_set.ByteRange.{ByteRange}
use Rattle.aa_glob_syntax.specs.Classes.{behind_range, class, is_range, members, range, set_of}
use Rattle.aa_glob_syntax.proofs.ClassLemmas.{behind_first, behind_first-alone, members-first}
use Rattle.aa_glob_syntax.specs.Symbols.{is_broken, is_plain, symbols}
use Rattle.aa_glob_syntax.specs.code.ClassText.{class_length}
use Rattle.aa_glob_syntax.specs.declared.pattern_error.PatternError.TheVariants.{BadEscape}
use Rattle.aa_glob_syntax.specs.declared.symbol.Symbol.{Symbol}
use Rattle.aa_glob_syntax.specs.declared.symbol.Symbol.TheVariants.{Plain, Escaped, Broken}

-- the symbol of a byte that is no backslash
pub symbols-plain : (b : ℕ) (bs : List ℕ) → (b == 92) ≡ false → symbols (b ∷ bs) ≡ Plain b ∷ symbols bs
symbols-plain b [] plain = rw plain refl
symbols-plain b (c ∷ bs) plain = rw plain refl

-- symbols up to and with the first `]` without a backslash
abbrev closed : List Symbol → List Symbol
closed [] = []
closed (l ∷ ls) = if is_plain closing_bracket l then l ∷ [] else l ∷ closed ls

symbols-taken : (text : List ℕ) → symbols (take (class_length text) text) ≡ closed (symbols text)
symbols-taken [] = refl
symbols-taken (b ∷ []) = elim (cases_Bool (b == 92)) [
  | inl backslash ↦ rw backslash refl
  | inr plain ↦ elim (cases_Bool (b == 93)) [
    | inl ends ↦ rw (plain, ends) refl
    | inr goes_on ↦ rw (plain, goes_on) refl
  ]
]
symbols-taken (b ∷ c ∷ bs) = elim (cases_Bool (b == 92)) [
  | inl backslash ↦ elim (cases_Bool (is_letter_or_digit c)) [
    | inl broken ↦ rw (backslash, broken, backslash) refl
    | inr escaped ↦ rw (backslash, escaped, backslash) (ap (λ ls. Escaped c ∷ ls) (symbols-taken bs))
  ]
  | inr plain ↦ elim (cases_Bool (b == 93)) [
    | inl ends ↦ rw (plain, ends, plain) refl
    | inr goes_on ↦ rw (plain, goes_on) (symbols-plain b (take (class_length (c ∷ bs)) (c ∷ bs)) plain ∙ ap (λ ls. Plain b ∷ ls) (symbols-taken (c ∷ bs)))
  ]
]

-- a symbol that is a bracket or dash without a backslash
is_bracket : (l : Symbol) → is_plain closing_bracket l ≡ true → l ≡ Plain closing_bracket
is_bracket (Plain c) plain = ap Plain (grind (arith, nat_tests))
is_bracket (Escaped c) plain = absurd (false≢true plain)
is_bracket Broken plain = absurd (false≢true plain)

same_if : {A : Type 0} {x y x' y' : A} → (c : Bool) → x ≡ x' → y ≡ y' → (if c then x else y) ≡ (if c then x' else y')
same_if true then_same else_same = then_same
same_if false then_same else_same = else_same

closed-bracket : (l : Symbol) (ls : List Symbol) → is_plain 93 l ≡ true → closed (l ∷ ls) ≡ l ∷ []
closed-bracket l ls ends = rw ends refl

closed-other : (l : Symbol) (ls : List Symbol) → is_plain 93 l ≡ false → closed (l ∷ ls) ≡ l ∷ closed ls
closed-other l ls opens = rw opens refl

closed-one : (l : Symbol) → closed (l ∷ []) ≡ l ∷ []
closed-one l = elim (cases_Bool (is_plain 93 l)) [
  | inl ends ↦ closed-bracket l [] ends
  | inr opens ↦ closed-other l [] opens
]

is_range-bracket : (l : Symbol) (ls : List Symbol) → is_plain 93 l ≡ true → is_range (l ∷ ls) ≡ false
is_range-bracket l [] ends = refl
is_range-bracket l (end ∷ ls) ends = rw (is_bracket l ends) refl

is_range-end : (link end : Symbol) (ls : List Symbol) → is_plain 93 end ≡ true → is_range (link ∷ end ∷ ls) ≡ false
is_range-end link end ls ends = rw ends (and-false (is_plain 45 link))

members-bracket : (before : List ByteRange) (l : Symbol) (ls : List Symbol) → is_plain 93 l ≡ true → members before (l ∷ ls) ≡ Ok before
members-bracket before l ls ends = members-first before l ls ∙ rw ends refl

-- members are the same where they are behind the first symbol
members-same : (before : List ByteRange) (first : Symbol) (ls ms : List Symbol) → behind_first before first ls ≡ behind_first before first ms → members before (first ∷ ls) ≡ members before (first ∷ ms)
members-same before first ls ms same =
    members-first before first ls
    ∙ ap (λ read. if is_plain 93 first then Ok before else if is_broken first then Err BadEscape else read) same
    ∙ sym (members-first before first ms)

alone-same : (before : List ByteRange) (first : Symbol) (ls ms : List Symbol) → is_range ls ≡ false → is_range ms ≡ false
    → members (before ++ range first first ∷ []) ls ≡ members (before ++ range first first ∷ []) ms → behind_first before first ls ≡ behind_first before first ms
alone-same before first ls ms one other same = behind_first-alone before first ls one ∙ same ∙ sym (behind_first-alone before first ms other)

-- what is behind a class doesn't change its members
first-closed : (before : List ByteRange) (first : Symbol) (ls : List Symbol) → behind_first before first (closed ls) ≡ behind_first before first ls → members before (closed (first ∷ ls)) ≡ members before (first ∷ ls)
first-closed before first ls same = elim (cases_Bool (is_plain 93 first)) [
  | inl ends ↦ ap (members before) (closed-bracket first ls ends) ∙ members-bracket before first [] ends ∙ sym (members-bracket before first ls ends)
  | inr opens ↦ ap (members before) (closed-other first ls opens) ∙ members-same before first (closed ls) ls same
]

behind_first-closed : (before : List ByteRange) (first link end : Symbol) (ls : List Symbol)
    → members (before ++ range first first ∷ []) (closed (link ∷ end ∷ ls)) ≡ members (before ++ range first first ∷ []) (link ∷ end ∷ ls)
    → members (before ++ range first end ∷ []) (closed ls) ≡ members (before ++ range first end ∷ []) ls
    → behind_first before first (closed (link ∷ end ∷ ls)) ≡ behind_first before first (link ∷ end ∷ ls)
behind_first-closed before first link end ls alone ranged = elim (cases_Bool (is_plain 93 link)) [
  | inl ends ↦
      let cut = closed-bracket link (end ∷ ls) ends in
      alone-same before first (closed (link ∷ end ∷ ls)) (link ∷ end ∷ ls) (ap is_range cut) (is_range-bracket link (end ∷ ls) ends) alone
  | inr opens ↦
      let cut = closed-other link (end ∷ ls) opens in
      elim (cases_Bool (is_plain 93 end)) [
        | inl ends ↦
            let cut_end = cut ∙ ap (λ ms. link ∷ ms) (closed-bracket end ls ends) in
            alone-same before first (closed (link ∷ end ∷ ls)) (link ∷ end ∷ ls) (ap is_range cut_end ∙ is_range-end link end [] ends) (is_range-end link end ls ends) alone
        | inr goes_on ↦
            let whole = cut ∙ ap (λ ms. link ∷ ms) (closed-other end ls goes_on) in
            ap (behind_first before first) whole
            ∙ same_if (is_plain 45 link && not (is_plain 93 end)) (ap (behind_range first end) ranged) (ap (members (before ++ range first first ∷ [])) (sym whole) ∙ alone)
      ]
]

members-closed : (before : List ByteRange) (ls : List Symbol) → members before (closed ls) ≡ members before ls
members-closed before [] = refl
members-closed before (first ∷ []) = first-closed before first [] refl
members-closed before (first ∷ link ∷ []) = first-closed before first (link ∷ []) (ap (behind_first before first) (closed-one link))
members-closed before (first ∷ link ∷ end ∷ ls) =
    first-closed before first (link ∷ end ∷ ls)
    (behind_first-closed before first link end ls (members-closed (before ++ range first first ∷ []) (link ∷ end ∷ ls)) (members-closed (before ++ range first end ∷ []) ls))

class-bracket : (l : Symbol) (ls : List Symbol) → l ≡ Plain 93 → class (l ∷ ls) ≡ set_of false (Ok [])
class-bracket l ls is_l = ap (λ m. class (m ∷ ls)) is_l ∙ ap (set_of false) (members-bracket [] (Plain 93) ls refl)

class-closed : (ls : List Symbol) → class (closed ls) ≡ class ls
class-closed [] = refl
class-closed (l ∷ ls) = elim (cases_Bool (is_plain 93 l)) [
  | inl ends ↦ ap class (closed-bracket l ls ends) ∙ class-bracket l [] (is_bracket l ends) ∙ sym (class-bracket l ls (is_bracket l ends))
  | inr opens ↦
      let whole = closed-other l ls opens in
      ap class whole ∙ same_if (is_plain 94 l) (ap (set_of true) (members-closed [] ls)) (ap (set_of false) (ap (members []) (sym whole) ∙ members-closed [] (l ∷ ls)))
]

-- a class's text without what follows it reads as the class
pub class-taken : (text : List ℕ) (size : ℕ) → size ≡ class_length text → class (symbols (take size text)) ≡ class (symbols text)
class-taken text size whole = ap (λ n. class (symbols (take n text))) whole ∙ ap class (symbols-taken text) ∙ class-closed (symbols text)

-- a symbol in front of the `]` adds its bytes
pub class_length_byte : (b : ℕ) (bs : List ℕ) → b ≢ 92 → b ≢ 93 → class_length (b ∷ bs) ≡ 1 + class_length bs
class_length_byte b [] plain opens = refl
class_length_byte b (c ∷ bs) plain opens = rw (ne_eqb b 92 plain, ne_eqb b 93 opens) (omega arith)

pub class_length_escaped : (b c : ℕ) (bs : List ℕ) → b ≡ 92 → class_length (b ∷ c ∷ bs) ≡ 2 + class_length bs
class_length_escaped b c bs backslash = rw backslash (omega arith)

pub class_length_bracket : (b : ℕ) (bs : List ℕ) → b ≡ 93 → class_length (b ∷ bs) ≡ 1
class_length_bracket b [] ends = refl
class_length_bracket b (c ∷ bs) ends = rw ends refl
