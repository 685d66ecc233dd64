-- What stands for itself is matched by the same byte alone.
use Rattle.std.proofs.Common.{◌≡◌, ◌≢◌, ◌∙◌, ◌≤◌, ◌<◌, ◌-◌, drop, get_or, length, take, ℕ, Bool, true, false, ◌==◌, not, List, [], ◌∷◌, refl, sym, ap, subst, arith, inl, inr, nat_le, ◌||◌, if◌then◌else◌, Result, Ok, Err}
use Rattle.std.proofs.lemmas.Bool.{cases_Bool, false_from_ne_true, false≢true}
use Rattle.std.proofs.lemmas.List.{take_all}
use Rattle.std.proofs.lemmas.Bool.Decides.{nat_tests}
use Rattle.std.specs.Str.{bytes_eq}
use Rattle.aa_bytes.specs.Bytes.{slash}
use Rattle.aa_glob_syntax.proofs.FaultLemmas.{reading-whole as reading-fine}
use Rattle.aa_glob_syntax.proofs.LiteralLemmas.{elements-literal}
use Rattle.aa_glob_syntax.specs.Elements.{context_after, elements}
use Rattle.aa_glob_syntax.specs.Items.{Byte, Next, Pattern}
use Rattle.aa_glob_syntax.specs.Matching.{Matches, matches}
use Rattle.aa_glob_syntax.specs.Reading.{Closed, Cut, Ended, HasNoFirstFault, Pieces, Refused, has_zero, items_of, items_read, longest, onto, pieces, reading, whole}
use Rattle.aa_glob_syntax.specs.Symbols.{symbols}
use Rattle.aa_glob_syntax.specs.declared.context.Context.{Context}
use Rattle.aa_glob_syntax.specs.declared.context.Context.TheVariants.{Elsewhere}
use Rattle.aa_glob_syntax.specs.declared.pattern_error.PatternError.{PatternError}
use Rattle.aa_glob_syntax.specs.declared.pattern_error.PatternError.TheVariants.{TooLong, ZeroByte}
use Rattle.aa_glob_pattern.proofs.MatchingLemmas.{Decides-matches}
use Rattle.aa_glob_pattern.proofs.WalkLemmas.{behind_first, reading-whole}
use Rattle.aa_glob_syntax.specs.Literals.{is_literal}
use Rattle.aa_glob_pattern.specs.code.Literals.{AreLeft, StandFor, items_left}
use Rattle.aa_glob_pattern.specs.declared.literal.Rest.{Rest}

-- a text that begins with a byte that stands for itself reads as that byte, and then what follows it
pieces-literal : (context : Context) (b : ℕ) (bs : List ℕ) → is_literal b ≡ true
    → pieces 0 (elements context (symbols (b ∷ bs))) ≡ onto (Byte b) (pieces 0 (elements (context_after b) (symbols bs)))
pieces-literal context b bs literal = ap (pieces 0) (elements-literal context b bs literal)

-- where an item comes before pieces that read as a pattern, they do so without it
behind-item : (p : Pieces) (b : ℕ) (items : Pattern) → whole (onto (Byte b) p) ≡ Ok items → (whole p ≡ Ok (items_read (whole p))) × (items ≡ Next (Byte b) (items_read (whole p)))
behind-item (Cut first others Ended) b items reads = (refl, sym (cc))
behind-item (Cut first others (Closed after)) b items reads = absurd (cc)
behind-item (Cut first others (Refused error)) b items reads = absurd (cc)

-- such a byte matches itself alone
taken : (b d : ℕ) (items : Pattern) (path : List ℕ) → Matches (Next (Byte b) items) (d ∷ path) → (d ≡ b) × Matches items path
taken b d items path m =
    let first : d ≡ b = cc (m.2, m.3) in
    let behind : m.1 ≡ path = cc (m.2, m.3) in
    (first, subst (Matches items) behind m.4)

none-matches : (b : ℕ) (items : Pattern) → matches (Next (Byte b) items) [] ≡ false
none-matches b items = false_from_ne_true _ (λ h. let m = (Decides-matches (Next (Byte b) items) []).0 h in absurd (cc))

other-matches : (b d : ℕ) (items : Pattern) (path : List ℕ) → d ≢ b → matches (Next (Byte b) items) (d ∷ path) ≡ false
other-matches b d items path other = false_from_ne_true _ (λ h. other (taken b d items path ((Decides-matches (Next (Byte b) items) (d ∷ path)).0 h)).0)

same-tests : (x y : Bool) → (x ≡ true → y ≡ true) → (y ≡ true → x ≡ true) → x ≡ y
same-tests true y there back = sym (there refl)
same-tests false true there back = back refl
same-tests false false there back = refl

same-matches : (b : ℕ) (items : Pattern) (path : List ℕ) → matches (Next (Byte b) items) (b ∷ path) ≡ matches items path
same-matches b items path =
    same-tests _ _
    (λ h. (Decides-matches items path).1 (taken b b items path ((Decides-matches (Next (Byte b) items) (b ∷ path)).0 h)).1)
    (λ h. (Decides-matches (Next (Byte b) items) (b ∷ path)).1 (b ∷ [], path, refl, refl, (Decides-matches items path).0 h))

-- at first all is left
pub all-left : (text path : List ℕ) → reading text ≡ Ok (items_of text) → AreLeft text path text path
all-left text path reads =
    let all = reading-whole text (items_of text) reads in
    let same : items_left Elsewhere text ≡ items_of text = ap items_read all in
    (Elsewhere, (all ∙ ap Ok (sym same), ap (λ items. matches items path) (sym same)))

-- where a byte that stands for itself comes first, the path is to begin with it
first-left : (text path : List ℕ) (b : ℕ) (bs left : List ℕ) → is_literal b ≡ true → AreLeft text path (b ∷ bs) left
    → (context : Context) × (whole (pieces 0 (elements context (symbols bs))) ≡ Ok (items_left context bs)) × (matches (items_of text) path ≡ matches (Next (Byte b) (items_left context bs)) left)
first-left text path b bs left literal are =
    let p = pieces 0 (elements (context_after b) (symbols bs)) in
    let parts = behind-item p b (items_left are.0 (b ∷ bs)) (ap whole (sym (pieces-literal are.0 b bs literal)) ∙ are.1.0) in
    (context_after b, parts.0, are.1.1 ∙ ap (λ items. matches items left) parts.1)

-- a text that isn't empty is its first byte and what follows that
split : (bs : List ℕ) → 1 ≤ length bs → bs ≡ get_or bs 0 0 ∷ take (length bs - 1) (drop 1 bs)
split [] some = absurd (omega (arith, some))
split (b ∷ bs) some = ap (λ l. b ∷ l) (sym (take_all (length (b ∷ bs) - 1) bs (omega arith)))

-- the path ends before it
ends-before : (text path : List ℕ) (b : ℕ) (bs : List ℕ) → is_literal b ≡ true → AreLeft text path (b ∷ bs) [] → false ≡ matches (items_of text) path
ends-before text path b bs literal are = let next = first-left text path b bs [] literal are in sym (next.2 ∙ none-matches b (items_left next.0 bs))

pub path-ends : (text path rest left : List ℕ) → 1 ≤ length rest → length left < 1 → is_literal (get_or rest 0 0) ≡ true → AreLeft text path rest left → false ≡ matches (items_of text) path
path-ends text path rest [] some none literal are =
    ends-before text path (get_or rest 0 0) (take (length rest - 1) (drop 1 rest)) literal (subst (λ r. AreLeft text path r []) (split rest some) are)
path-ends text path rest (d ∷ left) some none literal are = absurd (omega (arith, none))

-- the path has another byte there
pub path-differs : (text path rest left : List ℕ) → 1 ≤ length rest → 1 ≤ length left → get_or left 0 0 ≢ get_or rest 0 0 → is_literal (get_or rest 0 0) ≡ true → AreLeft text path rest left
    → false ≡ matches (items_of text) path
path-differs text path rest left some more other literal are =
    let bs = take (length rest - 1) (drop 1 rest) in
    let ds = take (length left - 1) (drop 1 left) in
    let both = subst (λ l. AreLeft text path (get_or rest 0 0 ∷ bs) l) (split left more) (subst (λ r. AreLeft text path r left) (split rest some) are) in
    let next = first-left text path (get_or rest 0 0) bs (get_or left 0 0 ∷ ds) literal both in
    sym (next.2 ∙ other-matches (get_or rest 0 0) (get_or left 0 0) (items_left next.0 bs) ds other)

-- the path has it there
pub path-goes-on : (text path rest left : List ℕ) → 1 ≤ length rest → 1 ≤ length left → get_or left 0 0 ≡ get_or rest 0 0 → is_literal (get_or rest 0 0) ≡ true → AreLeft text path rest left
    → AreLeft text path (take (length rest - 1) (drop 1 rest)) (take (length left - 1) (drop 1 left))
path-goes-on text path rest left some more same literal are =
    let b = get_or rest 0 0 in
    let bs = take (length rest - 1) (drop 1 rest) in
    let ds = take (length left - 1) (drop 1 left) in
    let both = subst (λ l. AreLeft text path (b ∷ bs) l) (split left more) (subst (λ r. AreLeft text path r left) (split rest some) are) in
    let next = first-left text path b bs (get_or left 0 0 ∷ ds) literal both in
    (next.0, (next.1, next.2 ∙ ap (λ c. matches (Next (Byte b) (items_left next.0 bs)) (c ∷ ds)) same ∙ same-matches b (items_left next.0 bs) ds))

-- nothing of the text is left
pub text-ends : (text path rest left : List ℕ) (found : Bool) → length rest < 1 → found ≡ (length left == 0) → AreLeft text path rest left → found ≡ matches (items_of text) path
text-ends text path [] left found none is are = is ∙ bytes-empty left ∙ sym are.1.1
  where
    bytes-empty : (l : List ℕ) → (length l == 0) ≡ bytes_eq l []
    bytes-empty [] = refl
    bytes-empty (b ∷ bs) = grind (arith, nat_tests)
text-ends text path (b ∷ rest) left found none is are = absurd (omega (arith, none))

-- What is left of a text that reads as a pattern has none of the faults that are checked before anything is read, but that its first byte may be
-- another one than a slash.
abbrev pub IsShort : List ℕ → Type 0
IsShort rest = (length rest ≤ longest) × (has_zero rest ≡ false)

not-refused : (fault : Bool) (error : PatternError) (others : Result Pattern PatternError) (items : Pattern) → (if fault then Err error else others) ≡ Ok items → fault ≡ false
not-refused true error others items reads = absurd (cc)
not-refused false error others items reads = refl

pub all-short : (text : List ℕ) → reading text ≡ Ok (items_of text) → IsShort text
all-short text reads =
    let items = items_of text in
    let fits : not (nat_le (length text) longest) ≡ false = not-refused _ TooLong _ items reads in
    let behind_length = behind_first (not (nat_le (length text) longest)) TooLong _ items reads in
    (grind (arith, nat_tests), not-refused (has_zero text) ZeroByte _ items behind_length)

none-behind : (b : ℕ) (bs : List ℕ) → has_zero (b ∷ bs) ≡ false → has_zero bs ≡ false
none-behind b bs none = elim (cases_Bool (b == 0)) [
  | inl zero ↦ absurd (false≢true (sym none ∙ ap (λ c. c || has_zero bs) zero))
  | inr other ↦ sym (ap (λ c. c || has_zero bs) other) ∙ none
]

pub short-behind : (rest : List ℕ) → 1 ≤ length rest → IsShort rest → IsShort (take (length rest - 1) (drop 1 rest))
short-behind [] some short = absurd (omega (arith, some))
short-behind (b ∷ bs) some short =
    let all : take (length (b ∷ bs) - 1) bs ≡ bs = take_all (length (b ∷ bs) - 1) bs (omega arith) in
    let fewer : length bs ≤ longest = let most = short.0 in omega (arith, most) in
    subst IsShort (sym all) (fewer, none-behind b bs short.1)

pub all-stand : (text path : List ℕ) → reading text ≡ Ok (items_of text) → StandFor text path text path
all-stand text path reads = (reads, refl)

-- A slash reads alike wherever it comes, so what is left from there is a text of its own.
slash-stands : (text path bs left : List ℕ) → IsShort (slash ∷ bs) → AreLeft text path (slash ∷ bs) left → StandFor text path (slash ∷ bs) left
slash-stands text path bs left short are =
    let rest = slash ∷ bs in
    let alike : elements are.0 (symbols rest) ≡ elements Elsewhere (symbols rest) = elements-literal are.0 slash bs refl ∙ sym (elements-literal Elsewhere slash bs refl) in
    let fine : HasNoFirstFault rest = (short.0, short.1, refl) in
    let read : reading rest ≡ Ok (items_left are.0 rest) = reading-fine rest fine ∙ sym (ap (λ es. whole (pieces 0 es)) alike) ∙ are.1.0 in
    let same : items_of rest ≡ items_left are.0 rest = ap items_read read in
    (read ∙ ap Ok (sym same), are.1.1 ∙ ap (λ items. matches items left) (sym same))

-- the last segment so far begins here, or where it did before
pub segment-stands : (text path : List ℕ) (here before segment : Rest) → 1 ≤ length here.text.now → IsShort here.text.now → AreLeft text path here.text.now here.path.now
    → StandFor text path before.text.now before.path.now → segment ≡ (if get_or here.text.now 0 0 == slash then here else before)
    → StandFor text path segment.text.now segment.path.now
segment-stands text path here before segment some short are stands is_segment = elim (cases_Bool (get_or here.text.now 0 0 == slash)) [
  | inl begins ↦
      let first : get_or here.text.now 0 0 ≡ slash = grind (arith, nat_tests) in
      let bs = take (length here.text.now - 1) (drop 1 here.text.now) in
      let is_split : here.text.now ≡ slash ∷ bs = split here.text.now some ∙ ap (λ b. b ∷ bs) first in
      let stands_here : StandFor text path here.text.now here.path.now =
      subst (λ r. StandFor text path r here.path.now) (sym is_split)
      (slash-stands text path bs here.path.now (subst IsShort is_split short) (subst (λ r. AreLeft text path r here.path.now) is_split are)) in
      subst (λ (s : Rest). StandFor text path s.text.now s.path.now) (sym (is_segment ∙ ap (λ c. if c then here else before) begins)) stands_here
  | inr other ↦ subst (λ (s : Rest). StandFor text path s.text.now s.path.now) (sym (is_segment ∙ ap (λ c. if c then here else before) other)) stands
]
