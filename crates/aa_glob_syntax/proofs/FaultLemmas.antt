-- The first fault of a text's elements is that of its pieces, and its first items are those of its pieces.
use Rattle.std.proofs.Common.{◌≡◌, ◌∙◌, ℕ, suc, ◌+◌, ◌-◌, ◌≤◌, ◌<◌, nat_le, Bool, true, false, ◌==◌, ◌||◌, ◌&&◌, List, [], ◌∷◌, length, take, ◌++◌, Option, None, Some, Result, Ok, Err, IfOk, IfErr, refl, sym, ap, arith, if◌then◌else◌}
use Rattle.std.proofs.lemmas.Bool.Decides.{nat_tests}
use Rattle.std.proofs.Math.Bool.{and_assoc}
use Rattle.std.proofs.lemmas.List.{length-take-le}
use Rattle.std.specs.List.{list_all, prefix_len}
use Rattle.aa_bytes.specs.Bytes.{comma}
use Rattle.aa_glob_syntax.specs.Elements.{Element, Single, Open, Comma, Close, Fault, elements}
use Rattle.aa_glob_syntax.specs.Exactness.{is_exact, literal_prefix}
use Rattle.aa_glob_syntax.specs.Faults.{fault_at_close, fault_at_end, first_fault, is_byte, spelled}
use Rattle.aa_glob_syntax.specs.Items.{Item, Byte, Set, Star, DoubleStar, Group, Patterns, NoMore, More}
use Rattle.aa_glob_syntax.specs.Literals.{literals}
use Rattle.aa_glob_syntax.specs.OpenGroups.{outer}
use Rattle.aa_glob_syntax.specs.Reading.{HasNoFirstFault, Pieces, Cut, Ending, Ended, Closed, Refused, behind_comma, deepest, first_of, group, items_of, items_read, onto, pieces, reading, refused, whole}
use Rattle.aa_glob_syntax.specs.Symbols.{symbols}
use Rattle.aa_glob_syntax.specs.declared.check.Facts.{Facts}
use Rattle.aa_glob_syntax.specs.declared.context.Context.TheVariants.{Elsewhere}
use Rattle.aa_glob_syntax.specs.declared.pattern_error.PatternError.{PatternError}
use Rattle.aa_glob_syntax.specs.declared.pattern_error.PatternError.TheVariants.{FewAlternatives, StrayClose, TooDeep}

-- what a text reads as that has none of the faults that are told first
pub reading-whole : (text : List ℕ) → HasNoFirstFault text → reading text ≡ whole (pieces 0 (elements Elsewhere (symbols text)))
reading-whole text fine =
    let short : length text ≤ 4096 = fine.0 in
    let fits : nat_le (length text) 4096 ≡ true = grind (arith, nat_tests) in
    rw (fits, fine.1, fine.2) refl

-- there are alternatives besides the first
abbrev has_others : Patterns → Bool
has_others NoMore = false
has_others (More pattern patterns) = true

-- the fault of a brace that closes the innermost group behind its alternatives, or else that of what follows it
abbrev closing : List Bool → Patterns → Option PatternError → Option PatternError
closing [] others behind = Some StrayClose
closing (parted ∷ gs) others behind = if parted || has_others others then behind else Some FewAlternatives

-- the fault of pieces that stand in these groups
abbrev mutual
  fault_of : List Bool → Patterns → Ending → Option PatternError
  fault_of groups others Ended = fault_at_end groups
  fault_of groups others (Refused error) = Some error
  fault_of groups others (Closed after) = closing groups others (fault_of_pieces (outer groups) after)

  fault_of_pieces : List Bool → Pieces → Option PatternError
  fault_of_pieces groups (Cut first others ending) = fault_of groups others ending

fault_of-onto : (groups : List Bool) (item : Item) (p : Pieces) → fault_of_pieces groups (onto item p) ≡ fault_of_pieces groups p
fault_of-onto groups item (Cut first others ending) = refl

fault_of-group : (groups : List Bool) (p : Pieces) → fault_of_pieces groups (group p) ≡ fault_of_pieces (false ∷ groups) p
fault_of-group groups (Cut first others Ended) = refl
fault_of-group groups (Cut first others (Refused error)) = refl
fault_of-group groups (Cut first NoMore (Closed after)) = refl
fault_of-group groups (Cut first (More second others) (Closed after)) = fault_of-onto groups (Group first second others) after

fault_of-comma : (parted : Bool) (gs : List Bool) (p : Pieces) → fault_of_pieces (parted ∷ gs) (behind_comma p) ≡ fault_of_pieces (true ∷ gs) p
fault_of-comma parted gs (Cut first others Ended) = refl
fault_of-comma parted gs (Cut first others (Refused error)) = refl
fault_of-comma true gs (Cut first others (Closed after)) = refl
fault_of-comma false gs (Cut first others (Closed after)) = refl

fault_of-open : (groups : List Bool) (full : Bool) (fault : Option PatternError) (p : Pieces) → fault ≡ fault_of_pieces groups (group p)
    → (if full then Some TooDeep else fault) ≡ fault_of_pieces groups (if full then refused TooDeep else group p)
fault_of-open groups true fault p same = refl
fault_of-open groups false fault p same = same

fault_of-close : (parted : Bool) (gs : List Bool) (fault : Option PatternError) (p : Pieces) → fault ≡ fault_of_pieces gs p
    → fault_at_close (parted ∷ gs) fault ≡ fault_of (parted ∷ gs) NoMore (Closed p)
fault_of-close true gs fault p same = same
fault_of-close false gs fault p same = refl

-- the first fault is that of the pieces
first_fault-pieces : (es : List Element) (groups : List Bool) → first_fault es groups ≡ fault_of_pieces groups (pieces (length groups) es)
first_fault-pieces [] groups = refl
first_fault-pieces (Single item ∷ es) groups = first_fault-pieces es groups ∙ sym (fault_of-onto groups item (pieces (length groups) es))
first_fault-pieces (Open ∷ es) groups =
    let deeper : suc (length groups) ≡ length groups + 1 = omega arith in
    fault_of-open groups (length groups == deepest) (first_fault es (false ∷ groups)) (pieces (length groups + 1) es)
    (first_fault-pieces es (false ∷ groups) ∙ ap (λ n. fault_of_pieces (false ∷ groups) (pieces n es)) deeper ∙ sym (fault_of-group groups (pieces (length groups + 1) es)))
first_fault-pieces (Comma ∷ es) [] = first_fault-pieces es [] ∙ sym (fault_of-onto [] (Byte comma) (pieces 0 es))
first_fault-pieces (Comma ∷ es) (parted ∷ gs) =
    let within : (suc (length gs) == 0) ≡ false = grind (arith, nat_tests) in
    first_fault-pieces es (true ∷ gs) ∙ sym (fault_of-comma parted gs (pieces (suc (length gs)) es))
    ∙ sym (ap (λ c. fault_of_pieces (parted ∷ gs) (if c then onto (Byte comma) (pieces (suc (length gs)) es) else behind_comma (pieces (suc (length gs)) es))) within)
first_fault-pieces (Close ∷ es) [] = refl
first_fault-pieces (Close ∷ es) (parted ∷ gs) =
    let outside : suc (length gs) - 1 ≡ length gs = omega arith in
    fault_of-close parted gs (first_fault es gs) (pieces (suc (length gs) - 1) es) (first_fault-pieces es gs ∙ ap (λ n. fault_of_pieces gs (pieces n es)) (sym outside))
first_fault-pieces (Fault error ∷ es) groups = refl

whole-fine : (p : Pieces) → fault_of_pieces [] p ≡ None → whole p ≡ Ok (first_of p)
whole-fine (Cut first others Ended) fine = refl
whole-fine (Cut first others (Refused error)) fine = absurd (cc)
whole-fine (Cut first others (Closed after)) fine = absurd (cc)

whole-faulty : (p : Pieces) (error : PatternError) → fault_of_pieces [] p ≡ Some error → whole p ≡ Err error
whole-faulty (Cut first others Ended) error faulty = absurd (cc)
whole-faulty (Cut first others (Refused own)) error faulty = let same : own ≡ error = cc in ap Err same
whole-faulty (Cut first others (Closed after)) error faulty = let same : StrayClose ≡ error = cc in ap Err same

group-prefix : (p : Pieces) → literal_prefix (first_of (group p)) ≡ 0
group-prefix (Cut first others Ended) = refl
group-prefix (Cut first others (Refused error)) = refl
group-prefix (Cut first NoMore (Closed after)) = refl
group-prefix (Cut first (More second others) (Closed after)) = refl

group-exact : (p : Pieces) → fault_of_pieces [] (group p) ≡ None → is_exact (first_of (group p)) ≡ false
group-exact (Cut first others Ended) fine = absurd (cc)
group-exact (Cut first others (Refused error)) fine = absurd (cc)
group-exact (Cut first NoMore (Closed after)) fine = absurd (cc)
group-exact (Cut first (More second others) (Closed after)) fine = refl

-- the items begin with as many bytes as the elements do
literal_prefix-pieces : (es : List Element) → literal_prefix (first_of (pieces 0 es)) ≡ prefix_len is_byte es
literal_prefix-pieces [] = refl
literal_prefix-pieces (Single (Byte b) ∷ es) = ap (λ n. 1 + n) (literal_prefix-pieces es)
literal_prefix-pieces (Single (Set set) ∷ es) = refl
literal_prefix-pieces (Single Star ∷ es) = refl
literal_prefix-pieces (Single DoubleStar ∷ es) = refl
literal_prefix-pieces (Single (Group first second others) ∷ es) = refl
literal_prefix-pieces (Open ∷ es) = group-prefix (pieces 1 es)
literal_prefix-pieces (Comma ∷ es) = ap (λ n. 1 + n) (literal_prefix-pieces es)
literal_prefix-pieces (Close ∷ es) = refl
literal_prefix-pieces (Fault error ∷ es) = refl

-- and are bytes where the elements are, if there is no fault
is_exact-pieces : (es : List Element) → first_fault es [] ≡ None → is_exact (first_of (pieces 0 es)) ≡ list_all is_byte es
is_exact-pieces [] fine = refl
is_exact-pieces (Single (Byte b) ∷ es) fine = is_exact-pieces es fine
is_exact-pieces (Single (Set set) ∷ es) fine = refl
is_exact-pieces (Single Star ∷ es) fine = refl
is_exact-pieces (Single DoubleStar ∷ es) fine = refl
is_exact-pieces (Single (Group first second others) ∷ es) fine = refl
is_exact-pieces (Open ∷ es) fine = group-exact (pieces 1 es) (sym (first_fault-pieces (Open ∷ es) []) ∙ fine)
is_exact-pieces (Comma ∷ es) fine = is_exact-pieces es fine
is_exact-pieces (Close ∷ es) fine = absurd (cc)
is_exact-pieces (Fault error ∷ es) fine = absurd (cc)

-- what a text reads as that has no fault
reading-items : (text : List ℕ) → HasNoFirstFault text → first_fault (spelled text) [] ≡ None → reading text ≡ Ok (first_of (pieces 0 (spelled text)))
reading-items text first fine = reading-whole text first ∙ whole-fine (pieces 0 (spelled text)) (sym (first_fault-pieces (spelled text) []) ∙ fine)

items_of-fine : (text : List ℕ) → HasNoFirstFault text → first_fault (spelled text) [] ≡ None → items_of text ≡ first_of (pieces 0 (spelled text))
items_of-fine text first fine = ap items_read (reading-items text first fine)

pub reading-fine : (text : List ℕ) → HasNoFirstFault text → first_fault (spelled text) [] ≡ None → reading text ≡ Ok (items_of text)
reading-fine text first fine = reading-items text first fine ∙ ap Ok (sym (items_of-fine text first fine))

pub reading-faulty : (text : List ℕ) (error : PatternError) → HasNoFirstFault text → first_fault (spelled text) [] ≡ Some error → reading text ≡ Err error
reading-faulty text error first faulty = reading-whole text first ∙ whole-faulty (pieces 0 (spelled text)) error (sym (first_fault-pieces (spelled text) []) ∙ faulty)

pub is_exact-fine : (text : List ℕ) → HasNoFirstFault text → first_fault (spelled text) [] ≡ None → list_all is_byte (spelled text) ≡ is_exact (items_of text)
is_exact-fine text first fine = sym (ap is_exact (items_of-fine text first fine) ∙ is_exact-pieces (spelled text) fine)

pub literal_prefix-fine : (text : List ℕ) → HasNoFirstFault text → first_fault (spelled text) [] ≡ None → prefix_len is_byte (spelled text) ≡ literal_prefix (items_of text)
literal_prefix-fine text first fine = sym (ap literal_prefix (items_of-fine text first fine) ∙ literal_prefix-pieces (spelled text))

-- how many bytes come first, from those so far, if they go on here
abbrev prefix_with : ℕ → Bool → List Element → ℕ
prefix_with prefix exact es = prefix + (if exact then prefix_len is_byte es else 0)

-- What is known of elements, from the groups and facts so far and from those elements that are left.
abbrev pub AreKnown : List Element → Facts → List Bool → List Element → Type 0
AreKnown all facts groups es =
    (first_fault all [] ≡ first_fault es groups)
    × (list_all is_byte all ≡ (facts.exact && list_all is_byte es))
    × (prefix_len is_byte all ≡ prefix_with facts.prefix facts.exact es)

step-prefix : (prefix : ℕ) (exact byte : Bool) (rest : ℕ)
    → prefix + (if exact then (if byte then 1 + rest else 0) else 0) ≡ (if exact && byte then prefix + 1 else prefix) + (if exact && byte then rest else 0)
step-prefix prefix true true rest = omega arith
step-prefix prefix true false rest = refl
step-prefix prefix false byte rest = refl

-- one element more
pub known-behind : (all : List Element) (facts next : Facts) (groups : List Bool) (more : List Bool) (e : Element) (es : List Element)
    → next.exact ≡ (facts.exact && is_byte e) → next.prefix ≡ (if facts.exact && is_byte e then facts.prefix + 1 else facts.prefix)
    → first_fault (e ∷ es) groups ≡ first_fault es more → AreKnown all facts groups (e ∷ es) → AreKnown all next more es
known-behind all facts next groups more e es is_exact is_prefix fault known = (
  known.0 ∙ fault,
  known.1 ∙ sym (and_assoc facts.exact (is_byte e) (list_all is_byte es)) ∙ ap (λ c. c && list_all is_byte es) (sym is_exact),
  known.2 ∙ step-prefix facts.prefix facts.exact (is_byte e) (prefix_len is_byte es) ∙ rw (is_exact, is_prefix) refl,
)

fault-literals : (bs : List ℕ) (es : List Element) (groups : List Bool) → first_fault (literals bs ++ es) groups ≡ first_fault es groups
fault-literals [] es groups = refl
fault-literals (b ∷ bs) es groups = fault-literals bs es groups

exact-literals : (bs : List ℕ) (es : List Element) → list_all is_byte (literals bs ++ es) ≡ list_all is_byte es
exact-literals [] es = refl
exact-literals (b ∷ bs) es = exact-literals bs es

prefix-literals : (bs : List ℕ) (es : List Element) → prefix_len is_byte (literals bs ++ es) ≡ length bs + prefix_len is_byte es
prefix-literals [] es = omega arith
prefix-literals (b ∷ bs) es = let more = prefix-literals bs es in omega (arith, more)

step-literals : (prefix count rest : ℕ) (exact : Bool) → prefix + (if exact then count + rest else 0) ≡ (if exact then prefix + count else prefix) + (if exact then rest else 0)
step-literals prefix count rest true = omega arith
step-literals prefix count rest false = refl

-- so many bytes more that stand for themselves
pub known-behind_literals : (all : List Element) (facts next : Facts) (groups : List Bool) (text : List ℕ) (count : ℕ) (ds es : List Element)
    → count ≤ length text → ds ≡ literals (take count text) ++ es → next.exact ≡ facts.exact → next.prefix ≡ (if facts.exact then facts.prefix + count else facts.prefix)
    → AreKnown all facts groups ds → AreKnown all next groups es
known-behind_literals all facts next groups text count ds es within begins is_exact is_prefix known =
    let bs = take count text in
    let many : length bs ≡ count = length-take-le count text within in (
      known.0 ∙ ap (λ es. first_fault es groups) begins ∙ fault-literals bs es groups,
      known.1 ∙ ap (λ es. facts.exact && list_all is_byte es) begins ∙ rw is_exact (ap (λ c. facts.exact && c) (exact-literals bs es)),
      known.2 ∙ ap (prefix_with facts.prefix facts.exact) begins
          ∙ ap (λ n. facts.prefix + (if facts.exact then n else 0)) (prefix-literals bs es ∙ ap (λ n. n + prefix_len is_byte es) many)
          ∙ step-literals facts.prefix count (prefix_len is_byte es) facts.exact ∙ rw (is_exact, is_prefix) refl,
    )

-- The bytes so far leave room for those that are left.
pub room-behind : (byte : Bool) (prefix next before after most : ℕ) → next ≡ (if byte then prefix + 1 else prefix) → after < before → prefix + before ≤ most → next + after ≤ most
room-behind true prefix next before after most is_next shorter room = omega arith
room-behind false prefix next before after most is_next shorter room = omega arith

pub room-behind_literals : (exact : Bool) (prefix next count before after most : ℕ) → next ≡ (if exact then prefix + count else prefix) → count + after ≤ before → prefix + before ≤ most
    → next + after ≤ most
room-behind_literals true prefix next count before after most is_next fewer room = omega arith
room-behind_literals false prefix next count before after most is_next fewer room = omega arith

-- what two clauses on a result say together, and what one says of an error
pub IfOk-both : {T E : Type 0} {P Q R : T → Type 0} (r : Result T E) → IfOk r P → IfOk r Q → ((x : T) → P x → Q x → R x) → IfOk r R
IfOk-both (Ok x) p q both = both x p q
IfOk-both (Err e) p q both = tt

pub IfErr-so : {T E : Type 0} {P Q : E → Type 0} (r : Result T E) → IfErr r P → ((e : E) → P e → Q e) → IfErr r Q
IfErr-so (Ok x) p so = tt
IfErr-so (Err e) p so = so e p
