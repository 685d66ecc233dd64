-- What has a number keeps it, and no two elements have one number.
use Rattle.std.proofs.Common.{◌≡◌, ℕ, zero, suc, ◌+◌, ◌<◌, ◌≤◌, ◌-◌, ◌==◌, Bool, true, false, cond, List, [], ◌∷◌, ◌++◌, take, length, get_or, refl, sym, ap, subst, ◌∙◌, append_assoc, arith, inl, inr}
use Rattle.std.specs.Prelude.{Option, None, Some, IfSome, Vec, nat_lt, if◌then◌else◌}
use Rattle.std.specs.declared.cmp.Ordering.{Ordering}
use Rattle.std.specs.declared.cmp.Ordering.TheVariants.{Less, Equal, Greater}
use Rattle.std.specs.BTreeMap.{BTreeMap, insert_entry, is_at, Updates}
use Rattle.std.specs.Cmp.Lexicographic.{slice_cmp}
use Rattle.std.specs.Map.{lookup}
use Rattle.std.specs.Ordering.{is_eq, match_ordering, nat_cmp}
use Rattle.std.specs.Str.{bytes_eq}
use Rattle.std.proofs.lemmas.Bool.{cases_Bool, eq-eqb, eqb-true, ltb-true}
use Rattle.std.proofs.lemmas.Cmp.{nat_list_eq_equiv}
use Rattle.std.proofs.lemmas.List.{take_more}
use Rattle.std.proofs.lemmas.Map.Text.{is_eq-slice_cmp}
use Rattle.std.proofs.lemmas.Slice.Eq.{bytes_eq-Decides}
use Rattle.aa_glob.specs.Numbers.{AreKept, ends_of, first_set, key_of, most_number, number_from, number_of, number_of_set}
use Rattle.aa_glob.specs.code.Numbered.{AreBelow, AreNumbered, key_numbered, keys_from, keys_in_order}
use Rattle.aa_glob_syntax.specs.Elements.{Element, Single, Open, Comma, Close, Fault}
use Rattle.aa_glob_syntax.specs.Items.{Byte, Set, Star, DoubleStar, Group}
use Rattle.aa_bytes.specs.declared.byte_set.ByteRange.{ByteRange}
use Rattle.aa_bytes.specs.declared.byte_set.ByteSet.{ByteSet}
use Rattle.aa_bytes.specs.declared.byte_set.ByteSet.TheVariants.{Inside, Class}

ends_of-push : (ranges : List ByteRange) (range : ByteRange) → ends_of (ranges ++ range ∷ []) ≡ ends_of ranges ++ range.first ∷ range.last ∷ []
ends_of-push [] range = refl
ends_of-push (r ∷ rs) range = ap (λ l. r.first ∷ r.last ∷ l) (ends_of-push rs range)

-- one more range
pub ends_of-more : (key so_far after : List ℕ) (ranges : List ByteRange) (at : ℕ) (d : ByteRange) → at < length ranges
    → so_far ≡ key ++ ends_of (take at ranges) → after ≡ so_far ++ ends_of (get_or ranges at d ∷ []) → after ≡ key ++ ends_of (take (at + 1) ranges)
ends_of-more key so_far after ranges at d within before more =
    more ∙ ap (λ l. l ++ ends_of (get_or ranges at d ∷ [])) before
    ∙ append_assoc key (ends_of (take at ranges)) (ends_of (get_or ranges at d ∷ []))
    ∙ ap (λ l. key ++ l) (sym (ends_of-push (take at ranges) (get_or ranges at d)) ∙ ap ends_of (sym (take_more ranges at d within)))

pub same-key : (key : List ℕ) → bytes_eq key key ≡ true
same-key key = (bytes_eq-Decides key key).1 refl

-- the first of two, if there is one, and else the second
abbrev first_of : Option ℕ → Option ℕ → Option ℕ
first_of None second = second
first_of (Some n) second = Some n

first-none : (first : Option ℕ) → first_of first None ≡ first
first-none None = refl
first-none (Some n) = refl

-- the number of a key where one more is put behind all
number_from-push : (first : ℕ) (key added : List ℕ) (keys : List (List ℕ))
    → number_from first key (keys ++ added ∷ []) ≡ first_of (number_from first key keys) (if bytes_eq key added then Some (first + length keys) else None)
number_from-push first key added [] =
    let same : first ≡ first + 0 = omega arith in
    ap (λ n. if bytes_eq key added then Some n else None) same
number_from-push first key added (k ∷ ks) = elim (cases_Bool (bytes_eq key k)) [
  | inl here ↦ rw here refl
  | inr later ↦
      let same : first + 1 + length ks ≡ first + suc (length ks) = omega arith in
      rw later (number_from-push (first + 1) key added ks ∙ ap (λ n. first_of (number_from (first + 1) key ks) (if bytes_eq key added then Some n else None)) same)
]

-- the number of a key that is put there for the first time
number_from-last : (key : List ℕ) (keys : List (List ℕ)) → number_from first_set key keys ≡ None → number_from first_set key (keys ++ key ∷ []) ≡ Some (first_set + length keys)
number_from-last key keys none =
    number_from-push first_set key key keys
    ∙ ap (λ number. first_of number (if bytes_eq key key then Some (first_set + length keys) else None)) none
    ∙ ap (λ same. if same then Some (first_set + length keys) else None) (same-key key)

-- a number that is known stays
number_from-kept : (key added : List ℕ) (keys : List (List ℕ)) (n : ℕ) → number_from first_set key keys ≡ Some n → number_from first_set key (keys ++ added ∷ []) ≡ Some n
number_from-kept key added keys n known =
    number_from-push first_set key added keys ∙ ap (λ number. first_of number (if bytes_eq key added then Some (first_set + length keys) else None)) known

-- numbers are given one by one
number_from-below : (first n : ℕ) (key : List ℕ) (keys : List (List ℕ)) → number_from first key keys ≡ Some n → n < first + length keys
number_from-below first n key [] known = absurd cc
number_from-below first n key (k ∷ ks) known = elim (cases_Bool (bytes_eq key k)) [
  | inl here ↦ let same : first ≡ n = let some = rw here at known in cc in omega (arith, same)
  | inr later ↦ omega (arith, number_from-below (first + 1) n key ks (rw later at known))
]

-- all that have a number keep it
numbers-kept : (keys : List (List ℕ)) (added : List ℕ) → AreKept keys (keys ++ added ∷ [])
numbers-kept keys added (Single (Byte b)) n known = known
numbers-kept keys added (Single (Set set)) n known = number_from-kept (key_of set) added keys n known
numbers-kept keys added (Single Star) n known = known
numbers-kept keys added (Single DoubleStar) n known = known
numbers-kept keys added (Single (Group first second others)) n known = known
numbers-kept keys added Open n known = known
numbers-kept keys added Comma n known = known
numbers-kept keys added Close n known = known
numbers-kept keys added (Fault error) n known = known

-- Keys with their numbers, as they are kept.

-- a key is compared by its bytes
abbrev by_bytes : {A : Type 0} → Vec ℕ A → Vec ℕ A → Ordering
by_bytes key other = slice_cmp nat_cmp key.items other.items

-- a key comes with a number
abbrev pub Adds : {A : Type 0} → BTreeMap (Vec ℕ A) ℕ → Vec ℕ A → ℕ → BTreeMap (Vec ℕ A) ℕ → Type 0
Adds old key n new = (new.entries ≡ insert_entry by_bytes old.entries key n) × Updates by_bytes old new key (Some n)

-- a key that isn't there is put between two that are
inserted : {A : Type 0} (entries : List (Vec ℕ A × ℕ)) (key : Vec ℕ A) (n : ℕ) → lookup (is_at (by_bytes key)) entries ≡ None
    → (front : List (Vec ℕ A × ℕ)) × (back : List (Vec ℕ A × ℕ)) × (entries ≡ front ++ back) × (insert_entry by_bytes entries key n ≡ front ++ (key, n) ∷ back)
inserted [] key n none = ([], [], refl, refl)
inserted {A} (entry ∷ entries) key n none = by (by_bytes key entry.0) none (inserted entries key n)
  where
    by : (order : Ordering) → cond (is_eq order) (Some entry.1) (lookup (is_at (by_bytes key)) entries) ≡ None
        → (lookup (is_at (by_bytes key)) entries ≡ None
        → (front : List (Vec ℕ A × ℕ)) × (back : List (Vec ℕ A × ℕ)) × (entries ≡ front ++ back) × (insert_entry by_bytes entries key n ≡ front ++ (key, n) ∷ back))
        → (front : List (Vec ℕ A × ℕ)) × (back : List (Vec ℕ A × ℕ)) × (entry ∷ entries ≡ front ++ back)
        × (match_ordering order ((key, n) ∷ entry ∷ entries) ((entry.0, n) ∷ entries) (entry ∷ insert_entry by_bytes entries key n) ≡ front ++ (key, n) ∷ back)
    by Less none behind = ([], entry ∷ entries, refl, refl)
    by Equal none behind = absurd cc
    by Greater none behind = let rest = behind none in (entry ∷ rest.0, rest.1, ap (λ l. entry ∷ l) rest.2, ap (λ l. entry ∷ l) rest.3)

-- it changes what no other key stands with
lookup-other : {A : Type 0} (test : Vec ℕ A → Bool) (key : Vec ℕ A) (n : ℕ) (front back : List (Vec ℕ A × ℕ)) → test key ≡ false → lookup test (front ++ (key, n) ∷ back) ≡ lookup test (front ++ back)
lookup-other test key n [] back other = rw other refl
lookup-other test key n (entry ∷ front) back other = ap (cond (test entry.0) (Some entry.1)) (lookup-other test key n front back other)

-- nor any other number's key
key_numbered-other : {A : Type 0} (n m : ℕ) (key : Vec ℕ A) (front back : List (Vec ℕ A × ℕ)) → (n == m) ≡ false → key_numbered m (front ++ (key, n) ∷ back) ≡ key_numbered m (front ++ back)
key_numbered-other n m key [] back other = rw other refl
key_numbered-other n m key (entry ∷ front) back other = ap (λ keys. if entry.1 == m then entry.0.items else keys) (key_numbered-other n m key front back other)

-- and is found by its own
key_numbered-own : {A : Type 0} (n : ℕ) (key : Vec ℕ A) (front back : List (Vec ℕ A × ℕ)) → AreBelow n (front ++ back) → key_numbered n (front ++ (key, n) ∷ back) ≡ key.items
key_numbered-own n key [] back given = rw (eq-eqb n n refl) refl
key_numbered-own n key (entry ∷ front) back given = elim (cases_Bool (entry.1 == n)) [
  | inl same ↦ absurd (omega (arith, eqb-true entry.1 n same, given.0))
  | inr other ↦ rw other (key_numbered-own n key front back given.1)
]

-- so it is the last of the keys
keys_from-more : {A : Type 0} (first count n : ℕ) (key : Vec ℕ A) (front back : List (Vec ℕ A × ℕ)) → first + count ≡ n → AreBelow n (front ++ back)
    → keys_from first (suc count) (front ++ (key, n) ∷ back) ≡ keys_from first count (front ++ back) ++ key.items ∷ []
keys_from-more first zero n key front back last given =
    let same : first ≡ n = omega (arith, last) in
    ap (λ k. k ∷ []) (ap (λ m. key_numbered m (front ++ (key, n) ∷ back)) same ∙ key_numbered-own n key front back given)
keys_from-more first (suc count) n key front back last given =
    let on : first + 1 + count ≡ n = omega (arith, last) in
    (λ i. key_numbered-other n first key front back other i ∷ keys_from-more (first + 1) count n key front back on given i)
  where
    other : (n == first) ≡ false
    other = elim (cases_Bool (n == first)) [
      | inl same ↦ absurd (omega (arith, eqb-true n first same, last))
      | inr apart ↦ apart
    ]

given-later : {A : Type 0} (n : ℕ) (entries : List (Vec ℕ A × ℕ)) → AreBelow n entries → AreBelow (n + 1) entries
given-later n [] given = given
given-later n (entry ∷ entries) given = (omega (arith, given.0), given-later n entries given.1)

given-more : {A : Type 0} (n : ℕ) (key : Vec ℕ A) (front back : List (Vec ℕ A × ℕ)) → AreBelow n (front ++ back)
    → AreBelow (n + 1) (front ++ (key, n) ∷ back)
given-more n key [] back given = (omega arith, given-later n back given)
given-more n key (entry ∷ front) back given = (omega (arith, given.0), given-more n key front back given.1)

length-keys_from : {A : Type 0} (first count : ℕ) (entries : List (Vec ℕ A × ℕ)) → length (keys_from first count entries) ≡ count
length-keys_from first zero entries = refl
length-keys_from first (suc count) entries = ap suc (length-keys_from (first + 1) count entries)

-- there are as many keys as entries
length-keys : {A : Type 0} (entries : List (Vec ℕ A × ℕ)) → length (keys_in_order entries) ≡ length entries
length-keys entries = length-keys_from first_set (length entries) entries

length-inserted : {A : Type 0} (key : Vec ℕ A) (n : ℕ) (front back : List (Vec ℕ A × ℕ)) → length (front ++ (key, n) ∷ back) ≡ suc (length (front ++ back))
length-inserted key n [] back = refl
length-inserted key n (entry ∷ front) back = ap suc (length-inserted key n front back)

-- a key comes whose number is the next one
abbrev pub Comes : {A : Type 0} → BTreeMap (Vec ℕ A) ℕ → Vec ℕ A → ℕ → BTreeMap (Vec ℕ A) ℕ → Type 0
Comes old key n new = AreNumbered old.entries × (number_from first_set key.items (keys_in_order old.entries) ≡ None) × (n ≡ first_set + length old.entries) × Adds old key n new

-- it stood with no number
comes-new : {A : Type 0} (old new : BTreeMap (Vec ℕ A) ℕ) (key : Vec ℕ A) (n : ℕ) → Comes old key n new → lookup (is_at (by_bytes key)) old.entries ≡ None
comes-new old new key n comes = sym (comes.0.told key.items) ∙ comes.1

comes-given : {A : Type 0} (old new : BTreeMap (Vec ℕ A) ℕ) (key : Vec ℕ A) (n : ℕ) → Comes old key n new → AreBelow n old.entries
comes-given old new key n comes = subst (λ most. AreBelow most old.entries) (sym comes.2) comes.0.given

comes-length : {A : Type 0} (old new : BTreeMap (Vec ℕ A) ℕ) (key : Vec ℕ A) (n : ℕ) → Comes old key n new → length new.entries ≡ suc (length old.entries)
comes-length old new key n comes =
    let split = inserted old.entries key n (comes-new old new key n comes) in
    ap length (comes.3.0 ∙ split.3) ∙ length-inserted key n split.0 split.1 ∙ ap (λ l. suc (length l)) (sym split.2)

comes-next : {A : Type 0} (old new : BTreeMap (Vec ℕ A) ℕ) (key : Vec ℕ A) (n : ℕ) → Comes old key n new → first_set + length (keys_in_order old.entries) ≡ n
comes-next old new key n comes = ap (λ count. first_set + count) (length-keys old.entries) ∙ sym comes.2

-- it is the last of the keys
keys-more : {A : Type 0} (old new : BTreeMap (Vec ℕ A) ℕ) (key : Vec ℕ A) (n : ℕ) → Comes old key n new → keys_in_order new.entries ≡ keys_in_order old.entries ++ key.items ∷ []
keys-more old new key n comes =
    let split = inserted old.entries key n (comes-new old new key n comes) in
    (λ i. keys_from first_set (comes-length old new key n comes i) ((comes.3.0 ∙ split.3) i))
    ∙ keys_from-more first_set (length old.entries) n key split.0 split.1 (sym comes.2) (subst (λ entries. AreBelow n entries) split.2 (comes-given old new key n comes))
    ∙ ap (λ entries. keys_from first_set (length old.entries) entries ++ key.items ∷ []) (sym split.2)

given-after : {A : Type 0} (old new : BTreeMap (Vec ℕ A) ℕ) (key : Vec ℕ A) (n : ℕ) → Comes old key n new → AreBelow (first_set + length new.entries) new.entries
given-after old new key n comes =
    let split = inserted old.entries key n (comes-new old new key n comes) in
    let last : n + 1 ≡ first_set + length new.entries = omega (arith, comes-length old new key n comes, comes.2) in
    subst (λ most. AreBelow most new.entries) last
    (subst (λ entries. AreBelow (n + 1) entries) (sym (comes.3.0 ∙ split.3)) (given-more n key split.0 split.1 (subst (λ entries. AreBelow n entries) split.2 (comes-given old new key n comes))))

-- the number that stands with a key, by its bytes
abbrev standing : {A : Type 0} → List ℕ → List (Vec ℕ A × ℕ) → Option ℕ
standing key entries = lookup (is_at (λ kept. slice_cmp nat_cmp key kept.items)) entries

standing-after : {A : Type 0} (old new : BTreeMap (Vec ℕ A) ℕ) (key : Vec ℕ A) (n : ℕ) → Comes old key n new → (other : List ℕ)
    → standing other new.entries ≡ cond (bytes_eq key.items other) (Some n) (standing other old.entries)
standing-after old new key n comes other = by (bytes_eq key.items other) refl
  where
    by : (same : Bool) → bytes_eq key.items other ≡ same → standing other new.entries ≡ cond same (Some n) (standing other old.entries)
    by true is = ap (λ key. standing key new.entries) (sym ((bytes_eq-Decides key.items other).0 is)) ∙ comes.3.1.1
    by false is =
        let split = inserted old.entries key n (comes-new old new key n comes) in
        let apart : is_eq (slice_cmp nat_cmp other key.items) ≡ false = is_eq-slice_cmp other key.items ∙ nat_list_eq_equiv.symm other key.items ∙ is in
        ap (standing other) (comes.3.0 ∙ split.3)
        ∙ lookup-other (is_at (λ kept. slice_cmp nat_cmp other kept.items)) key n split.0 split.1 apart
        ∙ ap (standing other) (sym split.2)

-- each key has the number that it stands with
told-after : {A : Type 0} (old new : BTreeMap (Vec ℕ A) ℕ) (key : Vec ℕ A) (n : ℕ) → Comes old key n new → (other : List ℕ) → number_from first_set other (keys_in_order new.entries) ≡ standing other new.entries
told-after old new key n comes other =
    ap (number_from first_set other) (keys-more old new key n comes)
    ∙ number_from-push first_set other key.items (keys_in_order old.entries)
    ∙ (λ i. first_of (comes.0.told other i) (if nat_list_eq_equiv.symm other key.items i then Some (comes-next old new key n comes i) else None))
    ∙ by (bytes_eq key.items other) refl
    ∙ sym (standing-after old new key n comes other)
  where
    by : (same : Bool) → bytes_eq key.items other ≡ same → first_of (standing other old.entries) (if same then Some n else None) ≡ cond same (Some n) (standing other old.entries)
    by true is =
        let own : standing other old.entries ≡ None = ap (λ key. standing key old.entries) (sym ((bytes_eq-Decides key.items other).0 is)) ∙ comes-new old new key n comes in
        ap (λ number. first_of number (Some n)) own
    by false is = first-none (standing other old.entries)

-- and keys that stand with their numbers still do
pub numbered-more : {A : Type 0} (old new : BTreeMap (Vec ℕ A) ℕ) (key : Vec ℕ A) (n : ℕ) → Comes old key n new → n < most_number → AreNumbered new.entries
numbered-more old new key n comes small = record {
  told = told-after old new key n comes;
  given = given-after old new key n comes;
  few = omega (arith, comes-length old new key n comes, comes.2, small);
}

-- its number is the next one
pub comes-told : {A : Type 0} (old new : BTreeMap (Vec ℕ A) ℕ) (key : Vec ℕ A) (n : ℕ) → Comes old key n new → number_from first_set key.items (keys_in_order new.entries) ≡ Some n
comes-told old new key n comes =
    ap (number_from first_set key.items) (keys-more old new key n comes)
    ∙ number_from-last key.items (keys_in_order old.entries) comes.1
    ∙ ap Some (comes-next old new key n comes)

-- and the others stay what they are
pub comes-kept : {A : Type 0} (old new : BTreeMap (Vec ℕ A) ℕ) (key : Vec ℕ A) (n : ℕ) → Comes old key n new → AreKept (keys_in_order old.entries) (keys_in_order new.entries)
comes-kept old new key n comes = subst (λ keys. AreKept (keys_in_order old.entries) keys) (sym (keys-more old new key n comes)) (numbers-kept (keys_in_order old.entries) key.items)

-- no number that is known is too large
pub known-within : {A : Type 0} (entries : List (Vec ℕ A × ℕ)) (key : List ℕ) (number : Option ℕ) → AreNumbered entries → number ≡ number_from first_set key (keys_in_order entries)
    → IfSome number (λ n. n < most_number)
known-within entries key None numbered is = tt
known-within entries key (Some n) numbered is = omega (arith, numbered.few, length-keys entries, number_from-below first_set n key (keys_in_order entries) (sym is))

-- The element of a number. That of a set stands by its key.

abbrev ranges_with : List ℕ → List ByteRange
ranges_with (first ∷ last ∷ ends) = record { first = first; last = last } ∷ ranges_with ends
ranges_with ends = []

abbrev pub set_with : List ℕ → ByteSet
set_with [] = Inside
set_with (negated ∷ ends) = Class (negated == 1) (ranges_with ends)

abbrev element_with : List (List ℕ) → ℕ → Element
element_with keys n =
    if nat_lt n 256 then Single (Byte n) else
    if n == 256 then Single Star else
    if n == 257 then Single DoubleStar else
    if n == 258 then Open else
    if n == 259 then Comma else
    if n == 260 then Close else
    Single (Set (set_with (get_or keys (n - first_set) [])))

ranges_with-ends : (ranges : List ByteRange) → ranges_with (ends_of ranges) ≡ ranges
ranges_with-ends [] = refl
ranges_with-ends (range ∷ ranges) = ap (λ more. range ∷ more) (ranges_with-ends ranges)

pub set_with-key : (set : ByteSet) → set_with (key_of set) ≡ set
set_with-key Inside = refl
set_with-key (Class true ranges) = ap (Class true) (ranges_with-ends ranges)
set_with-key (Class false ranges) = ap (Class false) (ranges_with-ends ranges)

-- a number is told of the key at its place
number_from-at : (first n : ℕ) (key : List ℕ) (keys : List (List ℕ)) → number_from first key keys ≡ Some n → (first ≤ n) × (get_or keys (n - first) [] ≡ key)
number_from-at first n key [] told = absurd cc
number_from-at first n key (k ∷ ks) told = elim (cases_Bool (bytes_eq key k)) [
  | inl here ↦
      let same : first ≡ n = let some = rw here at told in cc in
      (omega (arith, same), ap (λ at. get_or (k ∷ ks) at []) (let none : n - first ≡ 0 = omega (arith, same) in none) ∙ sym ((bytes_eq-Decides key k).0 here))
  | inr later ↦
      let rest = number_from-at (first + 1) n key ks (rw later at told) in
      (omega (arith, rest.0), ap (λ at. get_or (k ∷ ks) at []) (let more : n - first ≡ suc (n - (first + 1)) = omega (arith, rest.0) in more) ∙ rest.1)
]

element_with-set : (keys : List (List ℕ)) (n : ℕ) (set : ByteSet) → number_of_set keys set ≡ Some n → Single (Set set) ≡ element_with keys n
element_with-set keys n set told =
    let at = number_from-at first_set n (key_of set) keys told in
    let big : first_set ≤ n = at.0 in
    sym (
    rw (above n 256 (omega (arith, big)), other n 256 (omega (arith, big)), other n 257 (omega (arith, big)), other n 258 (omega (arith, big)), other n 259 (omega (arith, big)), other n 260 (omega (arith, big)))
    (ap (λ key. Single (Set (set_with key))) at.1 ∙ ap (λ set. Single (Set set)) (set_with-key set))
    )
  where
    above : (n most : ℕ) → most ≤ n → nat_lt n most ≡ false
    above n most big = elim (cases_Bool (nat_lt n most)) [
      | inl below ↦ absurd (omega (arith, ltb-true n most below, big))
      | inr not ↦ not
    ]

    other : (n m : ℕ) → m < n → (n == m) ≡ false
    other n m big = elim (cases_Bool (n == m)) [
      | inl same ↦ absurd (omega (arith, eqb-true n m same, big))
      | inr apart ↦ apart
    ]

-- an element is that of its number
element_with-number : (keys : List (List ℕ)) (e : Element) (n : ℕ) → number_of keys e ≡ Some n → e ≡ element_with keys n
element_with-number keys (Single (Byte b)) n told = elim (cases_Bool (nat_lt b 256)) [
  | inl small ↦
      let same : b ≡ n = let some = rw small at told in cc in
      let found : element_with keys b ≡ Single (Byte b) = rw small refl in
      sym found ∙ ap (element_with keys) same
  | inr large ↦ let none : None ≡ Some n = rw large at told in absurd cc
]
element_with-number keys (Single (Set set)) n told = element_with-set keys n set told
element_with-number keys (Single Star) n told = ap (element_with keys) (let same : 256 ≡ n = cc in same)
element_with-number keys (Single DoubleStar) n told = ap (element_with keys) (let same : 257 ≡ n = cc in same)
element_with-number keys (Single (Group first second others)) n told = absurd cc
element_with-number keys Open n told = ap (element_with keys) (let same : 258 ≡ n = cc in same)
element_with-number keys Comma n told = ap (element_with keys) (let same : 259 ≡ n = cc in same)
element_with-number keys Close n told = ap (element_with keys) (let same : 260 ≡ n = cc in same)
element_with-number keys (Fault error) n told = absurd cc

-- no two elements have one number
pub numbers-apart : (keys : List (List ℕ)) (e f : Element) (n : ℕ) → number_of keys e ≡ Some n → number_of keys f ≡ Some n → e ≡ f
numbers-apart keys e f n one other = element_with-number keys e n one ∙ sym (element_with-number keys f n other)
