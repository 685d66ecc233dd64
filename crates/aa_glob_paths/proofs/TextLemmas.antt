-- Texts and the sets behind them.
use Rattle.std.proofs.Common.{◌≡◌, ◌↔◌, ℕ, zero, suc, ◌<◌, ◌≤◌, ◌^◌, Bool, true, List, [], ◌∷◌, ◌++◌, length, length-append, drop, get_or, reverse, refl, sym, ap, subst, inl, inr, arith}
use Rattle.std.proofs.lemmas.Bool.{cases_eq}
use Rattle.std.proofs.lemmas.List.{get_or_append_left, get_or_push, reverse-reverse}
use Rattle.std.proofs.lemmas.List.Sorted.{All-permutation, IsPermutation-reverse}
use Rattle.std.proofs.lemmas.List.Elements.{All-cons, All-contains, All-get_or, All-nil, All-push, recursion_from_All}
use Rattle.std.proofs.lemmas.List.Quantifiers.{all_pairs_push}
use Rattle.std.specs.List.{AllByRecursion}
use Rattle.std.specs.Prelude.{All, AllPairs, Contains}
use Rattle.aa_glob_nfa.specs.Graphs.{AreBytes, EndsAt, Graph, IsFound, Reaches}
use Rattle.aa_glob_nfa.specs.Graphs.Reaches.{begins, comes, takes, stays}
use Rattle.aa_glob_nfa.specs.Runs.{IsWhole}
use Rattle.aa_glob_pairs.proofs.MeetLemmas.{there}
use Rattle.aa_glob_paths.specs.Found.{AreByLength, AreFound, FoundSet, IsFoundBehind, IsFoundWithin, IsStateSet, no_set, origin_at, set_at}
use Rattle.aa_glob_paths.specs.SetLaws.{ClosedSetsAreReachable, EndIn, SetsTellPatterns}
use Rattle.aa_glob_paths.specs.Reachable.{AreMoreThan, HasSet, HasText, IsClosed, IsKeptBack, LeadAlike, LivesOn, matters, StaysUnsettled}
use Rattle.aa_glob_paths.proofs.RisingLemmas.{rise-same}

-- behind the text before the last byte a state lives that matters, where one does behind that byte
before : (g : Graph) (wanted : List Bool) → IsKeptBack g wanted → {text : List ℕ} {r : ℕ} → Reaches g text r → (past : List ℕ) (c : ℕ) → text ≡ c ∷ past
    → matters wanted r ≡ true → LivesOn g wanted past
before g wanted back begins past c is it = absurd (let none = ap length is in omega (arith, none))
before g wanted back (comes {q = q} {r = r} at leads free) past c is it = before g wanted back at past c is (back q r leads it)
before g wanted back (takes {past = text} {q = q} {r = r} at leads taken) past c is it = (q, subst (λ t. Reaches g t q) (ap (drop 1) is) at, back q r leads it)
before g wanted back (stays {past = text} {r = r} at stay) past c is it = (r, subst (λ t. Reaches g t r) (ap (drop 1) is) at, it)

lives-before : (g : Graph) (wanted : List Bool) (past : List ℕ) (c : ℕ) → IsKeptBack g wanted → LivesOn g wanted (c ∷ past) → LivesOn g wanted past
lives-before g wanted past c back lives = before g wanted back lives.1 past c refl lives.2

-- each set was found behind a text: that of an earlier one, and a byte more
pub found-behind : (most n : ℕ) (g : Graph) (room : ℕ) (found : List FoundSet) → AreFound g room found → n < most → n < length found
    → (past : List ℕ) × IsFoundBehind found n past
found-behind zero n g room found are less within = absurd (omega (arith, less))
found-behind (suc most) n g room found are less within = elim (cases_eq n 0) [
  | inl first ↦ ([], first)
  | inr later ↦
      let some : 0 < n = omega (arith, later) in
      let come = are.each n some within in
      let text = found-behind most (origin_at found n).from g room found are (omega (arith, come.earlier, less)) (omega (arith, come.earlier, within)) in
      ((origin_at found n).byte ∷ text.0, (some, refl, text.1))
]

-- it lives behind that text
pub behind-whole : (g : Graph) (room : ℕ) (found : List FoundSet) → AreFound g room found → (past : List ℕ) (n : ℕ) → n < length found → IsFoundBehind found n past
    → AreBytes past × IsWhole g past (set_at found n)
behind-whole g room found are [] n within behind = (All-nil (λ c. c < 2 ^ 8), subst (λ k. IsWhole g [] (set_at found k)) (sym behind) are.start)
behind-whole g room found are (c ∷ past) n within behind =
    let come = are.each n behind.0 within in
    let from = (origin_at found n).from in
    let before = behind-whole g room found are past from (omega (arith, come.earlier, within)) behind.2 in
    subst (λ d. AreBytes (d ∷ past) × IsWhole g (d ∷ past) (set_at found n)) (sym behind.1)
    (All-cons (λ d. d < 2 ^ 8) (origin_at found n).byte past come.is_byte before.0, come.leads past before.1)

has-text : (g : Graph) (room : ℕ) (found : List FoundSet) (n : ℕ) → AreFound g room found → n < length found → HasText g found n
has-text g room found n are within =
    let text = found-behind (suc n) n g room found are (omega arith) within in
    let whole = behind-whole g room found are text.0 n within text.1 in
    (text.0, whole.0, whole.1, text.1)

-- those that were found first have the shorter texts
by-length : (g : Graph) (room : ℕ) (found : List FoundSet) → AreFound g room found → AreByLength found
by-length g room found are n k past less within later [] behind = omega arith
by-length g room found are n k [] less within later (c ∷ text) behind = absurd (let some = behind.0 in omega (arith, less, later, some))
by-length g room found are n k (d ∷ past) less within later (c ∷ text) behind =
    let come = are.each k later.0 within in
    let shorter = by-length g room found are (origin_at found n).from (origin_at found k).from past
    (elim (cases_eq n k) [
      | inl same ↦ subst (λ m. (origin_at found n).from ≤ (origin_at found m).from) same (omega arith)
      | inr other ↦ are.in_turn n k no_set (omega (arith, less, other)) within
    ])
    (omega (arith, come.earlier, within)) later.2 text behind.2 in
    omega (arith, shorter)

-- a set that comes of one up to another has a text that is longer than the other's by one byte at most
within-next : (g : Graph) (room : ℕ) (found : List FoundSet) (n to c : ℕ) (past : List ℕ) → AreFound g room found → n < length found → (origin_at found to).from ≤ n
    → IsFoundWithin found n past → IsFoundWithin found to (c ∷ past)
within-next g room found n to c past are within from short [] behind = omega arith
within-next g room found n to c past are within from short (d ∷ text) behind =
    let mine = found-behind (suc n) n g room found are (omega arith) within in
    let less = by-length g room found are (origin_at found to).from n mine.0 from within mine.1 text behind.2 in
    let most = short mine.0 mine.1 in
    omega (arith, less, most)

first-within : (found : List FoundSet) → IsFoundWithin found 0 []
first-within found [] behind = omega arith
first-within found (c ∷ text) behind = absurd (let some = behind.0 in omega (arith, some))

-- each text has its set
has-set : (g : Graph) (wanted settled : List Bool) (room : ℕ) (found : List FoundSet) → IsKeptBack g wanted → AreFound g room found
    → IsClosed g wanted settled found → (past : List ℕ) → AllByRecursion (λ c. c < 2 ^ 8) past → LivesOn g wanted past → StaysUnsettled g settled past
    → HasSet g found past
has-set g wanted settled room found back are closed [] bytes lives unsettled = (0, are.some, are.start, first-within found)
has-set g wanted settled room found back are closed (c ∷ past) bytes lives unsettled =
    let here = has-set g wanted settled room found back are closed past bytes.1 (lives-before g wanted past c back lives) unsettled.1 in
    elim (closed here.0 c here.1 bytes.0) [
      | inl next ↦ (next.0, next.1, next.3 past here.2, within-next g room found here.0 next.0 c past are here.1 next.2 here.3)
      | inr over ↦ absurd (over past here.2 lives unsettled.0)
    ]

pub closed-reachable : ClosedSetsAreReachable
closed-reachable g wanted settled room found back are closed = record {
  each_text = λ past bytes lives unsettled.
      has-set g wanted settled room found back are closed past (recursion_from_All (λ c. c < 2 ^ 8) past bytes) lives unsettled;
  each_set = λ n within. has-text g room found n are within;
  by_length = by-length g room found are;
}

-- sets behind texts that lead to the same states are the same
same-set : (g : Graph) (room : ℕ) (past other one two : List ℕ) → IsStateSet room one → IsStateSet room two → IsWhole g past one → IsWhole g other two
    → LeadAlike g past other → one ≡ two
same-set g room past other one two first second whole again alike = rise-same one two first.rise second.rise (λ r. (
  (λ at. again.each r ((alike r).0 (All-contains (Reaches g past) one r whole.reached at))),
  (λ at. whole.each r ((alike r).1 (All-contains (Reaches g other) two r again.reached at))),
))

-- texts of the first sets, no two of which lead to the same states
pub record HaveTexts (g : Graph) (found : List FoundSet) (count : ℕ) : Type 0 where
  pub texts : List (List ℕ)
  pub many : length texts ≡ count
  pub bytes : All AreBytes texts
  pub whole : (n : ℕ) (d : List ℕ) → n < count → IsWhole g (get_or texts n d) (set_at found n)
  pub apart : AllPairs (λ past other. LeadAlike g past other → ⊥) texts

texts-more : (g : Graph) (room : ℕ) (found : List FoundSet) (count : ℕ) → AreFound g room found → count < length found → HaveTexts g found count → HaveTexts g found (suc count)
texts-more g room found count are within have =
    let text = has-text g room found count are within in
    let more = length-append have.texts (text.0 ∷ []) in
    let states : (n : ℕ) → n < length found → IsStateSet room (set_at found n) = λ n low. All-get_or (λ (f : FoundSet). IsStateSet room f.set) found n no_set low are.sets in
    record {
      texts = have.texts ++ text.0 ∷ [];
      many = omega (arith, more, have.many);
      bytes = All-push AreBytes have.texts text.0 have.bytes text.1;
      whole = λ n d low. elim (cases_eq n count) [
        | inl last ↦
            subst (λ k. IsWhole g (get_or (have.texts ++ text.0 ∷ []) k d) (set_at found k)) (sym last)
            (subst (λ past. IsWhole g past (set_at found count)) (sym (get_or_push have.texts text.0 d count have.many)) text.2)
        | inr other ↦
            let early : n < count = omega (arith, low, other) in
            subst (λ past. IsWhole g past (set_at found n)) (sym (get_or_append_left have.texts (text.0 ∷ []) d n (omega (arith, early, have.many)))) (have.whole n d early)
      ];
      apart = all_pairs_push (λ past other. LeadAlike g past other → ⊥) have.texts text.0 have.apart (λ n d low alike.
          let early : n < count = omega (arith, low, have.many) in
          are.apart n count no_set early within
          (same-set g room (get_or have.texts n d) text.0 (set_at found n) (set_at found count) (states n (omega (arith, early, within))) (states count within)
          (have.whole n d early) text.2 alike));
    }

texts-found : (g : Graph) (room : ℕ) (found : List FoundSet) (count : ℕ) → AreFound g room found → count ≤ length found → HaveTexts g found count
texts-found g room found zero are within = record {
  texts = [];
  many = refl;
  bytes = All-nil AreBytes;
  whole = λ n d low. absurd (omega (arith, low));
  apart = λ i j d before low. absurd (omega (arith, low));
}
texts-found g room found (suc count) are within = texts-more g room found count are (omega (arith, within)) (texts-found g room found count are (omega (arith, within)))

-- sets that are more than a limit have as many texts
pub more-than : (g : Graph) (room : ℕ) (found : List FoundSet) (limit : ℕ) → AreFound g room found → limit < length found → AreMoreThan g limit
more-than g room found limit are more =
    let have = texts-found g room found (length found) are (omega arith) in
    record { texts = have.texts; more = omega (arith, have.many, more); bytes = have.bytes; apart = have.apart }

pub bytes-reverse : (text : List ℕ) → AreBytes text → AreBytes (reverse text)
bytes-reverse text bytes = All-permutation (λ c. c < 2 ^ 8) text (reverse text) (IsPermutation-reverse text) bytes

-- the patterns of a set are those of the texts that lead to it
ends-found : (g : Graph) (past set patterns : List ℕ) → IsWhole g past set → EndIn g set patterns
    → (p : ℕ) → Contains patterns p ↔ ((r : ℕ) × EndsAt g r p × Reaches g past r)
ends-found g past set patterns whole ends p = (
  (λ h. let end = (ends p).0 h in (end.0, end.1, All-contains (Reaches g past) set end.0 whole.reached end.2)),
  (λ end. (ends p).1 (end.0, end.1, whole.each end.0 end.2)),
)

found-ends : (g : Graph) (text set patterns : List ℕ) → IsWhole g (reverse text) set → IsFound g text patterns → EndIn g set patterns
found-ends g text set patterns whole found p = (
  (λ h. let end = (found p).0 h in (end.0, end.1, whole.each end.0 end.2)),
  (λ end. (found p).1 (end.0, end.1, All-contains (Reaches g (reverse text)) set end.0 whole.reached end.2)),
)

pub sets-tell : SetsTellPatterns
sets-tell g wanted settled found patterns laid reachable = (
  (λ some.
      let text = reachable.each_set some.0 some.1 in (
        reverse text.0,
        bytes-reverse text.0 text.1,
        subst (λ past. (p : ℕ) → Contains patterns p ↔ ((r : ℕ) × EndsAt g r p × Reaches g past r)) (sym (reverse-reverse text.0))
            (ends-found g text.0 (set_at found some.0) patterns text.2 some.2),
      )),
  (λ has some.
      let end = (some.3 has.0).0 has.1 in
      let set = reachable.each_text (reverse some.0) (bytes-reverse some.0 some.1) (end.0, end.2, has.2 end.0 (there g laid end.2) end.1) some.2 in
      (set.0, set.1, found-ends g some.0 (set_at found set.0) patterns set.2 some.3)),
)
