-- Trails that are apart, how many there can be, and the beginnings of texts.
use Rattle.std.proofs.Common.{◌≡◌, ◌≢◌, ◌↔◌, ℕ, zero, suc, ◌<◌, ◌≤◌, Bool, List, [], ◌∷◌, ◌++◌, length, slice_index_or, Contains, Decides, refl, sym, ap, ◌∙◌, subst, inl, inr, arith}
use Rattle.std.proofs.lemmas.Bool.{cases_lt}
use Rattle.std.proofs.lemmas.List.{get_or_default, length-append}
use Rattle.std.proofs.lemmas.List.Elements.{Contains-append_cases, Contains-append_left, Contains-append_right}
use Rattle.std.proofs.lemmas.List.Quantifiers.{all_pairs_push}
use Rattle.std.proofs.lemmas.Map.Made.{AllPairs-from_IsDistinct, IsDistinct-from_AllPairs}
use Rattle.std.specs.List.{AllPairs, IsDistinct}
use Rattle.aa_glob_pattern.specs.Beginnings.{AreApart, HasStates}
use Rattle.aa_glob_pattern.specs.Trails.{Trail}

-- no trail is one after it
abbrev AreUnlike : List Trail → Type 0
AreUnlike trails = AllPairs (λ (s : Trail) (t : Trail). s ≢ t) trails

unlike-apart : (trails : List Trail) → AreApart trails → AreUnlike trails
unlike-apart trails apart = λ i j d less within same.
    let first = get_or_default trails i [] d (omega arith) in
    let second = get_or_default trails j d [] within in
    let one = apart i j (omega arith) within (first ∙ same ∙ second) in
    omega arith

apart-unlike : (trails : List Trail) → AreUnlike trails → AreApart trails
apart-unlike trails unlike = λ q r first second same. elim (cases_lt q r) [
  | inl below ↦ absurd (unlike q r [] below second same)
  | inr above ↦ elim (cases_lt r q) [
    | inl below ↦ absurd (unlike r q [] below first (sym same))
    | inr also ↦ omega arith
  ]
]

-- No two places have the same trail exactly where no trail is equal to one after it.
pub apart-distinct : (same : Trail → Trail → Bool) (trails : List Trail) → ((s t : Trail) → Decides (same s t) (s ≡ t)) → (AreApart trails ↔ IsDistinct same trails)
apart-distinct same trails decides = (
  λ apart. IsDistinct-from_AllPairs decides trails (unlike-apart trails apart),
  λ distinct. apart-unlike trails (AllPairs-from_IsDistinct decides trails distinct),
)

-- one more trail, which isn't there yet
pub apart-push : (trails : List Trail) (trail : Trail) → AreApart trails → (Contains trails trail → ⊥) → AreApart (trails ++ trail ∷ [])
apart-push trails trail apart fresh =
    apart-unlike (trails ++ trail ∷ []) (all_pairs_push (λ (s : Trail) (t : Trail). s ≢ t) trails trail (unlike-apart trails apart)
    (λ k d within same. fresh (k, within, get_or_default trails k trail d within ∙ same)))

-- the first of trails that are apart, and the others
apart-rest : (trail : Trail) (trails : List Trail) → AreApart (trail ∷ trails) → AreApart trails
apart-rest trail trails apart = λ q r first second same. let one = apart (suc q) (suc r) (omega arith) (omega arith) same in omega arith

first_alone : (trail : Trail) (trails : List Trail) → AreApart (trail ∷ trails) → Contains trails trail → ⊥
first_alone trail trails apart h =
    let same = get_or_default trails h.0 [] trail h.1 ∙ h.2 in
    let one = apart 0 (suc h.0) (omega arith) (let within = h.1 in omega arith) (sym same) in
    omega arith

-- one of a list's trails, between those before it and those after it
split_at : (trails : List Trail) (trail : Trail) (k : ℕ) → k < length trails → slice_index_or trails k trail ≡ trail → (before after : List Trail) × (trails ≡ before ++ trail ∷ after)
split_at [] trail k within is = absurd (omega arith)
split_at (t ∷ ts) trail zero within is = ([], ts, ap (λ (s : Trail). s ∷ ts) is)
split_at (t ∷ ts) trail (suc k) within is = let rest = split_at ts trail k (omega arith) is in (t ∷ rest.0, rest.1, ap (λ l. t ∷ l) rest.2)

-- what is among trails is also among all but one of them, if it isn't that one
but_one : (before after : List Trail) (one trail : Trail) → (one ≡ trail → ⊥) → Contains (before ++ one ∷ after) trail → Contains (before ++ after) trail
but_one before after one trail differs h = elim (Contains-append_cases before (one ∷ after) trail h) [
  | inl early ↦ Contains-append_left before after trail early
  | inr late ↦ behind late.0 late.1 late.2
]
  where
    behind : (k : ℕ) → k < length (one ∷ after) → slice_index_or (one ∷ after) k trail ≡ trail → Contains (before ++ after) trail
    behind zero within is = absurd (differs is)
    behind (suc k) within is = Contains-append_right before after trail (k, omega arith, is)

-- one trail more in front
pub later : (trail first : Trail) (trails : List Trail) → Contains trails trail → Contains (first ∷ trails) trail
later trail first trails h = (suc h.0, (let within = h.1 in omega arith), h.2)

-- Trails that are apart and all among others are no more than those.
pub length-among : (trails others : List Trail) → AreApart trails → ((trail : Trail) → Contains trails trail → Contains others trail) → length trails ≤ length others
length-among [] others apart among = omega arith
length-among (t ∷ ts) others apart among =
    let here = among t (0, omega arith, refl) in
    let parts = split_at others t here.0 here.1 here.2 in
    let differs : (u : Trail) → Contains ts u → t ≡ u → ⊥ = λ u h same. first_alone t ts apart (subst (λ (s : Trail). Contains ts s) (sym same) h) in
    let left : (u : Trail) → Contains ts u → Contains (parts.0 ++ parts.1) u = λ u h. but_one parts.0 parts.1 t u (differs u h) (subst (λ (l : List Trail). Contains l u) parts.2 (among u (later u t ts h))) in
    let fewer = length-among ts (parts.0 ++ parts.1) (apart-rest t ts apart) left in
    let all = ap length parts.2 in
    let with_it = length-append parts.0 (t ∷ parts.1) in
    let without_it = length-append parts.0 parts.1 in
    omega arith

-- Texts have one count of different beginnings.
pub one_count : (texts : List (List ℕ)) (n m : ℕ) → HasStates texts n → HasStates texts m → n ≡ m
one_count texts n m first second =
    let there = length-among first.0 second.0 first.1.apart (λ trail h. (second.1.members trail).1 ((first.1.members trail).0 h)) in
    let back = length-among second.0 first.0 second.1.apart (λ trail h. (first.1.members trail).1 ((second.1.members trail).0 h)) in
    let counted = first.2 in
    let also = second.2 in
    omega arith

-- The same texts have the same beginnings.
pub same_states : (texts others : List (List ℕ)) (n : ℕ) → HasStates texts n → ((text : List ℕ) → (Contains texts text ↔ Contains others text)) → HasStates others n
same_states texts others n states same = (
  states.0,
  record {
    members = λ trail. (
      λ h. let begins = (states.1.members trail).0 h in (begins.0, (same begins.0).0 begins.1, begins.2),
      λ begins. (states.1.members trail).1 (begins.0, (same begins.0).1 begins.1, begins.2),
    );
    apart = states.1.apart;
  },
  states.2,
)
