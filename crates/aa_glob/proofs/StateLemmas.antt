-- The beginnings of patterns are counted as they are gathered.
use Rattle.std.proofs.Common.{◌≡◌, ℕ, suc, ◌≤◌, true, false, ◌==◌, if◌then◌else◌, List, [], ◌∷◌, ◌++◌, length, get_or, refl, sym, ap, ◌∙◌, subst, inl, inr, arith}
use Rattle.std.specs.Prelude.{Contains, Some}
use Rattle.std.specs.List.{list_any}
use Rattle.std.specs.Str.{bytes_eq}
use Rattle.std.proofs.lemmas.Bool.{cases_Bool}
use Rattle.std.proofs.lemmas.List.{append_assoc, get_or_default, length-append}
use Rattle.std.proofs.lemmas.List.Elements.{Contains-push}
use Rattle.std.proofs.lemmas.List.Folds.{list_any_at}
use Rattle.std.proofs.lemmas.Slice.Eq.{bytes_eq-Decides}
use Rattle.aa_glob.proofs.BuiltLemmas.{all-begun}
use Rattle.aa_glob.proofs.NumberLemmas.{same-key, set_with, set_with-key}
use Rattle.aa_glob.specs.Built.{IsBuilt}
use Rattle.aa_glob.specs.Drawn.{trail_at}
use Rattle.aa_glob.specs.Grown.{Finds}
use Rattle.aa_glob.specs.Numbers.{number_of}
use Rattle.aa_glob.specs.States.{code_of, same_trail, state_count, with_beginning, with_beginnings, with_texts}
use Rattle.aa_glob.specs.Tree.{places}
use Rattle.aa_glob.specs.declared.growing.Growing.{Growing}
use Rattle.aa_glob_pattern.specs.Beginnings.{AreBeginnings, Begun, HasStates, IsBeginning}
use Rattle.aa_glob_pattern.specs.Laws.{FirstTextIsBegun, KnownTrailIsMet, NewTrailIsAdded, NextTextIsBegun, StatesHaveOneCount, WholeTextIsThere}
use Rattle.aa_glob_pattern.specs.Trails.{Trail, trail_of}
use Rattle.aa_glob_syntax.specs.Elements.{Element, Single, Open, Comma, Close, Fault}
use Rattle.aa_glob_syntax.specs.Items.{Byte, Set, Star, DoubleStar, Group}

-- Codes tell elements apart.

abbrev decoded : List ℕ → Element
decoded [] = Open
decoded (tag ∷ rest) =
    if tag == 0 then Single (Byte (get_or rest 0 0)) else
    if tag == 1 then Single (Set (set_with rest)) else
    if tag == 2 then Single Star else
    if tag == 3 then Single DoubleStar else
    if tag == 5 then Comma else
    if tag == 6 then Close else
    Open

-- an element that stands for itself by its code
abbrev IsPlain : Element → Type 0
IsPlain e = decoded (code_of e) ≡ e

numbered-plain : (keys : List (List ℕ)) (e : Element) (n : ℕ) → number_of keys e ≡ Some n → IsPlain e
numbered-plain keys (Single (Byte b)) n told = refl
numbered-plain keys (Single (Set set)) n told = ap (λ s. Single (Set s)) (set_with-key set)
numbered-plain keys (Single Star) n told = refl
numbered-plain keys (Single DoubleStar) n told = refl
numbered-plain keys (Single (Group first second others)) n told = absurd cc
numbered-plain keys Open n told = refl
numbered-plain keys Comma n told = refl
numbered-plain keys Close n told = refl
numbered-plain keys (Fault error) n told = absurd cc

-- an element that has the code of a plain one is that one
code-is : (e f : Element) → IsPlain e → code_of e ≡ code_of f → e ≡ f
code-is e (Single (Byte b)) plain same = sym plain ∙ ap decoded same
code-is e (Single (Set set)) plain same = sym plain ∙ ap decoded same ∙ ap (λ s. Single (Set s)) (set_with-key set)
code-is e (Single Star) plain same = sym plain ∙ ap decoded same
code-is e (Single DoubleStar) plain same = sym plain ∙ ap decoded same
code-is e (Single (Group first second others)) plain same =
    let is_open : e ≡ Open = sym plain ∙ ap decoded same in
    let never : code_of Open ≡ code_of (Single (Group first second others)) = sym (ap code_of is_open) ∙ same in
    absurd cc
code-is e Open plain same = sym plain ∙ ap decoded same
code-is e Comma plain same = sym plain ∙ ap decoded same
code-is e Close plain same = sym plain ∙ ap decoded same
code-is e (Fault error) plain same =
    let is_open : e ≡ Open = sym plain ∙ ap decoded same in
    let never : code_of Open ≡ code_of (Fault error) = sym (ap code_of is_open) ∙ same in
    absurd cc

-- Trails of plain elements are told apart.

abbrev ArePlain : Trail → Type 0
ArePlain [] = Unit
ArePlain (e ∷ trail) = IsPlain e × ArePlain trail

same-self : (trail : Trail) → same_trail trail trail ≡ true
same-self [] = refl
same-self (e ∷ trail) = rw (same-key (code_of e)) (same-self trail)

same-is : (s t : Trail) → ArePlain s → same_trail s t ≡ true → s ≡ t
same-is [] [] plain same = refl
same-is [] (f ∷ t) plain same = absurd cc
same-is (e ∷ s) [] plain same = absurd cc
same-is (e ∷ s) (f ∷ t) plain same = elim (cases_Bool (bytes_eq (code_of e) (code_of f))) [
  | inl here ↦
      let rest : same_trail s t ≡ true = rw here at same in
      let first = code-is e f plain.0 ((bytes_eq-Decides (code_of e) (code_of f)).0 here) in
      ap (λ x. x ∷ s) first ∙ ap (λ u. f ∷ u) (same-is s t plain.1 rest)
  | inr other ↦ let never : false ≡ true = rw other at same in absurd cc
]

-- whether a trail is among others
among-is : (trail : Trail) (trails : List Trail) → ArePlain trail → list_any (same_trail trail) trails ≡ true → Contains trails trail
among-is trail [] plain told = absurd cc
among-is trail (t ∷ trails) plain told = elim (cases_Bool (same_trail trail t)) [
  | inl here ↦ (0, omega arith, sym (same-is trail t plain here))
  | inr other ↦
      let rest = among-is trail trails plain (rw other at told) in
      (suc rest.0, (let within = rest.1 in omega arith), rest.2)
]

among-told : (trail : Trail) (trails : List Trail) → Contains trails trail → list_any (same_trail trail) trails ≡ true
among-told trail trails h = list_any_at (same_trail trail) trails h.0 trail h.1 (ap (same_trail trail) h.2 ∙ same-self trail)

-- Beginnings are gathered.

module _ (known : KnownTrailIsMet) (new : NewTrailIsAdded) (next : NextTextIsBegun) (whole : WholeTextIsThere) where
  begun-one : (texts : List (List ℕ)) (trail : Trail) (trails : List Trail) (e : Element) → ArePlain (e ∷ trail)
      → Begun texts trail trails → Begun texts (e ∷ trail) (with_beginning trails (e ∷ trail))
  begun-one texts trail trails e plain begun = elim (cases_Bool (list_any (same_trail (e ∷ trail)) trails)) [
    | inl there ↦ rw there (known texts trail trails e begun (among-is (e ∷ trail) trails plain there))
    | inr none ↦ rw none (new texts trail trails e begun (λ h. let never : false ≡ true = sym none ∙ among-told (e ∷ trail) trails h in absurd cc))
  ]

  begun-all : (texts : List (List ℕ)) (trail : Trail) (trails : List Trail) → ArePlain trail → Begun texts [] trails → Begun texts trail (with_beginnings trails trail)
  begun-all texts [] trails plain begun = begun
  begun-all texts (e ∷ trail) trails plain begun = begun-one texts trail (with_beginnings trails trail) e plain (begun-all texts trail trails plain.1 begun)

  abbrev PlainText : List ℕ → Type 0
  PlainText text = ArePlain (trail_of text)

  -- the first of texts is gathered, and these behind it
  begun-rest : (before : List (List ℕ)) (text : List ℕ) (texts : List (List ℕ)) (trails : List Trail) → ((t : List ℕ) → Contains texts t → PlainText t)
      → AreBeginnings (before ++ text ∷ []) trails → AreBeginnings (before ++ text ∷ texts) (with_texts trails texts)
  begun-rest before text [] trails plain are = are
  begun-rest before text (t ∷ ts) trails plain are =
      let begun = next (before ++ text ∷ []) trails text are (Contains-push before text) in
      let read = begun-all (before ++ text ∷ []) (trail_of t) trails (plain t (0, omega arith, refl)) begun in
      let here = whole (before ++ text ∷ []) t (with_beginnings trails (trail_of t)) read in
      let more = begun-rest (before ++ text ∷ []) t ts (with_beginnings trails (trail_of t)) (λ u h. plain u (suc h.0, (let within = h.1 in omega arith), h.2)) here in
      subst (λ (l : List (List ℕ)). AreBeginnings l (with_texts trails (t ∷ ts))) (append_assoc before (text ∷ []) (t ∷ ts)) more

  gathered : FirstTextIsBegun → (text : List ℕ) (texts : List (List ℕ)) → ((t : List ℕ) → Contains (text ∷ texts) t → PlainText t)
      → HasStates (text ∷ texts) (state_count (text ∷ texts))
  gathered first text texts plain =
      let read = begun-all [] (trail_of text) ([] ∷ []) (plain text (0, omega arith, refl)) first in
      let here = whole [] text (with_beginnings ([] ∷ []) (trail_of text)) read in
      let all = begun-rest [] text texts (with_beginnings ([] ∷ []) (trail_of text)) (λ u h. plain u (suc h.0, (let within = h.1 in omega arith), h.2)) here in
      (with_texts ([] ∷ []) (text ∷ texts), all, refl)

-- The beginnings that an automaton is made of are plain.

module _ (g : Growing) (patterns : List (List ℕ)) (trails : List Trail) (finds : Finds g.tree g.numbers trails) (are : AreBeginnings patterns trails) where
  begun-plain : (trail : Trail) → IsBeginning patterns trail → ArePlain trail
  begun-plain [] begins = tt
  begun-plain (e ∷ trail) begins =
      let there = (are.members (e ∷ trail)).1 begins in
      let at : trail_at trails there.0 ≡ e ∷ trail = get_or_default trails there.0 [] (e ∷ trail) there.1 ∙ there.2 in
      let told = finds.all there.0 e trail there.1 at in (
        numbered-plain g.numbers e told.1 told.5,
        begun-plain trail (begins.0, begins.1, (begins.2.0 ++ e ∷ [], append_assoc begins.2.0 (e ∷ []) trail ∙ begins.2.1)),
      )

  pub texts-plain : (text : List ℕ) → Contains patterns text → ArePlain (trail_of text)
  texts-plain text there = begun-plain (trail_of text) (text, there, ([], refl))

-- so many states has what is made so far
pub states-built : FirstTextIsBegun → KnownTrailIsMet → NewTrailIsAdded → NextTextIsBegun → WholeTextIsThere → StatesHaveOneCount
    → (g : Growing) (count : ℕ) (patterns : List (List ℕ)) → (count ≡ 0 → ⊥) → IsBuilt (g, count) patterns
    → HasStates patterns (places g.tree) × (places g.tree ≡ state_count patterns)
states-built first known new next whole one g count [] some built = absurd (some built.count)
states-built first known new next whole one g count (text ∷ texts) some built =
    let trails = built.between.0 in
    let growing = built.between.1 in
    let are = all-begun (text ∷ texts) trails text (0, omega arith, refl) growing.begun in
    let has : HasStates (text ∷ texts) (places g.tree) = (trails, are, sym growing.finds.places) in
    let counted = gathered known new next whole first text texts (texts-plain g (text ∷ texts) trails growing.finds are) in
    (has, one (text ∷ texts) (places g.tree) (state_count (text ∷ texts)) has counted)

pub none-built : (g : Growing) (count : ℕ) (patterns : List (List ℕ)) → count ≡ 0 → IsBuilt (g, count) patterns → patterns ≡ []
none-built g count [] none built = refl
none-built g count (text ∷ texts) none built = absurd (let long = built.count in omega (arith, long, none))

pub no-states : HasStates [] 0
no-states = ([], record { members = λ trail. (λ h. absurd (omega (arith, h.1)), λ begins. absurd (let within = begins.1.1 in omega (arith, within))); apart = λ q r within _ _. absurd (omega (arith, within)) }, refl)

-- Texts have at least as many beginnings with more of them.

grows-one : (trails : List Trail) (trail : Trail) → length trails ≤ length (with_beginning trails trail)
grows-one trails trail = elim (cases_Bool (list_any (same_trail trail) trails)) [
  | inl there ↦ rw there (omega arith)
  | inr none ↦ rw none (let long = length-append trails (trail ∷ []) in omega (arith, long))
]

grows-all : (trails : List Trail) (trail : Trail) → length trails ≤ length (with_beginnings trails trail)
grows-all trails [] = omega arith
grows-all trails (e ∷ trail) = omega (arith, grows-all trails trail, grows-one (with_beginnings trails trail) (e ∷ trail))

grows-texts : (trails : List Trail) (texts : List (List ℕ)) → length trails ≤ length (with_texts trails texts)
grows-texts trails [] = omega arith
grows-texts trails (text ∷ texts) = omega (arith, grows-all trails (trail_of text), grows-texts (with_beginnings trails (trail_of text)) texts)

with_texts-append : (trails : List Trail) (texts more : List (List ℕ)) → with_texts trails (texts ++ more) ≡ with_texts (with_texts trails texts) more
with_texts-append trails [] more = refl
with_texts-append trails (text ∷ texts) more = with_texts-append (with_beginnings trails (trail_of text)) texts more

pub more-states : (texts more : List (List ℕ)) → state_count texts ≤ state_count (texts ++ more)
more-states [] more = omega arith
more-states (text ∷ texts) more =
    let grown = grows-texts (with_texts ([] ∷ []) (text ∷ texts)) more in
    let long = ap length (with_texts-append ([] ∷ []) (text ∷ texts) more) in
    omega (arith, grown, long)
