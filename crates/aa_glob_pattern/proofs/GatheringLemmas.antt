-- The beginnings of texts come about text by text and element by element.
use Rattle.std.proofs.Common.{◌≡◌, ◌⊎◌, ℕ, zero, suc, ◌<◌, List, [], ◌∷◌, ◌++◌, length, drop, slice_index_or, Contains, refl, sym, ap, ◌∙◌, subst, inl, inr, arith}
use Rattle.std.proofs.lemmas.List.{append-nil, length-append}
use Rattle.std.proofs.lemmas.List.Elements.{Contains-append_left, Contains-push, Contains-push_cases}
use Rattle.aa_glob_syntax.specs.Elements.{Element}
use Rattle.aa_glob_pattern.proofs.BeginningLemmas.{apart-push}
use Rattle.aa_glob_pattern.specs.Beginnings.{AreBeginnings, Begun, IsBeginning, IsSuffixOf}
use Rattle.aa_glob_pattern.specs.Trails.{Trail, trail_of}

-- a beginning of a trail is that trail or one of what is before its last element
suffix_cases : (e : Element) (trail part : Trail) → IsSuffixOf part (e ∷ trail) → (e ∷ trail ≡ part) ⊎ IsSuffixOf part trail
suffix_cases e trail part h = by_more h.0 h.1
  where
    by_more : (more : List Element) → more ++ part ≡ e ∷ trail → (e ∷ trail ≡ part) ⊎ IsSuffixOf part trail
    by_more [] is = inl (sym is)
    by_more (f ∷ more) is = inr (more, ap (drop 1) is)

suffix_more : (e : Element) (trail part : Trail) → IsSuffixOf part trail → IsSuffixOf part (e ∷ trail)
suffix_more e trail part h = (e ∷ h.0, ap (λ l. e ∷ l) h.1)

-- the empty trail alone is a beginning of the empty one
suffix_of_none : (part : Trail) → IsSuffixOf part [] → [] ≡ part
suffix_of_none [] h = refl
suffix_of_none (e ∷ part) h = absurd (let both = length-append h.0 (e ∷ part) in let none = ap length h.1 in omega arith)

-- a list of one
only_one : (one trail : Trail) → Contains (one ∷ []) trail → one ≡ trail
only_one one trail h = at_place h.0 h.1 h.2
  where
    at_place : (k : ℕ) → k < length (one ∷ []) → slice_index_or (one ∷ []) k trail ≡ trail → one ≡ trail
    at_place zero within is = is
    at_place (suc k) within is = absurd (omega arith)

-- no text, and the empty trail
pub begun-first : Begun [] [] ([] ∷ [])
begun-first = record {
  members = λ part. (λ h. inr ([], sym (only_one [] part h)), λ h. found part h);
  apart = λ q r first second same. omega arith;
}
  where
    found : (part : Trail) → IsBeginning [] part ⊎ IsSuffixOf part [] → Contains ([] ∷ []) part
    found part (inl begins) = absurd (let within = begins.1.1 in omega arith)
    found part (inr is) = (0, omega arith, suffix_of_none part is)

-- one more text, and the empty trail
pub begun-next : (texts : List (List ℕ)) (trails : List Trail) (text : List ℕ) → AreBeginnings texts trails → Contains texts text → Begun texts [] trails
begun-next texts trails text all there = record {
  members = λ part. (λ h. inl ((all.members part).0 h), λ h. (all.members part).1 (begins part h));
  apart = all.apart;
}
  where
    begins : (part : Trail) → IsBeginning texts part ⊎ IsSuffixOf part [] → IsBeginning texts part
    begins part (inl h) = h
    begins part (inr h) = (text, there, (trail_of text, ap (λ (l : Trail). trail_of text ++ l) (sym (suffix_of_none part h)) ∙ append-nil (trail_of text)))

-- an element behind a trail: what was begun before is still begun
still : (texts : List (List ℕ)) (trail : Trail) (e : Element) (part : Trail) → IsBeginning texts part ⊎ IsSuffixOf part trail → IsBeginning texts part ⊎ IsSuffixOf part (e ∷ trail)
still texts trail e part (inl h) = inl h
still texts trail e part (inr h) = inr (suffix_more e trail part h)

-- what is begun behind an element was begun before, or is the trail with the element
begun_cases : (texts : List (List ℕ)) (trail : Trail) (e : Element) (part : Trail) → IsBeginning texts part ⊎ IsSuffixOf part (e ∷ trail) → (e ∷ trail ≡ part) ⊎ (IsBeginning texts part ⊎ IsSuffixOf part trail)
begun_cases texts trail e part (inl h) = inr (inl h)
begun_cases texts trail e part (inr h) = elim (suffix_cases e trail part h) [
  | inl same ↦ inl same
  | inr before ↦ inr (inr before)
]

-- an element leads to a trail that is there
pub begun-known : (texts : List (List ℕ)) (trail : Trail) (trails : List Trail) (e : Element) → Begun texts trail trails → Contains trails (e ∷ trail) → Begun texts (e ∷ trail) trails
begun-known texts trail trails e begun there = record {
  members = λ part. (λ h. still texts trail e part ((begun.members part).0 h), λ h. found part (begun_cases texts trail e part h));
  apart = begun.apart;
}
  where
    found : (part : Trail) → (e ∷ trail ≡ part) ⊎ (IsBeginning texts part ⊎ IsSuffixOf part trail) → Contains trails part
    found part (inl same) = subst (λ (s : Trail). Contains trails s) same there
    found part (inr before) = (begun.members part).1 before

-- an element leads to a trail that isn't there
pub begun-new : (texts : List (List ℕ)) (trail : Trail) (trails : List Trail) (e : Element) → Begun texts trail trails → (Contains trails (e ∷ trail) → ⊥) → Begun texts (e ∷ trail) (trails ++ (e ∷ trail) ∷ [])
begun-new texts trail trails e begun fresh = record {
  members = λ part. (λ h. begins part (Contains-push_cases trails (e ∷ trail) part h), λ h. found part (begun_cases texts trail e part h));
  apart = apart-push trails (e ∷ trail) begun.apart fresh;
}
  where
    begins : (part : Trail) → Contains trails part ⊎ (e ∷ trail ≡ part) → IsBeginning texts part ⊎ IsSuffixOf part (e ∷ trail)
    begins part (inl h) = still texts trail e part ((begun.members part).0 h)
    begins part (inr same) = inr ([], sym same)

    found : (part : Trail) → (e ∷ trail ≡ part) ⊎ (IsBeginning texts part ⊎ IsSuffixOf part trail) → Contains (trails ++ (e ∷ trail) ∷ []) part
    found part (inl same) = subst (λ (s : Trail). Contains (trails ++ (e ∷ trail) ∷ []) s) same (Contains-push trails (e ∷ trail))
    found part (inr before) = Contains-append_left trails ((e ∷ trail) ∷ []) part ((begun.members part).1 before)

-- the trail of a whole text
pub begun-whole : (texts : List (List ℕ)) (text : List ℕ) (trails : List Trail) → Begun texts (trail_of text) trails → AreBeginnings (texts ++ text ∷ []) trails
begun-whole texts text trails begun = record {
  members = λ part. (λ h. begins part ((begun.members part).0 h), λ h. (begun.members part).1 (before part h.0 h.2 (Contains-push_cases texts text h.0 h.1)));
  apart = begun.apart;
}
  where
    begins : (part : Trail) → IsBeginning texts part ⊎ IsSuffixOf part (trail_of text) → IsBeginning (texts ++ text ∷ []) part
    begins part (inl h) = (h.0, Contains-append_left texts (text ∷ []) h.0 h.1, h.2)
    begins part (inr h) = (text, Contains-push texts text, h)

    before : (part : Trail) (one : List ℕ) → IsSuffixOf part (trail_of one) → Contains texts one ⊎ (text ≡ one) → IsBeginning texts part ⊎ IsSuffixOf part (trail_of text)
    before part one h (inl there) = inl (one, there, h)
    before part one h (inr same) = inr (subst (λ (s : List ℕ). IsSuffixOf part (trail_of s)) (sym same) h)
