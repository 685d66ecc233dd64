-- Lists that grow by one for each of some things.
use Rattle.std.proofs.Common.{◌≡◌, ℕ, ◌+◌, ◌<◌, List, [], ◌∷◌, ◌++◌, length, length-append, take, drop, get_or, arith, refl, sym, ap, ◌∙◌}
use Rattle.std.specs.Prelude.{Some, slice_get}
use Rattle.std.proofs.Math.ListN.{get_or-append}
use Rattle.std.proofs.Math.Seq.{get_or-append_seam}
use Rattle.std.proofs.lemmas.List.{drop_more, length-take, take-append-drop}
use Rattle.std.proofs.lemmas.Option.{get_or_from_slice_get, slice_get_within}
use Rattle.aa_text_expansion.specs.code.Made.{grown}

module _ {A B : Type 0} (next : List A → B → A) where
  -- the things of two lists
  pub grown-append : (before : List A) (things more : List B) → grown next before (things ++ more) ≡ grown next (grown next before things) more
  grown-append before [] more = refl
  grown-append before (thing ∷ things) more = grown-append (before ++ next before thing ∷ []) things more

  -- one for each
  pub grown-length : (before : List A) (things : List B) → length (grown next before things) ≡ length before + length things
  grown-length before [] = omega arith
  grown-length before (thing ∷ things) = grown-length (before ++ next before thing ∷ []) things ∙ rw (length-append before (next before thing ∷ [])) (omega arith)

  -- those before stay
  pub grown-front : (before : List A) (things : List B) (n : ℕ) (other : A) → n < length before → get_or (grown next before things) n other ≡ get_or before n other
  grown-front before [] n other within = refl
  grown-front before (thing ∷ things) n other within =
      let more : n < length (before ++ next before thing ∷ []) = rw (length-append before (next before thing ∷ [])) (omega arith) in
      grown-front (before ++ next before thing ∷ []) things n other more ∙ get_or-append before (next before thing ∷ []) other n within

  -- the one that comes of a thing at the seam
  pub grown-seam : (before : List A) (thing : B) (things : List B) (other : A) → get_or (grown next before (thing ∷ things)) (length before) other ≡ next before thing
  grown-seam before thing things other =
      let within : length before < length (before ++ next before thing ∷ []) = rw (length-append before (next before thing ∷ [])) (omega arith) in
      grown-front (before ++ next before thing ∷ []) things (length before) other within ∙ get_or-append_seam before (next before thing) [] other

  -- those that come of the first things stay
  pub grown-first : (before : List A) (things : List B) (size n : ℕ) (other : A) → n < length (grown next before (take size things))
      → get_or (grown next before things) n other ≡ get_or (grown next before (take size things)) n other
  grown-first before things size n other within =
      ap (λ all. get_or (grown next before all) n other) (sym (take-append-drop size things)) ∙ ap (λ all. get_or all n other) (grown-append before (take size things) (drop size things))
      ∙ grown-front (grown next before (take size things)) (drop size things) n other within

  -- the one that comes of a thing, by those that come of the things before it
  pub grown-at : (before : List A) (things : List B) (size : ℕ) (thing : B) (other : A) → slice_get things size ≡ Some thing
      → get_or (grown next before things) (length before + size) other ≡ next (grown next before (take size things)) thing
  grown-at before things size thing other there =
      let within = slice_get_within things size thing there in
      let here : drop size things ≡ thing ∷ drop (size + 1) things = drop_more things size thing within ∙ ap (λ first. first ∷ drop (size + 1) things) (get_or_from_slice_get things size thing thing there) in
      let split : things ≡ take size things ++ thing ∷ drop (size + 1) things = sym (take-append-drop size things) ∙ ap (λ rest. take size things ++ rest) here in
      let place : length before + size ≡ length (grown next before (take size things)) = rw (grown-length before (take size things), length-take size things) (omega arith) in
      ap (λ n. get_or (grown next before things) n other) place
      ∙ ap (λ all. get_or (grown next before all) (length (grown next before (take size things))) other) split
      ∙ ap (λ all. get_or all (length (grown next before (take size things))) other) (grown-append before (take size things) (thing ∷ drop (size + 1) things))
      ∙ grown-seam (grown next before (take size things)) thing (drop (size + 1) things) other
