-- The pattern of one path has few states.
use Rattle.std.proofs.Common.{◌≡◌, ℕ, suc, ◌+◌, ◌≤◌, ◌==◌, false, not, List, [], ◌∷◌, length, map, refl, ap, ◌∙◌, arith, inl, inr, nat_lt}
use Rattle.std.specs.List.{list_any}
use Rattle.std.proofs.lemmas.Bool.{cases_Bool, le-ltb}
use Rattle.std.proofs.lemmas.List.{length-append, length-reverse}
use Rattle.aa_bytes.specs.Bytes.{comma}
use Rattle.aa_glob.specs.States.{same_trail, state_count, with_beginning, with_beginnings}
use Rattle.aa_glob_pattern.specs.Trails.{Trail, grouped, trail_of}
use Rattle.aa_glob_syntax.specs.Elements.{elements}
use Rattle.aa_glob_syntax.specs.Reading.{longest}
use Rattle.aa_glob_syntax.specs.Symbols.{symbols}
use Rattle.aa_glob_syntax.specs.declared.context.Context.TheVariants.{Elsewhere}
use Rattle.aa_profile_conflicts.specs.States.{most_exec_states}
use Rattle.aa_explain_written.proofs.MarkLemmas.{element_of, elements-marked, is_marked, marked}

few-one : (trails : List Trail) (trail : Trail) → length (with_beginning trails trail) ≤ length trails + 1
few-one trails trail = elim (cases_Bool (list_any (same_trail trail) trails)) [
  | inl there ↦ rw there (omega arith)
  | inr none ↦ rw none (let long = length-append trails (trail ∷ []) in omega (arith, long))
]

few-all : (trails : List Trail) (trail : Trail) → length (with_beginnings trails trail) ≤ length trails + length trail
few-all trails [] = omega arith
few-all trails (e ∷ trail) = omega (arith, few-all trails trail, few-one (with_beginnings trails trail) (e ∷ trail))

-- outside groups a path has an element for each byte
length-grouped : (path : List ℕ) → length (grouped 0 (map element_of path)) ≡ length path
length-grouped [] = refl
length-grouped (b ∷ bs) = elim (cases_Bool (b == comma)) [
  | inl is ↦ rw is (ap suc (length-grouped bs))
  | inr not ↦ rw not (ap suc (length-grouped bs))
]

-- and a byte at least between quotes
length-marked : (before : ℕ) (path : List ℕ) → length path ≤ length (marked before path)
length-marked before [] = omega arith
length-marked before (b ∷ bs) = elim (cases_Bool (is_marked before b)) [
  | inl is ↦ rw is (omega (arith, length-marked b bs))
  | inr not ↦ rw not (omega (arith, length-marked b bs))
]

-- so it has few beginnings
pub few-states : (path : List ℕ) → length (marked 0 path) ≤ longest → nat_lt most_exec_states (state_count (marked 0 path ∷ [])) ≡ false
few-states path fits =
    let trail = trail_of (marked 0 path) in
    let long : length trail ≡ length path =
    length-reverse (grouped 0 (elements Elsewhere (symbols (marked 0 path)))) ∙ ap (λ es. length (grouped 0 es)) (elements-marked Elsewhere 0 path) ∙ length-grouped path in
    let few = few-all ([] ∷ []) trail in
    let more = length-marked 0 path in
    le-ltb _ _ (omega (arith, few, long, more, fits))
