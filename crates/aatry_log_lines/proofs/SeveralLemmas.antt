-- Labels of several profiles.
use Rattle.std.proofs.Common.{◌≡◌, ℕ, zero, suc, Bool, true, false, List, [], ◌∷◌, Option, None, Some, codes, refl, ap}
use Rattle.std.specs.Prelude.{is_some, option_map}
use Rattle.std.specs.List.{onto_first}
use Rattle.aa_bytes.specs.Texts.{begins_with}
use Rattle.aa_profile_data.specs.Stacks.{parts_behind, parts_of, parts_of_rest}
use Rattle.aatry_log_lines.specs.Lines.{are_several}

-- a text has some part
abbrev HasPart : List (List ℕ) → Type 0
HasPart parts = (first : List ℕ) × (more : List (List ℕ)) × (parts ≡ first ∷ more)

has-part : (skipped : ℕ) (text : List ℕ) → HasPart (parts_behind skipped text)
has-part skipped [] = ([], [], refl)
has-part (suc skipped) (b ∷ bs) = has-part skipped bs
has-part zero (b ∷ bs) = by (begins_with (codes "//&") (b ∷ bs)) refl (has-part zero bs)
  where
    by : (t : Bool) → begins_with (codes "//&") (b ∷ bs) ≡ t → HasPart (parts_of bs) → HasPart (parts_of (b ∷ bs))
    by true e some = ([], parts_behind 2 bs, rw e refl)
    by false e (first, more, is) = (b ∷ first, more, rw e (ap (onto_first b) is))

-- there are several exactly where a rest is found behind the first
pub several-rest : {A : Type 0} (text : A → List ℕ) (first : List ℕ) (rest : Option A)
    → are_several (first ∷ parts_of_rest (option_map text rest)) ≡ is_some rest
several-rest text first None = refl
several-rest text first (Some rest) =
    let (other, more, is) = has-part zero (text rest) in
    ap (λ (parts : List (List ℕ)). are_several (first ∷ parts)) is
