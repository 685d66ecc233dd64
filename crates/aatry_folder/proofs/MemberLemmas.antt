-- The names below the base of a folder's members.
use Rattle.std.proofs.Common.{◌≡◌, ℕ, Bool, true, false, List, [], ◌∷◌, ◌++◌, refl}
use Rattle.std.specs.Prelude.{cond, filter, map}
use Rattle.aatry_folder.specs.Members.{is_taken, names_in}

-- the first member's name, if it is taken, stands before those of the others
pub names_in-cons : (folder member : List ℕ) (others : List (List ℕ))
    → names_in folder (member ∷ others) ≡ names_in folder (member ∷ []) ++ names_in folder others
names_in-cons folder member others = by (is_taken member)
  where
    by : (b : Bool) → map (λ name. folder ++ name) (cond b (member ∷ filter is_taken others) (filter is_taken others))
        ≡ map (λ name. folder ++ name) (cond b (member ∷ []) []) ++ map (λ name. folder ++ name) (filter is_taken others)
    by true = refl
    by false = refl
