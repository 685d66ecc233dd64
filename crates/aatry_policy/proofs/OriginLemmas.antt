-- The origins of a file's profiles, one behind the other.
use Rattle.std.proofs.Common.{◌≡◌, ◌∙◌, ℕ, List, [], ◌∷◌, ◌++◌, ap, append_assoc, drop, refl, sym}
use Rattle.aa_profile_data.specs.declared.profile.Profile.{Profile}
use Rattle.aa_profile_grammar.specs.declared.places.ProfilePlaces.{ProfilePlaces}
use Rattle.aatry_policy.specs.Origins.{file_origins}
use Rattle.aatry_policy.specs.declared.origins.Origin.{Origin}

-- where there are no profiles there are no origins
no_profiles : (file : List ℕ) (places : List ProfilePlaces) → file_origins file [] places ≡ []
no_profiles file [] = refl
no_profiles file (own ∷ places) = refl

-- the first, and those behind it
one_more : (file : List ℕ) (profiles : List Profile) (own : ProfilePlaces) (places : List ProfilePlaces)
    → file_origins file profiles (own ∷ places) ≡ file_origins file profiles (own ∷ []) ++ file_origins file (drop 1 profiles) places
one_more file [] own places = sym (no_profiles file places)
one_more file (profile ∷ profiles) own places = refl

-- the origins so far, with those of the profiles that are left, stay all, as one more is appended
pub kept : (file : List ℕ) (profiles left : List Profile) (own : ProfilePlaces) (places read : List ProfilePlaces) (before after all : List Origin)
    → read ≡ own ∷ places → left ≡ drop 1 profiles → after ≡ before ++ file_origins file profiles (own ∷ [])
    → before ++ file_origins file profiles read ≡ all → after ++ file_origins file left places ≡ all
kept file profiles left own places read before after all is behind pushed h =
    ap (λ l. l ++ file_origins file left places) pushed
    ∙ append_assoc before (file_origins file profiles (own ∷ [])) (file_origins file left places)
    ∙ ap (λ l. before ++ (file_origins file profiles (own ∷ []) ++ file_origins file l places)) behind
    ∙ ap (λ l. before ++ l) (sym (one_more file profiles own places))
    ∙ ap (λ l. before ++ file_origins file profiles l) (sym is)
    ∙ h
