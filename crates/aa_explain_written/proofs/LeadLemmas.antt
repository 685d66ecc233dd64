-- Rules that lead somewhere, and which of two conflict.
use Rattle.std.proofs.Common.{◌≡◌, ◌∙◌, ℕ, suc, Bool, true, false, ◌||◌, List, [], ◌∷◌, None, Some, refl}
use Rattle.std.specs.Option.{option_map}
use Rattle.std.specs.Prelude.{if◌then◌else◌, is_some}
use Rattle.aa_glob_pattern.specs.Shared.{overlaps}
use Rattle.aa_profile_data.specs.declared.exec_word.ExecWord.TheVariants.{Inherit, Unconfined}
use Rattle.aa_profile_data.proofs.ConflictLemmas.{conflict-apart}
use Rattle.aa_profile_data.specs.Conflicts.{conflict, first_conflict, lead_of, same_transition}
use Rattle.aa_profile_data.specs.Ranks.{same_rank}
use Rattle.aa_profile_data.specs.declared.profile.FileRule.{FileRule}
use Rattle.aa_profile_data.specs.declared.profile.Rank.TheVariants.{Plain}
use Rattle.aa_profile_data.specs.declared.profile.Rule.{Rule}
use Rattle.aa_profile_data.specs.declared.profile.Rule.TheVariants.{File}
use Rattle.aa_profile_data.specs.declared.profile.Transition.{Transition}

-- of two rules the first conflict is that of the second with the first, if it is one
pair : (there here : Rule) → is_some (first_conflict [] (there ∷ here ∷ [])) ≡ conflict here there
pair there here = by (conflict here there)
  where
    by : (b : Bool) → is_some (option_map suc (if b || false then Some 0 else option_map suc None)) ≡ b
    by true = refl
    by false = refl

-- two rules of one rank and of different words conflict where their patterns overlap
pub pair_overlap : (there here : Rule) (other one : List ℕ)
    → lead_of there ≡ Some (record { pattern = other; rank = Plain; transition = record { word = Unconfined; target = None } })
    → lead_of here ≡ Some (record { pattern = one; rank = Plain; transition = record { word = Inherit; target = None } })
    → is_some (first_conflict [] (there ∷ here ∷ [])) ≡ overlaps one other
pair_overlap there here other one leads_there leads_here =
    pair there here
    ∙ conflict-apart here there (record { pattern = one; rank = Plain; transition = record { word = Inherit; target = None } })
    (record { pattern = other; rank = Plain; transition = record { word = Unconfined; target = None } }) leads_here leads_there

-- two allow rules on files with exec words conflict by their ranks, where they lead, and their patterns
pub file_conflict : (one other : FileRule) (here there : Transition) → one.deny ≡ false → other.deny ≡ false → one.exec ≡ Some here → other.exec ≡ Some there
    → same_rank one.rank other.rank ≡ true → same_transition here there ≡ false → conflict (File one) (File other) ≡ overlaps one.pattern other.pattern
file_conflict one other here there allowed too leads_here leads_there alike differ =
    conflict-apart (File one) (File other) (record { pattern = one.pattern; rank = one.rank; transition = here }) (record { pattern = other.pattern; rank = other.rank; transition = there })
    (rw (allowed, leads_here) refl) (rw (too, leads_there) refl)
    ∙ rw (alike, differ) refl
