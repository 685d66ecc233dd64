-- The rules of a profile that is ready, and of its children and hats: no two of them conflict.
use Rattle.std.proofs.Common.{◌≡◌, ℕ, zero, suc, true, List, [], ◌∷◌, Option, None, Some, refl}
use Rattle.std.specs.Prelude.{slice_get}
use Rattle.std.specs.List.{list_all}
use Rattle.std.proofs.lemmas.Bool.{and_parts}
use Rattle.aa_profile_data.specs.Conflicts.{agree, child_agrees, profile_agrees}
use Rattle.aa_profile_data.specs.declared.profile.Child.{Child}
use Rattle.aa_profile_data.specs.declared.profile.Profile.{Profile}
use Rattle.aa_decide_ready.specs.Ready.{child_rules, rules_at}

-- the rules of a child of which all agree
child-agrees : (children : List Child) (place : ℕ) → list_all child_agrees children ≡ true → agree (child_rules (slice_get children place)) ≡ true
child-agrees [] place all = refl
child-agrees (child ∷ children) zero all = (and_parts (child_agrees child) (list_all child_agrees children) all).0
child-agrees (child ∷ children) (suc place) all = child-agrees children place (and_parts (child_agrees child) (list_all child_agrees children) all).1

pub rules-agree : (profile : Profile) (child : Option ℕ) → profile_agrees profile ≡ true → agree (rules_at profile child) ≡ true
rules-agree profile None all = (and_parts (agree profile.rules) (list_all child_agrees profile.children) all).0
rules-agree profile (Some place) all = child-agrees profile.children place (and_parts (agree profile.rules) (list_all child_agrees profile.children) all).1
