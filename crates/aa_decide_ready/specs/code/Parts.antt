-- What is made ready of a profile and of each of its children: automata, and the indexes of file rules.
use Rattle.std.specs.Prelude.{◌≡◌, ℕ, List, [], ◌∷◌, IfSome, Option}
use Rattle.aa_glob.specs.Automata.{IsAutomatonOf}
use Rattle.aa_profile_data.specs.declared.profile.Child.{Child}
use Rattle.aa_profile_data.specs.declared.profile.Profile.{Profile}
use Rattle.aa_profile_data.specs.declared.profile.Rule.{Rule}
use Rattle.aa_decide_ready.specs.Visits.{attachments_at}
use Rattle.aa_decide_ready.specs.Ready.{rules_at}
use Rattle.aa_decide_ready.specs.FileAutomata.{AreFileRulesOf}
use Rattle.aa_decide_ready.specs.declared.part.Part.{Part}

-- a part was made of these rules and attachments: the rules may not have been made ready yet
pub record IsPartOf (part : Part) (rules : List Rule) (attachments : List (List ℕ)) : Type 0 where
  pub files : IfSome part.files (λ made. AreFileRulesOf made rules)
  pub attached : IsAutomatonOf part.attachments attachments

-- something holds of the rules and attachments that a part was made of
abbrev pub HoldsOf : Part → (List Rule → List (List ℕ) → Type 0) → Type 0
HoldsOf part Holds = (rules : List Rule) (attachments : List (List ℕ)) → IsPartOf part rules attachments → Holds rules attachments

-- a part was made of each child, in their order
abbrev pub ArePartsOf : List Part → List Child → Type 0
ArePartsOf [] [] = Unit
ArePartsOf [] (child ∷ children) = ⊥
ArePartsOf (part ∷ parts) [] = ⊥
ArePartsOf (part ∷ parts) (child ∷ children) = IsPartOf part child.rules child.attachments × ArePartsOf parts children

-- the profile has no child or hat at an index, so there are no rules and attachments
abbrev pub HasNothingAt : Profile → Option ℕ → Type 0
HasNothingAt profile child = (rules_at profile child ≡ []) × (attachments_at profile child ≡ [])

-- a part was made of the rules and attachments of a profile, or of its child or hat at an index
abbrev pub IsPartAt : Profile → Option ℕ → Part → Type 0
IsPartAt profile child part = IsPartOf part (rules_at profile child) (attachments_at profile child)
