-- Definitions for the laws on changes: parts that are alike, and that answer alike; and where a change is reported.
use Rattle.std.specs.Prelude.{◌≡◌, ◌<◌, ◌^◌, ◌⊎◌, ℕ, Bool, true, false, List, [], ◌∷◌, Some}
use Rattle.std.specs.List.{All, Contains}
use Rattle.aa_decide_rules.specs.Choices.{choice}
use Rattle.aa_decide_rules.specs.Verdict.{verdict}
use Rattle.aa_decide_rules.specs.declared.judgement.Mediation.{Mediation}
use Rattle.aa_explain_diff.specs.Features.{Feature, are_alike}
use Rattle.aa_profile_data.specs.Request.{Request}
use Rattle.aa_profile_data.specs.ConflictLaws.{HasReadPattern}
use Rattle.aa_profile_data.specs.Conflicts.{agree}
use Rattle.aatry_changes.specs.Folded.{is_own, own_features}
use Rattle.aatry_policy.specs.Parts.{Part, part_of}
use Rattle.aatry_shared.specs.Sharing.{Change, Group, change_at, shared}
use Rattle.aatry_shared.specs.SharingLaws.{IsNamedOnce}
use Rattle.aatry_shared.specs.declared.side.Side.{Side}

-- some parts have one of the full name of another, and neither of the two has something that the other lacks
abbrev pub HasAlike : List Part → Part → Type 0
HasAlike others part = (other : Part) × (part_of others part.name ≡ Some other) × (are_alike part.section other.section ≡ true)

-- some parts have a part that is alike for each of these
abbrev pub HaveAlike : List Part → List Part → Type 0
HaveAlike others [] = Unit
HaveAlike others (part ∷ parts) = HasAlike others part × HaveAlike others parts

-- Two parts decide alike, whatever is asked: they are in one mode, or both disabled; each verdict is the same, with its tag and its mask, whatever
-- the mediation; and so is what their rules say together of the start of a program, where those of one agree (as the rules of a file that was read
-- do), their patterns read, and its path is a list of bytes.
pub record AnswerAlike (part other : Part) : Type 0 where
  pub mode : part.section.mode ≡ other.section.mode
  pub verdicts :
      (mediation : Mediation) (request : Request)
      → verdict mediation part.section.audit part.section.rules request ≡ verdict mediation other.section.audit other.section.rules request
  pub choices :
      (owned : Bool) (path : List ℕ)
      → agree part.section.rules ≡ true → All HasReadPattern part.section.rules → All (λ b. b < 2 ^ 8) path
      → choice part.section.audit owned path part.section.rules ≡ choice other.section.audit owned path other.section.rules

-- some parts have one of the full name of another that answers alike
abbrev pub HasAnsweringAlike : List Part → Part → Type 0
HasAnsweringAlike others part = (other : Part) × (part_of others part.name ≡ Some other) × AnswerAlike part other

-- a feature that only one side of a part has is reported below the part
abbrev pub IsToldBelow : List Group → Part → Side → List Feature → Feature → Type 0
IsToldBelow groups part side features feature =
    (is_own groups part side feature ≡ true) × Contains (own_features groups part side features) feature

-- a feature isn't reported below the part, and exactly one shared change is this one and names the part
abbrev pub IsToldShared : List Group → Part → Side → Feature → Type 0
IsToldShared groups part side feature =
    (is_own groups part side feature ≡ false)
    × ((change : Change) × (change_at part side feature ≡ Some change) × IsNamedOnce (shared groups) (record { name = part.name; change = change }))

-- a feature is reported in one of the two ways
abbrev pub IsTold : List Group → Part → Side → List Feature → Feature → Type 0
IsTold groups part side features feature = IsToldBelow groups part side features feature ⊎ IsToldShared groups part side feature
