-- What confines a task: nothing, or a profile, a child or a hat, by its rules or by its name alone (docs/policy.md, "Decisions").
use Rattle.std.specs.Prelude.{ℕ, List, [], ◌∷◌, Option, None, Some, slice_index_or}
use Rattle.aa_profile_data.specs.declared.profile.Mode.{Mode}
use Rattle.aa_profile_data.specs.declared.profile.Mode.TheVariants.{Complain, Enforce, Unconfined as UnconfinedMode}
use Rattle.aa_profile_data.specs.declared.profile.Profile.{Profile}
use Rattle.aa_decide_ready.specs.Sections.{Section, section_at}
use Rattle.aa_decide_ready.specs.SeenSections.{seen_section}
use Rattle.aa_decide_rules.specs.declared.judgement.Mediation.{Mediation}
use Rattle.aa_decide_rules.specs.declared.judgement.Mediation.TheVariants.{Complaining, Enforcing}
use Rattle.aa_decide_ready.specs.declared.confinement.Confinement.{Confinement as Found}
use Rattle.aa_decide_ready.specs.declared.confinement.Confinement.TheVariants.{Unconfined as FoundNone, ByName as FoundName, By as FoundRules}
use Rattle.aa_decide_ready.specs.declared.entry.State.{State}
use Rattle.aa_decide_ready.specs.declared.entry.State.TheVariants.{Disabled, Modes}

-- What confines a task: nothing; or a profile, a child or a hat, either by its name alone, or by its section, with the mediation of what its rules
-- don't allow.
pub data Confinement : Type 0 where
  Unconfined : Confinement
  ByName : Confinement
  By : (section : Section) (mediation : Mediation) → Confinement

-- the confinement that the code found
abbrev pub found : Found → Confinement
found FoundNone = Unconfined
found FoundName = ByName
found (FoundRules section mediation) = By (seen_section section) mediation

-- The first mode is the profile's, and the modes after it are its children's and hats', in their order.
abbrev pub mode_at : List Mode → Option ℕ → Mode
mode_at [] child = Enforce
mode_at (mode ∷ modes) None = mode
mode_at (mode ∷ modes) (Some place) = slice_index_or modes place mode

-- What confines a task by a profile, child or hat in force in a mode: in mode unconfined its rules don't decide.
abbrev pub confined : Section → Mode → Confinement
confined section Enforce = By section Enforcing
confined section Complain = By section Complaining
confined section UnconfinedMode = ByName

-- A disabled profile confines nothing, nor do its children and hats; else it or they confine in their modes.
abbrev pub in_state : Profile → State → Option ℕ → Confinement
in_state profile Disabled child = Unconfined
in_state profile (Modes modes) child = confined (section_at profile child) (mode_at modes child)
