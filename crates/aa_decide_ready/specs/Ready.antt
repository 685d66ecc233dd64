-- The verdict of a profile, or of a child or a hat of it, on a request.
use Rattle.std.specs.Prelude.{ℕ, Bool, false, List, [], Option, None, Some, slice_get}
use Rattle.aa_profile_data.specs.Request.{Request}
use Rattle.aa_profile_data.specs.declared.profile.Child.{Child}
use Rattle.aa_profile_data.specs.declared.profile.Profile.{Profile}
use Rattle.aa_profile_data.specs.declared.profile.Rule.{Rule}
use Rattle.aa_decide_rules.specs.Verdict.{verdict}
use Rattle.aa_decide_rules.specs.declared.judgement.Mediation.{Mediation}
use Rattle.aa_decide_rules.specs.declared.verdict.Verdict.{Verdict}

-- the rules of a child or a hat; a missing one has none
abbrev pub child_rules : Option Child → List Rule
child_rules None = []
child_rules (Some child) = child.rules

-- the flag of a child or a hat, which audits each of its rules
abbrev pub child_audits : Option Child → Bool
child_audits None = false
child_audits (Some child) = child.audit

-- the rules by which a profile decides, or its child or hat at an index
abbrev pub rules_at : Profile → Option ℕ → List Rule
rules_at profile None = profile.rules
rules_at profile (Some place) = child_rules (slice_get profile.children place)

-- the flag of a profile, or of its child or hat, which audits each of its rules
abbrev pub audits : Profile → Option ℕ → Bool
audits profile None = profile.audit
audits profile (Some place) = child_audits (slice_get profile.children place)

-- the verdict of a profile, or of its child or hat at an index, by its own rules
abbrev pub decided : Profile → Option ℕ → Mediation → Request → Verdict
decided profile child mediation request = verdict mediation (audits profile child) (rules_at profile child) request
