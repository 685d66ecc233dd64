-- What a profile, or a child or hat of it, decides by.
use Rattle.std.specs.Prelude.{ℕ, Bool, List, Option}
use Rattle.aa_profile_data.specs.Request.{Request}
use Rattle.aa_profile_data.specs.declared.profile.Profile.{Profile}
use Rattle.aa_profile_data.specs.declared.profile.Rule.{Rule}
use Rattle.aa_decide_rules.specs.Verdict.{verdict}
use Rattle.aa_decide_rules.specs.declared.judgement.Mediation.{Mediation}
use Rattle.aa_decide_rules.specs.declared.verdict.Verdict.{Verdict}
use Rattle.aa_decide_ready.specs.Ready.{audits, rules_at}
use Rattle.aa_decide_ready.specs.Visits.{attachments_at}

-- what a profile, a child or a hat decides by: the flag that audits each of its rules, its rules, and the patterns of its attachments
pub record Section : Type 0 where
  pub audit : Bool
  pub rules : List Rule
  pub attachments : List (List ℕ)

-- the section of a profile, or of its child or hat at an index; a missing one has no rules and no attachments
abbrev pub section_at : Profile → Option ℕ → Section
section_at profile child = record {
  audit = audits profile child;
  rules = rules_at profile child;
  attachments = attachments_at profile child;
}

-- the verdict of a section on a request, by its own rules
abbrev pub decided_by : Section → Mediation → Request → Verdict
decided_by section mediation request = verdict mediation section.audit section.rules request
