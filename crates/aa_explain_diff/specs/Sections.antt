-- Profiles, children and hats, with what a change of policy can change in them.
use Rattle.std.specs.Prelude.{ℕ, Bool, List, Option}
use Rattle.aa_profile_data.specs.declared.profile.Mode.{Mode}
use Rattle.aa_profile_data.specs.declared.profile.Rule.{Rule}
use Rattle.aa_explain_diff.specs.declared.sections.Section.{Section as CodeSection}

-- what a profile, a child or a hat has: the mode that it is in, or none where it is disabled; whether it is a hat; whether it is audited; its flags
-- that decide nothing; the patterns by which it attaches; and its rules
pub record Section : Type 0 where
  pub mode : Option Mode
  pub hat : Bool
  pub audit : Bool
  pub flags : List (List ℕ)
  pub attachments : List (List ℕ)
  pub rules : List Rule

-- a section of the code
abbrev pub seen_section : CodeSection → Section
seen_section section = record {
  mode = section.mode;
  hat = section.hat;
  audit = section.audit;
  flags = section.flags.now;
  attachments = section.attachments.now;
  rules = section.rules.now;
}
