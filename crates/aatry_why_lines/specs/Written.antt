-- The rules of a profile, or of a child or hat, with where they are written.
use Rattle.std.specs.Prelude.{ℕ, Bool, List, Option}
use Rattle.aa_profile_data.specs.declared.profile.Rule.{Rule}
use Rattle.aa_text_files.specs.declared.text_error.Place.{Place}
use Rattle.aa_explain_rules.specs.Asked.{audits_of, rules_of}
use Rattle.aatry_folder.specs.PolicyFiles.{PolicyFiles, seen_files}
use Rattle.aatry_why_lines.specs.declared.written.WrittenRules.{WrittenRules}

-- Rules: what lies below the folder of policy, the name of the file that has the profile, the profile's flag that audits each of the rules, the
-- rules themselves, and where they are written.
pub record Written : Type 0 where
  pub below : PolicyFiles
  pub name : List ℕ
  pub audit : Bool
  pub rules : List Rule
  pub places : List (Option Place)

-- rules of the code
abbrev pub seen_rules : WrittenRules → Written
seen_rules written = record {
  below = seen_files written.below;
  name = written.name.now;
  audit = audits_of written.rules;
  rules = rules_of written.rules;
  places = written.places.now;
}
