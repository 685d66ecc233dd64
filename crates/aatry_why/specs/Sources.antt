-- Where the rules of the asker are written.
use Rattle.std.specs.Prelude.{List, Option, option_map}
use Rattle.aa_decide.specs.Exec.{Asker}
use Rattle.aa_decide_ready.specs.Ready.{audits, rules_at}
use Rattle.aa_profile_data.specs.FullNames.{full_name}
use Rattle.aa_set_answers.specs.Answers.{who_asks}
use Rattle.aa_set_commands.specs.Question.{Question}
use Rattle.aatry_folder.specs.PolicyFiles.{PolicyFiles, seen_files}
use Rattle.aatry_why.specs.declared.sources.Sources.{Sources as CodeSources}
use Rattle.aatry_policy.specs.Origins.{file_of, origin_in, rule_places}
use Rattle.aatry_policy.specs.declared.origins.Origin.{Origin}
use Rattle.aatry_why_lines.specs.Written.{Written}

-- what lies below the folder of policy, and where the profile of the asker was read, if that is known
pub record Sources : Type 0 where
  pub below : PolicyFiles
  pub origin : Option Origin

-- sources of the code
abbrev pub seen_sources : CodeSources → Sources
seen_sources sources = record { below = seen_files sources.below; origin = option_map (λ origin. origin.now) sources.origin }

-- where the profile of the asker was read, among some origins, if it is there
abbrev pub asked_origin : List Origin → Question → Option Origin
asked_origin origins question = origin_in (full_name (who_asks question)).profile origins

-- the rules by which the asker decides, with where they are written
abbrev pub written_by : Sources → Asker → Written
written_by sources who = record {
  below = sources.below;
  name = file_of sources.origin;
  audit = audits who.entry.profile who.child;
  rules = rules_at who.entry.profile who.child;
  places = rule_places sources.origin who.child;
}
