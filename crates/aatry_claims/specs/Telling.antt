-- The report on who is asked about (docs/aatry.md, "`aatry never` and `aatry always`").
use Rattle.std.specs.Prelude.{ℕ, Bool, true, false, not, ◌&&◌, if◌then◌else◌, List, [], ◌++◌, Option, Some, flat_map}
use Rattle.std.specs.List.{list_any}
use Rattle.aa_explain_paths.specs.Answers.{Breaking}
use Rattle.aa_explain_paths.specs.declared.question.Claim.{Claim}
use Rattle.aa_explain_paths.specs.declared.question.Claim.TheVariants.{Always, Never}
use Rattle.aa_profile_data.specs.Request.{ForFile}
use Rattle.aatry_claims.specs.Claimed.{Claimed, breaking_of}
use Rattle.aatry_claims.specs.Found.{Found, asks_rules}
use Rattle.aatry_claims.specs.Sentences.{found_told, is_held, is_undecided}
use Rattle.aatry_folder.specs.PolicyFiles.{PolicyFiles}
use Rattle.aatry_policy.specs.Parts.{Part}
use Rattle.aatry_report.specs.declared.form.Form.{Form}
use Rattle.aatry_why_lines.specs.Why.{why_lines}
use Rattle.aatry_why_lines.specs.Written.{Written}

-- the rules of a part, with where they are written
abbrev pub written_of : PolicyFiles → Part → Written
written_of below part = record {
  below = below;
  name = part.file;
  audit = part.section.audit;
  rules = part.section.rules;
  places = part.places;
}

-- the claim is that something is allowed, so that a path that breaks it lacks a rule
abbrev pub is_lacking : Claim → Bool
is_lacking Never = false
is_lacking Always = true

-- the rules that decide a path that breaks the claim, as `why` prints them
unfoldable pub asked_lines : Form → PolicyFiles → Claim → Part → Breaking → List ℕ
asked_lines form below claim part breaking =
    why_lines form (written_of below part) (ForFile breaking.letters breaking.owned breaking.path) (is_lacking claim)

-- the rules that decide a path that breaks the claim, where they decide
abbrev pub breaking_lines : Form → PolicyFiles → Claim → Part → Breaking → List ℕ
breaking_lines form below claim part breaking = if asks_rules part.section.mode then asked_lines form below claim part breaking else []

abbrev pub rule_lines : Form → PolicyFiles → Claim → Option Part → Option Breaking → List ℕ
rule_lines form below claim (Some part) (Some breaking) = breaking_lines form below claim part breaking
rule_lines form below claim part breaking = []

-- the report on who was asked about, with the rules, unless only names are reported
abbrev pub told : Form → Bool → PolicyFiles → Claimed → Found → List ℕ
told form names below claimed found =
    found_told form claimed found
    ++ (if names then [] else rule_lines form below claimed.claim found.part (breaking_of found.finding))

-- the report on all who were asked about
abbrev pub all_told : Form → Bool → PolicyFiles → Claimed → List Found → List ℕ
all_told form names below claimed found = flat_map (told form names below claimed) found

-- a name breaks the claim, or doesn't exist; and the claim is undecided for a name
abbrev pub is_refuted : List Found → Bool
is_refuted found = list_any (λ found. not (is_held found.finding) && not (is_undecided found.finding)) found

abbrev pub has_undecided : List Found → Bool
has_undecided found = list_any (λ found. is_undecided found.finding) found
