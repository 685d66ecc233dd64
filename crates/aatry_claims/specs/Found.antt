-- The answers for profiles, children and hats in a question about all paths (docs/aatry.md).
use Rattle.std.specs.Prelude.{◌≡◌, ℕ, ◌-◌, Bool, true, false, if◌then◌else◌, List, [], ◌∷◌, Option, None, Some, codes, map}
use Rattle.std.specs.Option.{option_map}
use Rattle.aa_explain_paths.specs.Answers.{Asked, IsAnswer}
use Rattle.aa_explain_paths.specs.declared.question.Claim.{Claim}
use Rattle.aa_explain_paths.specs.declared.question.PathAnswer.{PathAnswer}
use Rattle.aa_profile_data.specs.Access.{all_letters}
use Rattle.aa_profile_data.specs.declared.profile.Mode.{Mode}
use Rattle.aa_profile_data.specs.declared.profile.Mode.TheVariants as mode
use Rattle.aa_profile_data.specs.declared.profile.Rank.TheVariants.{Loose}
use Rattle.aa_profile_data.specs.declared.profile.Rule.{Rule}
use Rattle.aa_profile_data.specs.declared.profile.Rule.TheVariants.{File}
use Rattle.std.specs.List.{All}
use Rattle.aatry_policy.specs.Parts.{Part, part_of}
use Rattle.aatry_policy.specs.SeenProfiles.{seen_part}
use Rattle.aatry_claims.specs.Words.{PathWords}
use Rattle.aatry_claims.specs.declared.found.Finding.{Finding}
use Rattle.aatry_claims.specs.declared.found.Finding.TheVariants.{Absent, ByRules}
use Rattle.aatry_claims.specs.declared.found.Found.{Found as CodeFound}

-- a full name that is asked about, and the answer
pub record Found : Type 0 where
  pub name : List ℕ
  pub part : Option Part
  pub finding : Finding

abbrev pub seen_found : CodeFound → Found
seen_found found = record {
  name = found.name.now;
  part = option_map (λ part. seen_part part.now) found.part;
  finding = found.finding;
}

-- the rules of a profile, child or hat in a mode decide; they don't where it is disabled, which is no mode
abbrev pub asks_rules : Option Mode → Bool
asks_rules (Some mode.Enforce) = true
asks_rules (Some mode.Complain) = true
asks_rules (Some mode.Unconfined) = false
asks_rules None = false

-- the question of words, with these patterns
abbrev pub asked_of : Claim → PathWords → List (List ℕ) → Asked
asked_of claim words patterns = record { claim = claim; letters = words.letters; whose = words.whose; patterns = patterns }

-- the rule that allows all access to each file
abbrev pub every_rule : Rule
every_rule = File (record {
  pattern = codes "/{**,}";
  access = record { 0 = all_letters - 1 };
  exec = None;
  rank = Loose;
  link = None;
  owner = false;
  deny = false;
  audit = false;
})

-- the rules that decide for a part: where its own don't, everything is allowed
abbrev pub rules_asked : Part → List Rule
rules_asked part = if asks_rules part.section.mode then part.section.rules else every_rule ∷ []

-- By the rules of a part the answer is right, and so are the letters and the owner for a path that breaks the claim. Where there is no part, that is
-- the answer.
abbrev pub IsFoundBy : Asked → ℕ → Option Part → Finding → Type 0
IsFoundBy asked limit None finding = finding ≡ Absent
IsFoundBy asked limit (Some part) finding = (answer : PathAnswer) × (finding ≡ ByRules answer) × IsAnswer (rules_asked part) asked limit answer

-- The finding is for the first part of the name, if there is one, and right.
pub record IsFound (asked : Asked) (limit : ℕ) (parts : List Part) (found : Found) : Type 0 where
  pub part : found.part ≡ part_of parts found.name
  pub right : IsFoundBy asked limit found.part found.finding

-- the names of parts, and of the findings
abbrev pub part_names : List Part → List (List ℕ)
part_names parts = map (λ part. part.name) parts

abbrev pub found_names : List Found → List (List ℕ)
found_names found = map (λ found. found.name) found

-- the names that are asked about: where words give none, those of all parts
abbrev pub names_or : List (List ℕ) → List Part → List (List ℕ)
names_or [] parts = part_names parts
names_or (name ∷ names) parts = name ∷ names

abbrev pub AreAllFound : Asked → ℕ → List Part → List Found → Type 0
AreAllFound asked limit parts found = All (IsFound asked limit parts) found

-- the findings are for these names, in their order, and right
pub record AreFound (asked : Asked) (limit : ℕ) (parts : List Part) (names : List (List ℕ)) (found : List Found) : Type 0 where
  pub each : AreAllFound asked limit parts found
  pub named : found_names found ≡ names
