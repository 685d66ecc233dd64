-- The report on an assertion by a policy set, where it doesn't hold.
use Rattle.std.specs.Prelude.{◌≡◌, ℕ, Bool, false, if◌then◌else◌, List, [], ◌++◌, Option, None, Some, codes, flat_map}
use Rattle.std.specs.List.{list_all}
use Rattle.aa_decide_ready.specs.Entries.{Loaded}
use Rattle.aa_profile_parsing.specs.declared.language.Language.{Language}
use Rattle.aa_text_files.specs.Files.{File}
use Rattle.aatry_arguments.specs.PathsWords.{usual_limit}
use Rattle.aatry_test.specs.Claims.{claimed_of}
use Rattle.aatry_claims.specs.Claimed.{Claimed}
use Rattle.aatry_claims.specs.Found.{AreFound, Found, asked_of, names_or}
use Rattle.aatry_claims.specs.Patterns.{asked_patterns}
use Rattle.aatry_claims.specs.Sentences.{found_told, is_held}
use Rattle.aatry_policy.specs.Parts.{Part, set_parts}
use Rattle.aatry_report.specs.declared.form.Form.TheVariants.{Lines}

-- the line on a name for which a claim doesn't hold: that of `aatry never` or `always`
abbrev pub unheld_line : Claimed → Found → List ℕ
unheld_line claimed found = if is_held found.finding then [] else codes "+ " ++ found_told Lines claimed found

abbrev pub unheld_lines : Claimed → List Found → List ℕ
unheld_lines claimed found = flat_map (unheld_line claimed) found

-- a claim holds for all of them
abbrev pub all_hold : List Found → Bool
all_hold found = list_all (λ found. is_held found.finding) found

-- A claim on the paths of these patterns, asked of profiles, children and hats: the findings are right, it holds where it holds for all who are
-- asked about, and a text has those for whom it doesn't.
pub record IsAskedOf (parts : List Part) (claimed : Claimed) (patterns : List (List ℕ)) (holds : Bool) (told : List ℕ) : Type 0 where
  pub found : List Found
  pub right : AreFound (asked_of claimed.claim claimed.words patterns) usual_limit parts (names_or claimed.words.whom parts) found
  pub decided : holds ≡ all_hold found
  pub lines : told ≡ unheld_lines claimed found

-- the lines on an assertion that claims nothing, and on one whose pattern no rule can have
abbrev pub nothing_line : List ℕ
nothing_line = codes "+ invalid assertion: after ! come never or always, ACCESS, OWNED, PATTERN, and up to three WHO\n"

abbrev pub no_pattern_line : List ℕ
no_pattern_line = codes "+ invalid assertion: PATTERN is not valid in a rule\n"

-- an assertion that can't be asked doesn't hold
abbrev pub IsUnasked : List ℕ → Bool → List ℕ → Type 0
IsUnasked line holds told = (holds ≡ false) × (told ≡ line)

-- a claim is asked of the profiles, children and hats of a policy set, if its pattern stands for some
abbrev pub IsClaimAsked : List Loaded → Claimed → Option (List (List ℕ)) → Bool → List ℕ → Type 0
IsClaimAsked set claimed None holds told = IsUnasked no_pattern_line holds told
IsClaimAsked set claimed (Some patterns) holds told = IsAskedOf (set_parts set []) claimed patterns holds told

abbrev pub IsAsked : Language → List File → List Loaded → Option Claimed → Bool → List ℕ → Type 0
IsAsked language files set None holds told = IsUnasked nothing_line holds told
IsAsked language files set (Some claimed) holds told = IsClaimAsked set claimed (asked_patterns language files claimed.words.pattern) holds told

-- An assertion, asked of a policy set: it holds or not, and a text tells why not.
abbrev pub IsAsserted : Language → List File → List Loaded → List ℕ → Bool → List ℕ → Type 0
IsAsserted language files set assertion holds told = IsAsked language files set (claimed_of assertion) holds told
