-- What the words after `diff` ask for where the flag `--all` is among them: what a change of policy changes, for all paths.
use Rattle.std.specs.Prelude.{ℕ, Bool, List, [], ◌∷◌, Option, Some, None, codes}
use Rattle.std.specs.Option.{option_map_or}
use Rattle.aa_start.specs.Options.{Asked, ForThis, Nothing, Open, asked_then}
use Rattle.aatry_arguments.specs.DiffWords.{DiffGiven, bare_given, given_behind, stat_flag}
use Rattle.aatry_arguments.specs.Flags.{is_given, without_flag}
use Rattle.aatry_arguments.specs.PathsWords.{PathsLimited, limited_in}

-- a comparison for all paths: the old and the new folder of policy, the names, or none for all, whether it is reported how much differs, and not
-- what, whether differences in what is logged don't count, and how many sets are looked at
pub record PathComparisonAsked : Type 0 where
  pub old : List ℕ
  pub new : List ℕ
  pub who : List (List ℕ)
  pub stat : Bool
  pub quiet_audit : Bool
  pub limit : ℕ

-- a comparison, by its six parts
abbrev pub path_comparison_with : List ℕ → List ℕ → List (List ℕ) → Bool → Bool → ℕ → PathComparisonAsked
path_comparison_with old new who stat quiet_audit limit =
    record { old = old; new = new; who = who; stat = stat; quiet_audit = quiet_audit; limit = limit }

-- the flag that asks for all paths
abbrev pub all_flag : List ℕ
all_flag = codes "--all"

-- the flag by which differences in what is logged don't count
abbrev pub quiet_audit_flag : List ℕ
quiet_audit_flag = codes "--quiet-audit"

-- words that are no options are the two folders, and the names for which they are compared
abbrev pub compared_for : Bool → Bool → ℕ → List (List ℕ) → Option PathComparisonAsked
compared_for stat quiet_audit limit [] = None
compared_for stat quiet_audit limit (old ∷ []) = None
compared_for stat quiet_audit limit (old ∷ new ∷ who) = Some (path_comparison_with old new who stat quiet_audit limit)

-- a value, where no log and no file of questions is given
abbrev pub without_source : {A : Type 0} → Option (List ℕ) → Option (List ℕ) → Option A → Option A
without_source None None found = found
without_source (Some log) questions found = None
without_source None (Some questions) found = None

-- the comparison of what words give
abbrev pub path_comparison_of : Bool → Bool → ℕ → DiffGiven → Option PathComparisonAsked
path_comparison_of stat quiet_audit limit given = without_source given.log given.questions (compared_for stat quiet_audit limit given.folders)

-- what is asked for: nothing where words give no comparison
abbrev pub asked_of : Bool → Bool → ℕ → DiffGiven → Asked PathComparisonAsked
asked_of stat quiet_audit limit given = option_map_or (λ comparison. ForThis comparison) (path_comparison_of stat quiet_audit limit given) Nothing

-- what words without the flags and without the limit ask for: they are read like those after `diff`
abbrev pub asked_by : Bool → Bool → ℕ → List (List ℕ) → Asked PathComparisonAsked
asked_by stat quiet_audit limit words = asked_then (asked_of stat quiet_audit limit) (given_behind (Open bare_given) words)

-- the words without the two flags
abbrev pub without_flags : List (List ℕ) → List (List ℕ)
without_flags words = without_flag quiet_audit_flag (without_flag stat_flag words)

-- what words ask for beside the limit that they name
abbrev pub asked_limited : PathsLimited → Asked PathComparisonAsked
asked_limited limited = asked_by (is_given stat_flag limited.words) (is_given quiet_audit_flag limited.words) limited.limit (without_flags limited.words)

-- what words ask for beside the limit, if they name it well; else nothing
abbrev pub asked_by_limit : Option PathsLimited → Asked PathComparisonAsked
asked_by_limit None = Nothing
asked_by_limit (Some limited) = asked_limited limited

-- what words after `diff` ask for beside the flag `--all`
unfoldable pub asked_all : List (List ℕ) → Asked PathComparisonAsked
asked_all words = asked_by_limit (limited_in words)
