-- What the words after `check` ask for where the flag `--rules` is among them: which rules decide nothing.
use Rattle.std.specs.Prelude.{ℕ, Bool, List, Option, None, Some, codes}
use Rattle.aa_start.specs.Options.{Asked, ForThis, Nothing, asked_then}
use Rattle.aatry_arguments.specs.CheckWords.{CheckAsked, asked_check}
use Rattle.aatry_arguments.specs.Flags.{is_given, without_flag}
use Rattle.aatry_arguments.specs.PathsWords.{PathsLimited, limited_in}

-- a check of rules: the files of a folder, whether rules of included files are tried, too, and how many sets are looked at
pub record RulesCheckAsked : Type 0 where
  pub check : CheckAsked
  pub included : Bool
  pub limit : ℕ

-- the check of rules, by its three parts
abbrev pub rules_check_with : Bool → ℕ → CheckAsked → RulesCheckAsked
rules_check_with included limit check = record { check = check; included = included; limit = limit }

-- the flag that asks for rules that decide nothing
abbrev pub redundant_flag : List ℕ
redundant_flag = codes "--rules"

-- the flag by which rules of included files are tried, too
abbrev pub included_flag : List ℕ
included_flag = codes "--included"

-- the check of rules of a check
abbrev pub rules_of : Bool → ℕ → CheckAsked → Asked RulesCheckAsked
rules_of included limit check = ForThis (rules_check_with included limit check)

-- what words ask for beside the limit that they name: without the flag, the others are read like those of a check of files
abbrev pub asked_limited : PathsLimited → Asked RulesCheckAsked
asked_limited limited =
    asked_then (rules_of (is_given included_flag limited.words) limited.limit) (asked_check (without_flag included_flag limited.words))

-- what words ask for beside the limit, if they name it well; else nothing
abbrev pub asked_by_limit : Option PathsLimited → Asked RulesCheckAsked
asked_by_limit None = Nothing
asked_by_limit (Some limited) = asked_limited limited

-- what words after `check` ask for beside the flag `--rules`
unfoldable pub asked_rules : List (List ℕ) → Asked RulesCheckAsked
asked_rules words = asked_by_limit (limited_in words)
