-- What the program makes of the words of its arguments.
use Rattle.std.specs.Prelude.{ℕ, Bool, List, Result, string_bytes}
use Rattle.aa_start.specs.Given.{IsGivenFor}
use Rattle.aa_start.specs.Texts.{texts}
use Rattle.aa_start.specs.declared.fault.ArgumentFault.{ArgumentFault}
use Rattle.aa_profile_parsing.specs.Languages.{word_of}
use Rattle.aa_profile_parsing.specs.declared.language.Language.{Language}
use Rattle.aa_start.specs.Arguments.{Asked, Run}
use Rattle.aa_start.specs.declared.arguments.Plan.{Plan}

-- the run that a plan is for
abbrev pub run_of : Plan → Run
run_of plan = record {
  language = word_of plan.language;
  force_complain = plan.force_complain;
  base = string_bytes plan.base;
  names = texts plan.names;
}

-- a run, by its four parts
abbrev pub run_with : Language → Bool → List ℕ → List (List ℕ) → Run
run_with language force_complain base names = record { language = word_of language; force_complain = force_complain; base = base; names = names }

-- The plan is for the run that is asked for, help and the version are given where they are asked for, and all else is
-- refused. Memory may run out at any time.
abbrev pub IsPlanFor : Asked → Result Plan ArgumentFault → Type 0
IsPlanFor asked result = IsGivenFor run_of asked result
