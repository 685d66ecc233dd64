-- The error for the fault that ends the reading of a file's grammar (docs/policy.md, "Files").
use Rattle.std.specs.Prelude.{None, Some}
use Rattle.aa_profile_parsing.specs.declared.fault.Fault.{Fault}
use Rattle.aa_profile_parsing.specs.declared.fault.Fault.TheVariants.{At, Memory, RanOut}
use Rattle.aa_profile_parsing.specs.declared.fault.GrammarRefusal.TheVariants.{BadToken, Memory as NoMemory}
use Rattle.aa_profile_parsing.specs.declared.grammar_error.GrammarError.{GrammarError}

-- the error for a fault
abbrev pub told : Fault → GrammarError
told (At refusal place) = record { refusal = refusal; place = Some place }
told RanOut = record { refusal = BadToken; place = None }
told Memory = record { refusal = NoMemory; place = None }
