-- Why a profile's file is refused: the number and name of each refusal (docs/commands.md, "Refusals"). Those of the layers below are in their
-- tables.
use Rattle.std.specs.Prelude.{ℕ, List, codes, None, Some}
use Rattle.aa_text_files.specs.TextError.{described as described_text}
use Rattle.aa_text_files.specs.declared.text_error.Place.{Place}
use Rattle.aa_text_files.specs.declared.text_error.TextError.{TextError}
use Rattle.aa_text_files.specs.declared.text_error.TextRefusal.{TextRefusal}
use Rattle.aa_text_files.specs.declared.text_error.TextRefusal.TheVariants as text
use Rattle.aa_glob_syntax.specs.PatternError.{described as described_pattern}
use Rattle.aa_glob_syntax.specs.declared.pattern_error.PatternError.{PatternError}
use Rattle.aa_glob_syntax.specs.declared.pattern_error.PatternError.TheVariants as pattern
use Rattle.aa_profile_parsing.specs.GrammarRefusal.{described as described_grammar}
use Rattle.aa_profile_parsing.specs.declared.grammar_error.GrammarError.{GrammarError}
use Rattle.aa_profile_parsing.specs.declared.fault.GrammarRefusal.{GrammarRefusal}
use Rattle.aa_profile_parsing.specs.declared.fault.GrammarRefusal.TheVariants as grammar
use Rattle.aa_profile_parsing.specs.declared.profile_error.ProfileError.{ProfileError}
use Rattle.aa_profile_parsing.specs.declared.profile_error.ProfileRefusal.{ProfileRefusal}
use Rattle.aa_profile_parsing.specs.declared.profile_error.ProfileRefusal.TheVariants.{Pattern, Text, Grammar, TooManyRules, ManyStates, ExecConflict, Memory}

-- the one table of numbers and names of this layer
abbrev pub described : ProfileRefusal → ℕ × List ℕ
described (Pattern error) = described_pattern error
described (Text refusal) = described_text refusal
described (Grammar refusal) = described_grammar refusal
described TooManyRules = (30, codes "TooManyRules")
described ManyStates = (73, codes "ManyStates")
described ExecConflict = (55, codes "ExecConflict")
described Memory = (99, codes "Memory")

abbrev pub number_of : ProfileRefusal → ℕ
number_of refusal = (described refusal).0

abbrev pub name_of : ProfileRefusal → List ℕ
name_of refusal = (described refusal).1

-- a refusal without a place
abbrev pub plain : ProfileRefusal → ProfileError
plain refusal = record { refusal = refusal; place = None }

-- a refusal at a place; `Memory` has none
abbrev pub placed : ProfileRefusal → Place → ProfileError
placed Memory place = plain Memory
placed refusal place = record { refusal = refusal; place = Some place }

-- The refusals of the layers below, as those of a file. Running out of memory is one refusal of a file, so none of these gives `Pattern Memory`,
-- `Text Memory` or `Grammar Memory`.

-- the refusal of a file whose pattern is refused; no file that is read holds a zero byte
abbrev pub refusal_of_pattern : PatternError → ProfileRefusal
refusal_of_pattern pattern.Memory = Memory
refusal_of_pattern pattern.ZeroByte = Text text.ZeroByte
refusal_of_pattern error = Pattern error

-- the refusal of a file whose text or whose variables are refused
abbrev pub refusal_of_text : TextRefusal → ProfileRefusal
refusal_of_text text.Memory = Memory
refusal_of_text refusal = Text refusal

-- the refusal of a file whose grammar is refused
abbrev pub refusal_of_grammar : GrammarRefusal → ProfileRefusal
refusal_of_grammar grammar.Memory = Memory
refusal_of_grammar refusal = Grammar refusal

-- the refusals of text and of grammar with their places
abbrev pub error_of_text : TextError → ProfileError
error_of_text error = record { refusal = refusal_of_text error.refusal; place = error.place }

abbrev pub error_of_grammar : GrammarError → ProfileError
error_of_grammar error = record { refusal = refusal_of_grammar error.refusal; place = error.place }
