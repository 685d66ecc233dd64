-- A file as its preamble, followed by the profiles.
use Rattle.std.specs.Prelude.{if◌then◌else◌, List, None, Result, Ok, Err}
use Rattle.aa_text_tokens.specs.Splicing.{Placed}
use Rattle.aa_bytes.specs.Texts.{is_empty}
use Rattle.aa_profile_parsing.specs.GrammarError.{told}
use Rattle.aa_profile_parsing.specs.declared.fault.GrammarRefusal.TheVariants.{NoProfile}
use Rattle.aa_profile_parsing.specs.declared.language.Language.{Language}
use Rattle.aa_profile_parsing.specs.declared.grammar_error.GrammarError.{GrammarError}
use Rattle.aa_profile_grammar.specs.Blocks.{Profile, all_profiles}

-- the profiles from the tokens after a preamble, of which there must be one, or the error for the first fault
abbrev pub some_profiles : Language → List Placed → Result (List Profile) GrammarError
some_profiles language tokens = elim (all_profiles language tokens) [
  | Err fault ↦ Err (told fault)
  | Ok read ↦ if is_empty read.0 then Err (record { refusal = NoProfile; place = None }) else Ok read.0
]
