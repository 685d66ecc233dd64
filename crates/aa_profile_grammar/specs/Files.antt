-- Profile files, whole: a preamble, and then at least one profile (apparmor.d(5), "FORMAT"; docs/policy.md, "Files").
use Rattle.std.specs.Prelude.{if◌then◌else◌, List, None, Result, Ok, Err}
use Rattle.aa_text_tokens.specs.Splicing.{Placed}
use Rattle.aa_bytes.specs.Texts.{is_empty}
use Rattle.aa_profile_parsing.specs.GrammarError.{told}
use Rattle.aa_profile_parsing.specs.declared.fault.GrammarRefusal.TheVariants.{NoProfile}
use Rattle.aa_profile_parsing.specs.declared.language.Language.{Language}
use Rattle.aa_profile_grammar.specs.Blocks.{Profile, all_profiles}
use Rattle.aa_profile_grammar.specs.Preamble.{Assignment, preamble}
use Rattle.aa_profile_parsing.specs.declared.grammar_error.GrammarError.{GrammarError}

-- a file: the assignments of its preamble, and its profiles
pub record File : Type 0 where
  pub assignments : List Assignment
  pub profiles : List Profile

-- the file of tokens, or the error for the first fault
abbrev pub file : Language → List Placed → Result File GrammarError
file language tokens = elim (preamble tokens) [
  | Err fault ↦ Err (told fault)
  | Ok opening ↦ elim (all_profiles language opening.1) [
    | Err fault ↦ Err (told fault)
    | Ok read ↦ if is_empty read.0 then Err (record { refusal = NoProfile; place = None }) else Ok (record { assignments = opening.0; profiles = read.0 })
  ]
]
