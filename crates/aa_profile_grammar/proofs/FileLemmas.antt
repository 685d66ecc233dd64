-- A file is its preamble, and the profiles behind it.
use Rattle.std.proofs.Common.{◌≡◌, Bool, true, false, if◌then◌else◌, List, Result, Ok, Err, refl, ap, ◌∙◌}
use Rattle.std.specs.Prelude.{None}
use Rattle.aa_bytes.specs.Texts.{is_empty}
use Rattle.aa_text_tokens.specs.Splicing.{Placed}
use Rattle.aa_profile_parsing.specs.GrammarError.{told}
use Rattle.aa_profile_parsing.specs.Parts.{Part}
use Rattle.aa_profile_parsing.specs.declared.fault.GrammarRefusal.TheVariants.{NoProfile}
use Rattle.aa_profile_parsing.specs.declared.language.Language.{Language}
use Rattle.aa_profile_parsing.specs.declared.grammar_error.GrammarError.{GrammarError}
use Rattle.aa_profile_grammar.specs.Blocks.{Profile, all_profiles}
use Rattle.aa_profile_grammar.specs.Files.{File, file}
use Rattle.aa_profile_grammar.specs.Preamble.{Assignment, preamble}
use Rattle.aa_profile_grammar.specs.code.SomeProfiles.{some_profiles}

-- assignments, and the profiles behind them
abbrev with_profiles : List Assignment → Result (List Profile) GrammarError → Result File GrammarError
with_profiles assignments (Ok profiles) = Ok (record { assignments = assignments; profiles = profiles })
with_profiles assignments (Err error) = Err error

file-is : (language : Language) (tokens behind : List Placed) (assignments : List Assignment) → preamble tokens ≡ Ok (assignments, behind) → file language tokens ≡ with_profiles assignments (some_profiles language behind)
file-is language tokens behind assignments p = rw (p, file) (by (all_profiles language behind))
  where
    some : (none : Bool) (profiles : List Profile)
        → (if none then Err (record { refusal = NoProfile; place = None }) else Ok (record { assignments = assignments; profiles = profiles }))
        ≡ with_profiles assignments (if none then Err (record { refusal = NoProfile; place = None }) else Ok profiles)
    some true profiles = refl
    some false profiles = refl

    by : (found : Part (List Profile))
        → (elim found [
          | Err fault ↦ Err (told fault)
          | Ok read ↦ if is_empty read.0 then Err (record { refusal = NoProfile; place = None }) else Ok (record { assignments = assignments; profiles = read.0 })
        ])
        ≡ with_profiles assignments (elim found [
          | Err fault ↦ Err (told fault)
          | Ok read ↦ if is_empty read.0 then Err (record { refusal = NoProfile; place = None }) else Ok read.0
        ])
    by (Err fault) = refl
    by (Ok read) = some (is_empty read.0) read.0

-- a file whose preamble and profiles were read
pub file-read : (language : Language) (tokens behind : List Placed) (assignments : List Assignment) (profiles : List Profile) → preamble tokens ≡ Ok (assignments, behind) → some_profiles language behind ≡ Ok profiles
    → file language tokens ≡ Ok (record { assignments = assignments; profiles = profiles })
file-read language tokens behind assignments profiles p s = file-is language tokens behind assignments p ∙ ap (with_profiles assignments) s

-- a file whose profiles are refused
pub file-refused : (language : Language) (tokens behind : List Placed) (assignments : List Assignment) (error : GrammarError) → preamble tokens ≡ Ok (assignments, behind) → some_profiles language behind ≡ Err error
    → file language tokens ≡ Err error
file-refused language tokens behind assignments error p s = file-is language tokens behind assignments p ∙ ap (with_profiles assignments) s
