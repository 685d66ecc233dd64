-- The form of a command's report, verbose or not, and the language by which it reads policy.
use Rattle.std.specs.Prelude.{ℕ, Bool, false, true, if◌then◌else◌, List, None, Some, codes}
use Rattle.aatry_arguments.specs.Arguments.{CommandAsked, ForCheck, ForSession, ForTest, asked}
use Rattle.aa_start.specs.Options.{Asked, ForThis, Nothing, asked_as, asked_then}
use Rattle.aa_profile_parsing.specs.declared.language.Language.{Language}
use Rattle.aa_profile_parsing.specs.declared.language.Language.TheVariants.{Four}
use Rattle.aatry_arguments.specs.Flags.{is_given, without_flag}
use Rattle.aatry_arguments.specs.Languages.{by_language}
use Rattle.aatry_report.specs.declared.form.Form.{Form}
use Rattle.aatry_report.specs.declared.form.Form.TheVariants.{Lines, Records}

-- a command, the language by which it reads policy, the form of its report, and whether lines are verbose
pub record CallAsked : Type 0 where
  pub language : Language
  pub form : Form
  pub verbose : Bool
  pub command : CommandAsked

-- a call, by its language, its form and its command: lines aren't verbose
abbrev pub call_with : Language → Form → CommandAsked → CallAsked
call_with language form command = record { language = language; form = form; verbose = false; command = command }

-- the flag that asks for records
abbrev pub json : List ℕ
json = codes "--json"

-- a command whose report is in records: a test and a session have none
abbrev pub in_records : Language → CommandAsked → Asked CallAsked
in_records language (ForTest test) = Nothing
in_records language (ForSession session) = Nothing
in_records language command = ForThis (call_with language Records command)

-- what words ask for by a language, and in which form
abbrev pub asked_in : Language → List (List ℕ) → Asked CallAsked
asked_in language words =
    if is_given json words
    then asked_then (in_records language) (asked (without_flag json words))
    else asked_as (call_with language Lines) (asked words)

-- the flag that asks for verbose lines
abbrev pub verbose_flag : List ℕ
verbose_flag = codes "--verbose"

-- a call of a command that may leave out files can be verbose, and no other
abbrev pub told_at_length : CommandAsked → CallAsked → Asked CallAsked
told_at_length (ForCheck check) call = Nothing
told_at_length (ForTest test) call = Nothing
told_at_length (ForSession session) call = Nothing
told_at_length command call = ForThis (record call { verbose = true })

-- a verbose call
abbrev pub at_length : CallAsked → Asked CallAsked
at_length call = told_at_length call.command call

-- what words ask for by a language, in which form, and verbose or not
abbrev pub asked_by : Language → List (List ℕ) → Asked CallAsked
asked_by language words =
    if is_given verbose_flag words
    then asked_then at_length (asked_in language (without_flag verbose_flag words))
    else asked_in language words

-- what the words of all arguments ask for: by language 4, where they name no other
abbrev pub asked_call : List (List ℕ) → Asked CallAsked
asked_call words = elim (by_language (Some Four) words) [ None ↦ Nothing | Some read ↦ asked_by read.language read.words ]
