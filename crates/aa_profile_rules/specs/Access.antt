-- The access of a file rule (apparmor.d(5), "File Permission Access Modes" and "Execute Rules"; docs/policy.md, "Rules").
use Rattle.std.specs.Prelude.{ℕ, Bool, ◌&&◌, if◌then◌else◌, List, [], ◌∷◌, Option, None, Some, is_some, Result, Ok, Err}
use Rattle.aa_profile_data.specs.Access.{APPEND, EXEC, LINK, LOCK, MAP, READ, WRITE, has, union}
use Rattle.aa_profile_data.specs.WrittenAccess.{access_with, has_two_words, nothing_written}
use Rattle.aa_profile_data.specs.declared.exec_word.ExecWord.TheVariants.{Inherit}
use Rattle.aa_profile_data.specs.declared.written.WrittenAccess.{WrittenAccess}
use Rattle.aa_text_tokens.specs.Splicing.{Placed}
use Rattle.aa_profile_parsing.specs.Parts.{Part, refused}
use Rattle.aa_profile_parsing.specs.Tokens.{is_word, text_of}
use Rattle.aa_profile_parsing.specs.declared.fault.Fault.TheVariants.{RanOut}
use Rattle.aa_profile_parsing.specs.declared.fault.GrammarRefusal.{GrammarRefusal}
use Rattle.aa_profile_parsing.specs.declared.fault.GrammarRefusal.TheVariants.{BadAccess, BadToken, ExecQualifier, TwoExec, WriteAppend}
use Rattle.aa_profile_rules.specs.declared.access.Access.{Access}

-- `x` is in an access where its rule can't have it: a rule that denies has it bare, without saying under which profile a program would run, and any
-- other has it within an exec word
abbrev pub is_misplaced : Bool → WrittenAccess → Bool
is_misplaced deny written = if deny then is_some written.word else has written.letters.0 EXEC

-- why an access is refused in a rule, by whether the rule denies; `w` and `a` don't go together, since `w` is more
abbrev pub refusal_of_access : Bool → WrittenAccess → Option GrammarRefusal
refusal_of_access deny written =
    if has_two_words written then Some TwoExec else
    if is_misplaced deny written then Some ExecQualifier else
    if has written.letters.0 WRITE && has written.letters.0 APPEND then Some WriteAppend else
    None

-- what a word allows or denies in a rule, by whether the rule denies: known letters and exec words that go together
abbrev pub access_of : Bool → List ℕ → Result Access GrammarRefusal
access_of deny text = elim (access_with nothing_written text) [
  | None ↦ Err BadAccess
  | Some written ↦ elim (refusal_of_access deny written) [
    | Some refusal ↦ Err refusal
    | None ↦ Ok (record { letters = written.letters; word = written.word })
  ]
]

-- the access with which tokens begin, in a rule that denies or in one that doesn't
abbrev pub access : Bool → List Placed → Part Access
access deny [] = Err RanOut
access deny (token ∷ tokens) =
    if is_word token.token.kind
    then elim (access_of deny (text_of token)) [ Err refusal ↦ refused refusal token | Ok found ↦ Ok (found, tokens) ]
    else refused BadToken token

-- the letters `r w l k m`
abbrev pub plain_letters : ℕ
plain_letters = union READ (union WRITE (union LINK (union LOCK MAP)))

-- what `file` alone allows or denies: `rwmlkix`, or `rwmlkx` in a rule that denies
abbrev pub whole_access : Bool → Access
whole_access deny =
    if deny then record { letters = record { 0 = union plain_letters EXEC }; word = None } else record { letters = record { 0 = plain_letters }; word = Some Inherit }
