-- Targets of file rules: what a rule names after `->`, a profile under which a program runs that it allows to be started, or the target of a hard
-- link (apparmor.d(5), "Execute Rules" and "Link rules"; docs/policy.md, "Exec words").
use Rattle.std.specs.Prelude.{ℕ, Bool, true, false, not, ◌&&◌, if◌then◌else◌, List, [], ◌∷◌, Option, None, Some, Ok, codes}
use Rattle.aa_profile_data.specs.Access.{EXEC, LINK, has}
use Rattle.aa_profile_data.specs.ExecWords.{row}
use Rattle.aa_profile_data.specs.declared.exec_word.Destination.{Destination}
use Rattle.aa_profile_data.specs.declared.exec_word.Destination.TheVariants as to
use Rattle.aa_profile_data.specs.FullNames.{is_full_name}
use Rattle.aa_profile_data.specs.Names.{is_top_name}
use Rattle.aa_text_tokens.specs.Splicing.{Placed}
use Rattle.aa_profile_parsing.specs.Parts.{Part, expected, followed, refused}
use Rattle.aa_profile_parsing.specs.Tokens.{is_text, is_word_of, text_of}
use Rattle.aa_profile_parsing.specs.declared.fault.GrammarRefusal.TheVariants.{BadName, TargetWithoutExec}
use Rattle.aa_profile_parsing.specs.declared.language.Language.{Language}
use Rattle.aa_profile_parsing.specs.declared.language.Language.TheVariants.{Four, Three}
use Rattle.aa_profile_data.specs.Stacks.{is_name_or_stack_of}
use Rattle.aa_profile_rules.specs.declared.access.Access.{Access}

-- an exec word with this destination may have a target: that of a profile, or of a child or a hat
abbrev pub is_nameable : Destination → Bool
is_nameable to.Profile = true
is_nameable to.Child = true
is_nameable _ = false

-- An access may have a target: that of an exec word which leads to a profile, a child or a hat, or that of a link, where there is no `x`.
abbrev pub takes_target : Access → Bool
takes_target access = elim access.word [
  | Some word ↦ is_nameable (row word).destination
  | None ↦ has access.letters.0 LINK && not (has access.letters.0 EXEC)
]

-- a text is a name that a target with this destination may be: a profile's full name, or the own name of a child or a hat
abbrev pub is_name_of : Destination → List ℕ → Bool
is_name_of to.Profile text = is_full_name text
is_name_of to.Child text = is_top_name text
is_name_of _ text = false

-- a text may be a target with this destination, by a language; language 4 has stacks
abbrev pub names_what_is : Language → Destination → List ℕ → Bool
names_what_is Three destination text = is_name_of destination text
names_what_is Four destination text = is_name_or_stack_of destination text

-- a text may be the target of an access that may have one; that of a link may be any
abbrev pub is_target : Language → Access → List ℕ → Bool
is_target language access text = elim access.word [
  | Some word ↦ names_what_is language (row word).destination text
  | None ↦ true
]

-- the target of an access, after `->`
abbrev pub named_target : Language → Access → List Placed → Part (Option Placed)
named_target language access tokens =
    followed (expected is_text tokens) (λ target behind.
    if is_target language access (text_of target) then Ok (Some target, behind) else refused BadName target)

-- the target with which tokens begin, if they begin with `->`
abbrev pub target : Language → Access → List Placed → Part (Option Placed)
target language access [] = Ok (None, [])
target language access (token ∷ tokens) =
    if is_word_of (codes "->") token
    then if takes_target access then named_target language access tokens else refused TargetWithoutExec token
    else Ok (None, token ∷ tokens)
