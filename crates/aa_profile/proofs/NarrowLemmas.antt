-- What language 3 reads: no mode unconfined, ranks by own patterns and no stacks.
use Rattle.std.proofs.Common.{◌≡◌, ℕ, Bool, true, false, List, [], ◌∷◌, Option, None, Some, Ok, map, refl}
use Rattle.std.specs.Prelude.{◌≢◌, ◌&&◌, IfOk, IfSome, if◌then◌else◌, is_some}
use Rattle.std.specs.List.{All}
use Rattle.std.proofs.lemmas.List.Elements.{All-cons, All-nil}
use Rattle.aa_glob_syntax.specs.Exactness.{is_exact}
use Rattle.aa_glob_syntax.specs.Reading.{items_of}
use Rattle.aa_text_tokens.specs.Splicing.{Placed}
use Rattle.aa_text_variables.specs.Variables.{Variable}
use Rattle.aa_profile_data.specs.declared.exec_word.ExecWord.{ExecWord}
use Rattle.aa_profile_parsing.specs.declared.language.Language.TheVariants.{Three}
use Rattle.aa_profile_parsing.specs.Flags.{flags}
use Rattle.aa_profile_parsing.specs.NarrowFlags.{HasNarrowMode}
use Rattle.aa_profile_parsing.specs.declared.flags.Flags.{Flags}
use Rattle.aa_profile_parsing.specs.declared.flags.ModeFlag.{ModeFlag}
use Rattle.aa_profile_parsing.specs.declared.flags.ModeFlag.TheVariants as flag
use Rattle.aa_profile_rules.specs.NarrowRules.{IsNarrow as IsNarrowWritten, NamesNoStack as NamesNone}
use Rattle.aa_profile_rules.specs.Rules.{All as LetsAll, Kept, OnCapabilities, OnFile, OnNetwork, Rule as WrittenRule, rule}
use Rattle.aa_profile_rules.specs.declared.access.Access.{Access}
use Rattle.aa_profile_rules.specs.declared.qualifiers.Qualifiers.{Qualifiers}
use Rattle.aa_profile_grammar.specs.Files.{File, file}
use Rattle.aa_profile_data.specs.declared.profile.Mode.{Mode}
use Rattle.aa_profile_data.specs.declared.profile.Mode.TheVariants.{Enforce, Unconfined}
use Rattle.aa_profile_data.specs.declared.profile.Rank.TheVariants.{Loose, Plain}
use Rattle.aa_profile_data.specs.declared.profile.Transition.{Transition}
use Rattle.aa_profile_grammar.specs.Patterns.{patterns_at}
use Rattle.aa_profile.specs.Profiles.{file_rule, mode_of, mode_of_flag, profile_of, rank_of, rules_of_rule, text_of_target, transition_of}
use Rattle.aa_profile.specs.NarrowProfiles.{IsNarrow, IsNarrowRule, NamesNoStack}
use Rattle.aa_profile.proofs.BlockLemmas.{file-has}

-- the mode of flags that say none of language 4 alone
mode-narrow : (flags : Flags) → HasNarrowMode flags → mode_of flags ≢ Unconfined
mode-narrow flags h = by flags.mode h
  where
    told : Option ModeFlag → Mode
    told found = elim found [ None ↦ Enforce | Some flag ↦ mode_of_flag flag ]

    by : (found : Option ModeFlag) → (found ≢ Some flag.Unconfined) × (found ≢ Some flag.DefaultAllow) → told found ≢ Unconfined
    by None h = λ wrong. absurd (cc)
    by (Some flag.Enforce) h = λ wrong. absurd (cc)
    by (Some flag.Complain) h = λ wrong. absurd (cc)
    by (Some flag.Unconfined) h = λ wrong. h.0 refl
    by (Some flag.DefaultAllow) h = λ wrong. h.1 refl

-- under what an access lets programs run
abbrev transition_by : Option (List ℕ) → Option ExecWord → Option Transition
transition_by target found = elim found [ None ↦ None | Some word ↦ Some (record { word = word; target = target }) ]

-- the rank of a rule that isn't told one by its token is that of its own pattern
rank-narrow : (access : Access) (target : Option (List ℕ)) (pattern : List ℕ)
    → rank_of access None pattern ≡ (if is_some (transition_of access target) && is_exact (items_of pattern) then Plain else Loose)
rank-narrow access target pattern = by access.word (is_exact (items_of pattern))
  where
    by : (word : Option ExecWord) (exact : Bool)
        → (if is_some word then if exact then Plain else Loose else Loose) ≡ (if is_some (transition_by target word) && exact then Plain else Loose)
    by None exact = refl
    by (Some word) true = refl
    by (Some word) false = refl

-- what a written target names, the transition does
transition-narrow : (access : Access) (target : Option Placed) → IfSome access.word (λ word. NamesNone target) → NamesNoStack (transition_of access (text_of_target target))
transition-narrow access target h = by access.word target h
  where
    told : Option ExecWord → Option Placed → Option Transition
    told found target = elim found [ None ↦ None | Some word ↦ Some (record { word = word; target = text_of_target target }) ]

    by : (found : Option ExecWord) (target : Option Placed) → IfSome found (λ word. NamesNone target) → NamesNoStack (told found target)
    by None target h = tt
    by (Some word) None h = tt
    by (Some word) (Some token) h = h

file_rules-narrow : (qualifiers : Qualifiers) (access : Access) (target : Option Placed) → IfSome access.word (λ word. NamesNone target) → (patterns : List (List ℕ))
    → All IsNarrowRule (map (file_rule qualifiers access target None) patterns)
file_rules-narrow qualifiers access target h [] = All-nil IsNarrowRule
file_rules-narrow qualifiers access target h (pattern ∷ patterns) =
    All-cons IsNarrowRule (file_rule qualifiers access target None pattern) (map (file_rule qualifiers access target None) patterns)
    (rank-narrow access (text_of_target target) pattern, transition-narrow access target h) (file_rules-narrow qualifiers access target h patterns)

made-rule : (variables : List Variable) (rule : WrittenRule) → IsNarrowWritten rule → All IsNarrowRule (rules_of_rule Three variables rule)
made-rule variables (OnFile qualifiers pattern access target) h = file_rules-narrow qualifiers access target h (patterns_at variables pattern)
made-rule variables (OnCapabilities qualifiers word capabilities) h = All-cons IsNarrowRule _ [] tt (All-nil IsNarrowRule)
made-rule variables (OnNetwork qualifiers word sockets) h = All-cons IsNarrowRule _ [] tt (All-nil IsNarrowRule)
made-rule variables (Kept qualifiers tokens) h = All-cons IsNarrowRule _ [] tt (All-nil IsNarrowRule)
made-rule variables (LetsAll qualifiers word) h = absurd h

-- the profiles of a file, whatever its variables are
module _ (rules : (tokens : List Placed) → IfOk (rule Three tokens) (λ read. IsNarrowWritten read.0)) (flagged : (tokens : List Placed) → IfOk (flags Three tokens) (λ read. HasNarrowMode read.0.0)) where
  pub profiles-narrow : (variables : List Variable) (tokens : List Placed) (read : File) → file Three tokens ≡ Ok read → All IsNarrow (map (profile_of Three variables) read.profiles)
  profiles-narrow variables tokens read h =
      file-has Three IsNarrowWritten HasNarrowMode rules flagged variables IsNarrowRule (λ mode. mode ≢ Unconfined) (made-rule variables) mode-narrow tokens read h
