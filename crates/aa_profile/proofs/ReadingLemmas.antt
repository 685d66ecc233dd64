-- The profiles that a file's reading gives.
use Rattle.std.proofs.Common.{◌≡◌, subst, map, refl, true, Option, None, Some, Result, Ok, Err, List, ℕ}
use Rattle.std.specs.List.{list_all}
use Rattle.std.specs.Prelude.{IfOk}
use Rattle.aa_text_files.specs.Files.{File as HandedIn}
use Rattle.aa_profile_grammar.specs.Files.{File, file}
use Rattle.aa_profile_parsing.specs.declared.grammar_error.GrammarError.{GrammarError}
use Rattle.aa_profile_parsing.specs.declared.language.Language.{Language}
use Rattle.aa_profile_data.specs.Conflicts.{profile_agrees}
use Rattle.aa_profile_data.specs.declared.profile.Profile.{Profile}
use Rattle.aa_profile.specs.Assignments.{variables_of}
use Rattle.aa_profile.specs.declared.file_profiles.FileProfiles.{FileProfiles}
use Rattle.aa_profile.specs.Conflicts.{conflict_in_profiles, refusal_of_conflicts}
use Rattle.aa_profile.specs.FileReading.{file_profiles_in, profiles_in, profiles_of, profiles_with, refusal_of_blocks, refusal_of_patterns, refusal_of_rules}
use Rattle.aa_profile.specs.States.{refusal_of_states}
use Rattle.aa_profile_grammar.specs.PatternTokens.{of_profiles}
use Rattle.aa_profile.specs.Profiles.{profile_of}
use Rattle.aa_profile_parsing.specs.declared.profile_error.ProfileError.{ProfileError}
use Rattle.aa_profile_parsing.specs.ProfileError.{error_of_grammar, refusal_of_text}
use Rattle.aa_text_tokens.specs.Splicing.{Fault, Placed, spliced}
use Rattle.aa_text_variables.specs.Variables.{Variable}
use Rattle.aa_profile.proofs.ConflictLemmas.{profiles-free}

-- the rules of each profile agree
abbrev pub AllAgree : List Profile → Type 0
AllAgree profiles = list_all profile_agrees profiles ≡ true

-- where no rule is refused, they do
pub read-agree : (language : Language) (variables : List Variable) (tokens : List Placed) (written : File) → file language tokens ≡ Ok written → refusal_of_rules language variables written.profiles ≡ None
    → AllAgree (map (profile_of language variables) written.profiles)
read-agree language variables tokens written is fine = by (refusal_of_patterns variables (of_profiles written.profiles)) refl
  where
    within : (found : Option Placed) → conflict_in_profiles language variables written.profiles ≡ found → refusal_of_conflicts language variables written.profiles ≡ None
        → AllAgree (map (profile_of language variables) written.profiles)
    within None e none = profiles-free language variables written.profiles e
    within (Some pattern) e none = let wrong = rw (refusal_of_conflicts, e) at none in absurd (cc)

    blocks : (refusal : Option ProfileError) → refusal_of_states language variables written.profiles ≡ refusal → refusal_of_blocks language variables written.profiles ≡ None
        → AllAgree (map (profile_of language variables) written.profiles)
    blocks (Some refusal) e none = let wrong : Some refusal ≡ None = rw (refusal_of_blocks, e) at none in absurd (cc)
    blocks None e none = within (conflict_in_profiles language variables written.profiles) refl (rw (refusal_of_blocks, e) at none)

    by : (refusal : Option ProfileError) → refusal_of_patterns variables (of_profiles written.profiles) ≡ refusal → AllAgree (map (profile_of language variables) written.profiles)
    by (Some refusal) e = let wrong : Some refusal ≡ None = rw (refusal_of_rules, e) at fine in absurd (cc)
    by None e = blocks (refusal_of_states language variables written.profiles) refl (rw (refusal_of_rules, e) at fine)

-- what holds of the profiles that a file's tokens make with variables by which no rule of them is refused holds of those that its reading gives
module _ (language : Language) (Fit : List Profile → Type 0) (fit : (variables : List Variable) (tokens : List Placed) (written : File) → file language tokens ≡ Ok written → refusal_of_rules language variables written.profiles ≡ None
    → Fit (map (profile_of language variables) written.profiles)) where
  fit-profiles : (tokens : List Placed) (written : File) (profiles : List Profile) → file language tokens ≡ Ok written → profiles_in language written ≡ Ok profiles → Fit profiles
  fit-profiles tokens written profiles is h = by (variables_of written.assignments (of_profiles written.profiles)) refl
    where
      within : (variables : List Variable) (refusal : Option ProfileError) → refusal_of_rules language variables written.profiles ≡ refusal → profiles_with language variables written ≡ Ok profiles
          → Fit profiles
      within variables (Some refusal) e told = let wrong : Err refusal ≡ Ok profiles = rw (profiles_with, e) at told in absurd (cc)
      within variables None e told =
          let there : Ok (map (profile_of language variables) written.profiles) ≡ Ok profiles = rw (profiles_with, e) at told in
          let same : map (profile_of language variables) written.profiles ≡ profiles = cc in
          subst Fit same (fit variables tokens written is e)

      by : (variables : Result (List Variable) ProfileError) → variables_of written.assignments (of_profiles written.profiles) ≡ variables → Fit profiles
      by (Err refusal) e = let wrong : Err refusal ≡ Ok profiles = rw (profiles_in, e) at h in absurd (cc)
      by (Ok variables) e = within variables (refusal_of_rules language variables written.profiles) refl (rw (profiles_in, e) at h)

  pub fit-told : {E : Type 0} (tokens : List Placed) (written : File) (result : Result FileProfiles E) → file language tokens ≡ Ok written
      → IfOk result (λ read. profiles_in language written ≡ Ok read.profiles.items) → IfOk result (λ read. Fit read.profiles.items)
  fit-told tokens written (Err error) is told = tt
  fit-told tokens written (Ok read) is told = fit-profiles tokens written read.profiles.items is told

  -- whatever file is read
  pub file-fits : (files : List HandedIn) (name : List ℕ) → IfOk (file_profiles_in language files name) Fit
  file-fits files name = by (file_profiles_in language files name) refl
    where
      by : (read : Result (List Profile) ProfileError) → file_profiles_in language files name ≡ read → IfOk read Fit
      by (Err error) e = tt
      by (Ok profiles) e = of_file (spliced files name) refl
        where
          of_tokens : (tokens : List Placed) (written : Result File GrammarError) → file language tokens ≡ written → profiles_of language tokens ≡ Ok profiles → Fit profiles
          of_tokens tokens (Err error) is told = let wrong : Err (error_of_grammar error) ≡ Ok profiles = rw (profiles_of, is) at told in absurd (cc)
          of_tokens tokens (Ok written) is told = fit-profiles tokens written profiles is (rw (profiles_of, is) at told)

          of_file : (tokens : Result (List Placed) Fault) → spliced files name ≡ tokens → Fit profiles
          of_file (Err fault) is =
              let wrong : ◌≡◌ {A = Result (List Profile) ProfileError} (Err (record { refusal = refusal_of_text fault.0; place = fault.1 })) (Ok profiles) = rw (file_profiles_in, is) at e in
              absurd (cc)
          of_file (Ok tokens) is = of_tokens tokens (file language tokens) refl (rw (file_profiles_in, is) at e)
