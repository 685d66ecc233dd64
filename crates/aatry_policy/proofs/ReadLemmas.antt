-- Files that are read: their profiles and places are those that they spell.
use Rattle.std.proofs.Common.{◌≡◌, ℕ, true, List, [], ◌∷◌, map, Option, None, Some, Result, Ok, Err, refl, subst}
use Rattle.std.specs.Prelude.{IfOk}
use Rattle.std.proofs.lemmas.Bool.{and_parts}
use Rattle.std.proofs.lemmas.List.Elements.{All-append, All-cons, All-nil}
use Rattle.std.specs.List.{All, list_all}
use Rattle.aa_profile.specs.Assignments.{variables_of}
use Rattle.aa_profile.specs.FilePlaces.{file_places_in, places_in, places_of}
use Rattle.aa_profile.specs.FileReading.{file_profiles_in, profiles_in, profiles_of}
use Rattle.aa_profile_grammar.specs.PatternTokens.{of_profiles}
use Rattle.aa_profile.specs.ProfileNames.{has_distinct_children, is_child_named_well, is_named_well}
use Rattle.aa_profile_data.specs.declared.profile.Profile.{Profile}
use Rattle.aa_profile_parsing.specs.ProfileError.{error_of_grammar, refusal_of_text}
use Rattle.aa_profile_parsing.specs.declared.profile_error.ProfileError.{ProfileError}
use Rattle.aa_profile_grammar.specs.Files.{File as WrittenFile, file}
use Rattle.aa_profile_data.specs.Names.{is_top_name}
use Rattle.aa_profile_parsing.specs.declared.grammar_error.GrammarError.{GrammarError}
use Rattle.aa_profile_parsing.specs.declared.language.Language.{Language}
use Rattle.aa_profile_grammar.specs.Places.{places_of_profile}
use Rattle.aa_profile_grammar.specs.declared.places.ProfilePlaces.{ProfilePlaces}
use Rattle.aa_set_answers.specs.Laws.{HasFileNames}
use Rattle.aa_set_commands.specs.declared.refusal.Refusal.{Refusal}
use Rattle.aa_text_files.specs.Files.{File}
use Rattle.aa_text_tokens.specs.Splicing.{Fault, Placed, spliced}
use Rattle.aa_text_variables.specs.Variables.{Variable}
use Rattle.aatry_policy.specs.Profiles.{FileProfiles, file_at, file_if_taken, read_profiles}

-- what a file that is written has places for
placed-in : (language : Language) (written : WrittenFile) (profiles : List Profile) → profiles_in language written ≡ Ok profiles
    → (places : List ProfilePlaces) × (places_in language written ≡ Some places)
placed-in language written profiles read = by (variables_of written.assignments (of_profiles written.profiles)) refl
  where
    by : (variables : Result (List Variable) ProfileError) → variables_of written.assignments (of_profiles written.profiles) ≡ variables
        → (places : List ProfilePlaces) × (places_in language written ≡ Some places)
    by (Err refusal) e = let wrong : Err refusal ≡ Ok profiles = rw (profiles_in, e) at read in absurd (cc)
    by (Ok variables) e = (map (places_of_profile language variables) written.profiles, rw (places_in, e) refl)

-- a file that makes profiles has places for them
pub placed : (language : Language) (files : List File) (name : List ℕ) (profiles : List Profile) → file_profiles_in language files name ≡ Ok profiles
    → (places : List ProfilePlaces) × (file_places_in language files name ≡ Some places)
placed language files name profiles read = of_file (spliced files name) refl
  where
    of_tokens : (tokens : List Placed) (written : Result WrittenFile GrammarError) → file language tokens ≡ written → profiles_of language tokens ≡ Ok profiles
        → (places : List ProfilePlaces) × (places_of language tokens ≡ Some places)
    of_tokens tokens (Err error) is told = let wrong : Err (error_of_grammar error) ≡ Ok profiles = rw (profiles_of, is) at told in absurd (cc)
    of_tokens tokens (Ok written) is told =
        let (places, there) = placed-in language written profiles (rw (profiles_of, is) at told) in
        (places, rw (places_of, is) there)

    of_file : (tokens : Result (List Placed) Fault) → spliced files name ≡ tokens
        → (places : List ProfilePlaces) × (file_places_in language files name ≡ Some places)
    of_file (Err fault) is =
        let wrong : ◌≡◌ {A = Result (List Profile) ProfileError}
        (Err (record { refusal = refusal_of_text fault.0; place = fault.1 })) (Ok profiles) = rw (file_profiles_in, is) at read in
        absurd (cc)
    of_file (Ok tokens) is =
        let (places, there) = of_tokens tokens (file language tokens) refl (rw (file_profiles_in, is) at read) in
        (places, rw (file_places_in, is) there)

-- a file of these has the profiles and the places that it spells by a language
abbrev pub IsRead : Language → List File → FileProfiles → Type 0
IsRead language files read = (file_profiles_in language files read.name ≡ Ok read.profiles) × (file_places_in language files read.name ≡ Some read.places)

read-at : (language : Language) (files : List File) (name : List ℕ) → All (IsRead language files) (file_at language files name)
read-at language files name = by (file_profiles_in language files name) refl (file_places_in language files name) refl
  where
    by : (profiles : Result (List Profile) ProfileError) → file_profiles_in language files name ≡ profiles
        → (places : Option (List ProfilePlaces)) → file_places_in language files name ≡ places
        → All (IsRead language files) (elim profiles [
          | Err error ↦ []
          | Ok profiles ↦ elim places [ None ↦ [] | Some places ↦ record { name = name; profiles = profiles; places = places } ∷ [] ]
        ])
    by (Err error) read places there = All-nil (IsRead language files)
    by (Ok profiles) read None there = All-nil (IsRead language files)
    by (Ok profiles) read (Some places) there =
        All-cons (IsRead language files) (record { name = name; profiles = profiles; places = places }) [] (read, there) (All-nil (IsRead language files))

read-taken : (language : Language) (files : List File) (name : List ℕ) (outcome : Option Refusal)
    → All (IsRead language files) (file_if_taken language files name outcome)
read-taken language files name None = read-at language files name
read-taken language files name (Some refusal) = All-nil (IsRead language files)

-- so has each that is read
pub all-read : (language : Language) (files : List File) (names : List (List ℕ)) (outcomes : List (Option Refusal))
    → All (IsRead language files) (read_profiles language files names outcomes)
all-read language files [] outcomes = All-nil (IsRead language files)
all-read language files (name ∷ names) [] = All-nil (IsRead language files)
all-read language files (name ∷ names) (outcome ∷ outcomes) =
    All-append (IsRead language files) (file_if_taken language files name outcome) (read_profiles language files names outcomes) (read-taken language files name outcome)
    (all-read language files names outcomes)

named-well : (profiles : List Profile) → list_all is_named_well profiles ≡ true → list_all has_distinct_children profiles ≡ true
    → All HasFileNames profiles
named-well [] well apart = All-nil HasFileNames
named-well (profile ∷ profiles) well apart =
    let (own, others) = and_parts (is_named_well profile) (list_all is_named_well profiles) well in
    let (children, rest) = and_parts (has_distinct_children profile) (list_all has_distinct_children profiles) apart in
    let (top, inner) = and_parts (is_top_name profile.name) (list_all is_child_named_well profile.children) own in
    All-cons HasFileNames profile profiles (top, children) (named-well profiles others rest)

-- a file's profiles have names as the grammar says
pub read-named : (language : Language) (files : List File) (read : FileProfiles)
    → IfOk (file_profiles_in language files read.name) (λ profiles. list_all is_named_well profiles ≡ true)
    → IfOk (file_profiles_in language files read.name) (λ profiles. list_all has_distinct_children profiles ≡ true)
    → IsRead language files read → All HasFileNames read.profiles
read-named language files read well apart (is, there) =
    named-well read.profiles (subst (λ r. IfOk r (λ profiles. list_all is_named_well profiles ≡ true)) is well)
    (subst (λ r. IfOk r (λ profiles. list_all has_distinct_children profiles ≡ true)) is apart)
