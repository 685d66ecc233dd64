-- Which rules are made where.
use Rattle.std.proofs.Common.{◌≡◌, ◌++◌, List, [], ◌∷◌, ◌<◌, zero, suc, length, arith, map, refl, subst, Option, None, Some, Result, Ok, Err, ℕ}
use Rattle.std.proofs.Math.ListN.{replicate}
use Rattle.std.proofs.lemmas.List.Elements.{Contains-append_right}
use Rattle.std.specs.List.{Contains}
use Rattle.aa_text_files.specs.Files.{File as HandedIn}
use Rattle.aa_text_files.specs.declared.text_error.Place.{Place}
use Rattle.aa_text_tokens.specs.Splicing.{Fault, Placed, spliced}
use Rattle.aa_text_variables.specs.Variables.{Variable}
use Rattle.aa_profile_data.specs.declared.profile.Profile.{Profile}
use Rattle.aa_profile_data.specs.declared.profile.Rule.{Rule}
use Rattle.aa_profile_parsing.specs.ProfileError.{error_of_grammar, refusal_of_text}
use Rattle.aa_profile_parsing.specs.declared.profile_error.ProfileError.{ProfileError}
use Rattle.aa_profile_grammar.specs.Blocks.{OfChild, OfRule, Member, Profile as WrittenProfile}
use Rattle.aa_profile_grammar.specs.Files.{File, file}
use Rattle.aa_profile_parsing.specs.declared.grammar_error.GrammarError.{GrammarError}
use Rattle.aa_profile_parsing.specs.declared.language.Language.{Language}
use Rattle.aa_profile_grammar.specs.PatternTokens.{of_profiles}
use Rattle.aa_profile_grammar.specs.Places.{place_of_rule, places_in_members, places_of_members, places_of_profile, places_of_rule, places_of_rules, rule_count}
use Rattle.aa_profile_grammar.specs.declared.places.ProfilePlaces.{ProfilePlaces}
use Rattle.aa_profile_rules.specs.Rules.{Rule as WrittenRule}
use Rattle.aa_profile.specs.Assignments.{variables_of}
use Rattle.aa_profile.specs.FilePlaces.{file_places_in, places_in, places_of}
use Rattle.aa_profile.specs.FileReading.{file_profiles_in, profiles_in, profiles_of, profiles_with, refusal_of_rules}
use Rattle.aa_profile.specs.PlaceLaws.{AreChildrenMadeAt, AreFileMadeAt, AreMadeAt, AreProfilesMadeAt, children_in, rules_in}
use Rattle.aa_profile.specs.Profiles.{children_of, profile_of, rules_of, rules_of_members, rules_of_rule}
use Rattle.aa_profile.proofs.ConflictLemmas.{rules-counted}

module _ (language : Language) (variables : List Variable) (all : List WrittenRule) where
  -- two lists behind two others
  made-append : (rules more : List Rule) (places others : List (Option Place))
      → AreMadeAt language variables all rules places → AreMadeAt language variables all more others → AreMadeAt language variables all (rules ++ more) (places ++ others)
  made-append [] more [] others made rest = rest
  made-append [] more (place ∷ places) others made rest = absurd made
  made-append (rule ∷ rules) more [] others made rest = absurd made
  made-append (rule ∷ rules) more (place ∷ places) others made rest = (made.0, made-append rules more places others made.1 rest)

  -- rules that a written one makes, each beside its place
  made-beside : (source : WrittenRule) → Contains all source → (rules : List Rule) (count : ℕ) → length rules ≡ count
      → ((rule : Rule) → Contains rules rule → Contains (rules_of_rule language variables source) rule)
      → AreMadeAt language variables all rules (replicate count (place_of_rule source))
  made-beside source among [] zero same each = tt
  made-beside source among [] (suc count) same each = absurd (omega arith)
  made-beside source among (rule ∷ rules) zero same each = absurd (omega arith)
  made-beside source among (rule ∷ rules) (suc count) same each =
      let some : 0 < length (rule ∷ rules) = omega arith in
      let fewer : length rules ≡ count = omega arith in (
        record { source = source; among = among; makes = each rule (0, some, refl); stands = refl },
        made-beside source among rules count fewer (λ other is. each other (Contains-append_right (rule ∷ []) rules other is)),
      )

  -- the rules that a written one makes
  rule-made : (source : WrittenRule) → Contains all source → AreMadeAt language variables all (rules_of_rule language variables source) (places_of_rule variables source)
  rule-made source among =
      made-beside source among (rules_of_rule language variables source) (rule_count variables source) (rules-counted language variables source) (λ rule is. is)

  -- those of some of the written ones
  rules-made : (written : List WrittenRule) → ((source : WrittenRule) → Contains written source → Contains all source)
      → AreMadeAt language variables all (rules_of language variables written) (places_of_rules variables written)
  rules-made [] among = tt
  rules-made (source ∷ written) among =
      let some : 0 < length (source ∷ written) = omega arith in
      made-append (rules_of_rule language variables source) (rules_of language variables written) (places_of_rule variables source) (places_of_rules variables written)
      (rule-made source (among source (0, some, refl)))
      (rules-made written (λ other is. among other (Contains-append_right (source ∷ []) written other is)))

  members-made : (members : List Member) → ((source : WrittenRule) → Contains (rules_in members) source → Contains all source)
      → AreMadeAt language variables all (rules_of_members language variables members) (places_of_members variables members)
  members-made [] among = tt
  members-made (OfRule source ∷ members) among =
      let some : 0 < length (source ∷ rules_in members) = omega arith in
      made-append (rules_of_rule language variables source) (rules_of_members language variables members) (places_of_rule variables source) (places_of_members variables members)
      (rule-made source (among source (0, some, refl)))
      (members-made members (λ other is. among other (Contains-append_right (source ∷ []) (rules_in members) other is)))
  members-made (OfChild child ∷ members) among = members-made members among

module _ (language : Language) (variables : List Variable) where
  children-made : (members : List Member) → AreChildrenMadeAt language variables (children_in members) (children_of language variables members) (places_in_members language variables members)
  children-made [] = tt
  children-made (OfRule rule ∷ members) = children-made members
  children-made (OfChild child ∷ members) = ((rules-made language variables child.rules child.rules (λ source is. is), refl), children-made members)

  profiles-made : (written : List WrittenProfile) → AreProfilesMadeAt language variables written (map (profile_of language variables) written) (map (places_of_profile language variables) written)
  profiles-made [] = tt
  profiles-made (profile ∷ written) = (
    (members-made language variables (rules_in profile.members) profile.members (λ source is. is), refl, children-made profile.members),
    profiles-made written,
  )

-- the profiles of a file as it is written, and their places
file-made : (language : Language) (files : List HandedIn) (name : List ℕ) (tokens : List Placed) (written : File) (profiles : List Profile) (places : List ProfilePlaces)
    → spliced files name ≡ Ok tokens → file language tokens ≡ Ok written → profiles_in language written ≡ Ok profiles → places_in language written ≡ Some places
    → AreFileMadeAt language files name profiles places
file-made language files name tokens written profiles places cut is read stand = by (variables_of written.assignments (of_profiles written.profiles)) refl
  where
    within : (variables : List Variable) (refusal : Option ProfileError) → variables_of written.assignments (of_profiles written.profiles) ≡ Ok variables
        → refusal_of_rules language variables written.profiles ≡ refusal → profiles_with language variables written ≡ Ok profiles
        → Some (map (places_of_profile language variables) written.profiles) ≡ Some places → AreFileMadeAt language files name profiles places
    within variables (Some refusal) own e told there = let wrong : Err refusal ≡ Ok profiles = rw (profiles_with, e) at told in absurd (cc)
    within variables None own e told there =
        let made : Ok (map (profile_of language variables) written.profiles) ≡ Ok profiles = rw (profiles_with, e) at told in
        let same : map (profile_of language variables) written.profiles ≡ profiles = cc in
        let alike : map (places_of_profile language variables) written.profiles ≡ places = cc in (
          tokens,
          written,
          variables,
          cut,
          is,
          own,
          subst (λ ps. AreProfilesMadeAt language variables written.profiles ps places) same
              (subst (AreProfilesMadeAt language variables written.profiles (map (profile_of language variables) written.profiles)) alike (profiles-made language variables written.profiles)),
        )

    by : (variables : Result (List Variable) ProfileError) → variables_of written.assignments (of_profiles written.profiles) ≡ variables
        → AreFileMadeAt language files name profiles places
    by (Err refusal) e = let wrong : Err refusal ≡ Ok profiles = rw (profiles_in, e) at read in absurd (cc)
    by (Ok variables) e = within variables (refusal_of_rules language variables written.profiles) e refl (rw (profiles_in, e) at read) (rw (places_in, e) at stand)

-- those of a file that is read
pub read-made : (language : Language) (files : List HandedIn) (name : List ℕ) (profiles : List Profile) (places : List ProfilePlaces)
    → file_profiles_in language files name ≡ Ok profiles → file_places_in language files name ≡ Some places → AreFileMadeAt language files name profiles places
read-made language files name profiles places read stand = of_file (spliced files name) refl
  where
    of_tokens : (tokens : List Placed) (written : Result File GrammarError) → spliced files name ≡ Ok tokens → file language tokens ≡ written
        → profiles_of language tokens ≡ Ok profiles → places_of language tokens ≡ Some places → AreFileMadeAt language files name profiles places
    of_tokens tokens (Err error) cut is told there = let wrong : Err (error_of_grammar error) ≡ Ok profiles = rw (profiles_of, is) at told in absurd (cc)
    of_tokens tokens (Ok written) cut is told there =
        file-made language files name tokens written profiles places cut is (rw (profiles_of, is) at told) (rw (places_of, is) at there)

    of_file : (tokens : Result (List Placed) Fault) → spliced files name ≡ tokens → AreFileMadeAt language files name profiles places
    of_file (Err fault) is =
        let wrong : ◌≡◌ {A = Result (List Profile) ProfileError} (Err (record { refusal = refusal_of_text fault.0; place = fault.1 })) (Ok profiles) = rw (file_profiles_in, is) at read in
        absurd (cc)
    of_file (Ok tokens) is = of_tokens tokens (file language tokens) is refl (rw (file_profiles_in, is) at read) (rw (file_places_in, is) at stand)
