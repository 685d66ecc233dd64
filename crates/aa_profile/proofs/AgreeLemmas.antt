-- Where rules agree, no conflict is told of what makes them; and agreeing is having no conflict.
use Rattle.std.proofs.Common.{◌≡◌, ℕ, true, List, [], ◌∷◌, ◌++◌, length, map, Option, None, Some, refl, sym, ◌∙◌}
use Rattle.std.specs.Prelude.{◌↔◌, is_none}
use Rattle.std.specs.List.{All, list_all}
use Rattle.std.proofs.lemmas.Bool.{and_parts}
use Rattle.std.proofs.lemmas.List.Elements.{All-cons, All-head, All-nil, All-tail}
use Rattle.aa_text_tokens.specs.Splicing.{Placed}
use Rattle.aa_text_variables.specs.Variables.{Variable}
use Rattle.aa_profile_data.specs.ConflictLaws.{HasReadPattern, NoneConflict}
use Rattle.aa_profile_data.specs.Conflicts.{agree, child_agrees, first_conflict, profile_agrees}
use Rattle.aa_profile_data.specs.declared.profile.Child.{Child}
use Rattle.aa_profile_data.specs.declared.profile.Profile.{Profile}
use Rattle.aa_profile_data.specs.declared.profile.Rule.{Rule}
use Rattle.aa_profile_grammar.specs.Blocks.{OfChild, OfRule, Member, Profile as WrittenProfile}
use Rattle.aa_profile_parsing.specs.declared.language.Language.{Language}
use Rattle.aa_profile_parsing.specs.Tokens.{place_of}
use Rattle.aa_profile_rules.specs.Rules.{Rule as WrittenRule}
use Rattle.aa_profile.specs.Conflicts.{conflict_in_members, conflict_in_profiles, conflict_in_rules, refusal_of_conflicts}
use Rattle.aa_profile.specs.FileReading.{refusal_of_patterns}
use Rattle.aa_profile.specs.Laws.{ChildHasNoConflict, HasNoConflict}
use Rattle.aa_profile_grammar.specs.PatternTokens.{of_profiles}
use Rattle.aa_profile_grammar.specs.Patterns.{first_bad, over_limit}
use Rattle.aa_profile.specs.Profiles.{children_of, profile_of, rules_of, rules_of_members, rules_of_rule}
use Rattle.aa_profile_parsing.specs.ProfileError.{placed}
use Rattle.aa_profile_parsing.specs.declared.profile_error.ProfileError.{ProfileError}
use Rattle.aa_profile_parsing.specs.declared.profile_error.ProfileRefusal.TheVariants.{ExecConflict}
use Rattle.aa_profile.proofs.ConflictLemmas.{first-behind, first-front, further, profiles-free, rule-none}
use Rattle.aa_profile.proofs.ReadLemmas.{ChildIsRead, children-read, members-fine, members-read}

-- where rules and those behind them have no conflict, neither have
first-none : (before rules rest : List Rule) → first_conflict before (rules ++ rest) ≡ None → first_conflict before rules ≡ None
first-none before rules rest h = by (first_conflict before rules) refl
  where
    by : (found : Option ℕ) → first_conflict before rules ≡ found → first_conflict before rules ≡ None
    by None e = e
    by (Some k) e = let wrong : Some k ≡ None = sym (first-front before rules rest k e) ∙ h in absurd (cc)

rest-none : (before rules rest : List Rule) → first_conflict before (rules ++ rest) ≡ None → first_conflict (before ++ rules) rest ≡ None
rest-none before rules rest h = by (first_conflict (before ++ rules) rest) (sym (first-behind before rules rest (first-none before rules rest h)) ∙ h)
  where
    by : (found : Option ℕ) → further (length rules) found ≡ None → found ≡ None
    by None e = refl
    by (Some k) e = absurd (cc)

rules-none : (language : Language) (variables : List Variable) (before : List Rule) (written : List WrittenRule) → first_conflict before (rules_of language variables written) ≡ None → conflict_in_rules language variables before written ≡ None
rules-none language variables before [] h = refl
rules-none language variables before (rule ∷ written) h =
    let here = rule-none language variables before rule (first-none before (rules_of_rule language variables rule) (rules_of language variables written) h) in
    rw (conflict_in_rules, here) (rules-none language variables (before ++ rules_of_rule language variables rule) written (rest-none before (rules_of_rule language variables rule) (rules_of language variables written) h))

members-none : (language : Language) (variables : List Variable) (before : List Rule) (members : List Member) → first_conflict before (rules_of_members language variables members) ≡ None
    → list_all child_agrees (children_of language variables members) ≡ true → conflict_in_members language variables before members ≡ None
members-none language variables before [] h agreed = refl
members-none language variables before (OfRule rule ∷ members) h agreed =
    let here = rule-none language variables before rule (first-none before (rules_of_rule language variables rule) (rules_of_members language variables members) h) in
    rw (conflict_in_members, here)
    (members-none language variables (before ++ rules_of_rule language variables rule) members (rest-none before (rules_of_rule language variables rule) (rules_of_members language variables members) h) agreed)
members-none language variables before (OfChild child ∷ members) h agreed =
    let parts = and_parts (agree (rules_of language variables child.rules)) (list_all child_agrees (children_of language variables members)) agreed in
    let own = rules-none language variables [] child.rules (none-of (first_conflict [] (rules_of language variables child.rules)) parts.0) in
    rw (conflict_in_members, own) (members-none language variables before members h parts.1)
  where
    none-of : (found : Option ℕ) → is_none found ≡ true → found ≡ None
    none-of None e = refl
    none-of (Some k) e = absurd (cc)

-- one child more
children-step : (child : Child) (children : List Child) → (agree child.rules ≡ true ↔ NoneConflict child.rules)
    → (list_all child_agrees children ≡ true ↔ All ChildHasNoConflict children)
    → (list_all child_agrees (child ∷ children) ≡ true ↔ All ChildHasNoConflict (child ∷ children))
children-step child children own others = (to, from)
  where
    to : list_all child_agrees (child ∷ children) ≡ true → All ChildHasNoConflict (child ∷ children)
    to agreed =
        let parts = and_parts (agree child.rules) (list_all child_agrees children) agreed in
        All-cons ChildHasNoConflict child children (own.0 parts.0) (others.0 parts.1)

    from : All ChildHasNoConflict (child ∷ children) → list_all child_agrees (child ∷ children) ≡ true
    from none = rw (own.1 (All-head ChildHasNoConflict child children none), others.1 (All-tail ChildHasNoConflict child children none)) refl

-- one profile more
profiles-step : (profile : Profile) (profiles : List Profile) → (agree profile.rules ≡ true ↔ NoneConflict profile.rules)
    → (list_all child_agrees profile.children ≡ true ↔ All ChildHasNoConflict profile.children)
    → (list_all profile_agrees profiles ≡ true ↔ All HasNoConflict profiles)
    → (list_all profile_agrees (profile ∷ profiles) ≡ true ↔ All HasNoConflict (profile ∷ profiles))
profiles-step profile profiles own children others = (to, from)
  where
    to : list_all profile_agrees (profile ∷ profiles) ≡ true → All HasNoConflict (profile ∷ profiles)
    to agreed =
        let both = and_parts (profile_agrees profile) (list_all profile_agrees profiles) agreed in
        let mine = and_parts (agree profile.rules) (list_all child_agrees profile.children) both.0 in
        All-cons HasNoConflict profile profiles (own.0 mine.0, children.0 mine.1) (others.0 both.1)

    from : All HasNoConflict (profile ∷ profiles) → list_all profile_agrees (profile ∷ profiles) ≡ true
    from none =
        let mine = All-head HasNoConflict profile profiles none in
        rw (own.1 mine.0, children.1 mine.1, others.1 (All-tail HasNoConflict profile profiles none)) refl

-- what is agreed by a test is that there is no conflict, for rules whose patterns read
module _ (tested : (rules : List Rule) → All HasReadPattern rules → (agree rules ≡ true ↔ NoneConflict rules)) where
  children-so : (children : List Child) → All ChildIsRead children → (list_all child_agrees children ≡ true ↔ All ChildHasNoConflict children)
  children-so [] read = (λ agreed. All-nil ChildHasNoConflict, λ none. refl)
  children-so (child ∷ children) read =
      children-step child children (tested child.rules (All-head ChildIsRead child children read)) (children-so children (All-tail ChildIsRead child children read))

  profiles-so : (language : Language) (variables : List Variable) (profiles : List WrittenProfile) → first_bad variables (of_profiles profiles) ≡ None
      → (list_all profile_agrees (map (profile_of language variables) profiles) ≡ true ↔ All HasNoConflict (map (profile_of language variables) profiles))
  profiles-so language variables [] fine = (λ agreed. All-nil HasNoConflict, λ none. refl)
  profiles-so language variables (profile ∷ profiles) fine =
      let parts = members-fine language variables profile profiles fine in
      profiles-step (profile_of language variables profile) (map (profile_of language variables) profiles)
      (tested (rules_of_members language variables profile.members) (members-read language variables profile.members parts.0))
      (children-so (children_of language variables profile.members) (children-read language variables profile.members parts.0))
      (profiles-so language variables profiles parts.1)

  -- no conflict is told of profiles exactly where they agree
  profiles-none : (language : Language) (variables : List Variable) (profiles : List WrittenProfile) → list_all profile_agrees (map (profile_of language variables) profiles) ≡ true → conflict_in_profiles language variables profiles ≡ None
  profiles-none language variables [] agreed = refl
  profiles-none language variables (profile ∷ profiles) agreed =
      let both = and_parts (profile_agrees (profile_of language variables profile)) (list_all profile_agrees (map (profile_of language variables) profiles)) agreed in
      let mine = and_parts (agree (rules_of_members language variables profile.members)) (list_all child_agrees (children_of language variables profile.members)) both.0 in
      let own = members-none language variables [] profile.members (none-of (first_conflict [] (rules_of_members language variables profile.members)) mine.0) mine.1 in
      rw (conflict_in_profiles, own) (profiles-none language variables profiles both.1)
    where
      none-of : (found : Option ℕ) → is_none found ≡ true → found ≡ None
      none-of None e = refl
      none-of (Some k) e = absurd (cc)

  -- so a file is refused for a conflict exactly where it has one
  pub conflicts-refused : (language : Language) (variables : List Variable) (profiles : List WrittenProfile) → refusal_of_patterns variables (of_profiles profiles) ≡ None
      → (refusal_of_conflicts language variables profiles ≡ None ↔ All HasNoConflict (map (profile_of language variables) profiles))
  conflicts-refused language variables profiles fine = (to, from)
    where
      good : first_bad variables (of_profiles profiles) ≡ None
      good = by (over_limit variables (of_profiles profiles)) refl
        where
          by : (many : Option ProfileError) → over_limit variables (of_profiles profiles) ≡ many → first_bad variables (of_profiles profiles) ≡ None
          by None e = rw (refusal_of_patterns, e) at fine
          by (Some error) e = let wrong : Some error ≡ None = rw (refusal_of_patterns, e) at fine in absurd (cc)

      so : list_all profile_agrees (map (profile_of language variables) profiles) ≡ true ↔ All HasNoConflict (map (profile_of language variables) profiles)
      so = profiles-so language variables profiles good

      none : refusal_of_conflicts language variables profiles ≡ None → conflict_in_profiles language variables profiles ≡ None
      none h = by (conflict_in_profiles language variables profiles) refl
        where
          by : (found : Option Placed) → conflict_in_profiles language variables profiles ≡ found → conflict_in_profiles language variables profiles ≡ None
          by None e = e
          by (Some pattern) e = let wrong : Some (placed ExecConflict (place_of pattern)) ≡ None = rw (refusal_of_conflicts, e) at h in absurd (cc)

      to : refusal_of_conflicts language variables profiles ≡ None → All HasNoConflict (map (profile_of language variables) profiles)
      to h = so.0 (profiles-free language variables profiles (none h))

      from : All HasNoConflict (map (profile_of language variables) profiles) → refusal_of_conflicts language variables profiles ≡ None
      from no_conflict = rw (refusal_of_conflicts, profiles-none language variables profiles (so.1 no_conflict)) refl
