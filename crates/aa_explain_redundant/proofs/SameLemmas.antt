-- Two sides say the same of a path exactly where the test finds no change.
use Rattle.std.proofs.Common.{◌⊎◌, ◌≡◌, ℕ, Bool, true, false, not, ◌||◌, ◌==◌, if◌then◌else◌, List, refl, sym, ◌∙◌, ap, true≢false, inl, inr}
use Rattle.std.proofs.lemmas.Bool.{and_parts, eqb-true}
use Rattle.std.specs.List.{filter, list_any}
use Rattle.std.specs.Prelude.{Contains, None, Option, Some}
use Rattle.aa_decide_rules.specs.declared.verdict.Answer.{Answer}
use Rattle.aa_decide_rules.specs.declared.verdict.Answer.TheVariants.{Allow, Complain, Deny, Refuse}
use Rattle.aa_decide_rules.specs.declared.verdict.Tag.{Tag}
use Rattle.aa_decide_rules.specs.declared.verdict.Tag.TheVariants.{Allowed, Audit, Denied}
use Rattle.aa_decide_rules.specs.declared.verdict.Verdict.{Verdict}
use Rattle.aa_decide_rules.specs.Choices.{Choice, Leads, Missing, choice}
use Rattle.aa_decide_rules.specs.Choices as choices
use Rattle.aa_decide_rules.specs.declared.judgement.Mediation.TheVariants.{Enforcing}
use Rattle.aa_explain_changes.proofs.DecideLemmas.{no-change}
use Rattle.aa_explain_changes.proofs.LoneLemmas.{exists}
use Rattle.aa_explain_changes.specs.Changes.{change_between, change_by, is_change, same_log, same_or, same_tag}
use Rattle.aa_explain_changes.specs.declared.change.Change.TheVariants.{Otherwise, Same}
use Rattle.aa_explain_changes.specs.Sides.{Side, side_verdict}
use Rattle.aa_explain_paths.specs.Claims.{single_letters}
use Rattle.aa_profile_data.proofs.TransitionLemmas.{and-both, same-equal, same-refl}
use Rattle.aa_profile_data.specs.Conflicts.{same_transition}
use Rattle.aa_profile_data.specs.Matching.{is_matching}
use Rattle.aa_profile_data.specs.SameRules.{same_flag}
use Rattle.aa_profile_data.specs.declared.profile.Rule.{Rule}
use Rattle.aa_explain_redundant.proofs.LeftLemmas.{any-none, none-any}
use Rattle.aa_explain_redundant.proofs.PathLemmas.{choice-matching, verdict-matching}
use Rattle.aa_explain_redundant.specs.Redundant.{IsLetterOtherwise, IsSaidOtherwise, IsStartOtherwise, SayTheSame}
use Rattle.aa_explain_redundant.specs.code.Comparing.{answers_change, answers_change_for, letter_changes, same_choice, start_changes}

tag-equal : (one other : Option Tag) → same_tag one other ≡ true → one ≡ other
tag-equal None None same = refl
tag-equal None (Some other) same = absurd cc
tag-equal (Some Denied) None same = absurd cc
tag-equal (Some Allowed) None same = absurd cc
tag-equal (Some Audit) None same = absurd cc
tag-equal (Some Denied) (Some Denied) same = refl
tag-equal (Some Allowed) (Some Allowed) same = refl
tag-equal (Some Audit) (Some Audit) same = refl
tag-equal (Some Denied) (Some Allowed) same = absurd cc
tag-equal (Some Denied) (Some Audit) same = absurd cc
tag-equal (Some Allowed) (Some Denied) same = absurd cc
tag-equal (Some Allowed) (Some Audit) same = absurd cc
tag-equal (Some Audit) (Some Denied) same = absurd cc
tag-equal (Some Audit) (Some Allowed) same = absurd cc

-- answers without a change are equal
log-equal : (one other : Verdict) → one.answer ≡ other.answer → is_change (same_or false one other) ≡ false → one ≡ other
log-equal one other answers none = by (same_log one other) refl none
  where
    by : (b : Bool) → same_log one other ≡ b → is_change (same_or false one other) ≡ false → one ≡ other
    by false is none = absurd (true≢false (sym (ap (λ b. is_change (if b then Same else Otherwise)) is) ∙ none))
    by true is none =
        let both = and_parts (same_tag one.tag other.tag) (one.mask.0 == other.mask.0) is in
        let tags = tag-equal one.tag other.tag both.0 in
        let masks = eqb-true one.mask.0 other.mask.0 both.1 in
        λ i. record { answer = answers i; tag = tags i; mask = record { 0 = masks i } }

verdict-equal : (one other : Verdict) → is_change (change_between false one other) ≡ false → one ≡ other
verdict-equal one other none = by one.answer other.answer refl refl none
  where
    by : (a b : Answer) → one.answer ≡ a → other.answer ≡ b → is_change (change_by false one other a b) ≡ false → one ≡ other
    by Allow Allow one_is other_is none = log-equal one other (one_is ∙ sym other_is) none
    by Deny Deny one_is other_is none = log-equal one other (one_is ∙ sym other_is) none
    by Refuse Refuse one_is other_is none = log-equal one other (one_is ∙ sym other_is) none
    by Complain Complain one_is other_is none = log-equal one other (one_is ∙ sym other_is) none
    by Allow Deny one_is other_is none = absurd cc
    by Allow Refuse one_is other_is none = absurd cc
    by Allow Complain one_is other_is none = absurd cc
    by Deny Allow one_is other_is none = absurd cc
    by Deny Refuse one_is other_is none = absurd cc
    by Deny Complain one_is other_is none = absurd cc
    by Refuse Allow one_is other_is none = absurd cc
    by Refuse Deny one_is other_is none = absurd cc
    by Refuse Complain one_is other_is none = absurd cc
    by Complain Allow one_is other_is none = absurd cc
    by Complain Deny one_is other_is none = absurd cc
    by Complain Refuse one_is other_is none = absurd cc

flag-equal : (one other : Bool) → same_flag one other ≡ true → one ≡ other
flag-equal true true same = refl
flag-equal true false same = absurd cc
flag-equal false true same = absurd cc
flag-equal false false same = refl

flag-same : (one : Bool) → same_flag one one ≡ true
flag-same true = refl
flag-same false = refl

choice-equal : (one other : Choice) → same_choice one other ≡ true → one ≡ other
choice-equal (choices.Denied one) (choices.Denied other) same = ap choices.Denied (flag-equal one other same)
choice-equal Missing Missing same = refl
choice-equal (Leads one loud) (Leads other other_loud) same =
    let both = and_parts (same_transition one other) (same_flag loud other_loud) same in
    let ways = same-equal one other both.0 in
    let louds = flag-equal loud other_loud both.1 in
    λ i. Leads (ways i) (louds i)
choice-equal (choices.Denied one) Missing same = absurd cc
choice-equal (choices.Denied one) (Leads other loud) same = absurd cc
choice-equal Missing (choices.Denied other) same = absurd cc
choice-equal Missing (Leads other loud) same = absurd cc
choice-equal (Leads one loud) (choices.Denied other) same = absurd cc
choice-equal (Leads one loud) Missing same = absurd cc

choice-same : (one : Choice) → same_choice one one ≡ true
choice-same (choices.Denied one) = flag-same one
choice-same Missing = refl
choice-same (Leads one loud) = and-both (same_transition one one) (same_flag loud loud) (same-refl one) (flag-same loud)

or_cases : (a b : Bool) → (a || b) ≡ true → (a ≡ true) ⊎ (b ≡ true)
or_cases true b some = inl refl
or_cases false b some = inr some

or-none : (a b : Bool) → (a || b) ≡ false → (a ≡ false) × (b ≡ false)
or-none false b none = (refl, none)
or-none true b none = absurd cc

not-false : (b : Bool) → not b ≡ false → b ≡ true
not-false true none = refl
not-false false none = absurd cc

-- where nothing changes of one's file, another's decides
pub change-or : (one other : Side) (path : List ℕ) (changes : Bool) → false ≡ answers_change_for one other path false
    → changes ≡ answers_change_for one other path true → changes ≡ answers_change one other path
change-or one other path changes none is = is ∙ ap (λ b. b || answers_change_for one other path true) none

module _ (one other : Side) (path : List ℕ) where
  for-none : answers_change one other path ≡ false → (owned : Bool) → answers_change_for one other path owned ≡ false
  for-none none false = (or-none (answers_change_for one other path false) (answers_change_for one other path true) none).0
  for-none none true = (or-none (answers_change_for one other path false) (answers_change_for one other path true) none).1

  pub same-from : answers_change one other path ≡ false → SayTheSame one other path
  same-from none = record {
    letters = λ owned letter at.
        let both = or-none (list_any (letter_changes one other path owned) single_letters) (start_changes one other path owned) (for-none none owned) in
        verdict-equal (side_verdict one path owned letter) (side_verdict other path owned letter)
        (none-any (letter_changes one other path owned) single_letters both.0 letter at);
    starts = λ owned.
        let both = or-none (list_any (letter_changes one other path owned) single_letters) (start_changes one other path owned) (for-none none owned) in
        choice-equal (choice one.audit owned path one.rules) (choice other.audit owned path other.rules)
        (not-false (same_choice (choice one.audit owned path one.rules) (choice other.audit owned path other.rules)) both.1);
  }

  pub same-none : SayTheSame one other path → answers_change one other path ≡ false
  same-none same = λ i. for-owned false i || for-owned true i
    where
      for-letter : (owned : Bool) (letter : ℕ) → Contains single_letters letter → letter_changes one other path owned letter ≡ false
      for-letter owned letter at =
          ap (λ v. is_change (change_between false (side_verdict one path owned letter) v)) (sym (same.letters owned letter at))
          ∙ ap is_change (no-change false (side_verdict one path owned letter))

      for-start : (owned : Bool) → start_changes one other path owned ≡ false
      for-start owned =
          ap (λ c. not (same_choice (choice one.audit owned path one.rules) c)) (sym (same.starts owned))
          ∙ ap not (choice-same (choice one.audit owned path one.rules))

      for-owned : (owned : Bool) → answers_change_for one other path owned ≡ false
      for-owned owned =
          let letters = any-none (letter_changes one other path owned) single_letters (for-letter owned) in
          λ i. letters i || for-start owned i

-- where the test finds a change, there is one
module _ (one other : Side) (path : List ℕ) where
  letter-from : (owned : Bool) → list_any (letter_changes one other path owned) single_letters ≡ true → IsLetterOtherwise one other path
  letter-from owned some =
      let found = exists (letter_changes one other path owned) single_letters some in
      record {
        owned = owned;
        letter = found.0;
        single = found.1;
        otherwise = λ same.
            let none : letter_changes one other path owned found.0 ≡ false =
            ap (λ v. is_change (change_between false (side_verdict one path owned found.0) v)) (sym same)
            ∙ ap is_change (no-change false (side_verdict one path owned found.0)) in
            true≢false (sym found.2 ∙ none);
      }

  start-from : (owned : Bool) → start_changes one other path owned ≡ true → IsStartOtherwise one other path
  start-from owned some = record {
    owned = owned;
    otherwise = λ same.
        let none : start_changes one other path owned ≡ false =
        ap (λ c. not (same_choice (choice one.audit owned path one.rules) c)) (sym same)
        ∙ ap not (choice-same (choice one.audit owned path one.rules)) in
        true≢false (sym some ∙ none);
  }

  for-from : (owned : Bool) → answers_change_for one other path owned ≡ true → IsSaidOtherwise one other path
  for-from owned some = elim (or_cases (list_any (letter_changes one other path owned) single_letters) (start_changes one other path owned) some) [
    | inl letter ↦ inl (letter-from owned letter)
    | inr start ↦ inr (start-from owned start)
  ]

  pub otherwise-from : answers_change one other path ≡ true → IsSaidOtherwise one other path
  otherwise-from some = elim (or_cases (answers_change_for one other path false) (answers_change_for one other path true) some) [
    | inl others ↦ for-from false others
    | inr own ↦ for-from true own
  ]

-- the rules that match say what all say, so the same changes
pub change-matching : (audit : Bool) (rules others : List Rule) (path : List ℕ)
    → answers_change (record { audit = audit; rules = filter (is_matching path) rules }) (record { audit = audit; rules = filter (is_matching path) others }) path
    ≡ answers_change (record { audit = audit; rules = rules }) (record { audit = audit; rules = others }) path
change-matching audit rules others path = λ i. for-owned false i || for-owned true i
  where
    for-letters : (owned : Bool)
        → list_any (letter_changes (record { audit = audit; rules = filter (is_matching path) rules }) (record { audit = audit; rules = filter (is_matching path) others }) path owned) single_letters
        ≡ list_any (letter_changes (record { audit = audit; rules = rules }) (record { audit = audit; rules = others }) path owned) single_letters
    for-letters owned =
        λ i. list_any (λ letter.
        is_change (change_between false (verdict-matching letter owned path Enforcing audit rules i) (verdict-matching letter owned path Enforcing audit others i))) single_letters

    for-owned : (owned : Bool)
        → answers_change_for (record { audit = audit; rules = filter (is_matching path) rules }) (record { audit = audit; rules = filter (is_matching path) others }) path owned
        ≡ answers_change_for (record { audit = audit; rules = rules }) (record { audit = audit; rules = others }) path owned
    for-owned owned =
        λ i. for-letters owned i || not (same_choice (choice-matching audit owned path rules i) (choice-matching audit owned path others i))
