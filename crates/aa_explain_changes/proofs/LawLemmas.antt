-- Where nothing is told nothing changes.
use Rattle.std.proofs.Common.{◌≡◌, ◌∙◌, ℕ, Bool, true, false, List, [], ◌∷◌, ap, arith, inl, inr, map, refl, subst, sym, true≢false}
use Rattle.std.proofs.lemmas.Bool.{and_from, or_left, or_right}
use Rattle.std.proofs.lemmas.List.Elements.{All-head, All-tail}
use Rattle.std.specs.Prelude.{Contains, None}
use Rattle.aa_decide_rules.specs.declared.verdict.Answer.{Answer}
use Rattle.aa_decide_rules.specs.declared.verdict.Answer.TheVariants.{Allow, Complain, Deny, Refuse}
use Rattle.aa_explain_paths.specs.Claims.{single_letters}
use Rattle.aa_glob_nfa.proofs.ListLemmas.{Contains-cons_cases, Contains-map}
use Rattle.aa_explain_changes.specs.Changes.{change_by, change_of, changes_of, is_change, same_change}
use Rattle.aa_explain_changes.specs.FileChanges.{AreToldOf, RuleChange, changes_so, has_change, seen_rule_change}
use Rattle.aa_explain_changes.specs.Laws.{ChangedRulesDecide, NoChangeIsHidden, NothingAllowedIsRefused, NothingIsTold}
use Rattle.aa_explain_changes.specs.Lone.{LoneRule, new_lone, old_lone}
use Rattle.aa_explain_changes.specs.Rules.{IsToldOf, changes_at, changes_for, covers_letter, is_matched_by, takes_part}
use Rattle.aa_explain_changes.specs.Sides.{Sides, side_verdict}
use Rattle.aa_explain_changes.specs.declared.change.Change.{Change}
use Rattle.aa_explain_changes.specs.declared.change.Change.TheVariants.{Gained, Lost, Otherwise, Same}
use Rattle.aa_explain_changes.proofs.LoneLemmas.{there}

-- where nothing is told of any of some rules, nothing is of each
none-told : (sides : Sides) (rules : List LoneRule) (changes : List RuleChange) → AreToldOf sides rules changes → NothingIsTold changes
    → (l : LoneRule) → Contains rules l → IsToldOf sides l.rule None
none-told sides [] changes told none l at = absurd (omega (arith, at.1))
none-told sides (rule ∷ rules) [] told none l at = absurd told
none-told sides (rule ∷ rules) (change ∷ changes) told none l at =
    let Is : RuleChange → Type 0 = λ change. change.told ≡ None in
    elim (Contains-cons_cases rule rules l at) [
      | inl same ↦ subst (λ (l : LoneRule). IsToldOf sides l.rule None) same (subst (IsToldOf sides rule.rule) (All-head Is change changes none) told.1)
      | inr more ↦ none-told sides rules changes told.2 (All-tail Is change changes none) l more
    ]

module _ (sides : Sides) (path : List ℕ) (letter : ℕ) (single : Contains single_letters letter) where
  -- a letter stands among all, with how its answer changes
  among : (owned : Bool) → Contains (changes_of sides path owned) (letter, change_of sides path owned letter)
  among owned = Contains-map (λ letter. (letter, change_of sides path owned letter)) single_letters letter single

  -- a rule that covers a letter whose answer changes takes part
  part : (l : LoneRule) (owned : Bool) → covers_letter l.rule (is_matched_by l.rule path) owned letter ≡ true → is_change (change_of sides path owned letter) ≡ true
      → changes_at sides l.rule path ≡ true
  part l owned covers_it changes = by owned refl
    where
      here : changes_for sides l.rule path owned ≡ true
      here = there (takes_part l.rule (is_matched_by l.rule path) owned) (changes_of sides path owned) (letter, change_of sides path owned letter) (among owned)
          (and_from (covers_letter l.rule (is_matched_by l.rule path) owned letter) (is_change (change_of sides path owned letter)) covers_it changes)

      by : (b : Bool) → owned ≡ b → changes_at sides l.rule path ≡ true
      by false is = or_left (changes_for sides l.rule path false) (changes_for sides l.rule path true) (ap (changes_for sides l.rule path) (sym is) ∙ here)
      by true is = or_right (changes_for sides l.rule path false) (changes_for sides l.rule path true) (ap (changes_for sides l.rule path) (sym is) ∙ here)

  -- an answer that changes so is told
  so : (change : Change) (owned : Bool) → change_of sides path owned letter ≡ change → same_change change change ≡ true → changes_so sides change path ≡ true
  so change owned is same = by owned refl
    where
      here : has_change change (changes_of sides path owned) ≡ true
      here = there (λ (letter : ℕ × Change). same_change change letter.1) (changes_of sides path owned) (letter, change_of sides path owned letter) (among owned)
          (ap (same_change change) is ∙ same)

      by : (b : Bool) → owned ≡ b → changes_so sides change path ≡ true
      by false is = or_left (has_change change (changes_of sides path false)) (has_change change (changes_of sides path true))
          (ap (λ b. has_change change (changes_of sides path b)) (sym is) ∙ here)
      by true is = or_right (has_change change (changes_of sides path false)) (has_change change (changes_of sides path true))
          (ap (λ b. has_change change (changes_of sides path b)) (sym is) ∙ here)

unchanged : (change : Change) → is_change change ≡ false → change ≡ Same
unchanged Same is = refl
unchanged Gained is = absurd cc
unchanged Lost is = absurd cc
unchanged Otherwise is = absurd cc

pub none-hidden : ChangedRulesDecide → NoChangeIsHidden
none-hidden law sides changes right none_old none_new path bytes asked owned letter single = by (is_change (change_of sides path owned letter)) refl
  where
    by : (b : Bool) → is_change (change_of sides path owned letter) ≡ b → change_of sides path owned letter ≡ Same
    by false is = unchanged (change_of sides path owned letter) is
    by true is = absurd (elim (law sides path owned letter is) [
      | inl found ↦
          none-told sides (old_lone sides) (map seen_rule_change changes.old.items) right.old none_old found.0 found.1 path
          (record { bytes = bytes; asked = asked; changes = part sides path letter single found.0 owned found.2 is })
      | inr found ↦
          none-told sides (new_lone sides) (map seen_rule_change changes.new.items) right.new none_new found.0 found.1 path
          (record { bytes = bytes; asked = asked; changes = part sides path letter single found.0 owned found.2 is })
    ])

pub none-refused : NothingAllowedIsRefused
none-refused sides changes right none path bytes asked owned letter single was = by (side_verdict sides.new path owned letter).answer refl
  where
    lost : (answer : Answer) → (side_verdict sides.new path owned letter).answer ≡ answer
        → change_by sides.quiet (side_verdict sides.old path owned letter) (side_verdict sides.new path owned letter) Allow answer ≡ Lost → ⊥
    lost answer now is =
        let change : change_of sides path owned letter ≡ Lost =
        (λ i. change_by sides.quiet (side_verdict sides.old path owned letter) (side_verdict sides.new path owned letter) (was i) (now i)) ∙ is in
        true≢false (sym (right.lost.1 (path, record { bytes = bytes; asked = asked; changes = so sides path letter single Lost owned change refl })) ∙ none)

    by : (answer : Answer) → (side_verdict sides.new path owned letter).answer ≡ answer → answer ≡ Allow
    by Allow now = refl
    by Deny now = absurd (lost Deny now refl)
    by Refuse now = absurd (lost Refuse now refl)
    by Complain now = absurd (lost Complain now refl)
