-- Where no rule covers what is asked that one side alone has, both sides say the same.
use Rattle.std.proofs.Common.{◌≡◌, ◌⊎◌, ℕ, Bool, true, false, not, ◌&&◌, ◌||◌, ◌==◌, if◌then◌else◌, List, [], ◌∷◌, refl, sym, ◌∙◌, ap, subst, inl, inr, arith, true≢false}
use Rattle.std.specs.Prelude.{Contains, None, Option, Some}
use Rattle.std.specs.Int.Bits.{or_zero_r}
use Rattle.std.specs.List.{filter, list_any}
use Rattle.std.proofs.lemmas.Bool.{eq-eqb, eqb-true}
use Rattle.aa_decide_rules.specs.declared.verdict.Answer.{Answer}
use Rattle.aa_decide_rules.specs.declared.verdict.Answer.TheVariants.{Allow, Complain, Deny, Refuse}
use Rattle.aa_decide_rules.specs.declared.verdict.Tag.{Tag}
use Rattle.aa_decide_rules.specs.declared.verdict.Tag.TheVariants.{Allowed, Audit, Denied}
use Rattle.aa_decide_rules.specs.declared.verdict.Verdict.{Verdict}
use Rattle.aa_decide_rules.specs.Verdict.{allows, allows_aloud, covered_by_file, covers, denies, denies_aloud, logged, verdict, when_missing, with_covered, with_rule}
use Rattle.aa_decide_rules.specs.declared.judgement.Mediation.{Mediation}
use Rattle.aa_decide_rules.specs.declared.judgement.Mediation.TheVariants.{Enforcing}
use Rattle.aa_glob_nfa.proofs.ListLemmas.{Contains-cons_cases, Contains-first, Contains-later}
use Rattle.aa_profile_data.specs.Access.{common, union, without}
use Rattle.aa_profile_data.specs.Request.{ForFile, Request}
use Rattle.aa_profile_data.specs.SameRules.{HaveSameRules, same_flag}
use Rattle.aa_profile_data.specs.declared.profile.FileRule.{FileRule}
use Rattle.aa_profile_data.specs.declared.profile.Rule.{Rule}
use Rattle.aa_profile_data.specs.declared.profile.Rule.TheVariants.{Cap, File, Net, Other}
use Rattle.aa_explain_changes.specs.Changes.{change_between, change_by, change_of, is_change, same_or, same_tag}
use Rattle.aa_explain_changes.specs.Laws.{ChangedRulesDecide, SomeCovers}
use Rattle.aa_explain_changes.specs.Lone.{LoneRule, all_count, lone_rules, new_lone, old_lone}
use Rattle.aa_explain_changes.specs.Rules.{covers_letter, is_matched_by}
use Rattle.aa_explain_changes.specs.Sides.{Side, Sides, side_verdict}
use Rattle.aa_explain_changes.specs.declared.change.Change.TheVariants.{Same}
use Rattle.aa_explain_changes.proofs.LoneLemmas.{exists, lone-or-there, there}

-- what a filter keeps is there, and passes
kept-there : {X : Type 0} (test : X → Bool) (xs : List X) (x : X) → Contains (filter test xs) x → Contains xs x × (test x ≡ true)
kept-there test [] x at = absurd (omega (arith, at.1))
kept-there {X} test (one ∷ xs) x at = by (test one) refl at (kept-there test xs x)
  where
    by : (b : Bool) → test one ≡ b → Contains (if b then one ∷ filter test xs else filter test xs) x → (Contains (filter test xs) x → Contains xs x × (test x ≡ true))
        → Contains (one ∷ xs) x × (test x ≡ true)
    by true is here later = elim (Contains-cons_cases one (filter test xs) x here) [
      | inl same ↦ (subst (Contains (one ∷ xs)) same (Contains-first one xs), ap test (sym same) ∙ is)
      | inr more ↦ let both = later more in (Contains-later one xs x both.0, both.1)
    ]
    by false is here later = let both = later here in (Contains-later one xs x both.0, both.1)

there-kept : {X : Type 0} (test : X → Bool) (xs : List X) (x : X) → Contains xs x → test x ≡ true → Contains (filter test xs) x
there-kept test [] x at passes = absurd (omega (arith, at.1))
there-kept {X} test (one ∷ xs) x at passes = by (test one) refl (there-kept test xs x)
  where
    by : (b : Bool) → test one ≡ b → (Contains xs x → test x ≡ true → Contains (filter test xs) x) → Contains (if b then one ∷ filter test xs else filter test xs) x
    by true is later = elim (Contains-cons_cases one xs x at) [
      | inl same ↦ subst (Contains (one ∷ filter test xs)) same (Contains-first one (filter test xs))
      | inr more ↦ Contains-later one (filter test xs) x (later more passes)
    ]
    by false is later = elim (Contains-cons_cases one xs x at) [
      | inl same ↦ absurd (true≢false (sym passes ∙ ap test (sym same) ∙ is))
      | inr more ↦ later more passes
    ]

-- a list in which nothing is is empty
empty-if : {X : Type 0} (xs : List X) → ((x : X) → Contains xs x → ⊥) → xs ≡ []
empty-if [] none = refl
empty-if (x ∷ xs) none = absurd (none x (Contains-first x xs))

one-side : (n : ℕ) (b : Bool) → (if b then n else n) ≡ n
one-side n true = refl
one-side n false = refl

module _ (letters : ℕ) (owned : Bool) (path : List ℕ) where
  abbrev request : Request
  request = ForFile letters owned path

  -- a rule covers something of what is asked
  abbrev it-covers : Rule → Bool
  it-covers rule = not (covers request rule == 0)

  abbrev kept : List Rule → List Rule
  kept rules = filter it-covers rules

  -- one that covers nothing adds nothing to what rules cover together
  adds-nothing : (test : Rule → Bool) (set : ℕ) (rule : Rule) → (covers request rule == 0) ≡ true → with_rule request test set rule ≡ set
  adds-nothing test set rule is =
      ap (λ n. if test rule then union set n else set) (eqb-true (covers request rule) 0 is) ∙ ap (λ n. if test rule then n else set) (or_zero_r set)
      ∙ one-side set (test rule)

  covered-same : (test : Rule → Bool) (rules : List Rule) (set : ℕ) → with_covered request test set (kept rules) ≡ with_covered request test set rules
  covered-same test [] set = refl
  covered-same test (rule ∷ rules) set = by (covers request rule == 0) refl (covered-same test rules)
    where
      by : (b : Bool) → (covers request rule == 0) ≡ b → ((s : ℕ) → with_covered request test s (kept rules) ≡ with_covered request test s rules)
          → with_covered request test set (if not b then rule ∷ kept rules else kept rules) ≡ with_covered request test set (rule ∷ rules)
      by false is later = later (with_rule request test set rule)
      by true is later = later set ∙ ap (λ s. with_covered request test s rules) (sym (adds-nothing test set rule is))

  -- the rules that cover something say what all say
  verdict-kept : (mediation : Mediation) (flag : Bool) (rules : List Rule) → verdict mediation flag (kept rules) request ≡ verdict mediation flag rules request
  verdict-kept mediation flag rules =
      let d = covered-same denies rules 0 in
      let g = covered-same allows rules 0 in
      let l = covered-same (denies_aloud flag) rules 0 in
      let a = covered-same (allows_aloud flag) rules 0 in
      λ i. (
      if not (d i == 0) then logged Deny Denied (union (l i) (without letters (union (d i) (without (g i) (d i))))) else
      if not (without letters (union (d i) (without (g i) (d i))) == 0) then when_missing mediation (without letters (union (d i) (without (g i) (d i)))) else
      logged Allow Audit (a i)
      )

  -- a rule that covers something is one on files that covers it by its definition
  covers-file : (rule : FileRule) → it-covers (File rule) ≡ true → covers_letter rule (is_matched_by rule path) owned letters ≡ true
  covers-file rule is = by (is_matched_by rule path && (not rule.owner || owned)) refl is
    where
      by : (b : Bool) → (is_matched_by rule path && (not rule.owner || owned)) ≡ b → not ((if b then common letters (covered_by_file rule) else 0) == 0) ≡ true
          → (b && not (common letters (covered_by_file rule) == 0)) ≡ true
      by true held some = some
      by false held none = absurd cc

  kept-file : (rule : Rule) → it-covers rule ≡ true → (own : FileRule) × (rule ≡ File own)
  kept-file (File own) is = (own, refl)
  kept-file (Cap own) is = absurd cc
  kept-file (Net own) is = absurd cc
  kept-file (Other own) is = absurd cc

  -- no rule covers something that one side alone has
  abbrev NoneCovers : List LoneRule → Type 0
  NoneCovers lone = (l : LoneRule) → Contains lone l → covers_letter l.rule (is_matched_by l.rule path) owned letters ≡ true → ⊥

  -- so what one side has that covers something the other has
  on-both : (all : Bool) (others rules : List Rule) → NoneCovers (lone_rules all others rules)
      → (rule : Rule) → Contains (kept rules) rule → (all ≡ false) × Contains (kept others) rule
  on-both all others rules none rule at =
      let both = kept-there it-covers rules rule at in
      let file = kept-file rule both.1 in
      let covers_it : it-covers (File file.0) ≡ true = ap it-covers (sym file.1) ∙ both.1 in
      elim (lone-or-there all others rules file.0 (subst (Contains rules) file.1 both.0)) [
        | inl found ↦ absurd (none found.0 found.1 (subst (λ (r : FileRule). covers_letter r (is_matched_by r path) owned letters ≡ true) (sym found.2) (covers-file file.0 covers_it)))
        | inr there ↦ (there.0, there-kept it-covers others rule (subst (Contains others) (sym file.1) there.1) both.1)
      ]

-- the order of rules changes no verdict
abbrev OrderChangesNone : Type 0
OrderChangesNone =
    (mediation : Mediation) (audit : Bool) (rules others : List Rule) (request : Request)
    → HaveSameRules rules others
    → verdict mediation audit rules request ≡ verdict mediation audit others request

flag-equal : (one other : Bool) → not (same_flag one other) ≡ false → one ≡ other
flag-equal true true is = refl
flag-equal false false is = refl
flag-equal true false is = absurd cc
flag-equal false true is = absurd cc

module _ (order : OrderChangesNone) (sides : Sides) (path : List ℕ) (owned : Bool) (letters : ℕ)
    (no_old : NoneCovers letters owned path (old_lone sides)) (no_new : NoneCovers letters owned path (new_lone sides)) where
  abbrev old : Side
  old = sides.old

  abbrev new : Side
  new = sides.new

  same-verdict : side_verdict old path owned letters ≡ side_verdict new path owned letters
  same-verdict = by (all_count sides) refl
    where
      by : (all : Bool) → all_count sides ≡ all → side_verdict old path owned letters ≡ side_verdict new path owned letters
      by false is =
          let same : HaveSameRules (kept letters owned path old.rules) (kept letters owned path new.rules) = (
            (λ rule at. (on-both letters owned path (all_count sides) new.rules old.rules no_old rule at).1),
            (λ rule at. (on-both letters owned path (all_count sides) old.rules new.rules no_new rule at).1),
          ) in
          sym (verdict-kept letters owned path Enforcing old.audit old.rules)
          ∙ order Enforcing old.audit (kept letters owned path old.rules) (kept letters owned path new.rules) (ForFile letters owned path) same
          ∙ verdict-kept letters owned path Enforcing old.audit new.rules
          ∙ ap (λ flag. verdict Enforcing flag new.rules (ForFile letters owned path)) (flag-equal old.audit new.audit is)
      by true is =
          let before : kept letters owned path old.rules ≡ [] =
          empty-if (kept letters owned path old.rules) (λ rule at.
          true≢false (sym is ∙ (on-both letters owned path (all_count sides) new.rules old.rules no_old rule at).0)) in
          let now : kept letters owned path new.rules ≡ [] =
          empty-if (kept letters owned path new.rules) (λ rule at.
          true≢false (sym is ∙ (on-both letters owned path (all_count sides) old.rules new.rules no_new rule at).0)) in
          sym (verdict-kept letters owned path Enforcing old.audit old.rules)
          ∙ ap (λ rules. verdict Enforcing old.audit rules (ForFile letters owned path)) before
          ∙ sym (ap (λ rules. verdict Enforcing new.audit rules (ForFile letters owned path)) now)
          ∙ verdict-kept letters owned path Enforcing new.audit new.rules

-- an answer isn't changed by itself
tag-itself : (tag : Option Tag) → same_tag tag tag ≡ true
tag-itself None = refl
tag-itself (Some Denied) = refl
tag-itself (Some Allowed) = refl
tag-itself (Some Audit) = refl

no-log : (quiet : Bool) (v : Verdict) → same_or quiet v v ≡ Same
no-log true v = refl
no-log false v = rw (tag-itself v.tag, eq-eqb v.mask.0 v.mask.0 refl) refl

pub no-change : (quiet : Bool) (v : Verdict) → change_between quiet v v ≡ Same
no-change quiet v = by v.answer
  where
    by : (answer : Answer) → change_by quiet v v answer answer ≡ Same
    by Allow = no-log quiet v
    by Deny = no-log quiet v
    by Refuse = no-log quiet v
    by Complain = no-log quiet v

pub changed-decide : OrderChangesNone → ChangedRulesDecide
changed-decide order sides path owned letters changes = by (any (old_lone sides)) (any (new_lone sides)) refl refl
  where
    test : LoneRule → Bool
    test l = covers_letter l.rule (is_matched_by l.rule path) owned letters

    any : List LoneRule → Bool
    any lone = list_any test lone

    none : (lone : List LoneRule) → any lone ≡ false → NoneCovers letters owned path lone
    none lone is l at covers_it = true≢false (sym (there-lone lone l at covers_it) ∙ is)
      where
        there-lone : (lone : List LoneRule) (l : LoneRule) → Contains lone l → test l ≡ true → any lone ≡ true
        there-lone lone l at passes = there test lone l at passes

    by : (b c : Bool) → any (old_lone sides) ≡ b → any (new_lone sides) ≡ c
        → SomeCovers (old_lone sides) path owned letters ⊎ SomeCovers (new_lone sides) path owned letters
    by true c before now = inl (exists test (old_lone sides) before)
    by false true before now = inr (exists test (new_lone sides) now)
    by false false before now =
        let same = same-verdict order sides path owned letters (none (old_lone sides) before) (none (new_lone sides) now) in
        let still : change_of sides path owned letters ≡ Same =
        ap (λ v. change_between sides.quiet v (side_verdict sides.new path owned letters)) same ∙ no-change sides.quiet (side_verdict sides.new path owned letters) in
        absurd (true≢false (sym changes ∙ ap is_change still))
