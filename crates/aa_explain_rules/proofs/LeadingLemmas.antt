-- Rules that decide, by what each of them says and by what all say together.
use Rattle.std.proofs.Common.{◌≡◌, ◌∙◌, ℕ, suc, ◌+◌, Bool, true, false, ◌||◌, List, [], ◌∷◌, Option, None, Some, refl, sym, ap, subst, arith}
use Rattle.std.specs.Prelude.{if◌then◌else◌, slice_get}
use Rattle.std.specs.List.{list_any}
use Rattle.std.specs.List.Sorted.{IsStrictlyIncreasing}
use Rattle.aa_decide_rules.specs.Choices.{Leads, Missing, choice, chosen, denies, dominates, first_lead, highest, leads_aloud}
use Rattle.aa_decide_rules.specs.ExecRules.{Denying, ExecRule, Leading, applies_to, exec_rules, said_by, said_of}
use Rattle.aa_profile_data.specs.Ranks.{same_rank}
use Rattle.aa_profile_data.specs.Cover.{covers_exec}
use Rattle.aa_profile_data.specs.declared.profile.FileRule.{FileRule}
use Rattle.aa_profile_data.specs.declared.profile.Rank.{Rank}
use Rattle.aa_profile_data.specs.declared.profile.Rule.{Rule}
use Rattle.aa_profile_data.specs.declared.profile.Rule.TheVariants.{Cap, File, Net, Other}
use Rattle.aa_profile_data.specs.declared.profile.Transition.{Transition}
use Rattle.aa_explain_rules.specs.Laws.{AreAllWith}
use Rattle.aa_explain_rules.specs.Told.{places_where}
use Rattle.aa_explain_rules.specs.Leading.{first_transition, chosen_transition, highest_that, leading_places, says, some_says, transition_at, transition_of}

-- a test that doesn't look at whether a rule is audited
abbrev IgnoresAudit : (ExecRule → Bool) → Type 0
IgnoresAudit test =
    ((one other : Bool) → test (Denying one) ≡ test (Denying other))
    × ((transition : Transition) (rank : Rank) (one other : Bool) → test (Leading transition rank one) ≡ test (Leading transition rank other))

denies-ignores : IgnoresAudit denies
denies-ignores = (λ one other. refl, λ transition rank one other. refl)

dominates-ignores : (rank : Rank) → IgnoresAudit (dominates rank)
dominates-ignores rank = (λ one other. refl, λ transition own one other. refl)

-- so a rule passes it whatever the flag of its profile is
says-alike : (test : ExecRule → Bool) → IgnoresAudit test → (flag owned : Bool) (path : List ℕ) (rule : Rule) → says test false owned path rule ≡ says test flag owned path rule
says-alike test (denying, leading) flag owned path (File rule) = by (applies_to owned path rule) rule.deny (covers_exec rule) rule.exec
  where
    told : (applies deny covers : Bool) → Option Transition → Bool → Option ExecRule
    told applies deny covers exec audited =
        if applies
        then (if deny
        then (if covers then Some (Denying audited) else None)
        else elim exec [ None ↦ None | Some transition ↦ Some (Leading transition rule.rank audited) ])
        else None

    passes : Option ExecRule → Bool
    passes said = elim said [ None ↦ false | Some said ↦ test said ]

    by : (applies deny covers : Bool) (exec : Option Transition) → passes (told applies deny covers exec (false || rule.audit)) ≡ passes (told applies deny covers exec (flag || rule.audit))
    by false deny covers exec = refl
    by true true true exec = denying (false || rule.audit) (flag || rule.audit)
    by true true false exec = refl
    by true false covers None = refl
    by true false covers (Some transition) = leading transition rule.rank (false || rule.audit) (flag || rule.audit)
says-alike test ignores flag owned path (Cap rule) = refl
says-alike test ignores flag owned path (Net rule) = refl
says-alike test ignores flag owned path (Other rule) = refl

-- some rule passes the test where something passes it of what all rules say
some-said : (test : ExecRule → Bool) → IgnoresAudit test → (flag owned : Bool) (path : List ℕ) (rules : List Rule)
    → some_says test owned path rules ≡ list_any test (exec_rules flag owned path rules)
some-said test ignores flag owned path [] = refl
some-said test ignores flag owned path (rule ∷ rules) =
    ap (λ b. b || list_any (says test false owned path) rules) (says-alike test ignores flag owned path rule)
    ∙ ap (λ b. says test flag owned path rule || b) (some-said test ignores flag owned path rules)
    ∙ by (said_of flag owned path rule)
  where
    by : (said : Option ExecRule)
        → (elim said [ None ↦ false | Some said ↦ test said ] || list_any test (exec_rules flag owned path rules))
        ≡ list_any test (elim said [ None ↦ exec_rules flag owned path rules | Some said ↦ said ∷ exec_rules flag owned path rules ])
    by None = refl
    by (Some said) = refl

-- a rule that leads somewhere has that transition
file-leads : (flag owned : Bool) (path : List ℕ) (rule : FileRule) (transition : Transition) (rank : Rank) (audited : Bool)
    → said_of flag owned path (File rule) ≡ Some (Leading transition rank audited) → rule.exec ≡ Some transition
file-leads flag owned path rule transition rank audited e = by (applies_to owned path rule) rule.deny rule.exec refl refl e
  where
    by : (applies deny : Bool) (exec : Option Transition) → rule.deny ≡ deny → rule.exec ≡ exec
        → (if applies then said_by flag rule else None) ≡ Some (Leading transition rank audited)
        → rule.exec ≡ Some transition
    by false deny exec d x e = absurd (cc)
    by true true exec d x e = absurd (denies (covers_exec rule) (rw (said_by, d) at e))
      where
        denies : (covers : Bool) → (if covers then Some (Denying (flag || rule.audit)) else None) ≡ Some (Leading transition rank audited) → ⊥
        denies true e = cc
        denies false e = cc
    by true false None d x e = absurd (let h = rw (said_by, d, x) at e in cc)
    by true false (Some to) d x e =
        let h = rw (said_by, d, x) at e in
        let is_to : to ≡ transition = cc in
        x ∙ ap Some is_to

rule-leads : (flag owned : Bool) (path : List ℕ) (rule : Rule) (transition : Transition) (rank : Rank) (audited : Bool)
    → said_of flag owned path rule ≡ Some (Leading transition rank audited) → transition_of rule ≡ Some transition
rule-leads flag owned path (File rule) transition rank audited e = file-leads flag owned path rule transition rank audited e
rule-leads flag owned path (Cap rule) transition rank audited e = absurd (cc)
rule-leads flag owned path (Net rule) transition rank audited e = absurd (cc)
rule-leads flag owned path (Other rule) transition rank audited e = absurd (cc)

-- what a rule says, before what the others do
abbrev said-before : Option ExecRule → List ExecRule → List ExecRule
said-before None rules = rules
said-before (Some said) rules = said ∷ rules

exec-before : (flag owned : Bool) (path : List ℕ) (rule : Rule) (rules : List Rule)
    → exec_rules flag owned path (rule ∷ rules) ≡ said-before (said_of flag owned path rule) (exec_rules flag owned path rules)
exec-before flag owned path rule rules = by (said_of flag owned path rule)
  where
    by : (said : Option ExecRule) → elim said [ None ↦ exec_rules flag owned path rules | Some said ↦ said ∷ exec_rules flag owned path rules ] ≡ said-before said (exec_rules flag owned path rules)
    by None = refl
    by (Some said) = refl

-- the first that dominates among some rules, which stand behind others, leads where the first does of what they say
lead-from : (top : Rank) (flag owned : Bool) (path : List ℕ) (all : List Rule) (first : ℕ) (rules : List Rule)
    → ((i : ℕ) → slice_get all (first + i) ≡ slice_get rules i)
    → first_transition all (places_where (says (dominates top) false owned path) first rules) ≡ first_lead top (exec_rules flag owned path rules)
lead-from top flag owned path all first [] same = refl
lead-from top flag owned path all first (rule ∷ rules) same =
    by (said_of flag owned path rule) refl (lead-from top flag owned path all (first + 1) rules later-same)
  where
    later-same : (i : ℕ) → slice_get all (first + 1 + i) ≡ slice_get rules i
    later-same i = let at : first + 1 + i ≡ first + suc i = omega arith in ap (slice_get all) at ∙ same (suc i)

    here : slice_get all first ≡ Some rule
    here = let at : first ≡ first + 0 = omega arith in ap (slice_get all) at ∙ same 0

    passes : Option ExecRule → Bool
    passes said = elim said [ None ↦ false | Some said ↦ dominates top said ]

    tested : (said : Option ExecRule) → said_of flag owned path rule ≡ said → says (dominates top) false owned path rule ≡ passes said
    tested said e = says-alike (dominates top) (dominates-ignores top) flag owned path rule ∙ ap passes e

    lead-is : (said : Option ExecRule) → said_of flag owned path rule ≡ said
        → first_lead top (exec_rules flag owned path (rule ∷ rules)) ≡ first_lead top (said-before said (exec_rules flag owned path rules))
    lead-is said e = ap (first_lead top) (exec-before flag owned path rule rules ∙ ap (λ said. said-before said (exec_rules flag owned path rules)) e)

    Rest : Type 0
    Rest = first_transition all (places_where (says (dominates top) false owned path) (first + 1) rules) ≡ first_lead top (exec_rules flag owned path rules)

    All : Type 0
    All = first_transition all (places_where (says (dominates top) false owned path) first (rule ∷ rules)) ≡ first_lead top (exec_rules flag owned path (rule ∷ rules))

    passed-over : says (dominates top) false owned path rule ≡ false
        → first_transition all (places_where (says (dominates top) false owned path) first (rule ∷ rules))
        ≡ first_transition all (places_where (says (dominates top) false owned path) (first + 1) rules)
    passed-over fails = rw fails refl

    told : says (dominates top) false owned path rule ≡ true
        → first_transition all (places_where (says (dominates top) false owned path) first (rule ∷ rules)) ≡ transition_at all first
    told does = rw does refl

    by : (said : Option ExecRule) → said_of flag owned path rule ≡ said → Rest → All
    by None e rest = passed-over (tested None e) ∙ rest ∙ sym (lead-is None e)
    by (Some (Denying audited)) e rest = passed-over (tested (Some (Denying audited)) e) ∙ rest ∙ sym (lead-is (Some (Denying audited)) e)
    by (Some (Leading transition rank audited)) e rest = leads (same_rank rank top) refl
      where
        leads : (b : Bool) → same_rank rank top ≡ b → All
        leads true d =
            told (tested (Some (Leading transition rank audited)) e ∙ d)
            ∙ ap (λ found. elim found [ None ↦ None | Some rule ↦ transition_of rule ]) here
            ∙ rule-leads flag owned path rule transition rank audited e
            ∙ sym (lead-is (Some (Leading transition rank audited)) e ∙ ap (λ b. if b then Some transition else first_lead top (exec_rules flag owned path rules)) d)
        leads false d =
            passed-over (tested (Some (Leading transition rank audited)) e ∙ d)
            ∙ rest
            ∙ sym (lead-is (Some (Leading transition rank audited)) e ∙ ap (λ b. if b then Some transition else first_lead top (exec_rules flag owned path rules)) d)

-- the highest rank with which some rule leads is that of what all rules say
highest-said : (flag owned : Bool) (path : List ℕ) (rules : List Rule) → highest_that (λ rank. some_says (dominates rank) owned path rules) ≡ highest (exec_rules flag owned path rules)
highest-said flag owned path rules = λ i. highest_that (λ rank. some-said (dominates rank) (dominates-ignores rank) flag owned path rules i)

-- where no rule denies, and where one does
pub none-denies : (flag owned : Bool) (path : List ℕ) (rules : List Rule) → list_any denies (exec_rules flag owned path rules) ≡ false
    → leading_places owned path rules ≡ places_where (says (dominates (highest (exec_rules flag owned path rules))) false owned path) 0 rules
none-denies flag owned path rules none =
    let not_one : some_says denies owned path rules ≡ false = some-said denies denies-ignores flag owned path rules ∙ none in
    rw not_one (ap (λ rank. places_where (says (dominates rank) false owned path) 0 rules) (highest-said flag owned path rules))

pub one-denies : (flag owned : Bool) (path : List ℕ) (rules : List Rule) → list_any denies (exec_rules flag owned path rules) ≡ true → leading_places owned path rules ≡ []
one-denies flag owned path rules one =
    let some_one : some_says denies owned path rules ≡ true = some-said denies denies-ignores flag owned path rules ∙ one in
    rw some_one refl

lead-chosen : (top : Rank) (rules : List ExecRule) → first_lead top rules ≡ chosen_transition (chosen top rules)
lead-chosen top rules = by (first_lead top rules)
  where
    by : (lead : Option Transition) → lead ≡ chosen_transition (elim lead [ None ↦ Missing | Some first ↦ Leads first (list_any (leads_aloud top) rules) ])
    by None = refl
    by (Some first) = refl

-- the first rule that decides leads where the rules lead together
pub first-leads : (flag owned : Bool) (path : List ℕ) (rules : List Rule) → first_transition rules (leading_places owned path rules) ≡ chosen_transition (choice flag owned path rules)
first-leads flag owned path rules = by (list_any denies (exec_rules flag owned path rules)) refl
  where
    by : (b : Bool) → list_any denies (exec_rules flag owned path rules) ≡ b → first_transition rules (leading_places owned path rules) ≡ chosen_transition (choice flag owned path rules)
    by true e = ap (first_transition rules) (one-denies flag owned path rules e) ∙ rw e refl
    by false e =
        let top = highest (exec_rules flag owned path rules) in
        ap (first_transition rules) (none-denies flag owned path rules e)
        ∙ lead-from top flag owned path rules 0 rules (λ i. let at : 0 + i ≡ i = omega arith in ap (slice_get rules) at)
        ∙ lead-chosen top (exec_rules flag owned path rules)
        ∙ rw e refl

-- the places of those that pass a test are all of them, and rise
module _ (all : (test : Rule → Bool) (rules : List Rule) → AreAllWith test rules (places_where test 0 rules)) (rise : (test : Rule → Bool) (rules : List Rule) → IsStrictlyIncreasing (places_where test 0 rules)) where
  pub dominating-are : (flag owned : Bool) (path : List ℕ) (rules : List Rule) → list_any denies (exec_rules flag owned path rules) ≡ false
      → AreAllWith (says (dominates (highest (exec_rules flag owned path rules))) flag owned path) rules (leading_places owned path rules)
  dominating-are flag owned path rules none place =
      let top = highest (exec_rules flag owned path rules) in
      let are = subst (AreAllWith (says (dominates top) false owned path) rules) (sym (none-denies flag owned path rules none)) (all (says (dominates top) false owned path) rules) place in (
        λ found. let (rule, at, passes) = are.0 found in (rule, at, sym (says-alike (dominates top) (dominates-ignores top) flag owned path rule) ∙ passes),
        λ stands. let (rule, at, passes) = stands in are.1 (rule, at, says-alike (dominates top) (dominates-ignores top) flag owned path rule ∙ passes),
      )

  pub leading-rise : (owned : Bool) (path : List ℕ) (rules : List Rule) → IsStrictlyIncreasing (leading_places owned path rules)
  leading-rise owned path rules = by (some_says denies owned path rules)
    where
      by : (b : Bool) → IsStrictlyIncreasing (if b then [] else places_where (says (dominates (highest_that (λ rank. some_says (dominates rank) owned path rules))) false owned path) 0 rules)
      by true = λ k within. absurd (omega arith)
      by false = rise (says (dominates (highest_that (λ rank. some_says (dominates rank) owned path rules))) false owned path) rules
