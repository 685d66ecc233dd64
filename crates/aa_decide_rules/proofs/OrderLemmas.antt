-- Rules that lead one way say the same together in whatever order.
use Rattle.std.proofs.Common.{◌≡◌, ℕ, Bool, true, false, ◌||◌, cond, List, [], ◌∷◌, Option, None, Some, arith, inl, inr, refl, sym, ap, subst, ◌∙◌}
use Rattle.std.specs.Prelude.{Contains, ◌⊎◌}
use Rattle.std.specs.Cmp.{both_ways}
use Rattle.std.specs.List.{list_any}
use Rattle.aa_decide_rules.proofs.AgreementLemmas.{contains-behind, contains-split}
use Rattle.aa_decide_rules.proofs.SaidLemmas.{exec-before, said-before}
use Rattle.aa_decide_rules.specs.Choices.{Denied, Leads, Missing, choice, choice_of, chosen, denies, denies_aloud, dominates, first_lead, highest, leads_aloud}
use Rattle.aa_decide_rules.specs.ExecRules.{Denying, ExecRule, Leading, exec_rules, said_of}
use Rattle.aa_decide_rules.specs.Laws.{LeadOneWay, RulesLeadOneWay}
use Rattle.aa_profile_data.specs.SameRules.{HaveSameRules}
use Rattle.aa_profile_data.specs.Ranks.{same_rank}
use Rattle.aa_profile_data.specs.declared.profile.Rank.{Rank}
use Rattle.aa_profile_data.specs.declared.profile.Rank.TheVariants.{Last, Loose, Plain}
use Rattle.aa_profile_data.specs.declared.profile.Rule.{Rule}
use Rattle.aa_profile_data.specs.declared.profile.Transition.{Transition}

-- each element of one list is among another
abbrev pub AreAmong : {X : Type 0} → List X → List X → Type 0
AreAmong {X} xs ys = (x : X) → Contains xs x → Contains ys x

-- an element that passes a test makes some pass
any-has : {X : Type 0} (test : X → Bool) (xs : List X) (x : X) → Contains xs x → test x ≡ true → list_any test xs ≡ true
any-has test [] x c passes = absurd (omega (arith, c.1))
any-has test (first ∷ xs) x c passes = by (test first) refl (contains-split first xs x c) (λ c. any-has test xs x c passes)
  where
    by : (b : Bool) → test first ≡ b → (first ≡ x) ⊎ Contains xs x → (Contains xs x → list_any test xs ≡ true) → (b || list_any test xs) ≡ true
    by true e c rest = refl
    by false e (inl is) rest = absurd (cc)
    by false e (inr c) rest = rest c

-- where some pass, one of them does
has-any : {X : Type 0} (test : X → Bool) (xs : List X) → list_any test xs ≡ true → (x : X) × Contains xs x × (test x ≡ true)
has-any test [] passes = absurd (cc)
has-any {X} test (first ∷ xs) passes = by (test first) refl passes (has-any test xs)
  where
    by : (b : Bool) → test first ≡ b → (b || list_any test xs) ≡ true
        → (list_any test xs ≡ true → (x : X) × Contains xs x × (test x ≡ true)) → (x : X) × Contains (first ∷ xs) x × (test x ≡ true)
    by true e passes rest = (first, (0, omega arith, refl), e)
    by false e passes rest = let (x, c, holds) = rest passes in (x, contains-behind first xs x c, holds)

-- lists of the same elements pass alike
any-same : {X : Type 0} (test : X → Bool) (xs ys : List X) → AreAmong xs ys → AreAmong ys xs → list_any test xs ≡ list_any test ys
any-same test xs ys there back =
    both_ways (list_any test xs) (list_any test ys)
    (λ passes. let (x, c, holds) = has-any test xs passes in any-has test ys x (there x c) holds)
    (λ passes. let (x, c, holds) = has-any test ys passes in any-has test xs x (back x c) holds)

module _ (flag owned : Bool) (path : List ℕ) where
  -- what a rule says that is there is said
  said-in : (rules : List Rule) (rule : Rule) (said : ExecRule) → Contains rules rule → said_of flag owned path rule ≡ Some said
      → Contains (exec_rules flag owned path rules) said
  said-in [] rule said c says = absurd (omega (arith, c.1))
  said-in (first ∷ rules) rule said c says =
      subst (λ all. Contains all said) (exec-before flag owned path first rules)
      (by (said_of flag owned path first) refl (contains-split first rules rule c) (λ c. said-in rules rule said c says))
    where
      by : (own : Option ExecRule) → said_of flag owned path first ≡ own → (first ≡ rule) ⊎ Contains rules rule
          → (Contains rules rule → Contains (exec_rules flag owned path rules) said)
          → Contains (said-before own (exec_rules flag owned path rules)) said
      by None e (inl is) rest = absurd (cc)
      by None e (inr c) rest = rest c
      by (Some own) e (inl is) rest = (0, omega arith, cc)
      by (Some own) e (inr c) rest = contains-behind own (exec_rules flag owned path rules) said (rest c)

  -- what is said, a rule says that is there
  said-from : (rules : List Rule) (said : ExecRule) → Contains (exec_rules flag owned path rules) said
      → (rule : Rule) × Contains rules rule × (said_of flag owned path rule ≡ Some said)
  said-from [] said c = absurd (omega (arith, c.1))
  said-from (first ∷ rules) said c =
      by (said_of flag owned path first) refl (subst (λ all. Contains all said) (sym (exec-before flag owned path first rules)) c) (said-from rules said)
    where
      Found : List Rule → Type 0
      Found rules = (rule : Rule) × Contains rules rule × (said_of flag owned path rule ≡ Some said)

      behind : Found rules → Found (first ∷ rules)
      behind (rule, there, says) = (rule, contains-behind first rules rule there, says)

      or : (own : ExecRule) → said_of flag owned path first ≡ Some own → (own ≡ said) ⊎ Contains (exec_rules flag owned path rules) said
          → (Contains (exec_rules flag owned path rules) said → Found rules) → Found (first ∷ rules)
      or own e (inl is) rest = (first, (0, omega arith, refl), e ∙ ap Some is)
      or own e (inr c) rest = behind (rest c)

      by : (own : Option ExecRule) → said_of flag owned path first ≡ own → Contains (said-before own (exec_rules flag owned path rules)) said
          → (Contains (exec_rules flag owned path rules) said → Found rules) → Found (first ∷ rules)
      by None e c rest = behind (rest c)
      by (Some own) e c rest = or own e (contains-split own (exec_rules flag owned path rules) said c) rest

  -- rules that are all among others say nothing that these don't
  said-among : (rules others : List Rule) → AreAmong rules others → AreAmong (exec_rules flag owned path rules) (exec_rules flag owned path others)
  said-among rules others among said c =
      let (rule, there, says) = said-from rules said c in
      said-in others rule said (among rule there) says

-- where some rule leads first, one that dominates leads there
first-there : (rank : Rank) (rules : List ExecRule) (first : Transition) → first_lead rank rules ≡ Some first
    → (own : Rank) × (audited : Bool) × Contains rules (Leading first own audited) × (dominates rank (Leading first own audited) ≡ true)
first-there rank [] first leads = absurd (cc)
first-there rank (Denying loud ∷ rules) first leads =
    let (own, audited, there, holds) = first-there rank rules first leads in
    (own, audited, contains-behind (Denying loud) rules (Leading first own audited) there, holds)
first-there rank (Leading here kind loud ∷ rules) first leads = by (same_rank kind rank) refl leads (first-there rank rules first)
  where
    Found : List ExecRule → Type 0
    Found rules = (own : Rank) × (audited : Bool) × Contains rules (Leading first own audited) × (dominates rank (Leading first own audited) ≡ true)

    by : (b : Bool) → (same_rank kind rank) ≡ b → cond b (Some here) (first_lead rank rules) ≡ Some first
        → (first_lead rank rules ≡ Some first → Found rules) → Found (Leading here kind loud ∷ rules)
    by true e leads rest =
        let same : here ≡ first = cc in
        (kind, loud, (0, omega arith, ap (λ (t : Transition). Leading t kind loud) same), e)
    by false e leads rest =
        let (own, audited, there, holds) = rest leads in
        (own, audited, contains-behind (Leading here kind loud) rules (Leading first own audited) there, holds)

-- where one that dominates is there, some rule leads first
some-first : (rank : Rank) (rules : List ExecRule) (transition : Transition) (own : Rank) (audited : Bool)
    → Contains rules (Leading transition own audited) → dominates rank (Leading transition own audited) ≡ true
    → (first : Transition) × (first_lead rank rules ≡ Some first)
some-first rank [] transition own audited c holds = absurd (omega (arith, c.1))
some-first rank (Denying loud ∷ rules) transition own audited c holds =
    by (contains-split (Denying loud) rules (Leading transition own audited) c) (λ c. some-first rank rules transition own audited c holds)
  where
    by : (Denying loud ≡ Leading transition own audited) ⊎ Contains rules (Leading transition own audited)
        → (Contains rules (Leading transition own audited) → (first : Transition) × (first_lead rank rules ≡ Some first))
        → (first : Transition) × (first_lead rank rules ≡ Some first)
    by (inl is) rest = absurd (cc)
    by (inr c) rest = rest c
some-first rank (Leading here kind loud ∷ rules) transition own audited c holds =
    by (same_rank kind rank) refl (contains-split (Leading here kind loud) rules (Leading transition own audited) c)
    (λ c. some-first rank rules transition own audited c holds)
  where
    by : (b : Bool) → (same_rank kind rank) ≡ b → (Leading here kind loud ≡ Leading transition own audited) ⊎ Contains rules (Leading transition own audited)
        → (Contains rules (Leading transition own audited) → (first : Transition) × (first_lead rank rules ≡ Some first))
        → (first : Transition) × (cond b (Some here) (first_lead rank rules) ≡ Some first)
    by true e c rest = (here, refl)
    by false e (inl is) rest = absurd (cc)
    by false e (inr c) rest = rest c

-- rules that lead one way have the same first lead as others that say the same
first-same : (rank : Rank) (rules others : List ExecRule) → LeadOneWay rank rules → AreAmong rules others → AreAmong others rules
    → first_lead rank rules ≡ first_lead rank others
first-same rank rules others one_way there back = by (first_lead rank rules) (first_lead rank others) refl refl
  where
    by : (one other : Option Transition) → first_lead rank rules ≡ one → first_lead rank others ≡ other → one ≡ other
    by None None e d = refl
    by (Some first) None e d =
        let (own, audited, c, holds) = first-there rank rules first e in
        let (other, leads) = some-first rank others first own audited (there (Leading first own audited) c) holds in
        absurd (cc)
    by None (Some other) e d =
        let (own, audited, c, holds) = first-there rank others other d in
        let (first, leads) = some-first rank rules other own audited (back (Leading other own audited) c) holds in
        absurd (cc)
    by (Some first) (Some other) e d =
        let (own, audited, c, holds) = first-there rank others other d in
        ap Some (sym (one_way first other own audited e (back (Leading other own audited) c) holds))

-- their highest rank is the same
highest-same : (rules others : List ExecRule) → AreAmong rules others → AreAmong others rules → highest rules ≡ highest others
highest-same rules others there back =
    λ i. cond (any-same (dominates Plain) rules others there back i) Plain (cond (any-same (dominates Loose) rules others there back i) Loose Last)

-- so they choose the same
choose-same : (rules others : List ExecRule) → LeadOneWay (highest rules) rules → AreAmong rules others → AreAmong others rules → choice_of rules ≡ choice_of others
choose-same rules others one_way there back =
    let rank = highest rules in
    let same = highest-same rules others there back in
    let first = first-same rank rules others one_way there back in
    let loud = any-same (leads_aloud rank) rules others there back in
    let chosen-same : chosen rank rules ≡ chosen rank others =
    λ i. elim (first i) [ None ↦ Missing | Some lead ↦ Leads lead (loud i) ] in
    λ i. cond (any-same denies rules others there back i) (Denied (any-same denies_aloud rules others there back i))
    ((chosen-same ∙ ap (λ (highest : Rank). chosen highest others) same) i)

pub same-choice : (flag owned : Bool) (path : List ℕ) (rules others : List Rule) → HaveSameRules rules others → RulesLeadOneWay flag owned path rules
    → choice flag owned path rules ≡ choice flag owned path others
same-choice flag owned path rules others same one_way =
    choose-same (exec_rules flag owned path rules) (exec_rules flag owned path others) one_way
    (said-among flag owned path rules others same.0) (said-among flag owned path others rules same.1)
