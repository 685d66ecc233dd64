-- Where rules lead that agree.
use Rattle.std.proofs.Common.{◌≡◌, ◌∙◌, ℕ, zero, suc, ◌<◌, Bool, true, false, List, [], ◌∷◌, Option, None, Some, arith, ap, sym, refl, subst, ◌⊎◌, inl, inr}
use Rattle.std.specs.Prelude.{◌^◌, ◌&&◌, ◌||◌, ◌++◌, Contains, Ok, if◌then◌else◌, is_none, not}
use Rattle.std.specs.List.{All, list_any}
use Rattle.std.specs.Option.{option_map}
use Rattle.std.proofs.lemmas.Bool.{and_parts}
use Rattle.std.proofs.lemmas.List.Elements.{All-head, All-tail}
use Rattle.std.proofs.lemmas.Slice.Eq.{bytes_eq-Decides}
use Rattle.aa_decide_rules.proofs.SaidLemmas.{exec-before, said-before}
use Rattle.aa_decide_rules.specs.Choices.{first_lead, highest}
use Rattle.aa_decide_rules.specs.ExecRules.{Denying, ExecRule, Leading, applies_to, exec_rules, said_by, said_of}
use Rattle.aa_decide_rules.specs.Laws.{AgreeingRulesLeadOneWay, LeadOneWay}
use Rattle.aa_glob_pattern.specs.Laws.{OverlapsAreTested}
use Rattle.aa_glob_pattern.specs.Shared.{overlaps}
use Rattle.aa_glob_syntax.specs.Matching.{matches}
use Rattle.aa_glob_syntax.specs.Reading.{items_of, reading}
use Rattle.aa_profile_data.specs.ExecWords.{exec_word, row, same_word}
use Rattle.aa_profile_data.specs.declared.exec_word.ExecWord.{ExecWord}
use Rattle.aa_profile_data.specs.declared.exec_word.ExecWord.TheVariants as word
use Rattle.aa_profile_data.proofs.RankLemmas.{same-ranks}
use Rattle.aa_profile_data.specs.ConflictLaws.{HasReadPattern}
use Rattle.aa_profile_data.specs.Conflicts.{Lead, agree, conflict, first_conflict, lead_of, same_target, same_transition}
use Rattle.aa_profile_data.specs.Cover.{covers_exec}
use Rattle.aa_profile_data.specs.declared.profile.FileRule.{FileRule}
use Rattle.aa_profile_data.specs.Ranks.{same_rank}
use Rattle.aa_profile_data.specs.declared.profile.Rank.{Rank}
use Rattle.aa_profile_data.specs.declared.profile.Rank.TheVariants.{Last, Loose, Plain}
use Rattle.aa_profile_data.specs.declared.profile.Rule.{Rule}
use Rattle.aa_profile_data.specs.declared.profile.Rule.TheVariants.{Cap, File, Net, Other}
use Rattle.aa_profile_data.specs.declared.profile.Transition.{Transition}

-- the text of an exec word is that of no other
word-of_text : (word : ExecWord) → exec_word (row word).text ≡ Some word
word-of_text word.Inherit = refl
word-of_text word.Unconfined = refl
word-of_text word.UnconfinedScrub = refl
word-of_text word.Profile = refl
word-of_text word.ProfileScrub = refl
word-of_text word.Child = refl
word-of_text word.ChildScrub = refl
word-of_text word.ProfileInherit = refl
word-of_text word.ProfileInheritScrub = refl
word-of_text word.ChildInherit = refl
word-of_text word.ChildInheritScrub = refl
word-of_text word.ProfileUnconfined = refl
word-of_text word.ProfileUnconfinedScrub = refl
word-of_text word.ChildUnconfined = refl
word-of_text word.ChildUnconfinedScrub = refl

some-same : {A : Type 0} (one other : A) → Some one ≡ Some other → one ≡ other
some-same one other e = cc

same_word-is : (one other : ExecWord) → same_word one other ≡ true → one ≡ other
same_word-is one other same =
    some-same one other (sym (word-of_text one) ∙ ap exec_word ((bytes_eq-Decides (row one).text (row other).text).0 same) ∙ word-of_text other)

same_target-is : (one other : Option (List ℕ)) → same_target one other ≡ true → one ≡ other
same_target-is None None same = refl
same_target-is (Some one) (Some other) same = ap Some ((bytes_eq-Decides one other).0 same)
same_target-is None (Some other) same = absurd (cc)
same_target-is (Some one) None same = absurd (cc)

-- transitions that are the same are one
same_transition-is : (one other : Transition) → same_transition one other ≡ true → one ≡ other
same_transition-is one other same =
    let parts = and_parts (same_word one.word other.word) (same_target one.target other.target) same in
    ap (λ word. record { word = word; target = one.target }) (same_word-is one.word other.word parts.0)
    ∙ ap (λ target. record { word = other.word; target = target }) (same_target-is one.target other.target parts.1)

option_map-none : {A B : Type 0} (f : A → B) (found : Option A) → option_map f found ≡ None → found ≡ None
option_map-none f None e = refl
option_map-none f (Some a) e = absurd (cc)

-- where no rule conflicts with an earlier one, none does with a certain one of those
conflict-none : (first : Rule) (before rules : List Rule) → first_conflict (first ∷ before) rules ≡ None
    → (list_any (λ rule. conflict rule first) rules ≡ false) × (first_conflict before rules ≡ None)
conflict-none first before [] e = (refl, refl)
conflict-none first before (rule ∷ rules) e = by (conflict rule first) (list_any (conflict rule) before) refl refl e (conflict-none first (before ++ rule ∷ []) rules)
  where
    by : (here there : Bool) → conflict rule first ≡ here → list_any (conflict rule) before ≡ there
        → (if here || there then Some 0 else option_map suc (first_conflict ((first ∷ before) ++ rule ∷ []) rules)) ≡ None
        → (first_conflict ((first ∷ before) ++ rule ∷ []) rules ≡ None
        → (list_any (λ rule. conflict rule first) rules ≡ false) × (first_conflict (before ++ rule ∷ []) rules ≡ None))
        → (list_any (λ rule. conflict rule first) (rule ∷ rules) ≡ false) × (first_conflict before (rule ∷ rules) ≡ None)
    by true there h t e behind = absurd (cc)
    by false true h t e behind = absurd (cc)
    by false false h t e behind =
        let rest = behind (option_map-none suc _ e) in
        (rw h rest.0, rw (first_conflict, t) (ap (option_map suc) rest.1))

is_none-none : {A : Type 0} (found : Option A) → is_none found ≡ true → found ≡ None
is_none-none None e = refl
is_none-none (Some a) e = absurd (cc)

-- of rules that agree, none conflicts with the first, and the others agree
agree-parts : (rule : Rule) (rules : List Rule) → agree (rule ∷ rules) ≡ true → (list_any (λ later. conflict later rule) rules ≡ false) × (agree rules ≡ true)
agree-parts rule rules e =
    let none = conflict-none rule [] rules (option_map-none suc _ (is_none-none (first_conflict [] (rule ∷ rules)) e)) in
    (none.0, ap is_none none.1)

-- What it takes that a rule leads somewhere: its lead, and that its pattern reads and matches the path.
record LeadsSo (path : List ℕ) (rule : Rule) (transition : Transition) (rank : Rank) : Type 0 where
  pattern : List ℕ
  lead : lead_of rule ≡ Some (record { pattern = pattern; rank = rank; transition = transition })
  reads : HasReadPattern rule → reading pattern ≡ Ok (items_of pattern)
  matched : matches (items_of pattern) path ≡ true

abbrev IsOneLead : Option Lead → Option Lead → Type 0
IsOneLead one other = one ≡ other

one-lead : (pattern : List ℕ) (rank other_rank : Rank) (transition other : Transition) → rank ≡ other_rank → transition ≡ other
    → IsOneLead (Some (record { pattern = pattern; rank = rank; transition = transition })) (Some (record { pattern = pattern; rank = other_rank; transition = other }))
one-lead pattern rank other_rank transition other so to = cc

file-leads : (flag owned : Bool) (path : List ℕ) (rule : FileRule) (transition : Transition) (rank : Rank) (audited : Bool)
    → said_of flag owned path (File rule) ≡ Some (Leading transition rank audited) → LeadsSo path (File rule) transition rank
file-leads flag owned path rule transition rank audited e = by (applies_to owned path rule) rule.deny rule.exec refl refl refl e
  where
    by : (applies deny : Bool) (exec : Option Transition) → applies_to owned path rule ≡ applies → rule.deny ≡ deny → rule.exec ≡ exec
        → (if applies then said_by flag rule else None) ≡ Some (Leading transition rank audited)
        → LeadsSo path (File rule) transition rank
    by false deny exec a d x e = absurd (cc)
    by true true exec a d x e = absurd (denies (covers_exec rule) (rw (said_by, d) at e))
      where
        denies : (covers : Bool) → (if covers then Some (Denying (flag || rule.audit)) else None) ≡ Some (Leading transition rank audited) → ⊥
        denies true e = cc
        denies false e = cc
    by true false None a d x e = absurd (let h = rw (said_by, d, x) at e in cc)
    by true false (Some to) a d x e =
        let h = rw (said_by, d, x) at e in
        let is_to : to ≡ transition = cc in
        let is_so : rule.rank ≡ rank = cc in
        record {
          pattern = rule.pattern;
          lead = rw (lead_of, d, x) (one-lead rule.pattern rule.rank rank to transition is_so is_to);
          reads = λ reads. reads;
          matched = (and_parts (matches (items_of rule.pattern) path) (not rule.owner || owned) a).0;
        }

rule-leads : (flag owned : Bool) (path : List ℕ) (rule : Rule) (transition : Transition) (rank : Rank) (audited : Bool)
    → said_of flag owned path rule ≡ Some (Leading transition rank audited) → LeadsSo path rule transition rank
rule-leads flag owned path (File rule) transition rank audited e = file-leads flag owned path rule transition rank audited e
rule-leads flag owned path (Cap rule) transition rank audited e = absurd (cc)
rule-leads flag owned path (Net rule) transition rank audited e = absurd (cc)
rule-leads flag owned path (Other rule) transition rank audited e = absurd (cc)

-- what a list with a first item contains is that or stands behind it
pub contains-split : {X : Type 0} (x : X) (xs : List X) (y : X) → Contains (x ∷ xs) y → (x ≡ y) ⊎ Contains xs y
contains-split x xs y (zero, within, is) = inl is
contains-split x xs y (suc i, within, is) = inr (i, omega (arith, within), is)

pub contains-behind : {X : Type 0} (x : X) (xs : List X) (y : X) → Contains xs y → Contains (x ∷ xs) y
contains-behind x xs y (i, within, is) = (suc i, omega (arith, within), is)

same-else : (rank : Rank) (same overlap : Bool) → (same_rank rank rank && (not same && overlap)) ≡ false → overlap ≡ true → same ≡ true
same-else rank true overlap e o = refl
same-else Last false overlap e o = absurd (cc)
same-else Loose false overlap e o = absurd (cc)
same-else Plain false overlap e o = absurd (cc)

or-none : (one other : Bool) → (one || other) ≡ false → (one ≡ false) × (other ≡ false)
or-none false false e = (refl, refl)
or-none false true e = absurd (cc)
or-none true other e = absurd (cc)

module _ (law : OverlapsAreTested) where
  -- two rules that match a path lead under one transition, where the one doesn't conflict with the other
  lead-alike : (path : List ℕ) (one other : Rule) (here there : Transition) (rank : Rank) → All (λ b. b < 2 ^ 8) path
      → HasReadPattern one → HasReadPattern other → LeadsSo path one here rank → LeadsSo path other there rank
      → conflict one other ≡ false → here ≡ there
  lead-alike path one other here there rank bytes reads_one reads_other leads_one leads_other none =
      let overlap = (law leads_one.pattern leads_other.pattern (leads_one.reads reads_one) (leads_other.reads reads_other)).1 (path, bytes, leads_one.matched, leads_other.matched) in
      let apart = rw (conflict, leads_one.lead, leads_other.lead) at none in
      same_transition-is here there (same-else rank (same_transition here there) (overlaps leads_one.pattern leads_other.pattern) apart overlap)

  -- a rule that none of some later ones conflicts with leads where each of these does that leads with its rank
  later-alike : (flag owned : Bool) (path : List ℕ) (one : Rule) (here : Transition) (rank : Rank) → All (λ b. b < 2 ^ 8) path
      → HasReadPattern one → LeadsSo path one here rank
      → (rules : List Rule) → All HasReadPattern rules → list_any (λ later. conflict later one) rules ≡ false
      → (there : Transition) (audited : Bool) → Contains (exec_rules flag owned path rules) (Leading there rank audited) → there ≡ here
  later-alike flag owned path one here rank bytes reads leads [] read none there audited (i, within, is) = absurd (omega (arith, within))
  later-alike flag owned path one here rank bytes reads leads (rule ∷ rules) read none there audited c =
      let parts = or-none (conflict rule one) (list_any (λ later. conflict later one) rules) none in
      by (said_of flag owned path rule) refl parts.0
      (later-alike flag owned path one here rank bytes reads leads rules (All-tail HasReadPattern rule rules read) parts.1 there audited)
      (subst (λ said. Contains said (Leading there rank audited)) (sym (exec-before flag owned path rule rules)) c)
    where
      by : (said : Option ExecRule) → said_of flag owned path rule ≡ said → conflict rule one ≡ false
          → (Contains (exec_rules flag owned path rules) (Leading there rank audited) → there ≡ here)
          → Contains (said-before said (exec_rules flag owned path rules)) (Leading there rank audited)
          → there ≡ here
      by None e none rest c = rest c
      by (Some said) e none rest c = or (contains-split said (exec_rules flag owned path rules) (Leading there rank audited) c)
        where
          or : (said ≡ Leading there rank audited) ⊎ Contains (exec_rules flag owned path rules) (Leading there rank audited) → there ≡ here
          or (inl is) =
              lead-alike path rule one there here rank bytes (All-head HasReadPattern rule rules read) reads
              (rule-leads flag owned path rule there rank audited (e ∙ ap Some is)) leads none
          or (inr c) = rest c

  one_way : (flag owned : Bool) (path : List ℕ) (rank : Rank) → All (λ b. b < 2 ^ 8) path
      → (rules : List Rule) → agree rules ≡ true → All HasReadPattern rules → LeadOneWay rank (exec_rules flag owned path rules)
  one_way flag owned path rank bytes [] agrees read = λ first transition own audited holds c d. absurd (omega (arith, c.1))
  one_way flag owned path rank bytes (rule ∷ rules) agrees read =
      let parts = agree-parts rule rules agrees in
      subst (LeadOneWay rank) (exec-before flag owned path rule rules)
      (by (said_of flag owned path rule) refl parts.0 (one_way flag owned path rank bytes rules parts.1 (All-tail HasReadPattern rule rules read)))
    where
      said-rest : List ExecRule
      said-rest = exec_rules flag owned path rules

      by : (said : Option ExecRule) → said_of flag owned path rule ≡ said → list_any (λ later. conflict later rule) rules ≡ false
          → LeadOneWay rank said-rest → LeadOneWay rank (said-before said said-rest)
      by None e none rest first transition own audited holds c d = rest first transition own audited holds c d
      by (Some (Denying loud)) e none rest first transition own audited holds c d = or (contains-split (Denying loud) said-rest (Leading transition own audited) c)
        where
          or : (Denying loud ≡ Leading transition own audited) ⊎ Contains said-rest (Leading transition own audited) → transition ≡ first
          or (inl is) = absurd (cc)
          or (inr c) = rest first transition own audited holds c d
      by (Some (Leading here kind loud)) e none rest first transition own audited holds c d =
          or (same_rank kind rank) refl holds (contains-split (Leading here kind loud) said-rest (Leading transition own audited) c)
        where
          or : (leads : Bool) → same_rank kind rank ≡ leads
              → (if leads then Some here else first_lead rank said-rest) ≡ Some first
              → (Leading here kind loud ≡ Leading transition own audited) ⊎ Contains said-rest (Leading transition own audited)
              → transition ≡ first
          or true v holds (inl is) = cc
          or true v holds (inr c) =
              let alike : own ≡ kind = same-ranks own rank d ∙ sym (same-ranks kind rank v) in
              later-alike flag owned path rule here kind bytes (All-head HasReadPattern rule rules read)
              (rule-leads flag owned path rule here kind loud e) rules (All-tail HasReadPattern rule rules read) none transition audited
              (subst (λ rank. Contains said-rest (Leading transition rank audited)) alike c)
              ∙ some-same here first holds
          or false v holds (inl is) = absurd (cc)
          or false v holds (inr c) = rest first transition own audited holds c d

  -- of rules that agree, those that dominate lead one way
  pub lead-one_way : AgreeingRulesLeadOneWay
  lead-one_way rules agrees read flag owned path bytes = one_way flag owned path (highest (exec_rules flag owned path rules)) bytes rules agrees read
