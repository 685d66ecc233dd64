-- What one rule lets, of requests that are joined.
use Rattle.std.proofs.Common.{◌≡◌, ◌≢◌, ◌∙◌, ℕ, zero, suc, ◌-◌, ◌^◌, ◌<◌, ◌≤◌, Bool, true, false, not, List, [], ◌∷◌, ◌++◌, Some, refl, sym, ap, arith, inl, inr, max, min, w8}
use Rattle.std.specs.Prelude.{bit_and, ◌&&◌, ◌||◌, ◌==◌}
use Rattle.std.specs.Int.{bit_at}
use Rattle.std.specs.Int.Bits.{or_zero_l}
use Rattle.std.specs.List.{All, Contains}
use Rattle.std.proofs.lemmas.Bool.{and_parts, cases_lt}
use Rattle.std.proofs.lemmas.Bool.Decides.{nat_tests}
use Rattle.std.proofs.lemmas.List.Elements.{All-head, All-tail, Contains-append_cases, Contains-append_left, Contains-append_right}
use Rattle.std.proofs.lemmas.List.Sums.{fold-append}
use Rattle.std.proofs.lemmas.Nat.{and_le_r}
use Rattle.std.proofs.lemmas.Nat.Bits.{bit_at-zero, bit_at_above, bit_at_and, bit_at_not, bit_at_ones, bit_at_or, same_from_bits}
use Rattle.aa_glob_syntax.specs.Matching.{matches}
use Rattle.aa_glob_syntax.specs.Reading.{items_of}
use Rattle.aa_profile_data.specs.Access.{common, union, without}
use Rattle.aa_profile_data.specs.Request.{ForCapability, ForFile, ForSockets, Request}
use Rattle.aa_profile_data.specs.SameRules.{HaveSameRules}
use Rattle.aa_profile_data.specs.declared.profile.Rule.{Rule}
use Rattle.aa_profile_data.specs.declared.profile.Rule.TheVariants.{Cap, File, Net, Other}
use Rattle.aa_decide_rules.specs.declared.verdict.Answer.TheVariants.{Allow, Complain, Deny, Refuse}
use Rattle.aa_decide_rules.specs.Verdict.{allows, applies, covered_by, covers, denied, denies, granted, missing, needs, verdict, with_covered, with_rule}
use Rattle.aa_decide_rules.specs.declared.judgement.Mediation.{Mediation}
use Rattle.aa_decide_rules.specs.declared.judgement.Mediation.TheVariants.{Complaining, Enforcing}
use Rattle.aa_decide_rules.proofs.VerdictLemmas.{verdict-allow, verdict-order}
use Rattle.aa_explain_rules.specs.Missing.{lacked, missing_rule}
use Rattle.aa_explain_rules.specs.Joined.{AreOfOneThing, IsWithin, joined}

-- a set has all of another with which it has that in common
has-all : (set all i : ℕ) → common set all ≡ set → bit_at set i ≤ bit_at all i
has-all set all i same =
    let bits = bit_at_and set all i in
    let whole : bit_at (bit_and set all) i ≡ bit_at set i = ap (λ n. bit_at n i) same in
    omega arith

has-common : (set all : ℕ) → ((i : ℕ) → bit_at set i ≤ bit_at all i) → common set all ≡ set
has-common set all less = same_from_bits (common set all) set (λ i. let bits = bit_at_and set all i in let most = less i in omega arith)

-- what is within has no more needs, applies no fewer rules
needs-within : (request whole : Request) → IsWithin request whole → (i : ℕ) → bit_at (needs request) i ≤ bit_at (needs whole) i
needs-within (ForFile set owned path) (ForFile all all_owned other) within i = has-all set all i within.1
needs-within (ForFile set owned path) (ForCapability number) within i = absurd (cc (within))
needs-within (ForFile set owned path) (ForSockets domain kind) within i = absurd (cc (within))
needs-within (ForCapability number) (ForFile all all_owned other) within i = absurd (cc (within))
needs-within (ForCapability number) (ForCapability other) within i = omega arith
needs-within (ForCapability number) (ForSockets domain kind) within i = absurd (cc (within))
needs-within (ForSockets domain kind) (ForFile all all_owned other) within i = absurd (cc (within))
needs-within (ForSockets domain kind) (ForCapability number) within i = absurd (cc (within))
needs-within (ForSockets domain kind) (ForSockets other more) within i = omega arith

owner-within : (rule_owner all_owned owned : Bool) → (all_owned ≡ true → owned ≡ true) → (not rule_owner || all_owned) ≡ true → (not rule_owner || owned) ≡ true
owner-within false all_owned owned own h = refl
owner-within true true owned own h = own refl
owner-within true false owned own h = absurd (cc (h))

file-within : (set all : ℕ) (owned all_owned : Bool) (path other : List ℕ) → path ≡ other → (all_owned ≡ true → owned ≡ true) → (rule : Rule)
    → applies (ForFile all all_owned other) rule ≡ true → applies (ForFile set owned path) rule ≡ true
file-within set all owned all_owned path other same own (File rule) h =
    let parts = and_parts (matches (items_of rule.pattern) other) (not rule.owner || all_owned) h in
    let here : matches (items_of rule.pattern) path ≡ true = ap (matches (items_of rule.pattern)) same ∙ parts.0 in
    rw (here, owner-within rule.owner all_owned owned own parts.1) refl
file-within set all owned all_owned path other same own (Cap rule) h = absurd (cc (h))
file-within set all owned all_owned path other same own (Net rule) h = absurd (cc (h))
file-within set all owned all_owned path other same own (Other rule) h = absurd (cc (h))

applies-within : (request whole : Request) → IsWithin request whole → (rule : Rule) → applies whole rule ≡ true → applies request rule ≡ true
applies-within (ForFile set owned path) (ForFile all all_owned other) within rule h = file-within set all owned all_owned path other within.0 within.2 rule h
applies-within (ForFile set owned path) (ForCapability number) within rule h = ap (λ request. applies request rule) within ∙ h
applies-within (ForFile set owned path) (ForSockets domain kind) within rule h = ap (λ request. applies request rule) within ∙ h
applies-within (ForCapability number) (ForFile all all_owned other) within rule h = ap (λ request. applies request rule) within ∙ h
applies-within (ForCapability number) (ForCapability other) within rule h = ap (λ request. applies request rule) within ∙ h
applies-within (ForCapability number) (ForSockets domain kind) within rule h = ap (λ request. applies request rule) within ∙ h
applies-within (ForSockets domain kind) (ForFile all all_owned other) within rule h = ap (λ request. applies request rule) within ∙ h
applies-within (ForSockets domain kind) (ForCapability number) within rule h = ap (λ request. applies request rule) within ∙ h
applies-within (ForSockets domain kind) (ForSockets other more) within rule h = ap (λ request. applies request rule) within ∙ h

-- what a rule covers, where it applies and where it doesn't
covers-there : (request : Request) (rule : Rule) → applies request rule ≡ true → (i : ℕ) → bit_at (covers request rule) i ≡ min (bit_at (needs request) i) (bit_at (covered_by rule) i)
covers-there request rule there i = rw (covers, there) (bit_at_and (needs request) (covered_by rule) i)

covers-else : (request : Request) (rule : Rule) → applies request rule ≡ false → (i : ℕ) → bit_at (covers request rule) i ≡ 0
covers-else request rule there i = rw (covers, there) (bit_at-zero i)

module _ (request whole : Request) (within : IsWithin request whole) where
  -- of its needs a rule covers all that it covers of the whole
  covers-within : (rule : Rule) (i : ℕ) → min (bit_at (needs request) i) (bit_at (covers whole rule) i) ≤ bit_at (covers request rule) i
  covers-within rule i = by (applies whole rule) refl
    where
      by : (there : Bool) → applies whole rule ≡ there → min (bit_at (needs request) i) (bit_at (covers whole rule) i) ≤ bit_at (covers request rule) i
      by false e = let none = covers-else whole rule e i in omega arith
      by true e =
          let of_whole = covers-there whole rule e i in
          let own = covers-there request rule (applies-within request whole within rule e) i in
          omega arith

  -- and so do rules together
  with-within : (test : Rule → Bool) (rules : List Rule) (set all : ℕ) (i : ℕ) → min (bit_at (needs request) i) (bit_at all i) ≤ bit_at set i
      → min (bit_at (needs request) i) (bit_at (with_covered whole test all rules) i) ≤ bit_at (with_covered request test set rules) i
  with-within test [] set all i h = h
  with-within test (rule ∷ rules) set all i h = by (test rule) refl (λ set all. with-within test rules set all i)
    where
      by : (passes : Bool) → test rule ≡ passes
          → ((set all : ℕ) → min (bit_at (needs request) i) (bit_at all i) ≤ bit_at set i
          → min (bit_at (needs request) i) (bit_at (with_covered whole test all rules) i) ≤ bit_at (with_covered request test set rules) i)
          → min (bit_at (needs request) i) (bit_at (with_covered whole test all (rule ∷ rules)) i) ≤ bit_at (with_covered request test set (rule ∷ rules)) i
      by false e rest = rw e (rest set all h)
      by true e rest =
          rw e (rest (union set (covers request rule)) (union all (covers whole rule)) (
          let own = bit_at_or set (covers request rule) i in
          let of_whole = bit_at_or all (covers whole rule) i in
          let less = covers-within rule i in
          omega arith))

  granted-within : (rules : List Rule) (i : ℕ) → min (bit_at (needs request) i) (bit_at (granted whole rules) i) ≤ bit_at (granted request rules) i
  granted-within rules i = with-within allows rules 0 0 i (let none = bit_at-zero i in omega arith)

-- what is missing where nothing is denied
abbrev lacking : ℕ → ℕ → ℕ
lacking set granted = without set (union 0 (without granted 0))

missing-of : (request : Request) (rules : List Rule) → denied request rules ≡ 0 → missing request rules ≡ lacking (needs request) (granted request rules)
missing-of request rules none = ap (λ n. without (needs request) (union n (without (granted request rules) n))) none

-- its bits
module _ (set granted : ℕ) where
  abbrev kept : ℕ
  kept = bit_and granted (2 ^ 8 - 1 - 0)

  kept-small : kept < 2 ^ 8
  kept-small = let most = and_le_r granted (2 ^ 8 - 1 - 0) in omega arith

  lacking-bit : (i : ℕ) → bit_at (lacking set granted) i ≡ min (bit_at set i) (bit_at (2 ^ 8 - 1 - kept) i)
  lacking-bit i = ap (λ b. bit_at (bit_and set (2 ^ 8 - 1 - b)) i) (or_zero_l kept) ∙ bit_at_and set (2 ^ 8 - 1 - kept) i

  lacking-low : (i : ℕ) → i < 8 → bit_at (lacking set granted) i ≡ min (bit_at set i) (1 - min (bit_at granted i) 1)
  lacking-low i low =
      let ones : bit_at (2 ^ 8 - 1 - 0) i ≡ 1 = bit_at_ones 8 i low in
      let bits = lacking-bit i in
      let rest = bit_at_not w8 kept i kept-small low in
      let own = bit_at_and granted (2 ^ 8 - 1 - 0) i in
      omega arith

  lacking-high : (i : ℕ) → 8 ≤ i → bit_at (lacking set granted) i ≡ 0
  lacking-high i high =
      let small : 2 ^ 8 - 1 - kept < 2 ^ 8 = omega arith in
      let none = bit_at_above (2 ^ 8 - 1 - kept) 8 i small high in
      let bits = lacking-bit i in
      omega arith

-- where nothing of the whole is missing, nothing of what is within it is
none-missing : (request whole : Request) (rules : List Rule) → IsWithin request whole → denied request rules ≡ 0 → denied whole rules ≡ 0
    → missing whole rules ≡ 0 → missing request rules ≡ 0
none-missing request whole rules within own none few =
    missing-of request rules own ∙ same_from_bits (lacking (needs request) (granted request rules)) 0 bits
  where
    below : (i : ℕ) → i < 8 → bit_at (lacking (needs request) (granted request rules)) i ≡ bit_at 0 i
    below i low =
        let here = lacking-low (needs request) (granted request rules) i low in
        let there = lacking-low (needs whole) (granted whole rules) i low in
        let gone : bit_at (lacking (needs whole) (granted whole rules)) i ≡ bit_at 0 i = ap (λ n. bit_at n i) (sym (missing-of whole rules none) ∙ few) in
        let zero_bit = bit_at-zero i in
        let less = needs-within request whole within i in
        let more = granted-within request whole within rules i in
        omega arith

    bits : (i : ℕ) → bit_at (lacking (needs request) (granted request rules)) i ≡ bit_at 0 i
    bits i = elim (cases_lt i 8) [ inl low ↦ below i low | inr high ↦ lacking-high (needs request) (granted request rules) i high ∙ sym (bit_at-zero i) ]

from-none : (n : ℕ) → (n == 0) ≡ true → n ≡ 0
from-none n h = grind (arith, nat_tests)

-- what is allowed has no need that is denied, and none that is missing
allow-parts : (mediation : Mediation) (flag : Bool) (rules : List Rule) (request : Request) → (verdict mediation flag rules request).answer ≡ Allow
    → (denied request rules ≡ 0) × (missing request rules ≡ 0)
allow-parts mediation flag rules request h = by mediation (denied request rules == 0) refl (missing request rules == 0) refl h
  where
    by : (mediation : Mediation) (d : Bool) → (denied request rules == 0) ≡ d → (m : Bool) → (missing request rules == 0) ≡ m → (verdict mediation flag rules request).answer ≡ Allow
        → (denied request rules ≡ 0) × (missing request rules ≡ 0)
    by mediation false d m e h = let wrong : Deny ≡ Allow = rw (verdict, d) at h in absurd (cc)
    by Enforcing true d false e h = let wrong : Refuse ≡ Allow = rw (verdict, d, e) at h in absurd (cc)
    by Complaining true d false e h = let wrong : Complain ≡ Allow = rw (verdict, d, e) at h in absurd (cc)
    by mediation true d true e h = (from-none (denied request rules) d, from-none (missing request rules) e)

allow-from : (mediation : Mediation) (flag : Bool) (rules : List Rule) (request : Request) → denied request rules ≡ 0 → missing request rules ≡ 0
    → (verdict mediation flag rules request).answer ≡ Allow
allow-from mediation flag rules request d m =
    let none : (denied request rules == 0) ≡ true = ap (λ n. n == 0) d in
    let few : (missing request rules == 0) ≡ true = ap (λ n. n == 0) m in
    rw (verdict, none, few) refl

-- rules that let something
abbrev pub Lets : Rule → Type 0
Lets rule = denies rule ≡ false

-- rules more that let something deny nothing more
denied-more : (request : Request) (set : ℕ) (more : List Rule) → All Lets more → with_covered request denies set more ≡ set
denied-more request set [] all = refl
denied-more request set (rule ∷ more) all =
    let own : denies rule ≡ false = All-head Lets rule more all in
    rw own (denied-more request set more (All-tail Lets rule more all))

denied-behind : (request : Request) (rules more : List Rule) → All Lets more → denied request (rules ++ more) ≡ denied request rules
denied-behind request rules more all = fold-append (with_rule request denies) 0 rules more ∙ denied-more request (denied request rules) more all

-- and leave what is allowed
allow-more : (mediation : Mediation) (flag : Bool) (rules : List Rule) (request : Request) (more : List Rule) → All Lets more
    → (verdict mediation flag rules request).answer ≡ Allow → (verdict mediation flag (more ++ rules) request).answer ≡ Allow
allow-more mediation flag rules request [] all h = h
allow-more mediation flag rules request (rule ∷ more) all h =
    verdict-allow mediation flag rule (more ++ rules) request (All-head Lets rule more all)
    (allow-more mediation flag rules request more (All-tail Lets rule more all) h)

one-of-one : (rule other : Rule) → Contains (rule ∷ []) other → rule ≡ other
one-of-one rule other (zero, within, is) = is
one-of-one rule other (suc k, within, is) = absurd (omega (arith, within))

-- rules with one behind them, and with more among which it is
same-rules : (rules more : List Rule) (rule : Rule) → Contains more rule → HaveSameRules (more ++ (rules ++ rule ∷ [])) (rules ++ more)
same-rules rules more rule there = (forth, back)
  where
    of-last : (other : Rule) → Contains (rule ∷ []) other → Contains (rules ++ more) other
    of-last other last =
        let is = one-of-one rule other last in
        let own : Contains more other = rw (← is) there in
        Contains-append_right rules more other own

    of-rules : (other : Rule) → Contains (rules ++ rule ∷ []) other → Contains (rules ++ more) other
    of-rules other among = elim (Contains-append_cases rules (rule ∷ []) other among) [
      | inl first ↦ Contains-append_left rules more other first
      | inr last ↦ of-last other last
    ]

    forth : (other : Rule) → Contains (more ++ (rules ++ rule ∷ [])) other → Contains (rules ++ more) other
    forth other among = elim (Contains-append_cases more (rules ++ rule ∷ []) other among) [
      | inl first ↦ Contains-append_right rules more other first
      | inr rest ↦ of-rules other rest
    ]

    back : (other : Rule) → Contains (rules ++ more) other → Contains (more ++ (rules ++ rule ∷ [])) other
    back other among = elim (Contains-append_cases rules more other among) [
      | inl first ↦ Contains-append_right more (rules ++ rule ∷ []) other (Contains-append_left rules (rule ∷ []) other first)
      | inr rest ↦ Contains-append_left more (rules ++ rule ∷ []) other rest
    ]

abbrev pub LetsIt : Type 0
LetsIt = (mediation : Mediation) (flag : Bool) (request : Request) (rules : List Rule) (rule : Rule) → missing_rule request rules ≡ Some rule
    → (verdict mediation flag (rules ++ rule ∷ []) request).answer ≡ Allow

-- the rule that the whole lacks lets what is within it
pub lets-each : LetsIt → (mediation : Mediation) (flag : Bool) (request whole : Request) (rules more : List Rule) (rule : Rule)
    → IsWithin request whole → denied request rules ≡ 0 → missing_rule whole rules ≡ Some rule → All Lets more → Contains more rule
    → (verdict mediation flag (rules ++ more) request).answer ≡ Allow
lets-each lets mediation flag request whole rules more rule within own is all there =
    let first = allow-more mediation flag (rules ++ rule ∷ []) whole more all (lets mediation flag whole rules rule is) in
    let same = verdict-order mediation flag (more ++ (rules ++ rule ∷ [])) (rules ++ more) whole (same-rules rules more rule there) in
    let whole_allowed : (verdict mediation flag (rules ++ more) whole).answer ≡ Allow = sym (ap (λ v. v.answer) same) ∙ first in
    let parts = allow-parts mediation flag (rules ++ more) whole whole_allowed in
    let none : denied request (rules ++ more) ≡ 0 = denied-behind request rules more all ∙ own in
    allow-from mediation flag (rules ++ more) request none (none-missing request whole (rules ++ more) within none parts.0 parts.1)

-- each of two is within the two joined
union-left : (a b : ℕ) → common a (union a b) ≡ a
union-left a b = has-common a (union a b) (λ i. let bits = bit_at_or a b i in omega arith)

union-right : (a b : ℕ) → common b (union a b) ≡ b
union-right a b = has-common b (union a b) (λ i. let bits = bit_at_or a b i in omega arith)

pub first-within : (one other : Request) → AreOfOneThing one other → IsWithin one (joined one other)
first-within (ForFile set owned path) (ForFile more other_owned other) same = (refl, union-left set more, λ both. (and_parts owned other_owned both).0)
first-within (ForFile set owned path) (ForCapability number) same = absurd (cc (same))
first-within (ForFile set owned path) (ForSockets domain kind) same = absurd (cc (same))
first-within (ForCapability number) other same = refl
first-within (ForSockets domain kind) other same = refl

pub second-within : (one other : Request) → AreOfOneThing one other → IsWithin other (joined one other)
second-within (ForFile set owned path) (ForFile more other_owned other) same = (sym same, union-right set more, λ both. (and_parts owned other_owned both).1)
second-within (ForFile set owned path) (ForCapability number) same = absurd (cc (same))
second-within (ForFile set owned path) (ForSockets domain kind) same = absurd (cc (same))
second-within (ForCapability number) (ForFile more other_owned other) same = absurd (cc (same))
second-within (ForCapability number) (ForCapability other) same = sym same
second-within (ForCapability number) (ForSockets domain kind) same = absurd (cc (same))
second-within (ForSockets domain kind) (ForFile more other_owned other) same = absurd (cc (same))
second-within (ForSockets domain kind) (ForCapability number) same = absurd (cc (same))
second-within (ForSockets domain kind) (ForSockets other more) same = sym same

pub within-itself : (request : Request) → IsWithin request request
within-itself (ForFile set owned path) = (refl, has-common set set (λ i. omega arith), λ own. own)
within-itself (ForCapability number) = refl
within-itself (ForSockets domain kind) = refl

common-through : (a b c : ℕ) → common a b ≡ a → common b c ≡ b → common a c ≡ a
common-through a b c first second = has-common a c (λ i. let one = has-all a b i first in let two = has-all b c i second in omega arith)

pub within-stays : (request part whole : Request) → IsWithin request part → IsWithin part whole → IsWithin request whole
within-stays (ForFile set owned path) (ForFile some some_owned part) (ForFile all all_owned other) first second =
    (first.0 ∙ second.0, common-through set some all first.1 second.1, λ h. first.2 (second.2 h))
within-stays (ForFile set owned path) (ForFile some some_owned part) (ForCapability number) first second = absurd (cc (second))
within-stays (ForFile set owned path) (ForFile some some_owned part) (ForSockets domain kind) first second = absurd (cc (second))
within-stays (ForFile set owned path) (ForCapability number) whole first second = absurd (cc (first))
within-stays (ForFile set owned path) (ForSockets domain kind) whole first second = absurd (cc (first))
within-stays (ForCapability number) (ForFile some some_owned part) whole first second = absurd (cc (first))
within-stays (ForCapability number) (ForSockets domain kind) whole first second = absurd (cc (first))
within-stays (ForCapability number) (ForCapability part) (ForFile all all_owned other) first second = absurd (cc (second))
within-stays (ForCapability number) (ForCapability part) (ForCapability whole) first second = first ∙ second
within-stays (ForCapability number) (ForCapability part) (ForSockets domain kind) first second = absurd (cc (second))
within-stays (ForSockets domain kind) (ForFile some some_owned part) whole first second = absurd (cc (first))
within-stays (ForSockets domain kind) (ForCapability part) whole first second = absurd (cc (first))
within-stays (ForSockets domain kind) (ForSockets d k) (ForFile all all_owned other) first second = absurd (cc (second))
within-stays (ForSockets domain kind) (ForSockets d k) (ForCapability whole) first second = absurd (cc (second))
within-stays (ForSockets domain kind) (ForSockets d k) (ForSockets e l) first second = first ∙ second

-- no rule denies something of two joined where none does of either: of two for a file it covers no more of both than of either
module _ (set more : ℕ) (owned other_owned : Bool) (path other : List ℕ) (same : path ≡ other) where
  abbrev one : Request
  one = ForFile set owned path

  abbrev two : Request
  two = ForFile more other_owned other

  abbrev both : Request
  both = ForFile (union set more) (owned && other_owned) path

  covers-either : (rule : Rule) (i : ℕ) → bit_at (covers both rule) i ≤ max (bit_at (covers one rule) i) (bit_at (covers two rule) i)
  covers-either rule i = by (applies both rule) refl
    where
      by : (there : Bool) → applies both rule ≡ there → bit_at (covers both rule) i ≤ max (bit_at (covers one rule) i) (bit_at (covers two rule) i)
      by false e = let none = covers-else both rule e i in omega arith
      by true e =
          let of_both = covers-there both rule e i in
          let of_one = covers-there one rule (applies-within one both (first-within one two same) rule e) i in
          let of_two = covers-there two rule (applies-within two both (second-within one two same) rule e) i in
          let bits = bit_at_or set more i in
          omega arith

  with-either : (test : Rule → Bool) (rules : List Rule) (a b c : ℕ) (i : ℕ) → bit_at c i ≤ max (bit_at a i) (bit_at b i)
      → bit_at (with_covered both test c rules) i ≤ max (bit_at (with_covered one test a rules) i) (bit_at (with_covered two test b rules) i)
  with-either test [] a b c i h = h
  with-either test (rule ∷ rules) a b c i h = by (test rule) refl (λ a b c. with-either test rules a b c i)
    where
      by : (passes : Bool) → test rule ≡ passes
          → ((a b c : ℕ) → bit_at c i ≤ max (bit_at a i) (bit_at b i)
          → bit_at (with_covered both test c rules) i ≤ max (bit_at (with_covered one test a rules) i) (bit_at (with_covered two test b rules) i))
          → bit_at (with_covered both test c (rule ∷ rules)) i ≤ max (bit_at (with_covered one test a (rule ∷ rules)) i) (bit_at (with_covered two test b (rule ∷ rules)) i)
      by false e rest = rw e (rest a b c h)
      by true e rest =
          rw e (rest (union a (covers one rule)) (union b (covers two rule)) (union c (covers both rule)) (
          let of_one = bit_at_or a (covers one rule) i in
          let of_two = bit_at_or b (covers two rule) i in
          let of_both = bit_at_or c (covers both rule) i in
          let less = covers-either rule i in
          omega arith))

  files-denied : (rules : List Rule) → denied one rules ≡ 0 → denied two rules ≡ 0 → denied both rules ≡ 0
  files-denied rules first second =
      same_from_bits (denied both rules) 0 (λ i.
      let zero_bit = bit_at-zero i in
      let less = with-either denies rules 0 0 0 i (omega arith) in
      let of_one : bit_at (denied one rules) i ≡ bit_at 0 i = ap (λ n. bit_at n i) first in
      let of_two : bit_at (denied two rules) i ≡ bit_at 0 i = ap (λ n. bit_at n i) second in
      omega arith)

pub none-denied : (one other : Request) (rules : List Rule) → AreOfOneThing one other → denied one rules ≡ 0 → denied other rules ≡ 0 → denied (joined one other) rules ≡ 0
none-denied (ForFile set owned path) (ForFile more other_owned other) rules same first second = files-denied set more owned other_owned path other same rules first second
none-denied (ForFile set owned path) (ForCapability number) rules same first second = first
none-denied (ForFile set owned path) (ForSockets domain kind) rules same first second = first
none-denied (ForCapability number) other rules same first second = first
none-denied (ForSockets domain kind) other rules same first second = first

-- where a request lacks something, so does what it is within
lacked-where : (request : Request) (rules : List Rule) → denied request rules ≡ 0 → lacked request rules ≡ missing request rules
lacked-where request rules none = let is : (denied request rules == 0) ≡ true = ap (λ n. n == 0) none in rw (lacked, is) refl

pub whole-lacks : (request whole : Request) (rules : List Rule) → IsWithin request whole → denied whole rules ≡ 0 → lacked request rules ≢ 0 → lacked whole rules ≢ 0
whole-lacks request whole rules within none some nothing = by (denied request rules == 0) refl
  where
    by : (d : Bool) → (denied request rules == 0) ≡ d → ⊥
    by false d = let is : lacked request rules ≡ 0 = rw (lacked, d) refl in some is
    by true d =
        let own = from-none (denied request rules) d in
        let few : missing whole rules ≡ 0 = sym (lacked-where whole rules none) ∙ nothing in
        some (lacked-where request rules own ∙ none-missing request whole rules within own none few)

-- rules that allow a request by themselves, behind others that deny nothing of it
module _ (request : Request) (rules further : List Rule) (none : denied request rules ≡ 0) where
  denied-further : denied request further ≡ 0 → denied request (rules ++ further) ≡ 0
  denied-further own =
      fold-append (with_rule request denies) 0 rules further ∙ ap (λ set. with_covered request denies set further) none ∙ own

  granted-further : (i : ℕ) → min (bit_at (needs request) i) (bit_at (granted request further) i) ≤ bit_at (granted request (rules ++ further)) i
  granted-further i =
      let more = with-within request request (within-itself request) allows further (granted request rules) 0 i (let zero_bit = bit_at-zero i in omega arith) in
      let whole : bit_at (granted request (rules ++ further)) i ≡ bit_at (with_covered request allows (granted request rules) further) i =
      ap (λ n. bit_at n i) (fold-append (with_rule request allows) 0 rules further) in
      omega (arith, more, whole)

  missing-further : denied request further ≡ 0 → missing request further ≡ 0 → missing request (rules ++ further) ≡ 0
  missing-further own few =
      missing-of request (rules ++ further) (denied-further own)
      ∙ same_from_bits (lacking (needs request) (granted request (rules ++ further))) 0 bits
    where
      below : (i : ℕ) → i < 8 → bit_at (lacking (needs request) (granted request (rules ++ further))) i ≡ bit_at 0 i
      below i low =
          let here = lacking-low (needs request) (granted request (rules ++ further)) i low in
          let there = lacking-low (needs request) (granted request further) i low in
          let gone : bit_at (lacking (needs request) (granted request further)) i ≡ bit_at 0 i = ap (λ n. bit_at n i) (sym (missing-of request further own) ∙ few) in
          let zero_bit = bit_at-zero i in
          let more = granted-further i in
          omega arith

      bits : (i : ℕ) → bit_at (lacking (needs request) (granted request (rules ++ further))) i ≡ bit_at 0 i
      bits i = elim (cases_lt i 8) [
        | inl low ↦ below i low
        | inr high ↦ lacking-high (needs request) (granted request (rules ++ further)) i high ∙ sym (bit_at-zero i)
      ]

pub allow-further : (mediation other : Mediation) (flag loud : Bool) (request : Request) (rules further : List Rule)
    → denied request rules ≡ 0 → (verdict other loud further request).answer ≡ Allow
    → (verdict mediation flag (rules ++ further) request).answer ≡ Allow
allow-further mediation other flag loud request rules further none allowed =
    let parts = allow-parts other loud further request allowed in
    allow-from mediation flag (rules ++ further) request (denied-further request rules further none parts.0)
    (missing-further request rules further none parts.0 parts.1)
