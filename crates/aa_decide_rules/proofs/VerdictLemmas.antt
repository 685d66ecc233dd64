-- What rules cover together depends on which rules there are, and on nothing else.
use Rattle.std.proofs.Common.{◌≡◌, ℕ, zero, suc, None, Some, ◌+◌, ◌-◌, ◌<◌, ◌≤◌, ◌^◌, Bool, true, false, not, List, [], ◌∷◌, drop, get_or, length, arith, refl, sym, ap, ◌∙◌, inl, inr, max, min, w8}
use Rattle.std.specs.Prelude.{if◌then◌else◌, bit_and, bit_or, slice_get, ◌==◌}
use Rattle.std.specs.Int.{bit_at}
use Rattle.std.specs.Int.Bits.{or_zero_l}
use Rattle.std.specs.List.{Contains, filter}
use Rattle.std.proofs.lemmas.Bool.{cases_lt}
use Rattle.std.proofs.lemmas.Bool.Decides.{nat_tests}
use Rattle.std.proofs.lemmas.Nat.{and_le_r, le_or_r}
use Rattle.std.proofs.lemmas.Nat.Bits.{bit_at-zero, bit_at_above, bit_at_and, bit_at_not, bit_at_ones, bit_at_or, same_from_bits}
use Rattle.aa_profile_data.specs.Access.{union, without}
use Rattle.aa_profile_data.specs.Request.{Request, ForFile}
use Rattle.aa_profile_data.specs.declared.profile.Rule.{Rule}
use Rattle.aa_profile_data.specs.declared.profile.Rule.TheVariants.{Cap, File, Net, Other}
use Rattle.aa_profile_data.specs.Matching.{is_matching}
use Rattle.aa_decide_rules.specs.Verdict.{allows, allows_aloud, applies, audited, covers, denied, denies, denies_aloud, granted, letters_among, loud, mask, missing, needs, verdict, with_covered, with_rule}
use Rattle.aa_decide_rules.specs.Found.{verdict_by}
use Rattle.aa_profile_data.specs.Picked.{picked}
use Rattle.aa_decide_rules.specs.VerdictLaws.{in_complain}
use Rattle.aa_decide_rules.specs.declared.judgement.Mediation.{Mediation}
use Rattle.aa_decide_rules.specs.declared.judgement.Mediation.TheVariants.{Complaining, Enforcing}
use Rattle.aa_profile_data.specs.SameRules.{HaveSameRules}
use Rattle.aa_decide_rules.specs.declared.verdict.Answer.TheVariants.{Allow, Complain, Deny, Refuse}
use Rattle.aa_decide_rules.specs.declared.verdict.Tag.TheVariants.{Allowed, Denied}
use Rattle.std.proofs.lemmas.List.{drop_more}

-- what is in either of two sets, or in a third
union-assoc : (a b c : ℕ) → union (union a b) c ≡ union a (union b c)
union-assoc a b c =
    same_from_bits (union (union a b) c) (union a (union b c)) (λ i.
    let left : bit_at (bit_or (bit_or a b) c) i ≡ max (max (bit_at a i) (bit_at b i)) (bit_at c i) = bit_at_or (bit_or a b) c i ∙ ap (λ x. max x (bit_at c i)) (bit_at_or a b i) in
    let right : bit_at (bit_or a (bit_or b c)) i ≡ max (bit_at a i) (max (bit_at b i) (bit_at c i)) = bit_at_or a (bit_or b c) i ∙ ap (max (bit_at a i)) (bit_at_or b c i) in
    omega arith)

module _ (contribution : Rule → ℕ) where
  -- what rules contribute together
  abbrev pub together : List Rule → ℕ
  together [] = 0
  together (rule ∷ rules) = union (contribution rule) (together rules)

  -- a rule that is there contributes what it does
  one-among : (rules : List Rule) (rule : Rule) (i : ℕ) → Contains rules rule → bit_at (contribution rule) i ≤ bit_at (together rules) i
  one-among [] rule i (k, within, is) = absurd (omega arith)
  one-among (first ∷ rules) rule i (zero, within, is) =
      let same : bit_at (contribution first) i ≡ bit_at (contribution rule) i = ap (λ rule. bit_at (contribution rule) i) is in
      let bits = bit_at_or (contribution first) (together rules) i in
      omega arith
  one-among (first ∷ rules) rule i (suc k, within, is) =
      let inside : k < length rules = omega arith in
      let rest = one-among rules rule i (k, inside, is) in
      let bits = bit_at_or (contribution first) (together rules) i in
      omega arith

  -- rules that are all among others contribute no more than those
  fewer : (rules others : List Rule) (i : ℕ) → ((rule : Rule) → Contains rules rule → Contains others rule) → bit_at (together rules) i ≤ bit_at (together others) i
  fewer [] others i among = let none = bit_at-zero i in omega arith
  fewer (rule ∷ rules) others i among =
      let some : 0 < length (rule ∷ rules) = omega arith in
      let here = one-among others rule i (among rule (0, some, refl)) in
      let rest = fewer rules others i (λ other there. let within : suc there.0 < length (rule ∷ rules) = let inside = there.1 in omega arith in among other (suc there.0, within, there.2)) in
      let bits = bit_at_or (contribution rule) (together rules) i in
      omega arith

  -- the same rules contribute the same
  pub together-same : (rules others : List Rule) → HaveSameRules rules others → together rules ≡ together others
  together-same rules others same =
      same_from_bits (together rules) (together others) (λ i. let less = fewer rules others i same.0 in let more = fewer others rules i same.1 in omega arith)

-- what a rule contributes to a mask: what it covers, where it passes a test
abbrev pub part : Request → (Rule → Bool) → Rule → ℕ
part request test rule = if test rule then covers request rule else 0

-- a mask is what its rules contribute together
mask-together : (request : Request) (test : Rule → Bool) (set : ℕ) (rules : List Rule) → with_covered request test set rules ≡ union set (together (part request test) rules)
mask-together request test set [] = same_from_bits set (union set 0) (λ i. let bits = bit_at_or set 0 i in let none = bit_at-zero i in omega arith)
mask-together request test set (rule ∷ rules) = by (test rule) refl (λ set. mask-together request test set rules)
  where
    by : (b : Bool) → test rule ≡ b → ((set : ℕ) → with_covered request test set rules ≡ union set (together (part request test) rules))
        → with_covered request test set (rule ∷ rules) ≡ union set (union (part request test rule) (together (part request test) rules))
    by false e rest = rw (e, part) (rest set ∙ ap (union set) (sym (or_zero_l (together (part request test) rules))))
    by true e rest = rw (e, part) (rest (union set (covers request rule)) ∙ union-assoc set (covers request rule) (together (part request test) rules))

mask-is : (request : Request) (test : Rule → Bool) (rules : List Rule) → mask request test rules ≡ together (part request test) rules
mask-is request test rules = mask-together request test 0 rules ∙ or_zero_l (together (part request test) rules)

-- the same rules make the same mask
mask-same : (request : Request) (test : Rule → Bool) (rules others : List Rule) → HaveSameRules rules others → mask request test rules ≡ mask request test others
mask-same request test rules others same = mask-is request test rules ∙ together-same (part request test) rules others same ∙ sym (mask-is request test others)

-- a rule more, behind those whose mask is known
pub mask-step : (request : Request) (test : Rule → Bool) (set next : ℕ) (rules : List Rule) (at : ℕ) (rule : Rule) → at < length rules → rule ≡ get_or rules at rule
    → next ≡ with_rule request test set rule → with_covered request test next (drop (at + 1) rules) ≡ with_covered request test set (drop at rules)
mask-step request test set next rules at rule within is n =
    ap (λ set. with_covered request test set (drop (at + 1) rules)) n
    ∙ sym (ap (with_covered request test set) (drop_more rules at rule within ∙ ap (λ rule. rule ∷ drop (at + 1) rules) (sym is)))

-- the same masks make the same verdict
verdict-masks : (mediation : Mediation) (flag : Bool) (rules others : List Rule) (request : Request) → ((test : Rule → Bool) → mask request test rules ≡ mask request test others)
    → verdict mediation flag rules request ≡ verdict mediation flag others request
verdict-masks mediation flag rules others request same =
    ap (λ d. verdict_by mediation request d (loud flag request rules) (granted request rules) (audited flag request rules)) (same denies)
    ∙ ap (λ l. verdict_by mediation request (denied request others) l (granted request rules) (audited flag request rules)) (same (denies_aloud flag))
    ∙ ap (λ g. verdict_by mediation request (denied request others) (loud flag request others) g (audited flag request rules)) (same allows)
    ∙ ap (verdict_by mediation request (denied request others) (loud flag request others) (granted request others)) (same (allows_aloud flag))

-- the order of the rules changes no verdict, nor does a rule that stands twice
pub verdict-order : (mediation : Mediation) (flag : Bool) (rules others : List Rule) (request : Request) → HaveSameRules rules others
    → verdict mediation flag rules request ≡ verdict mediation flag others request
verdict-order mediation flag rules others request same = verdict-masks mediation flag rules others request (λ test. mask-same request test rules others same)

-- a rule that doesn't apply covers nothing
with-unmatched : (letters : ℕ) (owned : Bool) (path : List ℕ) (test : Rule → Bool) (set : ℕ) (rule : Rule) → is_matching path rule ≡ false
    → with_rule (ForFile letters owned path) test set rule ≡ set
with-unmatched letters owned path test set rule m = by (test rule) refl
  where
    unmatched : (rule : Rule) → is_matching path rule ≡ false → applies (ForFile letters owned path) rule ≡ false
    unmatched (File rule) m = rw m refl
    unmatched (Cap rule) m = refl
    unmatched (Net rule) m = refl
    unmatched (Other rule) m = refl

    by : (b : Bool) → test rule ≡ b → with_rule (ForFile letters owned path) test set rule ≡ set
    by true e = rw (e, unmatched rule m) (same_from_bits (union set 0) set (λ i. let bits = bit_at_or set 0 i in let none = bit_at-zero i in omega arith))
    by false e = rw e refl

-- the rules that match a path cover what all do
with-matching : (letters : ℕ) (owned : Bool) (path : List ℕ) (test : Rule → Bool) (set : ℕ) (rules : List Rule)
    → with_covered (ForFile letters owned path) test set (filter (is_matching path) rules) ≡ with_covered (ForFile letters owned path) test set rules
with-matching letters owned path test set [] = refl
with-matching letters owned path test set (rule ∷ rules) = by (is_matching path rule) refl (λ set. with-matching letters owned path test set rules)
  where
    request : Request
    request = ForFile letters owned path

    by : (b : Bool) → is_matching path rule ≡ b
        → ((set : ℕ) → with_covered request test set (filter (is_matching path) rules) ≡ with_covered request test set rules)
        → with_covered request test set (filter (is_matching path) (rule ∷ rules)) ≡ with_covered request test set (rule ∷ rules)
    by true e rest = rw e (rest (with_rule request test set rule))
    by false e rest = rw e (rest set ∙ ap (λ set. with_covered request test set rules) (sym (with-unmatched letters owned path test set rule e)))

-- what the rules at the places of those that match a path say is what all say
pub verdict-matching : (mediation : Mediation) (flag : Bool) (rules : List Rule) (letters : ℕ) (owned : Bool) (path places : List ℕ)
    → picked rules places ≡ filter (is_matching path) rules
    → verdict mediation flag (picked rules places) (ForFile letters owned path) ≡ verdict mediation flag rules (ForFile letters owned path)
verdict-matching mediation flag rules letters owned path places found =
    ap (λ rules. verdict mediation flag rules (ForFile letters owned path)) found
    ∙ verdict-masks mediation flag (filter (is_matching path) rules) rules (ForFile letters owned path) (λ test. with-matching letters owned path test 0 rules)

-- complain mode changes what is refused alone
pub verdict-complain : (flag : Bool) (rules : List Rule) (request : Request) → verdict Complaining flag rules request ≡ in_complain (verdict Enforcing flag rules request)
verdict-complain flag rules request = by (denied request rules == 0) refl (missing request rules == 0) refl
  where
    by : (d : Bool) → (denied request rules == 0) ≡ d → (m : Bool) → (missing request rules == 0) ≡ m → verdict Complaining flag rules request ≡ in_complain (verdict Enforcing flag rules request)
    by false d m e = rw (verdict, d) refl
    by true d true e = rw (verdict, d, e) refl
    by true d false e =
        let enforce : verdict Enforcing flag rules request ≡ record { answer = Refuse; tag = Some Denied; mask = record { 0 = letters_among (missing request rules) } } = rw (verdict, d, e) refl in
        let complain : verdict Complaining flag rules request ≡ record { answer = Complain; tag = Some Allowed; mask = record { 0 = letters_among (missing request rules) } } = rw (verdict, d, e) refl in
        complain ∙ sym (ap in_complain enforce)

-- what isn't there is nothing
from-none : (n : ℕ) → (n == 0) ≡ true → n ≡ 0
from-none n h = grind (arith, nat_tests)

-- needs that a set lacks, where none is denied
abbrev lacking : ℕ → ℕ → ℕ
lacking needs granted = without needs (union 0 (without granted 0))

-- of a larger set no more are lacking
less-lacking : (needs granted more i : ℕ) → bit_at (lacking needs (union more granted)) i ≤ bit_at (lacking needs granted) i
less-lacking needs granted more i = elim (cases_lt i 8) [ inl low ↦ below low | inr high ↦ above high ]
  where
    kept : ℕ → ℕ
    kept set = bit_and set (2 ^ 8 - 1 - 0)

    small : (set : ℕ) → kept set < 2 ^ 8
    small set = let most = and_le_r set (2 ^ 8 - 1 - 0) in omega arith

    of : (set : ℕ) → bit_at (lacking needs set) i ≡ min (bit_at needs i) (bit_at (2 ^ 8 - 1 - kept set) i)
    of set = ap (λ b. bit_at (bit_and needs (2 ^ 8 - 1 - b)) i) (or_zero_l (kept set)) ∙ bit_at_and needs (2 ^ 8 - 1 - kept set) i

    below : i < 8 → bit_at (lacking needs (union more granted)) i ≤ bit_at (lacking needs granted) i
    below low =
        let ones : bit_at (2 ^ 8 - 1 - 0) i ≡ 1 = bit_at_ones 8 i low in
        let first = of granted in
        let second = of (union more granted) in
        let less = bit_at_not w8 (kept granted) i (small granted) low in
        let least = bit_at_not w8 (kept (union more granted)) i (small (union more granted)) low in
        let one = bit_at_and granted (2 ^ 8 - 1 - 0) i in
        let both = bit_at_and (union more granted) (2 ^ 8 - 1 - 0) i in
        let grown = bit_at_or more granted i in
        omega arith

    above : 8 ≤ i → bit_at (lacking needs (union more granted)) i ≤ bit_at (lacking needs granted) i
    above high =
        let small_rest : 2 ^ 8 - 1 - kept (union more granted) < 2 ^ 8 = omega arith in
        let none = bit_at_above (2 ^ 8 - 1 - kept (union more granted)) 8 i small_rest high in
        let second = of (union more granted) in
        omega arith

-- where none is lacking, none of a larger set is
none-lacking : (needs granted more : ℕ) → lacking needs granted ≡ 0 → lacking needs (union more granted) ≡ 0
none-lacking needs granted more h =
    same_from_bits (lacking needs (union more granted)) 0 (λ i.
    let less = less-lacking needs granted more i in
    let none : bit_at (lacking needs granted) i ≡ 0 = ap (λ n. bit_at n i) h ∙ bit_at-zero i in
    let zero_bit = bit_at-zero i in
    omega arith)

-- what a rule that fails a test contributes
part-none : (request : Request) (test : Rule → Bool) (rule : Rule) → test rule ≡ false → part request test rule ≡ 0
part-none request test rule h = rw (part, h) refl

-- what is allowed has no need that is denied, and none that is missing
allow-parts : (mediation : Mediation) (flag : Bool) (rules : List Rule) (request : Request) → (verdict mediation flag rules request).answer ≡ Allow
    → (denied request rules ≡ 0) × (missing request rules ≡ 0)
allow-parts mediation flag rules request h = by mediation (denied request rules == 0) refl (missing request rules == 0) refl h
  where
    by : (mediation : Mediation) (d : Bool) → (denied request rules == 0) ≡ d → (m : Bool) → (missing request rules == 0) ≡ m → (verdict mediation flag rules request).answer ≡ Allow
        → (denied request rules ≡ 0) × (missing request rules ≡ 0)
    by mediation false d m e h = let wrong : Deny ≡ Allow = rw (verdict, d) at h in absurd (cc)
    by Enforcing true d false e h = let wrong : Refuse ≡ Allow = rw (verdict, d, e) at h in absurd (cc)
    by Complaining true d false e h = let wrong : Complain ≡ Allow = rw (verdict, d, e) at h in absurd (cc)
    by mediation true d true e h = (from-none (denied request rules) d, from-none (missing request rules) e)

-- and such needs are allowed
allow-from : (mediation : Mediation) (flag : Bool) (rules : List Rule) (request : Request) → denied request rules ≡ 0 → missing request rules ≡ 0
    → (verdict mediation flag rules request).answer ≡ Allow
allow-from mediation flag rules request d m =
    let none : (denied request rules == 0) ≡ true = ap (λ n. n == 0) d in
    let few : (missing request rules == 0) ≡ true = ap (λ n. n == 0) m in
    rw (verdict, none, few) refl

-- what is missing where nothing is denied
missing-of : (request : Request) (rules : List Rule) → denied request rules ≡ 0 → missing request rules ≡ lacking (needs request) (granted request rules)
missing-of request rules none = ap (λ n. without (needs request) (union n (without (granted request rules) n))) none

-- a mask with one rule more
mask-more : (request : Request) (test : Rule → Bool) (rule : Rule) (rules : List Rule) → mask request test (rule ∷ rules) ≡ union (part request test rule) (mask request test rules)
mask-more request test rule rules = mask-is request test (rule ∷ rules) ∙ ap (union (part request test rule)) (sym (mask-is request test rules))

-- a rule that fails the test leaves the mask
mask-else : (request : Request) (test : Rule → Bool) (rule : Rule) (rules : List Rule) → test rule ≡ false → mask request test (rule ∷ rules) ≡ mask request test rules
mask-else request test rule rules h =
    mask-more request test rule rules ∙ ap (λ n. union n (mask request test rules)) (part-none request test rule h) ∙ or_zero_l (mask request test rules)

-- one allow rule more leaves what is allowed
pub verdict-allow : (mediation : Mediation) (flag : Bool) (rule : Rule) (rules : List Rule) (request : Request) → denies rule ≡ false → (verdict mediation flag rules request).answer ≡ Allow
    → (verdict mediation flag (rule ∷ rules) request).answer ≡ Allow
verdict-allow mediation flag rule rules request h before =
    let parts = allow-parts mediation flag rules request before in
    let none : denied request (rule ∷ rules) ≡ 0 = mask-else request denies rule rules h ∙ parts.0 in
    let few : lacking (needs request) (granted request rules) ≡ 0 = sym (missing-of request rules parts.0) ∙ parts.1 in
    allow-from mediation flag (rule ∷ rules) request none
    (missing-of request (rule ∷ rules) none ∙ ap (λ set. lacking (needs request) set) (mask-more request allows rule rules)
    ∙ none-lacking (needs request) (granted request rules) (part request allows rule) few)

-- one deny rule more allows nothing that wasn't
pub verdict-deny : (mediation : Mediation) (flag : Bool) (rule : Rule) (rules : List Rule) (request : Request) → denies rule ≡ true → (verdict mediation flag (rule ∷ rules) request).answer ≡ Allow
    → (verdict mediation flag rules request).answer ≡ Allow
verdict-deny mediation flag rule rules request h before =
    let parts = allow-parts mediation flag (rule ∷ rules) request before in
    let most = le_or_r (part request denies rule) (denied request rules) in
    let all : union (part request denies rule) (denied request rules) ≡ 0 = sym (mask-more request denies rule rules) ∙ parts.0 in
    let none : denied request rules ≡ 0 = omega arith in
    let same : granted request (rule ∷ rules) ≡ granted request rules = mask-else request allows rule rules (ap not h) in
    allow-from mediation flag rules request none
    (missing-of request rules none ∙ ap (λ set. lacking (needs request) set) (sym same) ∙ sym (missing-of request (rule ∷ rules) parts.0) ∙ parts.1)

-- a rule more, before others whose mask is known
pub pick-step : (request : Request) (test : Rule → Bool) (set next : ℕ) (rules : List Rule) (place : ℕ) (places : List ℕ) (rule : Rule) → slice_get rules place ≡ Some rule
    → next ≡ with_rule request test set rule → with_covered request test next (picked rules places) ≡ with_covered request test set (picked rules (place ∷ places))
pick-step request test set next rules place places rule is n = rw (picked, is, n) refl

pub pick-none : (request : Request) (test : Rule → Bool) (set : ℕ) (rules : List Rule) (place : ℕ) (places : List ℕ) → slice_get rules place ≡ None
    → with_covered request test set (picked rules places) ≡ with_covered request test set (picked rules (place ∷ places))
pick-none request test set rules place places is = rw (picked, is) refl
