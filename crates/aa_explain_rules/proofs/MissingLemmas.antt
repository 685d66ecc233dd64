-- A request is allowed with the rule that it lacks.
use Rattle.std.proofs.Common.{◌≡◌, ◌≢◌, ◌∙◌, ℕ, zero, suc, ◌-◌, ◌^◌, ◌<◌, ◌≤◌, Bool, true, false, List, [], ◌∷◌, ◌++◌, None, Some, Result, Ok, Err, IsTrue, ◌↔◌, refl, sym, ap, arith, inl, inr, min, w8}
use Rattle.std.specs.Prelude.{bit_and, ◌&&◌, ◌==◌, nat_le, nat_lt, if◌then◌else◌, is_ok, is_some, length}
use Rattle.std.specs.Int.{bit_at}
use Rattle.std.specs.Int.Bits.{or_zero_l}
use Rattle.std.proofs.lemmas.Bool.{cases_lt, false≢true}
use Rattle.std.proofs.lemmas.Bool.Decides.{nat_tests}
use Rattle.std.proofs.lemmas.List.Sums.{fold-append}
use Rattle.std.proofs.lemmas.Nat.{and_le_r}
use Rattle.std.proofs.lemmas.Nat.Bits.{bit_at-pow_same, bit_at-zero, bit_at_above, bit_at_and, bit_at_not, bit_at_ones, bit_at_or, same_from_bits}
use Rattle.aa_glob.specs.Laws.{bytes_pattern, quoted}
use Rattle.aa_glob_syntax.specs.Items.{Pattern}
use Rattle.aa_glob_syntax.specs.Matching.{matches}
use Rattle.aa_glob_syntax.specs.Reading.{HasNoFirstFault, begins_with_slash, has_zero, items_of, longest, reading}
use Rattle.aa_glob_syntax.specs.declared.pattern_error.PatternError.{PatternError}
use Rattle.aa_glob_syntax.specs.declared.pattern_error.PatternError.TheVariants.{NotAbsolute, TooLong, ZeroByte}
use Rattle.aa_profile_data.specs.Access.{EXEC, common, covered, union, without}
use Rattle.aa_profile_data.specs.Request.{ForCapability, ForFile, ForSockets, Request}
use Rattle.aa_decide_rules.specs.declared.judgement.Mediation.{Mediation}
use Rattle.aa_profile_data.specs.declared.profile.Rule.{Rule}
use Rattle.aa_profile_data.specs.declared.profile.Rule.TheVariants.{Cap, File, Net}
use Rattle.aa_profile_data.specs.Kinds.{is_protocol, type_of}
use Rattle.aa_decide_rules.specs.declared.verdict.Answer.TheVariants.{Allow}
use Rattle.aa_decide_rules.specs.Verdict.{allows, applies, covered_by, covers, denied, denies, granted, mask, missing, needs, verdict, with_rule}
use Rattle.aa_explain_rules.specs.Missing.{cap_rule_for, file_rule_for, lacked, letters_for, missing_rule, net_rule_for, rule_for, transition_for}

-- what is missing where nothing is denied
abbrev pub lacking : ℕ → ℕ → ℕ
lacking needs granted = without needs (union 0 (without granted 0))

-- its bits
module _ (needs granted : ℕ) where
  abbrev kept : ℕ
  kept = bit_and granted (2 ^ 8 - 1 - 0)

  kept-small : kept < 2 ^ 8
  kept-small = let most = and_le_r granted (2 ^ 8 - 1 - 0) in omega arith

  lacking-bit : (i : ℕ) → bit_at (lacking needs granted) i ≡ min (bit_at needs i) (bit_at (2 ^ 8 - 1 - kept) i)
  lacking-bit i = ap (λ b. bit_at (bit_and needs (2 ^ 8 - 1 - b)) i) (or_zero_l kept) ∙ bit_at_and needs (2 ^ 8 - 1 - kept) i

  pub lacking-low : (i : ℕ) → i < 8 → bit_at (lacking needs granted) i ≡ min (bit_at needs i) (1 - min (bit_at granted i) 1)
  lacking-low i low =
      let ones : bit_at (2 ^ 8 - 1 - 0) i ≡ 1 = bit_at_ones 8 i low in
      let bits = lacking-bit i in
      let rest = bit_at_not w8 kept i kept-small low in
      let own = bit_at_and granted (2 ^ 8 - 1 - 0) i in
      omega arith

  pub lacking-high : (i : ℕ) → 8 ≤ i → bit_at (lacking needs granted) i ≡ 0
  lacking-high i high =
      let small : 2 ^ 8 - 1 - kept < 2 ^ 8 = omega arith in
      let none = bit_at_above (2 ^ 8 - 1 - kept) 8 i small high in
      let bits = lacking-bit i in
      omega arith

-- with needs that have all that is missing, nothing is
filled : (needs granted more : ℕ) → ((i : ℕ) → bit_at (lacking needs granted) i ≤ bit_at more i) → lacking needs (union granted (common needs more)) ≡ 0
filled needs granted more all = same_from_bits (lacking needs (union granted (common needs more))) 0 (λ i. elim (cases_lt i 8) [ inl low ↦ below i low | inr high ↦ lacking-high needs (union granted (common needs more)) i high ∙ sym (bit_at-zero i) ])
  where
    below : (i : ℕ) → i < 8 → bit_at (lacking needs (union granted (common needs more))) i ≡ bit_at 0 i
    below i low =
        let before = lacking-low needs granted i low in
        let after = lacking-low needs (union granted (common needs more)) i low in
        let both = bit_at_or granted (common needs more) i in
        let own = bit_at_and needs more i in
        let most = all i in
        let none = bit_at-zero i in
        omega arith

-- a mask with one rule more behind the others
pub mask-behind : (request : Request) (test : Rule → Bool) (rules : List Rule) (rule : Rule) → mask request test (rules ++ rule ∷ []) ≡ with_rule request test (mask request test rules) rule
mask-behind request test rules rule = fold-append (with_rule request test) 0 rules (rule ∷ [])

-- one allow rule more that has all that is missing lets the request
module _ (request : Request) (rules : List Rule) (rule : Rule) (lets : denies rule ≡ false) (there : applies request rule ≡ true) (none : denied request rules ≡ 0)
    (all : (i : ℕ) → bit_at (missing request rules) i ≤ bit_at (covered_by rule) i) where
  none-denied-then : denied request (rules ++ rule ∷ []) ≡ 0
  none-denied-then = let same : with_rule request denies (denied request rules) rule ≡ denied request rules = rw (with_rule, lets) refl in mask-behind request denies rules rule ∙ same ∙ none

  granted-then : granted request (rules ++ rule ∷ []) ≡ union (granted request rules) (common (needs request) (covered_by rule))
  granted-then =
      let more : with_rule request allows (granted request rules) rule ≡ union (granted request rules) (common (needs request) (covered_by rule)) = rw (with_rule, allows, covers, lets, there) refl in
      mask-behind request allows rules rule ∙ more

  missing-before : missing request rules ≡ lacking (needs request) (granted request rules)
  missing-before = ap (λ n. without (needs request) (union n (without (granted request rules) n))) none

  none-missing-then : missing request (rules ++ rule ∷ []) ≡ 0
  none-missing-then =
      ap (λ n. without (needs request) (union n (without (granted request (rules ++ rule ∷ [])) n))) none-denied-then
      ∙ ap (lacking (needs request)) granted-then
      ∙ filled (needs request) (granted request rules) (covered_by rule) (λ i. let most = all i in let same : bit_at (missing request rules) i ≡ bit_at (lacking (needs request) (granted request rules)) i = ap (λ n. bit_at n i) missing-before in omega arith)

  allowed-then : (mediation : Mediation) (flag : Bool) → (verdict mediation flag (rules ++ rule ∷ []) request).answer ≡ Allow
  allowed-then mediation flag =
      let none : (denied request (rules ++ rule ∷ []) == 0) ≡ true = ap (λ n. n == 0) none-denied-then in
      let few : (missing request (rules ++ rule ∷ []) == 0) ≡ true = ap (λ n. n == 0) none-missing-then in
      rw (verdict, none, few) refl

-- a rule on files that is made for some needs covers them: of the 256 sets that needs can be each does
abbrev pub covered_for : ℕ → ℕ
covered_for needs = if is_some (transition_for needs) then union (covered (letters_for needs)) EXEC else covered (letters_for needs)

abbrev fits : ℕ → Bool
fits needs = common needs (covered_for needs) == needs

abbrev all_fit : ℕ → Bool
all_fit zero = true
all_fit (suc n) = fits n && all_fit n

one-fits : (n needs : ℕ) → all_fit n ≡ true → needs < n → fits needs ≡ true
one-fits zero needs all less = absurd (omega arith)
one-fits (suc n) needs all less = by (fits n) refl (all_fit n) refl all (one-fits n needs)
  where
    by : (f : Bool) → fits n ≡ f → (a : Bool) → all_fit n ≡ a → (f && a) ≡ true → (all_fit n ≡ true → needs < n → fits needs ≡ true) → fits needs ≡ true
    by false e a d both rest = absurd (false≢true both)
    by true e false d both rest = absurd (false≢true both)
    by true e true d both rest = elim (cases_lt needs n) [ inl below ↦ rest d below | inr above ↦ let same : n ≡ needs = omega arith in ap fits (sym same) ∙ e ]

all-fit : all_fit 256 ≡ true
all-fit = refl

has-all : (needs more i : ℕ) → common needs more ≡ needs → bit_at needs i ≤ bit_at more i
has-all needs more i same =
    let bits = bit_at_and needs more i in
    let whole : bit_at (bit_and needs more) i ≡ bit_at needs i = ap (λ n. bit_at n i) same in
    omega arith

covers-for : (needs i : ℕ) → needs < 256 → bit_at needs i ≤ bit_at (covered_for needs) i
covers-for needs i small =
    let fine : fits needs ≡ true = one-fits 256 needs all-fit small in
    let same : common needs (covered_for needs) ≡ needs = grind (arith, nat_tests) in
    has-all needs (covered_for needs) i same

-- what is missing is a set of eight bits
pub missing-small : (request : Request) (rules : List Rule) → missing request rules < 256
missing-small request rules = let most = and_le_r (needs request) (2 ^ 8 - 1 - union (denied request rules) (without (granted request rules) (denied request rules))) in omega arith

-- none of it is above what is needed
pub missing-needed : (request : Request) (rules : List Rule) (i : ℕ) → bit_at (missing request rules) i ≤ bit_at (needs request) i
missing-needed request rules i = let bits = bit_at_and (needs request) (2 ^ 8 - 1 - union (denied request rules) (without (granted request rules) (denied request rules))) i in omega arith

-- where a rule is missing, nothing is denied, and it is one for what is missing
abbrev pub IsFor : Request → List Rule → Rule → Type 0
IsFor request rules rule = (denied request rules ≡ 0) × (rule_for request (missing request rules) ≡ Some rule)

pub made : (request : Request) (rules : List Rule) (rule : Rule) → missing_rule request rules ≡ Some rule → IsFor request rules rule
made request rules rule h = by (denied request rules == 0) refl (lacked request rules == 0) refl h
  where
    by : (d : Bool) → (denied request rules == 0) ≡ d → (b : Bool) → (lacked request rules == 0) ≡ b → missing_rule request rules ≡ Some rule → IsFor request rules rule
    by d e true b h = let wrong : None ≡ Some rule = rw (missing_rule, b) at h in absurd (cc)
    by false e false b h = let wrong : (0 == 0) ≡ false = rw (lacked, e) at b in absurd (false≢true (sym wrong))
    by true e false b h =
        let none : denied request rules ≡ 0 = grind (arith, nat_tests) in
        let same : lacked request rules ≡ missing request rules = rw (lacked, e) refl in
        let own : rule_for request (lacked request rules) ≡ Some rule = rw (missing_rule, b) at h in
        (none, ap (rule_for request) (sym same) ∙ own)

-- a text that reads as a pattern has none of the faults that are told first
reads-fine : (text : List ℕ) (items : Pattern) → reading text ≡ Ok items → HasNoFirstFault text
reads-fine text items reads = by (nat_le (length text) longest) refl (has_zero text) refl (begins_with_slash text) refl reads
  where
    by : (l : Bool) → nat_le (length text) longest ≡ l → (z : Bool) → has_zero text ≡ z → (s : Bool) → begins_with_slash text ≡ s → reading text ≡ Ok items → HasNoFirstFault text
    by false l z hold s slash reads = let wrong : Err TooLong ≡ Ok items = rw (reading, l) at reads in absurd (cc)
    by true l true hold s slash reads = let wrong : Err ZeroByte ≡ Ok items = rw (reading, l, hold) at reads in absurd (cc)
    by true l false hold false slash reads = let wrong : Err NotAbsolute ≡ Ok items = rw (reading, l, hold, slash) at reads in absurd (cc)
    by true l false hold true slash reads = let few : length text ≤ longest = grind (arith, nat_tests) in (few, hold, slash)

-- the rule that some needs of a file make, and that its path can be written as a pattern
pub file-made : (letters : ℕ) (owned : Bool) (path : List ℕ) (needs : ℕ) (rule : Rule) → rule_for (ForFile letters owned path) needs ≡ Some rule
    → (rule ≡ File (file_rule_for owned path needs)) × HasNoFirstFault (quoted path)
file-made letters owned path needs rule h = by (reading (quoted path)) refl
  where
    own : Rule
    own = File (file_rule_for owned path needs)

    by : (r : Result Pattern PatternError) → reading (quoted path) ≡ r → (rule ≡ own) × HasNoFirstFault (quoted path)
    by (Err error) e = let wrong : None ≡ Some rule = sym (ap (λ r. if is_ok r then Some own else None) e) ∙ h in absurd (cc)
    by (Ok items) e =
        let same : Some own ≡ Some rule = sym (ap (λ r. if is_ok r then Some own else None) e) ∙ h in
        let is : own ≡ rule = cc in
        (sym is, reads-fine (quoted path) items e)

abbrev pub ReadsAsItself : Type 0
ReadsAsItself = (text : List ℕ) → HasNoFirstFault (quoted text) → reading (quoted text) ≡ Ok (bytes_pattern text)

abbrev pub MatchesItself : Type 0
MatchesItself = (text path : List ℕ) → HasNoFirstFault (quoted text) → (IsTrue (matches (items_of (quoted text)) path) ↔ (path ≡ text))

-- a rule for a file applies to the request that it is made for
pub file-applies : MatchesItself → (letters : ℕ) (owned : Bool) (path : List ℕ) (needs : ℕ) → HasNoFirstFault (quoted path)
    → applies (ForFile letters owned path) (File (file_rule_for owned path needs)) ≡ true
file-applies matched letters owned path needs fine = by owned
  where
    own : matches (items_of (quoted path)) path ≡ true
    own = (matched path path fine).1 refl

    by : (owned : Bool) → applies (ForFile letters owned path) (File (file_rule_for owned path needs)) ≡ true
    by true = rw own refl
    by false = rw own refl

-- and so do those for a capability and for sockets
cap-applies : (number : ℕ) → applies (ForCapability number) (Cap (cap_rule_for number)) ≡ true
cap-applies number = ap (λ n. n == 1) (bit_at-pow_same number)

net-applies : (domain kind : ℕ) → is_protocol kind ≡ false → applies (ForSockets domain kind) (Net (net_rule_for domain kind)) ≡ true
net-applies domain kind type =
    let few : kind < 6 = grind (arith, nat_tests) in
    let first : (kind == 6) ≡ false = grind (arith, nat_tests) in
    let second : (kind == 7) ≡ false = grind (arith, nat_tests) in
    let third : (kind == 8) ≡ false = grind (arith, nat_tests) in
    let same : (kind == kind) ≡ true = grind (arith, nat_tests) in
    let here : (domain == domain) ≡ true = grind (arith, nat_tests) in
    rw (type_of, first, second, third, same, here, type) refl

-- with the rule that it lacks, a request is allowed
pub lets : MatchesItself → (mediation : Mediation) (flag : Bool) (request : Request) (rules : List Rule) (rule : Rule) → missing_rule request rules ≡ Some rule
    → (verdict mediation flag (rules ++ rule ∷ []) request).answer ≡ Allow
lets matched mediation flag request rules rule h = let own = made request rules rule h in by request rules own.0 own.1
  where
    by : (request : Request) (rules : List Rule) → denied request rules ≡ 0 → rule_for request (missing request rules) ≡ Some rule → (verdict mediation flag (rules ++ rule ∷ []) request).answer ≡ Allow
    by (ForFile letters owned path) rules none h =
        let (is, fine) = file-made letters owned path (missing asked rules) rule h in
        ap (λ rule. (verdict mediation flag (rules ++ rule ∷ []) asked).answer) is
        ∙ allowed-then asked rules (File (file_rule_for owned path (missing asked rules))) refl (file-applies matched letters owned path (missing asked rules) fine) none
        (λ i. covers-for (missing asked rules) i (missing-small asked rules)) mediation flag
      where
        asked : Request
        asked = ForFile letters owned path
    by (ForCapability number) rules none h = of (nat_lt number 64) refl h
      where
        asked : Request
        asked = ForCapability number

        own : Rule
        own = Cap (cap_rule_for number)

        of : (b : Bool) → nat_lt number 64 ≡ b → rule_for asked (missing asked rules) ≡ Some rule → (verdict mediation flag (rules ++ rule ∷ []) asked).answer ≡ Allow
        of false e h = let wrong : None ≡ Some rule = rw e at h in absurd (cc)
        of true e h =
            let same : Some own ≡ Some rule = rw e at h in
            let is : own ≡ rule = cc in
            ap (λ rule. (verdict mediation flag (rules ++ rule ∷ []) asked).answer) (sym is)
            ∙ allowed-then asked rules own refl (cap-applies number) none (missing-needed asked rules) mediation flag
    by (ForSockets domain kind) rules none h = of (is_protocol kind) refl h
      where
        asked : Request
        asked = ForSockets domain kind

        own : Rule
        own = Net (net_rule_for domain kind)

        of : (b : Bool) → is_protocol kind ≡ b → rule_for asked (missing asked rules) ≡ Some rule → (verdict mediation flag (rules ++ rule ∷ []) asked).answer ≡ Allow
        of true e h = let wrong : None ≡ Some rule = rw e at h in absurd (cc)
        of false e h =
            let same : Some own ≡ Some rule = rw e at h in
            let is : own ≡ rule = cc in
            ap (λ rule. (verdict mediation flag (rules ++ rule ∷ []) asked).answer) (sym is)
            ∙ allowed-then asked rules own refl (net-applies domain kind e) none (missing-needed asked rules) mediation flag

-- where something is lacked that a rule can be written for, that is missing
there : (request : Request) (rules : List Rule) (rule : Rule) → lacked request rules ≢ 0 → rule_for request (lacked request rules) ≡ Some rule → missing_rule request rules ≡ Some rule
there request rules rule some h =
    let more : (lacked request rules == 0) ≡ false = grind (arith, nat_tests) in
    rw (missing_rule, more) h

pub of-path : ReadsAsItself → (letters : ℕ) (owned : Bool) (path : List ℕ) (rules : List Rule) → lacked (ForFile letters owned path) rules ≢ 0 → HasNoFirstFault (quoted path)
    → (rule : Rule) × (missing_rule (ForFile letters owned path) rules ≡ Some rule)
of-path reads letters owned path rules some fine =
    let own = File (file_rule_for owned path (lacked (ForFile letters owned path) rules)) in
    let is = reads path fine in
    let made : rule_for (ForFile letters owned path) (lacked (ForFile letters owned path) rules) ≡ Some own = rw is refl in
    (own, there (ForFile letters owned path) rules own some made)

pub of-capability : (number : ℕ) (rules : List Rule) → lacked (ForCapability number) rules ≢ 0 → number < 64
    → (rule : Rule) × (missing_rule (ForCapability number) rules ≡ Some rule)
of-capability number rules some few =
    let own = Cap (cap_rule_for number) in
    let is : nat_lt number 64 ≡ true = grind (arith, nat_tests) in
    let made : rule_for (ForCapability number) (lacked (ForCapability number) rules) ≡ Some own = rw is refl in
    (own, there (ForCapability number) rules own some made)

pub of-type : (domain kind : ℕ) (rules : List Rule) → lacked (ForSockets domain kind) rules ≢ 0 → is_protocol kind ≡ false
    → (rule : Rule) × (missing_rule (ForSockets domain kind) rules ≡ Some rule)
of-type domain kind rules some type =
    let own = Net (net_rule_for domain kind) in
    let made : rule_for (ForSockets domain kind) (lacked (ForSockets domain kind) rules) ≡ Some own = rw type refl in
    (own, there (ForSockets domain kind) rules own some made)
