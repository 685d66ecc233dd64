-- Nothing less than all that a request lacks lets it.
use Rattle.std.proofs.Common.{◌≡◌, ◌≢◌, ◌∙◌, ℕ, zero, suc, ◌<◌, ◌≤◌, Bool, true, false, not, ◌||◌, List, [], ◌∷◌, ◌++◌, None, Some, refl, sym, ap, arith, inl, inr}
use Rattle.std.specs.Prelude.{◌&&◌, ◌==◌, if◌then◌else◌, is_some}
use Rattle.std.specs.Int.{bit_at}
use Rattle.std.proofs.lemmas.Bool.{cases_lt, false≢true}
use Rattle.std.proofs.lemmas.Bool.Decides.{nat_tests}
use Rattle.std.proofs.lemmas.Nat.Bits.{bit_at-zero, bit_at_and, bit_at_or, same_from_bits}
use Rattle.aa_profile_data.specs.Access.{EXEC, bit_in, common, covered, exec_letter, has, letters as all_of_letters, told_bit, union, without}
use Rattle.aa_profile_data.specs.Request.{ForFile, Request}
use Rattle.aa_profile_data.specs.declared.profile.FileRule.{FileRule}
use Rattle.aa_decide_rules.specs.declared.judgement.Mediation.{Mediation}
use Rattle.aa_decide_rules.specs.declared.judgement.Mediation.TheVariants.{Complaining, Enforcing}
use Rattle.aa_profile_data.specs.declared.profile.Rule.{Rule}
use Rattle.aa_profile_data.specs.declared.profile.Rule.TheVariants.{File}
use Rattle.aa_decide_rules.specs.declared.verdict.Answer.TheVariants.{Allow}
use Rattle.aa_decide_rules.specs.Verdict.{allows, applies, covered_by_file, covers, denied, denies, granted, missing, needs, verdict, with_rule}
use Rattle.aa_explain_rules.specs.Missing.{file_rule_for, lacked, letters_for, missing_rule, rule_for, transition_for}
use Rattle.aa_explain_rules.specs.Narrower.{but_letter, has_letter}
use Rattle.aa_explain_rules.proofs.MissingLemmas.{file-made, lacking, lacking-high, lacking-low, made, mask-behind, missing-small}

-- what is allowed lacks nothing, and nothing of it is denied
abbrev pub IsWhole : Request → List Rule → Type 0
IsWhole request rules = (denied request rules ≡ 0) × (missing request rules ≡ 0)

pub allowed-whole : (mediation : Mediation) (flag : Bool) (request : Request) (rules : List Rule) → (verdict mediation flag rules request).answer ≡ Allow → IsWhole request rules
allowed-whole mediation flag request rules h = by (denied request rules == 0) refl (missing request rules == 0) refl mediation h
  where
    by : (d : Bool) → (denied request rules == 0) ≡ d → (m : Bool) → (missing request rules == 0) ≡ m → (mediation : Mediation) → (verdict mediation flag rules request).answer ≡ Allow → IsWhole request rules
    by true e true f mediation h = let none : denied request rules ≡ 0 = grind (arith, nat_tests) in let few : missing request rules ≡ 0 = grind (arith, nat_tests) in (none, few)
    by true e false f Enforcing h = let wrong = rw (verdict, e, f) at h in absurd (cc)
    by true e false f Complaining h = let wrong = rw (verdict, e, f) at h in absurd (cc)
    by false e m f mediation h = let wrong = rw (verdict, e) at h in absurd (cc)

-- what a request lacks is something that is missing, where a rule is made for it
pub lacks-something : (request : Request) (rules : List Rule) (rule : Rule) → missing_rule request rules ≡ Some rule → lacked request rules ≢ 0
lacks-something request rules rule h none =
    let nothing : (lacked request rules == 0) ≡ true = ap (λ n. n == 0) none in
    let wrong : None ≡ Some rule = rw (missing_rule, nothing) at h in
    absurd (cc)

pub lacked-missing : (request : Request) (rules : List Rule) → denied request rules ≡ 0 → lacked request rules ≡ missing request rules
lacked-missing request rules none = let e : (denied request rules == 0) ≡ true = ap (λ n. n == 0) none in rw (lacked, e) refl

-- as the rules are, the request isn't allowed
pub not-allowed-now : (mediation : Mediation) (flag : Bool) (request : Request) (rules : List Rule) (rule : Rule) → missing_rule request rules ≡ Some rule → (verdict mediation flag rules request).answer ≢ Allow
not-allowed-now mediation flag request rules rule h allowed =
    let whole = allowed-whole mediation flag request rules allowed in
    lacks-something request rules rule h (lacked-missing request rules whole.0 ∙ whole.1)

-- needs that are all there with some more are among these
among-more : (needs granted more : ℕ) → lacking needs (union granted more) ≡ 0 → common (lacking needs granted) more ≡ lacking needs granted
among-more needs granted more none = same_from_bits (common (lacking needs granted) more) (lacking needs granted) (λ i. elim (cases_lt i 8) [ inl low ↦ below i low | inr high ↦ above i high ])
  where
    below : (i : ℕ) → i < 8 → bit_at (common (lacking needs granted) more) i ≡ bit_at (lacking needs granted) i
    below i low =
        let before = lacking-low needs granted i low in
        let after = lacking-low needs (union granted more) i low in
        let nothing : bit_at (lacking needs (union granted more)) i ≡ bit_at 0 i = ap (λ n. bit_at n i) none in
        let zero = bit_at-zero i in
        let both = bit_at_or granted more i in
        let own = bit_at_and (lacking needs granted) more i in
        omega arith

    above : (i : ℕ) → 8 ≤ i → bit_at (common (lacking needs granted) more) i ≡ bit_at (lacking needs granted) i
    above i high = let none = lacking-high needs granted i high in let own = bit_at_and (lacking needs granted) more i in omega arith

common-none : (more : ℕ) → common 0 more ≡ 0
common-none more = same_from_bits (common 0 more) 0 (λ i. let own = bit_at_and 0 more i in let zero = bit_at-zero i in omega arith)

-- a rule with which a request is allowed covers all that it lacks
pub covers-all : (mediation : Mediation) (flag : Bool) (request : Request) (rules : List Rule) (other : Rule) → (verdict mediation flag (rules ++ other ∷ []) request).answer ≡ Allow
    → common (lacked request rules) (covers request other) ≡ lacked request rules
covers-all mediation flag request rules other h = by (denied request rules == 0) refl (denies other) refl
  where
    whole : IsWhole request (rules ++ other ∷ [])
    whole = allowed-whole mediation flag request (rules ++ other ∷ []) h

    then_missing : ℕ → ℕ → ℕ
    then_missing d g = without (needs request) (union d (without g d))

    granted_then : granted request (rules ++ other ∷ []) ≡ with_rule request allows (granted request rules) other
    granted_then = mask-behind request allows rules other

    Goal : Type 0
    Goal = common (lacked request rules) (covers request other) ≡ lacked request rules

    nothing : lacked request rules ≡ 0 → Goal
    nothing none = ap (λ n. common n (covers request other)) none ∙ common-none (covers request other) ∙ sym none

    by : (d : Bool) → (denied request rules == 0) ≡ d → (b : Bool) → denies other ≡ b → Goal
    by false e b f = let none : lacked request rules ≡ 0 = rw (lacked, e) refl in nothing none
    by true e true f =
        let none : denied request rules ≡ 0 = grind (arith, nat_tests) in
        let alike : with_rule request allows (granted request rules) other ≡ granted request rules = rw (with_rule, allows, f) refl in
        let few : missing request rules ≡ 0 =
        ap (λ d. without (needs request) (union d (without (granted request rules) d))) (none ∙ sym whole.0)
        ∙ ap (λ g. without (needs request) (union (denied request (rules ++ other ∷ [])) (without g (denied request (rules ++ other ∷ []))))) (sym (granted_then ∙ alike))
        ∙ whole.1 in
        nothing (lacked-missing request rules none ∙ few)
    by true e false f =
        let none : denied request rules ≡ 0 = grind (arith, nat_tests) in
        let more : with_rule request allows (granted request rules) other ≡ union (granted request rules) (covers request other) = rw (with_rule, allows, f) refl in
        let few : lacking (needs request) (union (granted request rules) (covers request other)) ≡ 0 =
        ap (lacking (needs request)) (sym (granted_then ∙ more))
        ∙ ap (λ d. without (needs request) (union d (without (granted request (rules ++ other ∷ [])) d))) (sym whole.0)
        ∙ whole.1 in
        let is : lacked request rules ≡ lacking (needs request) (granted request rules) =
        lacked-missing request rules none ∙ ap (λ d. without (needs request) (union d (without (granted request rules) d))) none in
        ap (λ n. common n (covers request other)) is ∙ among-more (needs request) (granted request rules) (covers request other) few ∙ sym is

-- The needs that a rule made for some covers without one of its letters: of the 256 sets that needs can be, for each letter that is told.
abbrev access_but : ℕ → ℕ → ℕ
access_but letter needs = covered (without (letters_for needs) letter)

abbrev covered_but : ℕ → ℕ → ℕ
covered_but letter needs = if is_some (if letter == EXEC then None else transition_for needs) then union (access_but letter needs) EXEC else access_but letter needs

abbrev has_for : ℕ → ℕ → Bool
has_for letter needs = if letter == EXEC then is_some (transition_for needs) else has (letters_for needs) letter

abbrev loses : ℕ → ℕ → Bool
loses letter needs = not (has_for letter needs) || not (common needs (covered_but letter needs) == needs)

abbrev all_lose : ℕ → ℕ → Bool
all_lose letter zero = true
all_lose letter (suc n) = loses letter n && all_lose letter n

one-loses : (letter n needs : ℕ) → all_lose letter n ≡ true → needs < n → loses letter needs ≡ true
one-loses letter zero needs all less = absurd (omega arith)
one-loses letter (suc n) needs all less = by (loses letter n) refl (all_lose letter n) refl all (one-loses letter n needs)
  where
    by : (f : Bool) → loses letter n ≡ f → (a : Bool) → all_lose letter n ≡ a → (f && a) ≡ true → (all_lose letter n ≡ true → needs < n → loses letter needs ≡ true) → loses letter needs ≡ true
    by false e a d both rest = absurd (false≢true both)
    by true e false d both rest = absurd (false≢true both)
    by true e true d both rest = elim (cases_lt needs n) [ inl below ↦ rest d below | inr above ↦ let same : n ≡ needs = omega arith in ap (loses letter) (sym same) ∙ e ]

-- for each letter among some
abbrev each_loses : List (ℕ × ℕ) → Bool
each_loses [] = true
each_loses (row ∷ rows) = all_lose row.1 256 && each_loses rows

all-lose : each_loses all_of_letters ≡ true
all-lose = refl

exec-loses : all_lose EXEC 256 ≡ true
exec-loses = refl

both-true : (one other : Bool) → (one && other) ≡ true → (one ≡ true) × (other ≡ true)
both-true true true h = (refl, refl)
both-true true false h = absurd (false≢true h)
both-true false other h = absurd (false≢true h)

in-loses : (rows : List (ℕ × ℕ)) (code letter : ℕ) → bit_in rows code ≡ Some letter → each_loses rows ≡ true → all_lose letter 256 ≡ true
in-loses [] code letter h all = absurd (cc)
in-loses (row ∷ rows) code letter h all = by (code == row.0) refl h (both-true (all_lose row.1 256) (each_loses rows) all) (in-loses rows code letter)
  where
    by : (b : Bool) → (code == row.0) ≡ b → bit_in (row ∷ rows) code ≡ Some letter → (all_lose row.1 256 ≡ true) × (each_loses rows ≡ true)
        → (bit_in rows code ≡ Some letter → each_loses rows ≡ true → all_lose letter 256 ≡ true) → all_lose letter 256 ≡ true
    by true e h all rest = let is : Some row.1 ≡ Some letter = rw e at h in let same : row.1 ≡ letter = cc in ap (λ l. all_lose l 256) (sym same) ∙ all.0
    by false e h all rest = rest (rw e at h) all.1

told-loses : (code letter : ℕ) → told_bit code ≡ Some letter → all_lose letter 256 ≡ true
told-loses code letter h = by (code == exec_letter) refl h
  where
    by : (b : Bool) → (code == exec_letter) ≡ b → told_bit code ≡ Some letter → all_lose letter 256 ≡ true
    by true e h = let is : Some EXEC ≡ Some letter = rw (told_bit, e) at h in let same : EXEC ≡ letter = cc in ap (λ l. all_lose l 256) (sym same) ∙ exec-loses
    by false e h = in-loses all_of_letters code letter (rw (told_bit, e) at h) all-lose

-- what covers all of some needs among those that are asked for covers them
among-asked : (needs asked more : ℕ) → common needs (common asked more) ≡ needs → common needs more ≡ needs
among-asked needs asked more same = same_from_bits (common needs more) needs (λ i.
    let whole : bit_at (common needs (common asked more)) i ≡ bit_at needs i = ap (λ n. bit_at n i) same in
    let first = bit_at_and needs (common asked more) i in
    let second = bit_at_and asked more i in
    let third = bit_at_and needs more i in
    omega arith)

-- without one of its letters the missing rule doesn't let the request
pub narrower : (mediation : Mediation) (flag : Bool) (letters : ℕ) (owned : Bool) (path : List ℕ) (rules : List Rule) (rule : FileRule) (code letter : ℕ)
    → missing_rule (ForFile letters owned path) rules ≡ Some (File rule) → told_bit code ≡ Some letter → has_letter letter rule ≡ true
    → (verdict mediation flag (rules ++ File (but_letter letter rule) ∷ []) (ForFile letters owned path)).answer ≢ Allow
narrower mediation flag letters owned path rules rule code letter h told has allowed =
    let own = made asked rules (File rule) h in
    let is = made-file (missing asked rules) own.1 in
    let lacks : lacked asked rules ≡ missing asked rules = lacked-missing asked rules own.0 in
    let all : common (missing asked rules) (covers asked (File (but_letter letter rule))) ≡ missing asked rules =
    ap (λ n. common n (covers asked (File (but_letter letter rule)))) (sym lacks) ∙ covers-all mediation flag asked rules (File (but_letter letter rule)) allowed ∙ lacks in
    ends (missing asked rules) is (λ none. lacks-something asked rules (File rule) h (lacks ∙ none)) (one-loses letter 256 (missing asked rules) (told-loses code letter told) (missing-small asked rules)) all
  where
    asked : Request
    asked = ForFile letters owned path

    made-file : (needs : ℕ) → rule_for asked needs ≡ Some (File rule) → rule ≡ file_rule_for owned path needs
    made-file needs h = let is : File rule ≡ File (file_rule_for owned path needs) = (file-made letters owned path needs (File rule) h).0 in cc

    ends : (needs : ℕ) → rule ≡ file_rule_for owned path needs → needs ≢ 0 → loses letter needs ≡ true
        → common needs (covers asked (File (but_letter letter rule))) ≡ needs → ⊥
    ends needs is some lost all = by (applies asked (File (but_letter letter rule))) refl
      where
        has_own : has_for letter needs ≡ true
        has_own = ap (has_letter letter) (sym is) ∙ has

        fails : (common needs (covered_but letter needs) == needs) ≡ false
        fails = turn (has_for letter needs) (common needs (covered_but letter needs) == needs) has_own lost
          where
            turn : (h c : Bool) → h ≡ true → (not h || not c) ≡ true → c ≡ false
            turn true true e l = absurd (false≢true l)
            turn true false e l = refl
            turn false c e l = absurd (false≢true e)

        by : (b : Bool) → applies asked (File (but_letter letter rule)) ≡ b → ⊥
        by false e =
            let none : covers asked (File (but_letter letter rule)) ≡ 0 = rw (covers, e) refl in
            let nothing : common needs 0 ≡ needs = ap (common needs) (sym none) ∙ all in
            some (sym nothing ∙ same_from_bits (common needs 0) 0 (λ i. let own = bit_at_and needs 0 i in let zero = bit_at-zero i in omega arith))
        by true e =
            let some_covered : covers asked (File (but_letter letter rule)) ≡ common letters (covered_by_file (but_letter letter rule)) = rw (covers, e) refl in
            let known : common letters (covered_by_file (but_letter letter rule)) ≡ common letters (covered_but letter needs) = ap (λ rule. common letters (covered_by_file (but_letter letter rule))) is in
            let whole : common needs (covered_but letter needs) ≡ needs = among-asked needs letters (covered_but letter needs) (ap (common needs) (sym (some_covered ∙ known)) ∙ all) in
            let passes : (common needs (covered_but letter needs) == needs) ≡ true = grind (arith, nat_tests) in
            false≢true (sym fails ∙ passes)
