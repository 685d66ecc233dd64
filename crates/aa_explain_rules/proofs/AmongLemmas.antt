-- Rules that concern a request: the others have no part in what is found of it.
use Rattle.std.proofs.Common.{◌≡◌, ◌∙◌, ℕ, zero, suc, ◌+◌, ◌<◌, ◌≤◌, Bool, true, false, List, [], ◌∷◌, length, refl, sym, ap, arith, Option, None, Some, Result, Ok, Err, IfOk, inl, inr}
use Rattle.std.specs.Prelude.{◌⊎◌, ◌==◌, ◌&&◌, not, slice_get}
use Rattle.std.specs.List.{Contains, filter, list_any}
use Rattle.std.specs.List.Sorted.{IsStrictlyIncreasing}
use Rattle.std.proofs.lemmas.Bool.{false≢true}
use Rattle.std.proofs.Math.Bool.{and-false}
use Rattle.aa_glob_syntax.specs.Matching.{matches}
use Rattle.aa_glob_syntax.specs.Reading.{items_of}
use Rattle.aa_profile_data.specs.Access.{EXEC, has}
use Rattle.aa_profile_data.specs.Request.{ForCapability, ForFile, ForSockets, Request}
use Rattle.aa_profile_data.specs.Matching.{AreMatchingRules, is_matching}
use Rattle.aa_profile_data.specs.Conflicts.{lead_of, same_transition}
use Rattle.aa_profile_data.specs.Ranks.{same_rank}
use Rattle.aa_profile_data.specs.declared.profile.Rank.{Rank}
use Rattle.aa_profile_data.specs.declared.profile.Rank.TheVariants.{Plain}
use Rattle.aa_profile_data.specs.declared.profile.Transition.{Transition}
use Rattle.aa_profile_data.specs.declared.profile.Rule.{Rule}
use Rattle.aa_profile_data.specs.declared.profile.Rule.TheVariants.{Cap, File, Net, Other}
use Rattle.aa_decide_rules.specs.Choices.{denies, dominates}
use Rattle.aa_decide_rules.specs.ExecRules.{ExecRule}
use Rattle.aa_decide_rules.specs.Verdict.{allowed, allows, applies, denied, denies as denies_rule, granted, missing, with_covered, with_rule}
use Rattle.aa_profile_data.specs.Picked.{picked}
use Rattle.aa_explain_rules.specs.InTheWay.{is_in_the_way, leads_elsewhere}
use Rattle.aa_explain_rules.specs.Missing.{inherit, lacked, missing_rule, rule_for}
use Rattle.aa_explain_rules.proofs.DecidingLemmas.{unapplied}
use Rattle.aa_explain_rules.specs.Asked.{concerned, concerns}
use Rattle.aa_explain_rules.specs.Leading.{highest_that, leading_places, says, some_says}
use Rattle.aa_explain_rules.specs.Told.{is_near, lets_at, near, places_where, told, told_from, told_rule}
use Rattle.aa_explain_rules.specs.code.Among.{among, passes_at, some_among, told_among, told_at}
use Rattle.aa_explain_rules.specs.declared.told.ToldRule.{ToldRule}
use Rattle.aa_explain_rules.proofs.PlaceLemmas.{are-all, pick, rise}

-- two things that hold of a value, if there is one
pub if-both : {X Y : Type 0} {P Q R : X → Type 0} → (r : Result X Y) → IfOk r P → IfOk r Q → ((x : X) → P x → Q x → R x) → IfOk r R
if-both (Ok x) p q all = all x p q
if-both (Err y) p q all = tt

-- numbers rise, and the first is no less than one
abbrev Rises : ℕ → List ℕ → Type 0
Rises least [] = Unit
Rises least (x ∷ xs) = (least ≤ x) × Rises (x + 1) xs

rises-next : (least x : ℕ) (xs : List ℕ) → least ≤ x → IsStrictlyIncreasing (x ∷ xs) → Rises least (x ∷ xs)
rises-next least x [] h up = (h, tt)
rises-next least x (y ∷ ys) h up =
    (h, rises-next (x + 1) y ys (let first = up 0 (omega arith) in omega arith) (λ k within. let moved : suc k + 1 ≡ suc (k + 1) = omega arith in rw moved at (up (suc k) (omega arith))))

rises-from : (xs : List ℕ) → IsStrictlyIncreasing xs → Rises 0 xs
rises-from [] up = tt
rises-from (x ∷ xs) up = rises-next 0 x xs (omega arith) up

there-first : (x : ℕ) (xs : List ℕ) → Contains (x ∷ xs) x
there-first x xs = (0, omega arith, refl)

there-behind : (x : ℕ) (xs : List ℕ) (y : ℕ) → Contains xs y → Contains (x ∷ xs) y
there-behind x xs y (k, within, is) = (suc k, (let w : suc k < length (x ∷ xs) = omega arith in w), is)

there-split : (x : ℕ) (xs : List ℕ) (y : ℕ) → Contains (x ∷ xs) y → (x ≡ y) ⊎ Contains xs y
there-split x xs y (zero, within, is) = inl is
there-split x xs y (suc k, within, is) = inr (k, (let w : k < length xs = omega arith in w), is)

-- all are no less than the least
rises-least : (least : ℕ) (xs : List ℕ) (x : ℕ) → Rises least xs → Contains xs x → least ≤ x
rises-least least [] x r (k, within, is) = absurd (omega arith)
rises-least least (y ∷ ys) x r there = elim (there-split y ys x there) [
  | inl same ↦ let l = r.0 in omega arith
  | inr behind ↦ let l = r.0 in let rest = rises-least (y + 1) ys x r.1 behind in omega arith
]

-- of two rising lists the first is the same where each has the numbers of the other
first-same : (one other : ℕ) (x y : ℕ) (xs ys : List ℕ) → Rises one (x ∷ xs) → Rises other (y ∷ ys) → Contains (y ∷ ys) x → Contains (x ∷ xs) y → x ≡ y
first-same one other x y xs ys r s has had = elim (there-split y ys x has) [
  | inl same ↦ sym same
  | inr behind ↦ elim (there-split x xs y had) [
    | inl same ↦ same
    | inr ahead ↦ let l = rises-least (y + 1) ys x s.1 behind in let m = rises-least (x + 1) xs y r.1 ahead in absurd (omega arith)
  ]
]

-- what is behind the first has only what is behind the other's
rest-has : (x y : ℕ) (xs ys : List ℕ) → x ≡ y → Rises (x + 1) xs → ((p : ℕ) → Contains (x ∷ xs) p → Contains (y ∷ ys) p) → (p : ℕ) → Contains xs p → Contains ys p
rest-has x y xs ys same r all p there = elim (there-split y ys p (all p (there-behind x xs p there))) [
  | inl is ↦ let l = rises-least (x + 1) xs p r there in absurd (omega arith)
  | inr behind ↦ behind
]

one-list : (one other : ℕ) (xs ys : List ℕ) → Rises one xs → Rises other ys → ((p : ℕ) → Contains xs p → Contains ys p) → ((p : ℕ) → Contains ys p → Contains xs p) → xs ≡ ys
one-list one other [] [] r s all back = refl
one-list one other [] (y ∷ ys) r s all back = let (k, within, is) = back y (there-first y ys) in absurd (omega arith)
one-list one other (x ∷ xs) [] r s all back = let (k, within, is) = all x (there-first x xs) in absurd (omega arith)
one-list one other (x ∷ xs) (y ∷ ys) r s all back =
    let same : x ≡ y = first-same one other x y xs ys r s (all x (there-first x xs)) (back y (there-first y ys)) in
    let rest : xs ≡ ys = one-list (x + 1) (y + 1) xs ys r.1 s.1 (rest-has x y xs ys same r.1 all) (rest-has y x ys xs (sym same) s.1 back) in
    ap (λ x. x ∷ xs) same ∙ ap (λ xs. y ∷ xs) rest

-- the places that an automaton finds are those of the rules that concern a request for a file
pub found-concerned : (letters : ℕ) (owned : Bool) (path : List ℕ) (rules : List Rule) (places : List ℕ) → AreMatchingRules rules path places → IsStrictlyIncreasing places
    → places ≡ concerned (ForFile letters owned path) rules
found-concerned letters owned path rules places are up =
    one-list 0 0 places (places_where (is_matching path) 0 rules) (rises-from places up) (rises-from (places_where (is_matching path) 0 rules) (rise (is_matching path) rules))
    (λ p there. (are-all (is_matching path) rules p).1 ((are p).0 there)) (λ p there. (are p).1 ((are-all (is_matching path) rules p).0 there))

-- A test that only rules pass that pass another, so that rules are found among those that pass that one. The rules stand behind others.
module _ (test other : Rule → Bool) (only : (rule : Rule) → other rule ≡ false → test rule ≡ false) (all : List Rule) where
  abbrev Behind : ℕ → List Rule → Type 0
  Behind first rules = (i : ℕ) → slice_get all (first + i) ≡ slice_get rules i

  behind-next : (first : ℕ) (rule : Rule) (rules : List Rule) → Behind first (rule ∷ rules) → Behind (first + 1) rules
  behind-next first rule rules same i = let at : first + 1 + i ≡ first + suc i = omega arith in ap (slice_get all) at ∙ same (suc i)

  here : (first : ℕ) (rule : Rule) (rules : List Rule) → Behind first (rule ∷ rules) → slice_get all first ≡ Some rule
  here first rule rules same = let at : first ≡ first + 0 = omega arith in ap (slice_get all) at ∙ same 0

  passes-here : (first : ℕ) (rule : Rule) (rules : List Rule) → Behind first (rule ∷ rules) → passes_at test all first ≡ test rule
  passes-here first rule rules same = ap (λ found. elim found [ None ↦ false | Some rule ↦ test rule ]) (here first rule rules same)

  among-from : (first : ℕ) (rules : List Rule) → Behind first rules → among test all (places_where other first rules) ≡ places_where test first rules
  among-from first [] same = refl
  among-from first (rule ∷ rules) same = by (other rule) refl (test rule) refl (among-from (first + 1) rules (behind-next first rule rules same))
    where
      Rest : Type 0
      Rest = among test all (places_where other (first + 1) rules) ≡ places_where test (first + 1) rules

      at : passes_at test all first ≡ test rule
      at = passes-here first rule rules same

      by : (o : Bool) → other rule ≡ o → (t : Bool) → test rule ≡ t → Rest → among test all (places_where other first (rule ∷ rules)) ≡ places_where test first (rule ∷ rules)
      by false o true t rest = absurd (false≢true (sym (only rule o) ∙ t))
      by false o false t rest = rw (o, t) rest
      by true o true t rest = let passed : passes_at test all first ≡ true = at ∙ t in rw (o, t, passed) (ap (λ places. first ∷ places) rest)
      by true o false t rest = let passed : passes_at test all first ≡ false = at ∙ t in rw (o, t, passed) rest

  some-from : (first : ℕ) (rules : List Rule) → Behind first rules → some_among test all (places_where other first rules) ≡ list_any test rules
  some-from first [] same = refl
  some-from first (rule ∷ rules) same = by (other rule) refl (test rule) refl (some-from (first + 1) rules (behind-next first rule rules same))
    where
      Rest : Type 0
      Rest = some_among test all (places_where other (first + 1) rules) ≡ list_any test rules

      at : passes_at test all first ≡ test rule
      at = passes-here first rule rules same

      by : (o : Bool) → other rule ≡ o → (t : Bool) → test rule ≡ t → Rest → some_among test all (places_where other first (rule ∷ rules)) ≡ list_any test (rule ∷ rules)
      by false o true t rest = absurd (false≢true (sym (only rule o) ∙ t))
      by false o false t rest = rw (o, t) rest
      by true o true t rest = let passed : passes_at test all first ≡ true = at ∙ t in rw (o, t, passed) refl
      by true o false t rest = let passed : passes_at test all first ≡ false = at ∙ t in rw (o, t, passed) rest

at-first : (rules : List Rule) (i : ℕ) → slice_get rules (0 + i) ≡ slice_get rules i
at-first rules i = let at : 0 + i ≡ i = omega arith in ap (slice_get rules) at

-- only rules that concern a request apply to it, or are near it
pub concerned-alone : (request : Request) (rule : Rule) → concerns request rule ≡ false → applies request rule ≡ false
concerned-alone (ForFile letters owned path) (File rule) fails = rw fails refl
concerned-alone (ForFile letters owned path) (Cap rule) fails = refl
concerned-alone (ForFile letters owned path) (Net rule) fails = refl
concerned-alone (ForFile letters owned path) (Other rule) fails = refl
concerned-alone (ForCapability number) rule fails = fails
concerned-alone (ForSockets domain kind) rule fails = fails

near-concerned : (request : Request) (rule : Rule) → concerns request rule ≡ false → is_near request rule ≡ false
near-concerned (ForFile letters owned path) (File rule) fails = by rule.deny refl
  where
    by : (d : Bool) → rule.deny ≡ d → is_near (ForFile letters owned path) (File rule) ≡ false
    by true d = rw (is_near, lets_at, d) refl
    by false d = rw (is_near, lets_at, d, fails) refl
near-concerned (ForFile letters owned path) (Cap rule) fails = refl
near-concerned (ForFile letters owned path) (Net rule) fails = refl
near-concerned (ForFile letters owned path) (Other rule) fails = refl
near-concerned (ForCapability number) rule fails = refl
near-concerned (ForSockets domain kind) rule fails = refl

-- nor does any other say something of the start of a program
says-concerned : (test : ExecRule → Bool) (letters : ℕ) (owned : Bool) (path : List ℕ) (rule : Rule) → concerns (ForFile letters owned path) rule ≡ false
    → says test false owned path rule ≡ false
says-concerned test letters owned path (File rule) fails = rw (says, fails) refl
says-concerned test letters owned path (Cap rule) fails = refl
says-concerned test letters owned path (Net rule) fails = refl
says-concerned test letters owned path (Other rule) fails = refl

-- what is told of a rule, if something is, before what is told of others
abbrev before : List ToldRule → Option ToldRule → List ToldRule
before others told = elim told [ None ↦ others | Some told ↦ told ∷ others ]

-- what is told of rules that stand behind others
told-behind : (flag : Bool) (request : Request) (all : List Rule) (first : ℕ) (rules : List Rule) → ((i : ℕ) → slice_get all (first + i) ≡ slice_get rules i)
    → told_among flag request all (places_where (concerns request) first rules) ≡ told_from flag request first rules
told-behind flag request all first [] same = refl
told-behind flag request all first (rule ∷ rules) same = by (concerns request rule) refl (applies request rule) refl (told-behind flag request all (first + 1) rules later)
  where
    later : (i : ℕ) → slice_get all (first + 1 + i) ≡ slice_get rules i
    later i = let at : first + 1 + i ≡ first + suc i = omega arith in ap (slice_get all) at ∙ same (suc i)

    there : slice_get all first ≡ Some rule
    there = let at : first ≡ first + 0 = omega arith in ap (slice_get all) at ∙ same 0

    others : List ToldRule
    others = told_among flag request all (places_where (concerns request) (first + 1) rules)

    Rest : Type 0
    Rest = others ≡ told_from flag request (first + 1) rules

    by : (c : Bool) → concerns request rule ≡ c → (a : Bool) → applies request rule ≡ a → Rest
        → told_among flag request all (places_where (concerns request) first (rule ∷ rules)) ≡ told_from flag request first (rule ∷ rules)
    by false c true a rest = absurd (false≢true (sym (concerned-alone request rule c) ∙ a))
    by false c false a rest = rw (c, a) rest
    by true c true a rest =
        let at : told_at flag request all first ≡ Some (told_rule flag request first rule) = rw (told_at, there, a) refl in
        let kept : places_where (concerns request) first (rule ∷ rules) ≡ first ∷ places_where (concerns request) (first + 1) rules = rw c refl in
        let told_first : told_from flag request first (rule ∷ rules) ≡ told_rule flag request first rule ∷ told_from flag request (first + 1) rules = rw a refl in
        ap (told_among flag request all) kept ∙ ap (before others) at ∙ ap (λ others. told_rule flag request first rule ∷ others) rest ∙ sym told_first
    by true c false a rest =
        let at : told_at flag request all first ≡ None = rw (told_at, there, a) refl in
        let kept : places_where (concerns request) first (rule ∷ rules) ≡ first ∷ places_where (concerns request) (first + 1) rules = rw c refl in
        let none_told : told_from flag request first (rule ∷ rules) ≡ told_from flag request (first + 1) rules = rw a refl in
        ap (told_among flag request all) kept ∙ ap (before others) at ∙ rest ∙ sym none_told

pub told-among : (flag : Bool) (request : Request) (rules : List Rule) → told_among flag request rules (concerned request rules) ≡ told flag request rules
told-among flag request rules = told-behind flag request rules 0 rules (at-first rules)

pub near-among : (request : Request) (rules : List Rule) → among (is_near request) rules (concerned request rules) ≡ near request rules
near-among request rules = among-from (is_near request) (concerns request) (near-concerned request) rules 0 rules (at-first rules)

-- the rules that lead are found among those that concern the start of the program
module _ (letters : ℕ) (owned : Bool) (path : List ℕ) (rules : List Rule) where
  abbrev asked : Request
  asked = ForFile letters owned path

  pub some-among : (test : ExecRule → Bool) → some_among (says test false owned path) rules (concerned asked rules) ≡ some_says test owned path rules
  some-among test = some-from (says test false owned path) (concerns asked) (says-concerned test letters owned path) rules 0 rules (at-first rules)

  pub dominating-among : (rank : Rank) → among (says (dominates rank) false owned path) rules (concerned asked rules) ≡ places_where (says (dominates rank) false owned path) 0 rules
  dominating-among rank = among-from (says (dominates rank) false owned path) (concerns asked) (says-concerned (dominates rank) letters owned path) rules 0 rules (at-first rules)

  pub none-leads : some_among (says denies false owned path) rules (concerned asked rules) ≡ true → [] ≡ leading_places owned path rules
  none-leads e = let one : some_says denies owned path rules ≡ true = sym (some-among denies) ∙ e in rw one refl

  pub some-lead : some_among (says denies false owned path) rules (concerned asked rules) ≡ false
      → among (says (dominates (highest_that (λ rank. some_among (says (dominates rank) false owned path) rules (concerned asked rules)))) false owned path) rules (concerned asked rules) ≡ leading_places owned path rules
  some-lead e =
      let none : some_says denies owned path rules ≡ false = sym (some-among denies) ∙ e in
      dominating-among (highest_that (λ rank. some_among (says (dominates rank) false owned path) rules (concerned asked rules)))
      ∙ ap (λ rank. places_where (says (dominates rank) false owned path) 0 rules) (λ i. highest_that (λ rank. some-among (dominates rank) i))
      ∙ rw none refl

-- rules that don't concern a request cover nothing of it
concerned-cover : (request : Request) (test : Rule → Bool) (set : ℕ) (rules : List Rule)
    → with_covered request test set (filter (concerns request) rules) ≡ with_covered request test set rules
concerned-cover request test set [] = refl
concerned-cover request test set (rule ∷ rules) = by (concerns request rule) refl (λ set. concerned-cover request test set rules)
  where
    by : (b : Bool) → concerns request rule ≡ b → ((set : ℕ) → with_covered request test set (filter (concerns request) rules) ≡ with_covered request test set rules)
        → with_covered request test set (filter (concerns request) (rule ∷ rules)) ≡ with_covered request test set (rule ∷ rules)
    by true e rest =
        let kept : filter (concerns request) (rule ∷ rules) ≡ rule ∷ filter (concerns request) rules = rw e refl in
        ap (with_covered request test set) kept ∙ rest (with_rule request test set rule)
    by false e rest =
        let gone : filter (concerns request) (rule ∷ rules) ≡ filter (concerns request) rules = rw e refl in
        ap (with_covered request test set) gone ∙ rest set ∙ ap (λ set. with_covered request test set rules) (sym (unapplied request test set rule (concerned-alone request rule e)))

-- what a request lacks by the rules that concern it is what it lacks by all
pub lacked-among : (request : Request) (rules : List Rule) → lacked request (picked rules (concerned request rules)) ≡ lacked request rules
lacked-among request rules =
    ap (lacked request) (pick (concerns request) rules)
    ∙ rw (lacked, missing, allowed, granted, denied, concerned-cover request denies_rule 0 rules, concerned-cover request allows 0 rules) refl

-- the rule that is missing is made for that
pub nothing-missing : (request : Request) (rules : List Rule) (needs : ℕ) → needs ≡ lacked request (picked rules (concerned request rules)) → (needs == 0) ≡ true → None ≡ missing_rule request rules
nothing-missing request rules needs is none =
    let few : (lacked request rules == 0) ≡ true = ap (λ n. n == 0) (sym (is ∙ lacked-among request rules)) ∙ none in
    rw (missing_rule, few) refl

pub one-missing : (request : Request) (rules : List Rule) (needs : ℕ) → needs ≡ lacked request (picked rules (concerned request rules)) → (needs == 0) ≡ false
    → rule_for request needs ≡ missing_rule request rules
one-missing request rules needs is some =
    let same : needs ≡ lacked request rules = is ∙ lacked-among request rules in
    let more : (lacked request rules == 0) ≡ false = ap (λ n. n == 0) (sym same) ∙ some in
    ap (rule_for request) same ∙ rw (missing_rule, more) refl

-- what fails at its end fails whole
away : (a b : Bool) → (a && (b && false)) ≡ false
away true true = refl
away true false = refl
away false b = refl

-- only rules that concern a request are in the way of one that it lacks
way-concerned : (request : Request) (needs : ℕ) (rule : Rule) → concerns request rule ≡ false → is_in_the_way request needs rule ≡ false
way-concerned (ForFile letters owned path) needs (File rule) fails = by (has needs EXEC) rule.deny rule.exec refl refl refl
  where
    by : (h : Bool) (d : Bool) (exec : Option Transition) → has needs EXEC ≡ h → rule.deny ≡ d → rule.exec ≡ exec
        → is_in_the_way (ForFile letters owned path) needs (File rule) ≡ false
    by false d exec x y z = rw (is_in_the_way, x) refl
    by true true exec x y z = rw (is_in_the_way, leads_elsewhere, lead_of, x, y) refl
    by true false None x y z = rw (is_in_the_way, leads_elsewhere, lead_of, x, y, z) refl
    by true false (Some transition) x y z =
        let off : matches (items_of rule.pattern) path ≡ false = fails in
        rw (is_in_the_way, leads_elsewhere, lead_of, x, y, z, off)
        (away (same_rank rule.rank Plain) (not (same_transition transition inherit)))
way-concerned (ForFile letters owned path) needs (Cap rule) fails = and-false (has needs EXEC)
way-concerned (ForFile letters owned path) needs (Net rule) fails = and-false (has needs EXEC)
way-concerned (ForFile letters owned path) needs (Other rule) fails = and-false (has needs EXEC)
way-concerned (ForCapability number) needs rule fails = refl
way-concerned (ForSockets domain kind) needs rule fails = refl

pub way-among : (request : Request) (needs : ℕ) (rules : List Rule)
    → among (is_in_the_way request needs) rules (concerned request rules) ≡ places_where (is_in_the_way request needs) 0 rules
way-among request needs rules = among-from (is_in_the_way request needs) (concerns request) (way-concerned request needs) rules 0 rules (at-first rules)
