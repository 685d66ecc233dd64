-- With the rules that are told, requests are allowed that lacked something.
use Rattle.std.proofs.Common.{◌≡◌, ◌≢◌, ◌∙◌, ◌⊎◌, ℕ, zero, suc, Bool, true, false, List, [], ◌∷◌, ◌++◌, Option, None, Some, refl, sym, ap, subst, arith, inl, inr}
use Rattle.std.specs.Prelude.{◌==◌, if◌then◌else◌, fold, is_ok, is_some, nat_lt}
use Rattle.std.specs.List.{All, Contains}
use Rattle.std.specs.Str.{bytes_eq}
use Rattle.std.proofs.lemmas.Bool.Decides.{nat_tests}
use Rattle.std.proofs.lemmas.List.Elements.{All-append, All-cons, All-contains, All-head, All-nil, All-tail, Contains-append_left, Contains-append_right}
use Rattle.std.proofs.lemmas.Slice.Eq.{bytes_eq-Decides}
use Rattle.aa_decide.specs.Exec.{Asker}
use Rattle.aa_decide_rules.specs.declared.verdict.Answer.TheVariants.{Allow, Deny}
use Rattle.aa_decide_ready.specs.Ready.{audits}
use Rattle.aa_decide_rules.specs.Verdict.{denied, denies, missing, verdict}
use Rattle.aa_decide_rules.specs.declared.judgement.Mediation.{Mediation}
use Rattle.aa_decide_rules.specs.declared.judgement.Mediation.TheVariants.{Enforcing}
use Rattle.aa_decide_ready.specs.Confinement.{By, ByName, Confinement, Unconfined, in_state}
use Rattle.aa_decide_ready.specs.Entries.{Loaded}
use Rattle.aa_explain_rules.specs.Joined.{AreOfOneThing, IsWithin, joined}
use Rattle.aa_explain_rules.proofs.JoinedLemmas.{first-within, none-denied, second-within, whole-lacks, within-itself, within-stays}
use Rattle.aa_explain_rules.specs.InTheWay.{in_the_way}
use Rattle.aa_explain_rules.specs.Missing.{cap_rule_for, file_rule_for, lacked, missing_rule, net_rule_for, rule_for}
use Rattle.aa_explain_written.specs.Written.{written_rule}
use Rattle.aa_glob.specs.Laws.{quoted}
use Rattle.aa_glob_syntax.specs.Reading.{reading}
use Rattle.aa_profile_data.specs.Request.{ForCapability, ForFile, ForSockets, Request}
use Rattle.aa_profile_data.specs.declared.profile.Rule.{Rule}
use Rattle.aa_profile_data.specs.declared.profile.Rule.TheVariants.{Cap, File, Net}
use Rattle.aa_profile_data.specs.Kinds.{is_protocol}
use Rattle.aa_set_answers.specs.Answers.{who_asks}
use Rattle.aa_set_answers.specs.Askers.{asker}
use Rattle.aa_set_commands.specs.Question.{OfAccess, OfExec, Question}
use Rattle.aatry_log_rules.specs.Findings.{finding_in, finding_of, finding_or, rule_found, rules_found}
use Rattle.aatry_log_rules.specs.Gathered.{Wants, gathered, nothing, outcome_for, wanted_of, with_outcome, with_tally}
use Rattle.aatry_log_rules.specs.Laws.{CanCome, IsLet, IsServed, IsToldWithout}
use Rattle.aatry_log_rules.specs.Outcomes.{confined_outcome, outcome_by, outcome_of, outcome_where, own_rules, rules_by}
use Rattle.aatry_log_rules.specs.Wanted.{Wanted, about, are_of_one, both, subject, wanted_with}
use Rattle.aatry_log_rules.specs.declared.asker.Outcome.{Outcome}
use Rattle.aatry_log_rules.specs.declared.asker.Outcome.TheVariants.{Allowed, Denied, Lacks, Nobody}
use Rattle.aatry_log_rules.specs.declared.finding.Finding.TheVariants as finding
use Rattle.aatry_log_rules.specs.declared.finding.NoRule.TheVariants.{Unwritten}
use Rattle.aatry_log_rules.proofs.WantedLemmas.{subject-both}
use Rattle.aatry_requests.specs.Laws.{CanBeAsked}
use Rattle.aatry_requests.specs.Questions.{rule_request}
use Rattle.aatry_requests.specs.Tallies.{Tally}
use Rattle.aatry_requests.specs.Texts.{is_same}

abbrev pub TextsTell : Type 0
TextsTell = (question other : Question) → CanBeAsked question → CanBeAsked other → is_same question other ≡ true → question ≡ other

-- what is wanted is about what can be asked
abbrev CanBeWanted : Wanted → Type 0
CanBeWanted wanted = CanBeAsked (subject wanted)

can-come : (question : Question) → CanBeAsked question → CanBeAsked (about (who_asks question) (rule_request question))
can-come (OfAccess who (ForFile needs owned path)) can = (can.0, (omega arith, can.1.1))
can-come (OfAccess who (ForCapability number)) can = can
can-come (OfAccess who (ForSockets domain kind)) can = can
can-come (OfExec who owned path) can = (can.0, (omega arith, can.1))

-- what is told the same is of the same who asks, about the same thing
about-same : (who other : List ℕ) (one two : Request) → about who one ≡ about other two → (who ≡ other) × AreOfOneThing one two
about-same who other (ForFile needs owned path) (ForFile more other_owned two) h = (cc (h), cc (h))
about-same who other (ForFile needs owned path) (ForCapability number) h = absurd (cc (h))
about-same who other (ForFile needs owned path) (ForSockets domain kind) h = absurd (cc (h))
about-same who other (ForCapability number) (ForFile more other_owned two) h = absurd (cc (h))
about-same who other (ForCapability number) (ForCapability two) h = (cc (h), cc (h))
about-same who other (ForCapability number) (ForSockets domain kind) h = absurd (cc (h))
about-same who other (ForSockets domain kind) (ForFile more other_owned two) h = absurd (cc (h))
about-same who other (ForSockets domain kind) (ForCapability number) h = absurd (cc (h))
about-same who other (ForSockets domain kind) (ForSockets d k) h = (cc (h), cc (h))

same-thing : TextsTell → (asked wanted : Wanted) → CanBeWanted asked → CanBeWanted wanted → are_of_one asked wanted ≡ true
    → (asked.who ≡ wanted.who) × AreOfOneThing asked.request wanted.request
same-thing tell asked wanted can could same = about-same asked.who wanted.who asked.request wanted.request (tell (subject asked) (subject wanted) can could same)

-- something is wanted that a request is within
abbrev HasWanted : List ℕ → Request → List Wanted → Type 0
HasWanted who request wanted = (within : Wanted) × Contains wanted within × (within.who ≡ who) × IsWithin request within.request

there-first : (one : Wanted) (more : List Wanted) → Contains (one ∷ more) one
there-first one more = (0, omega arith, refl)

there-behind : (one : Wanted) (more : List Wanted) (wanted : Wanted) → Contains more wanted → Contains (one ∷ more) wanted
there-behind one more wanted there = Contains-append_right (one ∷ []) more wanted there

behind : (who : List ℕ) (request : Request) (one : Wanted) (more : List Wanted) → HasWanted who request more → HasWanted who request (one ∷ more)
behind who request one more (within, there, same, has) = (within, there-behind one more within there, same, has)

-- a rule is wanted for something that lacks one, of which none denies anything
abbrev IsFine : List Loaded → Wanted → Type 0
IsFine entries wanted =
    (denied wanted.request (rules_by (asker entries wanted.who)) ≡ 0) × (lacked wanted.request (rules_by (asker entries wanted.who)) ≢ 0)

module _ (tell : TextsTell) (asked : Wanted) (can : CanBeWanted asked) where
  -- with once more something is wanted that it is within
  want-adds : (wanted : List Wanted) → All CanBeWanted wanted → HasWanted asked.who asked.request (wanted_with asked wanted)
  want-adds [] could = (asked, there-first asked [], refl, within-itself asked.request)
  want-adds (one ∷ more) could = by (are_of_one asked one) refl (want-adds more (All-tail CanBeWanted one more could))
    where
      by : (same : Bool) → are_of_one asked one ≡ same → HasWanted asked.who asked.request (wanted_with asked more)
          → HasWanted asked.who asked.request (wanted_with asked (one ∷ more))
      by false e rest = rw e (behind asked.who asked.request one (wanted_with asked more) rest)
      by true e rest =
          let of_one = same-thing tell asked one can (All-head CanBeWanted one more could) e in
          rw e ((both asked one, there-first (both asked one) more, refl, first-within asked.request one.request of_one.1))

  -- and what others were within they are
  want-keeps : (who : List ℕ) (request : Request) (wanted : List Wanted) → All CanBeWanted wanted → HasWanted who request wanted
      → HasWanted who request (wanted_with asked wanted)
  want-keeps who request [] could (within, there, same, has) = let few = there.1 in absurd (omega (arith, few))
  want-keeps who request (one ∷ more) could (within, (zero, few, is), same, has) = by (are_of_one asked one) refl
    where
      by : (together : Bool) → are_of_one asked one ≡ together → HasWanted who request (wanted_with asked (one ∷ more))
      by false e = let here : one ≡ within = is in rw e ((one, there-first one (wanted_with asked more), ap (λ w. w.who) here ∙ same, subst (λ w. IsWithin request w.request) (sym here) has))
      by true e =
          let here : one ≡ within = is in
          let of_one = same-thing tell asked one can (All-head CanBeWanted one more could) e in
          let in_one : IsWithin request one.request = subst (λ w. IsWithin request w.request) (sym here) has in
          rw e ((
            both asked one,
            there-first (both asked one) more,
            of_one.0 ∙ ap (λ w. w.who) here ∙ same,
            within-stays request one.request (joined asked.request one.request) in_one (second-within asked.request one.request of_one.1),
          ))
  want-keeps who request (one ∷ more) could (within, (suc k, few, is), same, has) =
      by (are_of_one asked one) refl (want-keeps who request more (All-tail CanBeWanted one more could))
    where
      there : Contains more within
      there = (k, omega (arith, few), is)

      by : (together : Bool) → are_of_one asked one ≡ together → (HasWanted who request more → HasWanted who request (wanted_with asked more))
          → HasWanted who request (wanted_with asked (one ∷ more))
      by true e rest = rw e ((within, there-behind (both asked one) more within there, same, has))
      by false e rest = rw e (behind who request one (wanted_with asked more) (rest (within, there, same, has)))

  want-can : (wanted : List Wanted) → All CanBeWanted wanted → All CanBeWanted (wanted_with asked wanted)
  want-can [] could = All-cons CanBeWanted asked [] can (All-nil CanBeWanted)
  want-can (one ∷ more) could = by (are_of_one asked one) refl (want-can more (All-tail CanBeWanted one more could))
    where
      by : (same : Bool) → are_of_one asked one ≡ same → All CanBeWanted (wanted_with asked more) → All CanBeWanted (wanted_with asked (one ∷ more))
      by true e rest = rw e (All-cons CanBeWanted (both asked one) more (subst CanBeAsked (sym (subject-both asked one)) can) (All-tail CanBeWanted one more could))
      by false e rest = rw e (All-cons CanBeWanted one (wanted_with asked more) (All-head CanBeWanted one more could) rest)

  want-fine : (entries : List Loaded) → IsFine entries asked → (wanted : List Wanted) → All CanBeWanted wanted → All (IsFine entries) wanted
      → All (IsFine entries) (wanted_with asked wanted)
  want-fine entries fine [] could all = All-cons (IsFine entries) asked [] fine (All-nil (IsFine entries))
  want-fine entries fine (one ∷ more) could all =
      by (are_of_one asked one) refl (want-fine entries fine more (All-tail CanBeWanted one more could) (All-tail (IsFine entries) one more all))
    where
      together : are_of_one asked one ≡ true → IsFine entries (both asked one)
      together e =
          let of_one = same-thing tell asked one can (All-head CanBeWanted one more could) e in
          let rules = rules_by (asker entries asked.who) in
          let own : denied one.request rules ≡ 0 =
          ap (λ who. denied one.request (rules_by (asker entries who))) of_one.0 ∙ (All-head (IsFine entries) one more all).0 in
          let none = none-denied asked.request one.request rules of_one.1 fine.0 own in
          (none, whole-lacks asked.request (joined asked.request one.request) rules (first-within asked.request one.request of_one.1) none fine.1)

      by : (same : Bool) → are_of_one asked one ≡ same → All (IsFine entries) (wanted_with asked more) → All (IsFine entries) (wanted_with asked (one ∷ more))
      by true e rest = rw e (All-cons (IsFine entries) (both asked one) more (together e) (All-tail (IsFine entries) one more all))
      by false e rest = rw e (All-cons (IsFine entries) one (wanted_with asked more) (All-head (IsFine entries) one more all) rest)

-- what lacks something is denied nothing
from-none : (n : ℕ) → (n == 0) ≡ true → n ≡ 0
from-none n h = grind (arith, nat_tests)

lacks-by : (who : Asker) (request : Request) → outcome_by who request ≡ Lacks → (denied request (own_rules who) ≡ 0) × (lacked request (own_rules who) ≢ 0)
lacks-by who request h = by (denied request (own_rules who) == 0) refl (missing request (own_rules who) == 0) refl
  where
    audit : Bool
    audit = audits who.entry.profile who.child

    by : (d : Bool) → (denied request (own_rules who) == 0) ≡ d → (m : Bool) → (missing request (own_rules who) == 0) ≡ m
        → (denied request (own_rules who) ≡ 0) × (lacked request (own_rules who) ≢ 0)
    by false d m e =
        let is : (verdict Enforcing audit (own_rules who) request).answer ≡ Deny = rw (verdict, d) refl in
        let wrong : Denied ≡ Lacks = sym (ap outcome_of is) ∙ h in
        absurd (cc (wrong))
    by true d true e =
        let is : (verdict Enforcing audit (own_rules who) request).answer ≡ Allow = rw (verdict, d, e) refl in
        let wrong : Allowed ≡ Lacks = sym (ap outcome_of is) ∙ h in
        absurd (cc (wrong))
    by true d false e =
        let own : lacked request (own_rules who) ≡ missing request (own_rules who) = rw (lacked, d) refl in (
          from-none (denied request (own_rules who)) d,
          λ none. let few : missing request (own_rules who) ≡ 0 = sym own ∙ none in
              let wrong : true ≡ false = sym (ap (λ n. n == 0) few) ∙ e in absurd (cc (wrong)),
        )

lacks-confined : (who : Asker) (request : Request) (confinement : Confinement) → confined_outcome who request confinement ≡ Lacks → outcome_by who request ≡ Lacks
lacks-confined who request ByName h = absurd (cc (h))
lacks-confined who request Unconfined h = h
lacks-confined who request (By section mediation) h = h

lacks-where : (found : Option (Option Asker)) (request : Request) → outcome_where found request ≡ Lacks
    → (denied request (rules_by found) ≡ 0) × (lacked request (rules_by found) ≢ 0)
lacks-where None request h = absurd (cc (h))
lacks-where (Some None) request h = absurd (cc (h))
lacks-where (Some (Some who)) request h = lacks-by who request (lacks-confined who request (in_state who.entry.profile who.entry.state who.child) h)

lacks-fine : (entries : List Loaded) (tally : Tally) → outcome_for entries tally ≡ Lacks → IsFine entries (wanted_of tally)
lacks-fine entries tally h = lacks-where (asker entries (who_asks tally.question)) (rule_request tally.question) h

-- all that is wanted can be asked, and lacks something
abbrev AreGood : List Loaded → Wants → Type 0
AreGood entries wants = All CanBeWanted wants.wanted × All (IsFine entries) wants.wanted

module _ (tell : TextsTell) (entries : List Loaded) where
  step-good : (tally : Tally) → CanCome tally → (wants : Wants) → AreGood entries wants → AreGood entries (with_tally entries wants tally)
  step-good tally can wants good = by (outcome_for entries tally) refl
    where
      by : (outcome : Outcome) → outcome_for entries tally ≡ outcome → AreGood entries (with_outcome tally wants outcome)
      by Allowed e = good
      by Nobody e = good
      by Denied e = good
      by Lacks e =
          let asked_for = can-come tally.question can in (
            want-can tell (wanted_of tally) asked_for wants.wanted good.0,
            want-fine tell (wanted_of tally) asked_for entries (lacks-fine entries tally e) wants.wanted good.0 good.1,
          )

  step-keeps : (tally : Tally) → CanCome tally → (wants : Wants) → AreGood entries wants → (who : List ℕ) (request : Request)
      → HasWanted who request wants.wanted → HasWanted who request (with_tally entries wants tally).wanted
  step-keeps tally can wants good who request has = by (outcome_for entries tally)
    where
      by : (outcome : Outcome) → HasWanted who request (with_outcome tally wants outcome).wanted
      by Allowed = has
      by Nobody = has
      by Denied = has
      by Lacks = want-keeps tell (wanted_of tally) (can-come tally.question can) who request wants.wanted good.0 has

  fold-good : (tallies : List Tally) → All CanCome tallies → (wants : Wants) → AreGood entries wants → AreGood entries (fold (with_tally entries) wants tallies)
  fold-good [] can wants good = good
  fold-good (tally ∷ tallies) can wants good =
      fold-good tallies (All-tail CanCome tally tallies can) (with_tally entries wants tally) (step-good tally (All-head CanCome tally tallies can) wants good)

  fold-keeps : (tallies : List Tally) → All CanCome tallies → (wants : Wants) → AreGood entries wants → (who : List ℕ) (request : Request)
      → HasWanted who request wants.wanted → HasWanted who request (fold (with_tally entries) wants tallies).wanted
  fold-keeps [] can wants good who request has = has
  fold-keeps (tally ∷ tallies) can wants good who request has =
      let own = All-head CanCome tally tallies can in
      fold-keeps tallies (All-tail CanCome tally tallies can) (with_tally entries wants tally) (step-good tally own wants good) who request
      (step-keeps tally own wants good who request has)

  step-has : (tally : Tally) → CanCome tally → outcome_for entries tally ≡ Lacks → (wants : Wants) → AreGood entries wants
      → HasWanted (who_asks tally.question) (rule_request tally.question) (with_tally entries wants tally).wanted
  step-has tally can lacks wants good =
      subst (λ outcome. HasWanted (who_asks tally.question) (rule_request tally.question) (with_outcome tally wants outcome).wanted) (sym lacks)
      (want-adds tell (wanted_of tally) (can-come tally.question can) wants.wanted good.0)

  fold-has : (tallies : List Tally) → All CanCome tallies → (wants : Wants) → AreGood entries wants → (tally : Tally) → Contains tallies tally
      → outcome_for entries tally ≡ Lacks → HasWanted (who_asks tally.question) (rule_request tally.question) (fold (with_tally entries) wants tallies).wanted
  fold-has [] can wants good tally (k, few, is) lacks = absurd (omega (arith, few))
  fold-has (first ∷ tallies) can wants good tally (zero, few, is) lacks =
      let here : first ≡ tally = is in
      let own = All-head CanCome first tallies can in
      let own_lacks : outcome_for entries first ≡ Lacks = ap (outcome_for entries) here ∙ lacks in
      subst (λ tally. HasWanted (who_asks tally.question) (rule_request tally.question) (fold (with_tally entries) wants (first ∷ tallies)).wanted) here
      (fold-keeps tallies (All-tail CanCome first tallies can) (with_tally entries wants first) (step-good first own wants good)
      (who_asks first.question) (rule_request first.question) (step-has first own own_lacks wants good))
  fold-has (first ∷ tallies) can wants good tally (suc k, few, is) lacks =
      fold-has tallies (All-tail CanCome first tallies can) (with_tally entries wants first) (step-good first (All-head CanCome first tallies can) wants good)
      tally (k, omega (arith, few), is) lacks

-- rules that let something
abbrev Lets : Rule → Type 0
Lets rule = denies rule ≡ false

made-lets : (request : Request) (needs : ℕ) (rule : Rule) → rule_for request needs ≡ Some rule → Lets rule
made-lets (ForFile letters owned path) needs rule h = by (is_ok (reading (quoted path))) refl
  where
    own : Rule
    own = File (file_rule_for owned path needs)

    by : (fine : Bool) → is_ok (reading (quoted path)) ≡ fine → Lets rule
    by false e = let wrong : None ≡ Some rule = rw e at h in absurd (cc (wrong))
    by true e = let same : Some own ≡ Some rule = rw e at h in let is : own ≡ rule = cc (same) in subst Lets is refl
made-lets (ForCapability number) needs rule h = by (nat_lt number 64) refl
  where
    own : Rule
    own = Cap (cap_rule_for number)

    by : (fine : Bool) → nat_lt number 64 ≡ fine → Lets rule
    by false e = let wrong : None ≡ Some rule = rw e at h in absurd (cc (wrong))
    by true e = let same : Some own ≡ Some rule = rw e at h in let is : own ≡ rule = cc (same) in subst Lets is refl
made-lets (ForSockets domain kind) needs rule h = by (is_protocol kind) refl
  where
    own : Rule
    own = Net (net_rule_for domain kind)

    by : (wrong : Bool) → is_protocol kind ≡ wrong → Lets rule
    by true e = let wrong : None ≡ Some rule = rw e at h in absurd (cc (wrong))
    by false e = let same : Some own ≡ Some rule = rw e at h in let is : own ≡ rule = cc (same) in subst Lets is refl

missing-lets : (request : Request) (rules : List Rule) (rule : Rule) → missing_rule request rules ≡ Some rule → Lets rule
missing-lets request rules rule h = by (lacked request rules == 0) refl
  where
    by : (none : Bool) → (lacked request rules == 0) ≡ none → Lets rule
    by true e = let wrong : None ≡ Some rule = rw (missing_rule, e) at h in absurd (cc (wrong))
    by false e = let own : rule_for request (lacked request rules) ≡ Some rule = rw (missing_rule, e) at h in made-lets request (lacked request rules) rule own

-- what is found lets something
found-lets : (request : Request) (rules : List Rule) → All Lets (rule_found (finding_in rules request))
found-lets request rules = by (in_the_way request rules) (missing_rule request rules) refl
  where
    of : (rule : Rule) → Lets rule → (written : Bool) → All Lets (rule_found (if written then finding.Missing rule else finding.None Unwritten))
    of rule lets true = All-cons Lets rule [] lets (All-nil Lets)
    of rule lets false = All-nil Lets

    by : (way : List ℕ) (found : Option Rule) → missing_rule request rules ≡ found → All Lets (rule_found (finding_or rules request way))
    by (place ∷ places) found e = All-nil Lets
    by [] None e = rw e (All-nil Lets)
    by [] (Some rule) e = rw e (of rule (missing-lets request rules rule e) (is_some (written_rule rule)))

all-let : (entries : List Loaded) (who : List ℕ) (wanted : List Wanted) → All Lets (rules_found entries who wanted)
all-let entries who [] = All-nil Lets
all-let entries who (one ∷ more) = by (bytes_eq one.who who) refl (all-let entries who more)
  where
    by : (own : Bool) → bytes_eq one.who who ≡ own → All Lets (rules_found entries who more) → All Lets (rules_found entries who (one ∷ more))
    by false e rest = rw e rest
    by true e rest =
        rw e (All-append Lets (rule_found (finding_of entries one)) (rules_found entries who more)
        (found-lets one.request (rules_by (asker entries one.who))) rest)

-- and stands among what is found for who asks
found-there : (entries : List Loaded) (who : List ℕ) (rule : Rule) (wanted : List Wanted) (within : Wanted) → Contains wanted within → within.who ≡ who
    → finding_of entries within ≡ finding.Missing rule → Contains (rules_found entries who wanted) rule
found-there entries who rule [] within (k, few, is) same found = absurd (omega (arith, few))
found-there entries who rule (one ∷ more) within (zero, few, is) same found =
    let here : one ≡ within = is in
    let own : bytes_eq one.who who ≡ true = (bytes_eq-Decides one.who who).1 (ap (λ w. w.who) here ∙ same) in
    let first : rule_found (finding_of entries one) ≡ rule ∷ [] = ap (λ w. rule_found (finding_of entries w)) here ∙ ap rule_found found in
    rw own (Contains-append_left (rule_found (finding_of entries one)) (rules_found entries who more) rule (subst (λ rules. Contains rules rule) (sym first) ((0, omega arith, refl))))
found-there entries who rule (one ∷ more) within (suc k, few, is) same found =
    by (bytes_eq one.who who) refl (found-there entries who rule more within (k, omega (arith, few), is) same found)
  where
    by : (own : Bool) → bytes_eq one.who who ≡ own → Contains (rules_found entries who more) rule → Contains (rules_found entries who (one ∷ more)) rule
    by false e rest = rw e rest
    by true e rest = rw e (Contains-append_right (rule_found (finding_of entries one)) (rules_found entries who more) rule rest)

abbrev pub LetsEach : Type 0
LetsEach = (mediation : Mediation) (flag : Bool) (request whole : Request) (rules more : List Rule) (rule : Rule)
    → IsWithin request whole → denied request rules ≡ 0 → missing_rule whole rules ≡ Some rule
    → All (λ rule. denies rule ≡ false) more → Contains more rule
    → (verdict mediation flag (rules ++ more) request).answer ≡ Allow

-- what is found for something, and what is told in its place
found-or-told : LetsEach → (entries : List Loaded) (who : Asker) (name : List ℕ) (wanted : List Wanted) (request : Request) (within : Wanted)
    → Contains wanted within → within.who ≡ name → IsWithin request within.request → rules_by (asker entries within.who) ≡ own_rules who
    → denied request (own_rules who) ≡ 0
    → IsToldWithout (finding_of entries within) ⊎ IsLet who (rules_found entries name wanted) request
found-or-told lets entries who name wanted request within there same has rules none = by (in_the_way within.request own) refl (missing_rule within.request own) refl
  where
    own : List Rule
    own = rules_by (asker entries within.who)

    of : in_the_way within.request own ≡ [] → (rule : Rule) → missing_rule within.request own ≡ Some rule → (written : Bool) → is_some (written_rule rule) ≡ written
        → IsToldWithout (finding_of entries within) ⊎ IsLet who (rules_found entries name wanted) request
    of way rule e false w = inl (inr (rw (way, e, w) refl))
    of way rule e true w =
        let found : finding_of entries within ≡ finding.Missing rule = rw (way, e, w) refl in
        let is : missing_rule within.request (own_rules who) ≡ Some rule = sym (ap (missing_rule within.request) rules) ∙ e in
        inr (λ mediation audit. lets mediation audit request within.request (own_rules who) (rules_found entries name wanted) rule has none is
        (all-let entries name wanted) (found-there entries name rule wanted within there same found))

    by : (way : List ℕ) → in_the_way within.request own ≡ way → (found : Option Rule) → missing_rule within.request own ≡ found
        → IsToldWithout (finding_of entries within) ⊎ IsLet who (rules_found entries name wanted) request
    by (place ∷ places) way found e = inl (inl (rw way refl))
    by [] way None e = inl (inr (rw (way, e) refl))
    by [] way (Some rule) e = of way rule e (is_some (written_rule rule)) refl

-- each request that lacks something is served
pub served : LetsEach → TextsTell → (entries : List Loaded) (tallies : List Tally) (tally : Tally) (who : Asker)
    → All CanCome tallies → Contains tallies tally
    → asker entries (who_asks tally.question) ≡ Some (Some who)
    → outcome_for entries tally ≡ Lacks
    → IsServed entries who (gathered entries tallies).wanted tally
served lets tell entries tallies tally who can there asks lacks =
    let none : AreGood entries nothing = (All-nil CanBeWanted, All-nil (IsFine entries)) in
    let good = fold-good tell entries tallies can nothing none in
    let (within, among, same, has) = fold-has tell entries tallies can nothing none tally there lacks in
    let rules : rules_by (asker entries within.who) ≡ own_rules who = ap (λ who. rules_by (asker entries who)) same ∙ ap rules_by asks in
    let own : denied (rule_request tally.question) (own_rules who) ≡ 0 =
    sym (ap (λ found. denied (rule_request tally.question) (rules_by found)) asks) ∙ (lacks-fine entries tally lacks).0 in
    let fine = All-contains (IsFine entries) (gathered entries tallies).wanted within good.1 among in
    record {
      within = within;
      there = among;
      same = same;
      has_it = has;
      lacks = λ nothing_lacked. fine.1 (ap (lacked within.request) rules ∙ nothing_lacked);
      let_or_told = found-or-told lets entries who (who_asks tally.question) (gathered entries tallies).wanted (rule_request tally.question) within among same has rules own;
    }
