-- The first path that says otherwise, of those that stand for all, is one of the shortest of all that do.
use Rattle.std.proofs.Common.{◌≡◌, ℕ, suc, ◌≤◌, Bool, true, false, not, ◌&&◌, ◌==◌, if◌then◌else◌, List, [], ◌∷◌, length, refl, sym, ◌∙◌, ap, subst, inl, inr, arith}
use Rattle.std.proofs.lemmas.Bool.{and_from, and_parts, true≢false}
use Rattle.std.specs.List.{list_any}
use Rattle.std.specs.Prelude.{AllPairs, Contains, None, Option, Some}
use Rattle.std.proofs.lemmas.List.Elements.{All-contains}
use Rattle.aa_decide_rules.specs.declared.judgement.Mediation.TheVariants.{Enforcing}
use Rattle.aa_glob_nfa.proofs.ListLemmas.{Contains-cons_cases, Contains-first, Contains-later, Contains-map_cases}
use Rattle.aa_glob_paths.specs.AllPaths.{IsOutcome, TellAllPaths}
use Rattle.aa_glob_paths.specs.Laws.{AreMatchedAlike, OutcomesStandForAll, StandForAllPaths, paths_of}
use Rattle.aa_glob_paths.specs.declared.outcome.Outcome.{Outcome}
use Rattle.aa_profile_data.specs.Access.{common}
use Rattle.aa_profile_data.specs.FileRules.{file_patterns}
use Rattle.aa_profile_data.specs.declared.profile.Rule.{Rule}
use Rattle.aa_explain_paths.specs.Answers.{Asked, Breaking, HoldsOfAll, IsAnswerBy, IsBreaking, IsShortestBreaking, breaking_by, seen_breaking}
use Rattle.aa_explain_paths.specs.Claims.{breaks, is_allow, owners, single_letters}
use Rattle.aa_explain_paths.specs.Laws.{AreAnsweredAlike}
use Rattle.aa_explain_paths.specs.Meant.{is_matched, unasked_patterns}
use Rattle.aa_explain_paths.specs.code.Breaking.{answer_of, breaking_at, first_break, says_otherwise, seen_answer}
use Rattle.aa_explain_paths.specs.Telling.{all_classes, telling_patterns}
use Rattle.aa_explain_paths.specs.declared.question.Claim.{Claim}
use Rattle.aa_explain_paths.specs.declared.question.Claim.TheVariants.{Always, Never}
use Rattle.aa_explain_paths.specs.declared.question.PathAnswer.{PathAnswer}
use Rattle.aa_explain_paths.specs.declared.question.PathAnswer.TheVariants.{Fails, Holds, TooMany}
use Rattle.aa_explain_paths.proofs.TellingLemmas.{files-among, matched-told, outcome-asked, outcome-matched}
use Rattle.aa_explain_paths.proofs.VerdictLemmas.{verdicts-alike}

-- where the first that passes a test is none, none passes it
none-passes : (test : List ℕ → Bool) (os : List Outcome) → first_break test os ≡ None → (o : Outcome) → Contains os o → test o.path.items ≡ false
none-passes test [] none o at = absurd (omega (arith, at.1))
none-passes test (one ∷ os) none o at = by (test one.path.items) refl none (none-passes test os)
  where
    by : (b : Bool) → test one.path.items ≡ b → (if b then Some one.path.items else first_break test os) ≡ None
        → (first_break test os ≡ None → (o : Outcome) → Contains os o → test o.path.items ≡ false) → test o.path.items ≡ false
    by true is none later = absurd cc
    by false is none later = elim (Contains-cons_cases one os o at) [
      | inl same ↦ ap (λ (o : Outcome). test o.path.items) (sym same) ∙ is
      | inr more ↦ later none o more
    ]

-- the first that passes it is among them
first-among : (test : List ℕ → Bool) (os : List Outcome) (path : List ℕ) → first_break test os ≡ Some path
    → (o : Outcome) × Contains os o × (o.path.items ≡ path) × (test path ≡ true)
first-among test [] path some = absurd cc
first-among test (one ∷ os) path some = by (test one.path.items) refl some (first-among test os path)
  where
    by : (b : Bool) → test one.path.items ≡ b → (if b then Some one.path.items else first_break test os) ≡ Some path
        → (first_break test os ≡ Some path → (o : Outcome) × Contains os o × (o.path.items ≡ path) × (test path ≡ true))
        → (o : Outcome) × Contains (one ∷ os) o × (o.path.items ≡ path) × (test path ≡ true)
    by true is some later =
        let same : one.path.items ≡ path = cc in (one, Contains-first one os, same, ap test (sym same) ∙ is)
    by false is some later = let there = later some in (there.0, Contains-later one os there.0 there.1, there.2, there.3)

-- a path that doesn't say otherwise is passed over
pub passed-over : (rules : List Rule) (asked : Asked) (o : Outcome) (os : List Outcome)
    → breaking_at rules asked o.path.items ≡ None
    → first_break (says_otherwise rules asked) (o ∷ os) ≡ first_break (says_otherwise rules asked) os
passed-over rules asked o os none = by (says_otherwise rules asked o.path.items) refl none
  where
    by : (b : Bool) → says_otherwise rules asked o.path.items ≡ b → (if b then Some (breaking_by rules asked o.path.items) else None) ≡ None
        → first_break (says_otherwise rules asked) (o ∷ os) ≡ first_break (says_otherwise rules asked) os
    by true is some = absurd cc
    by false is some = rw is refl

abbrev ByLength : List Outcome → Type 0
ByLength os = AllPairs (λ one later. length one.path.items ≤ length later.path.items) os

-- and no shorter one passes it
first-shortest : (test : List ℕ → Bool) (os : List Outcome) (path : List ℕ) → ByLength os → first_break test os ≡ Some path
    → (o : Outcome) → Contains os o → test o.path.items ≡ true → length path ≤ length o.path.items
first-shortest test [] path rise some o at passes = absurd (omega (arith, at.1))
first-shortest test (one ∷ os) path rise some o at passes =
    by (test one.path.items) refl some (first-shortest test os path (λ i j d before within. rise (suc i) (suc j) d (omega (arith, before)) (omega (arith, within))))
  where
    by : (b : Bool) → test one.path.items ≡ b → (if b then Some one.path.items else first_break test os) ≡ Some path
        → (first_break test os ≡ Some path → (o : Outcome) → Contains os o → test o.path.items ≡ true → length path ≤ length o.path.items)
        → length path ≤ length o.path.items
    by true is some later =
        let same : one.path.items ≡ path = cc in
        subst (λ l. length l ≤ length o.path.items) same (elim (Contains-cons_cases one os o at) [
          | inl own ↦ subst (λ (x : Outcome). length one.path.items ≤ length x.path.items) own (omega arith)
          | inr more ↦
              subst (λ (x : Outcome). length one.path.items ≤ length x.path.items) more.2
              (rise 0 (suc more.0) o (omega arith) (omega (arith, more.1)))
        ])
    by false is some later = elim (Contains-cons_cases one os o at) [
      | inl own ↦ absurd (true≢false (sym passes ∙ ap (λ (x : Outcome). test x.path.items) (sym own) ∙ is))
      | inr more ↦ later some o more passes
    ]

not-true : (b : Bool) → not b ≡ true → b ≡ false
not-true false h = refl
not-true true h = absurd cc

module _ (rules : List Rule) (asked : Asked) where
  abbrev all : List (List ℕ)
  all = telling_patterns rules asked.patterns unasked_patterns

  abbrev classes : List ℕ
  classes = all_classes rules asked.patterns unasked_patterns

  abbrev test : List ℕ → Bool
  test = says_otherwise rules asked

  -- paths with the same verdicts say otherwise alike
  breaks-alike : (path other : List ℕ) → AreAnsweredAlike rules path other → (claim : Claim) (owned : Bool)
      → breaks claim rules asked.letters path owned ≡ breaks claim rules asked.letters other owned
  breaks-alike path other alike Never owned =
      λ i. list_any (λ letter. not (common asked.letters letter == 0) && is_allow (alike Enforcing false letter owned i).answer) single_letters
  breaks-alike path other alike Always owned = λ i. not (is_allow (alike Enforcing false asked.letters owned i).answer)

  -- so do paths that the same patterns match
  test-alike : (path other : List ℕ) → AreMatchedAlike all path other → test path ≡ test other
  test-alike path other alike =
      let verdicts = verdicts-alike all rules path other (files-among rules asked.patterns unasked_patterns) alike in
      λ i. list_any (λ owned. breaks-alike path other verdicts asked.claim owned i) (owners asked.whose)

  module _ (outcomes : List Outcome) (told : TellAllPaths all classes outcomes) (stand : StandForAllPaths all classes (paths_of outcomes)) where
    -- a path that says otherwise has an outcome whose path does, and is no longer
    standing : (path : List ℕ) → IsBreaking rules asked path
        → (o : Outcome) × Contains outcomes o × (test o.path.items ≡ true) × (length o.path.items ≤ length path)
    standing path breaking =
        let meant = and_parts (is_matched asked.patterns path) (not (is_matched unasked_patterns path)) breaking.meant in
        let there = stand path breaking.bytes (matched-told (file_patterns rules) asked.patterns unasked_patterns path meant.0 (not-true (is_matched unasked_patterns path) meant.1)) in
        let o = Contains-map_cases (λ (o : Outcome). o.path.items) outcomes there.0 there.1 in (
          o.0,
          o.1,
          ap test o.2 ∙ sym (test-alike path there.0 there.2.alike) ∙ breaking.breaks,
          subst (λ l. length l ≤ length path) (sym o.2) there.2.no_longer,
        )

    -- the path of an outcome that passes the test says otherwise
    outcome-breaks : (o : Outcome) → Contains outcomes o → test o.path.items ≡ true → IsBreaking rules asked o.path.items
    outcome-breaks o at passes =
        let is = All-contains (IsOutcome all classes) outcomes o told.each_outcome at in
        record {
          bytes = is.bytes;
          meant =
              and_from (is_matched asked.patterns o.path.items) (not (is_matched unasked_patterns o.path.items))
              (outcome-matched (file_patterns rules) asked.patterns unasked_patterns o is) (ap not (outcome-asked (file_patterns rules) asked.patterns unasked_patterns o is));
          breaks = passes;
        }

    holds : first_break test outcomes ≡ None → HoldsOfAll rules asked
    holds none path breaking =
        let there = standing path breaking in
        true≢false (sym there.2 ∙ none-passes test outcomes none there.0 there.1)

    fails : (path : List ℕ) → first_break test outcomes ≡ Some path → IsShortestBreaking rules asked path
    fails path some =
        let first = first-among test outcomes path some in
        record {
          breaking = subst (IsBreaking rules asked) first.2 (outcome-breaks first.0 first.1 (ap test first.2 ∙ first.3));
          shortest = λ other breaking.
              let there = standing other breaking in
              let least = first-shortest test outcomes path told.by_length some there.0 there.1 there.2 in
              omega (arith, least, there.3);
        }

    pub answer-right : (limit : ℕ) (answer : PathAnswer) → seen_answer answer ≡ answer_of rules asked (length outcomes) (first_break test outcomes)
        → IsAnswerBy rules rules asked limit answer
    answer-right limit answer seen = by answer (first_break test outcomes) refl seen
      where
        by : (answer : PathAnswer) (found : Option (List ℕ)) → first_break test outcomes ≡ found → seen_answer answer ≡ answer_of rules asked (length outcomes) found
            → IsAnswerBy rules rules asked limit answer
        by (Holds count) None is seen = let same : count ≡ length outcomes = cc in (holds is, record { outcomes = outcomes; told = told; counted = same })
        by (Holds count) (Some path) is seen = absurd cc
        by (Fails own) None is seen = absurd cc
        by (Fails own) (Some path) is seen =
            let told : seen_breaking own ≡ breaking_by rules asked path = cc in
            let same : own.path.items ≡ path = ap (λ (b : Breaking). b.path) told in
            (fails own.path.items (is ∙ ap Some (sym same)), told ∙ ap (breaking_by rules asked) (sym same))
        by TooMany None is seen = absurd cc
        by TooMany (Some path) is seen = absurd cc

-- the answer by paths that stand for all, with the patterns of the paths that the kernel never asks about
pub answer-standing : OutcomesStandForAll → (rules : List Rule) (asked : Asked) (outcomes : List Outcome)
    → TellAllPaths (telling_patterns rules asked.patterns unasked_patterns) (all_classes rules asked.patterns unasked_patterns) outcomes
    → (limit : ℕ) (answer : PathAnswer)
    → seen_answer answer ≡ answer_of rules asked (length outcomes) (first_break (says_otherwise rules asked) outcomes) → IsAnswerBy rules rules asked limit answer
answer-standing law rules asked outcomes told limit answer seen =
    let stand = law (telling_patterns rules asked.patterns unasked_patterns) (all_classes rules asked.patterns unasked_patterns) outcomes told in
    answer-right rules asked outcomes told stand limit answer seen
