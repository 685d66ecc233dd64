-- Rules that can't decide what is claimed cover nothing of what is asked, so no verdict depends on them.
use Rattle.std.proofs.Common.{◌≡◌, ℕ, zero, suc, ◌*◌, ◌^◌, Bool, true, false, not, ◌&&◌, ◌||◌, ◌==◌, if◌then◌else◌, List, [], ◌∷◌, refl, sym, ◌∙◌, ap, subst, inl, inr, arith}
use Rattle.std.specs.Prelude.{Contains}
use Rattle.std.specs.Int.{bit_at}
use Rattle.std.specs.Int.Bits.{and_self, and_zero_r, or_zero_r}
use Rattle.std.specs.List.{list_any}
use Rattle.std.proofs.lemmas.Bool.{eqb-false, eqb-true}
use Rattle.std.proofs.lemmas.Nat.{and_assoc, and_comm}
use Rattle.std.proofs.lemmas.Nat.Bits.{and_pow, bit_at-lt}
use Rattle.aa_decide_rules.specs.declared.verdict.Answer.TheVariants.{Allow, Deny}
use Rattle.aa_decide_rules.specs.declared.verdict.Tag.TheVariants.{Audit, Denied}
use Rattle.aa_decide_rules.specs.Verdict.{allows, allows_aloud, covered_by_file, covers, denies, denies_aloud, logged, verdict, when_missing, with_covered, with_rule}
use Rattle.aa_decide_rules.specs.declared.judgement.Mediation.{Mediation}
use Rattle.aa_decide_rules.specs.declared.judgement.Mediation.TheVariants.{Enforcing}
use Rattle.aa_glob_nfa.proofs.ListLemmas.{Contains-cons_cases, Contains-first, Contains-later}
use Rattle.aa_glob_syntax.specs.Matching.{matches}
use Rattle.aa_glob_syntax.specs.Reading.{items_of}
use Rattle.aa_profile_data.specs.Access.{APPEND, EXEC, LINK, LOCK, MAP, READ, WRITE, common, union, without}
use Rattle.aa_profile_data.specs.Request.{ForFile}
use Rattle.aa_profile_data.specs.declared.profile.Rule.{Rule}
use Rattle.aa_profile_data.specs.declared.profile.Rule.TheVariants.{Cap, File, Net, Other}
use Rattle.aa_explain_paths.specs.Answers.{Asked, IsAnswer, IsAnswerBy, IsBreaking, breaking_by}
use Rattle.aa_explain_paths.specs.Claims.{are_let, breaking_letters, breaks, breaks_for, first_owner, is_allow, is_let, let_letters, owners}
use Rattle.aa_explain_paths.specs.Laws.{RelevantRulesDecide}
use Rattle.aa_explain_paths.specs.Relevant.{has_owned, is_relevant, relevant_rules}
use Rattle.aa_explain_paths.specs.declared.question.Claim.{Claim}
use Rattle.aa_explain_paths.specs.declared.question.Claim.TheVariants.{Always, Never}
use Rattle.aa_explain_paths.specs.declared.question.PathAnswer.{PathAnswer}
use Rattle.aa_explain_paths.specs.declared.question.PathAnswer.TheVariants.{Fails, Holds, TooMany}
use Rattle.aa_explain_paths.specs.declared.question.Whose.{Whose}
use Rattle.aa_explain_paths.specs.declared.question.Whose.TheVariants.{Any, Other as Others, Owner}

-- where nothing of a set is in another, nothing of a part of it is
part-apart : (letters own other : ℕ) → common letters own ≡ own → common letters other ≡ 0 → common own other ≡ 0
part-apart letters own other within apart =
    ap (λ n. common n other) (sym within ∙ and_comm letters own) ∙ and_assoc other own letters ∙ ap (common own) apart ∙ and_zero_r own

-- a test of whose two sides are one
one-side : (n : ℕ) (b : Bool) → (if b then n else n) ≡ n
one-side n true = refl
one-side n false = refl

-- the file of an owner that is meant is owned only where some are
owned-meant : (whose : Whose) (owned : Bool) → Contains (owners whose) owned → has_owned whose ≡ false → owned ≡ false
owned-meant Owner owned at none = absurd cc
owned-meant Any owned at none = absurd cc
owned-meant Others owned at none = elim (Contains-cons_cases false [] owned at) [
  | inl same ↦ sym same
  | inr more ↦ absurd (omega (arith, more.1))
]

module _ (letters : ℕ) (whose : Whose) (own : ℕ) (within : common letters own ≡ own) (owned : Bool) (meant : Contains (owners whose) owned) (path : List ℕ) where
  -- a rule that can't decide covers nothing of the request
  covers-nothing : (rule : Rule) → is_relevant letters whose rule ≡ false → covers (ForFile own owned path) rule ≡ 0
  covers-nothing (Cap rule) is = refl
  covers-nothing (Net rule) is = refl
  covers-nothing (Other rule) is = refl
  covers-nothing (File rule) is = by (common letters (covered_by_file rule) == 0) refl is
    where
      held : Bool
      held = matches (items_of rule.pattern) path

      by : (b : Bool) → (common letters (covered_by_file rule) == 0) ≡ b → (not b && (not rule.owner || has_owned whose)) ≡ false
          → covers (ForFile own owned path) (File rule) ≡ 0
      by true none is =
          let apart = part-apart letters own (covered_by_file rule) within (eqb-true (common letters (covered_by_file rule)) 0 none) in
          ap (λ n. if held && (not rule.owner || owned) then n else 0) apart ∙ one-side 0 (held && (not rule.owner || owned))
      by false some is = of rule.owner (has_owned whose) refl refl is
        where
          of : (b h : Bool) → rule.owner ≡ b → has_owned whose ≡ h → (not b || h) ≡ false → covers (ForFile own owned path) (File rule) ≡ 0
          of false h mine theirs is = absurd cc
          of true true mine theirs is = absurd cc
          of true false mine theirs is =
              let unowned : owned ≡ false = owned-meant whose owned meant theirs in
              let never : (held && (not rule.owner || owned)) ≡ false =
              ap (λ b. held && (not b || owned)) mine ∙ ap (λ b. held && b) unowned ∙ off held in
              ap (λ b. if b then common own (covered_by_file rule) else 0) never
            where
              off : (b : Bool) → (b && false) ≡ false
              off true = refl
              off false = refl

  -- so it adds nothing to what rules cover together
  adds-nothing : (test : Rule → Bool) (set : ℕ) (rule : Rule) → is_relevant letters whose rule ≡ false → with_rule (ForFile own owned path) test set rule ≡ set
  adds-nothing test set rule is =
      ap (λ n. if test rule then union set n else set) (covers-nothing rule is) ∙ ap (λ n. if test rule then n else set) (or_zero_r set) ∙ one-side set (test rule)

  covered-same : (test : Rule → Bool) (rules : List Rule) (set : ℕ)
      → with_covered (ForFile own owned path) test set (relevant_rules letters whose rules) ≡ with_covered (ForFile own owned path) test set rules
  covered-same test [] set = refl
  covered-same test (rule ∷ rules) set = by (is_relevant letters whose rule) refl (covered-same test rules)
    where
      by : (b : Bool) → is_relevant letters whose rule ≡ b
          → ((s : ℕ) → with_covered (ForFile own owned path) test s (relevant_rules letters whose rules) ≡ with_covered (ForFile own owned path) test s rules)
          → with_covered (ForFile own owned path) test set (relevant_rules letters whose (rule ∷ rules))
          ≡ with_covered (ForFile own owned path) test set (rule ∷ rules)
      by true is later = rw is (later (with_rule (ForFile own owned path) test set rule))
      by false is later =
          rw is (later set
          ∙ ap (λ s. with_covered (ForFile own owned path) test s rules) (sym (adds-nothing test set rule is)))

  pub verdict-same : (mediation : Mediation) (flag : Bool) (rules : List Rule)
      → verdict mediation flag (relevant_rules letters whose rules) (ForFile own owned path) ≡ verdict mediation flag rules (ForFile own owned path)
  verdict-same mediation flag rules =
      let d = covered-same denies rules 0 in
      let g = covered-same allows rules 0 in
      let l = covered-same (denies_aloud flag) rules 0 in
      let a = covered-same (allows_aloud flag) rules 0 in
      λ i. (
      if not (d i == 0) then logged Deny Denied (union (l i) (without own (union (d i) (without (g i) (d i))))) else
      if not (without own (union (d i) (without (g i) (d i))) == 0) then when_missing mediation (without own (union (d i) (without (g i) (d i)))) else
      logged Allow Audit (a i)
      )

pub relevant-decide : RelevantRulesDecide
relevant-decide letters whose rules own owned path within meant mediation flag =
    verdict-same letters whose own within owned meant path mediation flag rules

-- a letter that is among some is a part of them
single-part : (letters k : ℕ) → (common letters (2 ^ k) == 0) ≡ false → common letters (2 ^ k) ≡ 2 ^ k
single-part letters k some = by (bit_at letters k) refl
  where
    by : (b : ℕ) → bit_at letters k ≡ b → common letters (2 ^ k) ≡ 2 ^ k
    by zero is = absurd (eqb-false (common letters (2 ^ k)) 0 some (and_pow letters k ∙ ap (λ b. b * 2 ^ k) is ∙ omega arith))
    by (suc zero) is = and_pow letters k ∙ ap (λ b. b * 2 ^ k) is ∙ omega arith
    by (suc (suc b)) is = absurd (omega (arith, is, bit_at-lt letters k))

module _ (letters : ℕ) (whose : Whose) (rules : List Rule) (path : List ℕ) where
  abbrev kept : List Rule
  kept = relevant_rules letters whose rules

  module _ (owned : Bool) (meant : Contains (owners whose) owned) where
    -- the same is let by the rules that can decide
    part-let : (own : ℕ) → common letters own ≡ own → are_let kept own owned path ≡ are_let rules own owned path
    part-let own within = λ i. is_allow (verdict-same letters whose own within owned meant path Enforcing false rules i).answer

    single-let : (k : ℕ) → is_let kept letters owned path (2 ^ k) ≡ is_let rules letters owned path (2 ^ k)
    single-let k = by (common letters (2 ^ k) == 0) refl
      where
        by : (b : Bool) → (common letters (2 ^ k) == 0) ≡ b
            → (not (common letters (2 ^ k) == 0) && are_let kept (2 ^ k) owned path) ≡ (not (common letters (2 ^ k) == 0) && are_let rules (2 ^ k) owned path)
        by true none = rw none refl
        by false some = ap (λ b. not (common letters (2 ^ k) == 0) && b) (part-let (2 ^ k) (single-part letters k some))

    breaks-same : (claim : Claim) → breaks claim kept letters path owned ≡ breaks claim rules letters path owned
    breaks-same Never =
        λ i. (single-let 0 i || (single-let 1 i || (single-let 2 i || (single-let 3 i || (single-let 4 i || (single-let 5 i || (single-let 6 i || false)))))))
    breaks-same Always = λ i. not (part-let letters (and_self letters) i)

    letters-same : let_letters kept letters owned path ≡ let_letters rules letters owned path
    letters-same =
        let one : ℕ → Bool → ℕ → ℕ = λ set is letter. if is then union set letter else set in
        λ i. one (one (one (one (one (one (one 0 (single-let 0 i) READ) (single-let 1 i) WRITE) (single-let 2 i) APPEND) (single-let 3 i) LINK) (single-let 4 i) LOCK)
        (single-let 5 i) MAP) (single-let 6 i) EXEC

    breaking-same : (claim : Claim) → breaking_letters claim kept letters path owned ≡ breaking_letters claim rules letters path owned
    breaking-same Never = letters-same
    breaking-same Always = ap (without letters) letters-same

  for-same : (claim : Claim) → breaks_for claim kept letters whose path ≡ breaks_for claim rules letters whose path
  for-same claim = by whose refl
    where
      by : (own : Whose) → whose ≡ own → list_any (breaks claim kept letters path) (owners own) ≡ list_any (breaks claim rules letters path) (owners own)
      by Owner is =
          let same = breaks-same true (subst (λ w. Contains (owners w) true) (sym is) (Contains-first true [])) claim in
          λ i. same i || false
      by Others is =
          let same = breaks-same false (subst (λ w. Contains (owners w) false) (sym is) (Contains-first false [])) claim in
          λ i. same i || false
      by Any is =
          let one = breaks-same false (subst (λ w. Contains (owners w) false) (sym is) (Contains-first false (true ∷ []))) claim in
          let other = breaks-same true (subst (λ w. Contains (owners w) true) (sym is) (Contains-later false (true ∷ []) true (Contains-first true []))) claim in
          λ i. one i || (other i || false)

  -- whose file says otherwise first, and that such are meant
  owner-same : (claim : Claim) → first_owner claim kept letters whose path ≡ first_owner claim rules letters whose path
  owner-same claim = by whose refl
    where
      by : (own : Whose) → whose ≡ own → first_owner claim kept letters own path ≡ first_owner claim rules letters own path
      by Owner is = refl
      by Others is = refl
      by Any is = ap not (breaks-same false (subst (λ w. Contains (owners w) false) (sym is) (Contains-first false (true ∷ []))) claim)

  owner-meant : (claim : Claim) → Contains (owners whose) (first_owner claim rules letters whose path)
  owner-meant claim = by whose
    where
      of : (b : Bool) → Contains (false ∷ true ∷ []) b
      of false = Contains-first false (true ∷ [])
      of true = Contains-later false (true ∷ []) true (Contains-first true [])

      by : (own : Whose) → Contains (owners own) (first_owner claim rules letters own path)
      by Owner = Contains-first true []
      by Others = Contains-first false []
      by Any = of (not (breaks claim rules letters path false))

-- a path says otherwise by the rules that can decide exactly where it does by all
module _ (rules : List Rule) (asked : Asked) where
  abbrev own : List Rule
  own = relevant_rules asked.letters asked.whose rules

  to-kept : (path : List ℕ) → IsBreaking rules asked path → IsBreaking own asked path
  to-kept path breaking = record {
    bytes = breaking.bytes;
    meant = breaking.meant;
    breaks = for-same asked.letters asked.whose rules path asked.claim ∙ breaking.breaks;
  }

  from-kept : (path : List ℕ) → IsBreaking own asked path → IsBreaking rules asked path
  from-kept path breaking = record {
    bytes = breaking.bytes;
    meant = breaking.meant;
    breaks = sym (for-same asked.letters asked.whose rules path asked.claim) ∙ breaking.breaks;
  }

  told-same : (path : List ℕ) → breaking_by own asked path ≡ breaking_by rules asked path
  told-same path =
      let first = owner-same asked.letters asked.whose rules path asked.claim in
      let owned = first_owner asked.claim rules asked.letters asked.whose path in
      let rest = breaking-same asked.letters asked.whose rules path owned (owner-meant asked.letters asked.whose rules path asked.claim) asked.claim in
      ap (λ b. record { path = path; owned = b; letters = breaking_letters asked.claim own asked.letters path b }) first
      ∙ ap (λ l. record { path = path; owned = owned; letters = l }) rest

  -- the answer by the rules that can decide is that by all
  pub answer-by-all : (limit : ℕ) (answer : PathAnswer) → IsAnswerBy own own asked limit answer → IsAnswer rules asked limit answer
  answer-by-all limit (Holds count) is = (λ path breaking. is.0 path (to-kept path breaking), is.1)
  answer-by-all limit (Fails breaking) is = (
    record {
      breaking = from-kept breaking.path.items is.0.breaking;
      shortest = λ other says. is.0.shortest other (to-kept other says);
    },
    is.1 ∙ told-same breaking.path.items,
  )
  answer-by-all limit TooMany is = is
