-- A written rule decides as it is read.
use Rattle.std.proofs.Common.{◌≡◌, ℕ, ◌==◌, ◌&&◌, ◌||◌, Bool, not, List, ◌∷◌, ◌++◌, Option, None, Some, inl, inr, refl, sym, ap, ◌∙◌}
use Rattle.std.specs.Prelude.{fold, if◌then◌else◌}
use Rattle.std.proofs.lemmas.Bool.{and_parts, cases_Bool}
use Rattle.std.proofs.lemmas.List.Sums.{fold-append}
use Rattle.aa_glob_syntax.specs.Items.{Pattern}
use Rattle.aa_glob_syntax.specs.Matching.{matches}
use Rattle.aa_glob_syntax.specs.Reading.{items_of}
use Rattle.aa_decide_rules.specs.declared.verdict.Answer.TheVariants.{Allow, Deny}
use Rattle.aa_decide_rules.specs.declared.verdict.Tag.TheVariants.{Audit, Denied}
use Rattle.aa_decide_rules.specs.declared.verdict.Verdict.{Verdict}
use Rattle.aa_decide_rules.specs.Verdict.{allows, allows_aloud, audited, covered_by, covers, denied, denies, denies_aloud, granted, logged, loud, mask, needs, verdict, when_missing, with_rule}
use Rattle.aa_decide_rules.specs.declared.judgement.Mediation.{Mediation}
use Rattle.aa_profile_data.specs.Access.{common, union, without}
use Rattle.aa_profile_data.specs.Request.{ForCapability, ForFile, ForSockets, Request}
use Rattle.aa_profile_data.specs.declared.profile.FileRule.{FileRule}
use Rattle.aa_profile_data.specs.declared.profile.Rule.{Rule}
use Rattle.aa_profile_data.specs.declared.profile.Rule.TheVariants.{Cap, File, Net, Other}
use Rattle.aa_explain_written.specs.Quotes.{between_quotes, fits_quotes}
use Rattle.aa_explain_written.specs.ReadBack.{IsOfOne, as_read}
use Rattle.aa_explain_written.specs.Written.{is_file_written, lets_of_one, written_rule}
use Rattle.aa_explain_written.proofs.MissingLemmas.{ReadsAsItself, items-same}

-- what a rule on files covers goes by the items of its pattern
covers-file : (request : Request) (rule : FileRule) → items_of (between_quotes rule.pattern) ≡ items_of rule.pattern → covers request (as_read (File rule)) ≡ covers request (File rule)
covers-file (ForFile letters owned path) rule same =
    ap (λ (items : Pattern). if matches items path && (not rule.owner || owned) then common letters (covered_by (File rule)) else 0) same
covers-file (ForCapability number) rule same = refl
covers-file (ForSockets domain kind) rule same = refl

covers-same : ReadsAsItself → (request : Request) (rule : Rule) (text : List ℕ) → IsOfOne rule → written_rule rule ≡ Some text → covers request (as_read rule) ≡ covers request rule
covers-same reads request (File rule) text (path, of_path) h = elim (cases_Bool (is_file_written rule)) [
  | inr unwritten ↦ let none : ◌≡◌ {A = Option (List ℕ)} None (Some text) = rw unwritten at h in absurd cc
  | inl can ↦ covers-file request rule (items-same reads path rule.pattern of_path (and_parts (lets_of_one rule) (fits_quotes (between_quotes rule.pattern)) can).1)
]
covers-same reads request (Cap rule) text one h = refl
covers-same reads request (Net rule) text one h = refl
covers-same reads request (Other rule) text one h = refl

-- tests of rules that don't look at patterns
denies-same : (rule : Rule) → denies (as_read rule) ≡ denies rule
denies-same (File rule) = refl
denies-same (Cap rule) = refl
denies-same (Net rule) = refl
denies-same (Other rule) = refl

denies_aloud-same : (flag : Bool) (rule : Rule) → denies_aloud flag (as_read rule) ≡ denies_aloud flag rule
denies_aloud-same flag (File rule) = refl
denies_aloud-same flag (Cap rule) = refl
denies_aloud-same flag (Net rule) = refl
denies_aloud-same flag (Other rule) = refl

allows_aloud-same : (flag : Bool) (rule : Rule) → allows_aloud flag (as_read rule) ≡ allows_aloud flag rule
allows_aloud-same flag (File rule) = refl
allows_aloud-same flag (Cap rule) = refl
allows_aloud-same flag (Net rule) = refl
allows_aloud-same flag (Other rule) = refl

-- what rules cover together, where one of them covers and passes as another
mask-same : (request : Request) (test : Rule → Bool) (before after : List Rule) (one other : Rule) → covers request one ≡ covers request other → test one ≡ test other
    → mask request test (before ++ (one ∷ after)) ≡ mask request test (before ++ (other ∷ after))
mask-same request test before after one other covers_same test_same =
    let with = with_rule request test in
    let so_far = fold with 0 before in
    let step : with so_far one ≡ with so_far other =
    ap (λ (t : Bool). if t then union so_far (covers request one) else so_far) test_same ∙ ap (λ (c : ℕ). if test other then union so_far c else so_far) covers_same in
    fold-append with 0 before (one ∷ after) ∙ ap (λ (s : ℕ). fold with s after) step ∙ sym (fold-append with 0 before (other ∷ after))

-- the verdict from what rules cover together
abbrev pub verdict_by : Mediation → ℕ → ℕ → ℕ → ℕ → ℕ → Verdict
verdict_by mediation needed denied loud granted audited =
    let missing = without needed (union denied (without granted denied)) in
    if not (denied == 0) then logged Deny Denied (union loud missing) else
    if not (missing == 0) then when_missing mediation missing else
    logged Allow Audit audited

-- a rule decides as it is read
pub verdict-same : ReadsAsItself → (mediation : Mediation) (flag : Bool) (request : Request) (before after : List Rule) (rule : Rule) (text : List ℕ) → IsOfOne rule → written_rule rule ≡ Some text
    → verdict mediation flag (before ++ (as_read rule ∷ after)) request ≡ verdict mediation flag (before ++ (rule ∷ after)) request
verdict-same reads mediation flag request before after rule text one h =
    let same = covers-same reads request rule text one h in
    let d = mask-same request denies before after (as_read rule) rule same (denies-same rule) in
    let l = mask-same request (denies_aloud flag) before after (as_read rule) rule same (denies_aloud-same flag rule) in
    let g = mask-same request allows before after (as_read rule) rule same (ap not (denies-same rule)) in
    let a = mask-same request (allows_aloud flag) before after (as_read rule) rule same (allows_aloud-same flag rule) in
    let read = before ++ (as_read rule ∷ after) in
    let own = before ++ (rule ∷ after) in
    ap (λ (n : ℕ). verdict_by mediation (needs request) n (loud flag request read) (granted request read) (audited flag request read)) d
    ∙ ap (λ (n : ℕ). verdict_by mediation (needs request) (denied request own) n (granted request read) (audited flag request read)) l
    ∙ ap (λ (n : ℕ). verdict_by mediation (needs request) (denied request own) (loud flag request own) n (audited flag request read)) g
    ∙ ap (λ (n : ℕ). verdict_by mediation (needs request) (denied request own) (loud flag request own) (granted request own) n) a
