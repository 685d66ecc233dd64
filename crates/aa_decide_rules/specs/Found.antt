-- What rules say of a request for a file where their pattern is known to match its path: a verdict by the rules that match, whatever the path.
use Rattle.std.specs.Prelude.{ℕ, Bool, not, ◌||◌, ◌==◌, if◌then◌else◌, List, fold}
use Rattle.aa_profile_data.specs.Access.{common, union, without}
use Rattle.aa_profile_data.specs.Request.{Request}
use Rattle.aa_profile_data.specs.declared.profile.Rule.{Rule}
use Rattle.aa_profile_data.specs.declared.profile.Rule.TheVariants.{Cap, File, Net, Other}
use Rattle.aa_decide_rules.specs.Verdict.{allows, allows_aloud, covered_by_file, denies, denies_aloud, logged, needs, when_missing}
use Rattle.aa_decide_rules.specs.declared.verdict.Answer.TheVariants.{Allow, Deny}
use Rattle.aa_decide_rules.specs.declared.verdict.Tag.TheVariants.{Audit, Denied}
use Rattle.aa_decide_rules.specs.declared.verdict.Verdict.{Verdict}
use Rattle.aa_decide_rules.specs.declared.judgement.Mediation.{Mediation}

-- the verdict where deny rules cover these needs, audited deny rules the loud ones, and allow rules and audited allow rules the last two
abbrev pub verdict_by : Mediation → Request → ℕ → ℕ → ℕ → ℕ → Verdict
verdict_by mediation request denied loud granted audited =
    let missing = without (needs request) (union denied (without granted denied)) in
    if not (denied == 0) then logged Deny Denied (union loud missing) else
    if not (missing == 0) then when_missing mediation missing else
    logged Allow Audit audited

-- a set, with these needs added if a rule passes a test
abbrev pub put_if : (Rule → Bool) → ℕ → ℕ → Rule → ℕ
put_if test set covered rule = if test rule then union set covered else set

-- the needs that a rule covers whose pattern matches
abbrev pub covers_found : ℕ → Bool → Rule → ℕ
covers_found letters owned (File rule) = if not rule.owner || owned then common letters (covered_by_file rule) else 0
covers_found letters owned (Cap rule) = 0
covers_found letters owned (Net rule) = 0
covers_found letters owned (Other rule) = 0

-- a set, with the needs added that those matching rules cover that pass a test
abbrev pub found_mask : ℕ → Bool → (Rule → Bool) → ℕ → List Rule → ℕ
found_mask letters owned test set rules = fold (λ set rule. put_if test set (covers_found letters owned rule) rule) set rules

-- the verdict of rules whose patterns match
abbrev pub found_verdict : Mediation → Bool → Bool → Request → List Rule → Verdict
found_verdict mediation flag owned request rules =
    verdict_by mediation request
    (found_mask (needs request) owned denies 0 rules) (found_mask (needs request) owned (denies_aloud flag) 0 rules)
    (found_mask (needs request) owned allows 0 rules) (found_mask (needs request) owned (allows_aloud flag) 0 rules)
