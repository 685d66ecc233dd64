-- Definitions for the law on the rules to add.
use Rattle.std.specs.Prelude.{◌≡◌, ◌≢◌, ◌⊎◌, ◌++◌, Bool, List}
use Rattle.std.specs.List.{Contains}
use Rattle.aa_decide.specs.Exec.{Asker}
use Rattle.aa_decide_rules.specs.declared.verdict.Answer.TheVariants.{Allow}
use Rattle.aa_decide_rules.specs.Verdict.{verdict}
use Rattle.aa_decide_rules.specs.declared.judgement.Mediation.{Mediation}
use Rattle.aa_decide_ready.specs.Entries.{Loaded}
use Rattle.aa_explain_rules.specs.Joined.{IsWithin}
use Rattle.aa_explain_rules.specs.Missing.{lacked}
use Rattle.aa_profile_data.specs.Request.{Request}
use Rattle.aa_profile_data.specs.declared.profile.Rule.{Rule}
use Rattle.aa_set_answers.specs.Answers.{who_asks}
use Rattle.aatry_log_rules.specs.Findings.{finding_of, rules_found}
use Rattle.aatry_log_rules.specs.Outcomes.{own_rules}
use Rattle.aatry_log_rules.specs.Wanted.{Wanted}
use Rattle.aatry_log_rules.specs.declared.finding.Finding.{Finding}
use Rattle.aatry_log_rules.specs.declared.finding.Finding.TheVariants as finding
use Rattle.aatry_log_rules.specs.declared.finding.NoRule.TheVariants.{InTheWay, Unwritten}
use Rattle.aatry_requests.specs.Laws.{CanBeAsked}
use Rattle.aatry_requests.specs.Questions.{rule_request}
use Rattle.aatry_requests.specs.Tallies.{Tally}

-- the question of a tally is one that can be asked
abbrev pub CanCome : Tally → Type 0
CanCome tally = CanBeAsked tally.question

-- it is reported that there is no rule to add: one is in its way, or it can't be written
abbrev pub IsToldWithout : Finding → Type 0
IsToldWithout found = (found ≡ finding.None InTheWay) ⊎ (found ≡ finding.None Unwritten)

-- with these rules after the asker's own ones, a request is allowed, in each mode, and whether all are audited or not
abbrev pub IsLet : Asker → List Rule → Request → Type 0
IsLet who more request = (mediation : Mediation) (audit : Bool) → (verdict mediation audit (own_rules who ++ more) request).answer ≡ Allow

-- A request that lacks something is within a wanted one of the same asker, which lacks something too; and with all rules that are found for the
-- asker it is allowed, unless it is reported of this that there is no rule to add.
pub record IsServed (entries : List Loaded) (who : Asker) (wanted : List Wanted) (tally : Tally) : Type 0 where
  pub within : Wanted
  pub there : Contains wanted within
  pub same : within.who ≡ who_asks tally.question
  pub has_it : IsWithin (rule_request tally.question) within.request
  pub lacks : lacked within.request (own_rules who) ≢ 0
  pub let_or_told : IsToldWithout (finding_of entries within) ⊎ IsLet who (rules_found entries (who_asks tally.question) wanted) (rule_request tally.question)
