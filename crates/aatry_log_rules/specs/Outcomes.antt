-- The outcomes of the requests of logs, by the askers' rules.
use Rattle.std.specs.Prelude.{ℕ, List, [], Option, None, Some}
use Rattle.aa_decide.specs.Exec.{Asker}
use Rattle.aa_decide_rules.specs.declared.verdict.Answer.{Answer}
use Rattle.aa_decide_rules.specs.declared.verdict.Answer.TheVariants.{Allow, Complain, Deny, Refuse}
use Rattle.aa_decide_ready.specs.Ready.{audits, rules_at}
use Rattle.aa_decide_rules.specs.Verdict.{verdict}
use Rattle.aa_decide_rules.specs.declared.judgement.Mediation.TheVariants.{Enforcing}
use Rattle.aa_decide_ready.specs.Confinement.{By, ByName, Confinement, Unconfined, in_state}
use Rattle.aa_decide_ready.specs.Entries.{Loaded}
use Rattle.aa_profile_data.specs.Request.{Request}
use Rattle.aa_profile_data.specs.declared.profile.Rule.{Rule}
use Rattle.aa_set_answers.specs.Askers.{asker}
use Rattle.aatry_log_rules.specs.declared.asker.Outcome.{Outcome}
use Rattle.aatry_log_rules.specs.declared.asker.Outcome.TheVariants.{Allowed, Denied, Lacks, Nobody}

-- the outcome of an answer: where it isn't allowed, something of the request is denied, or lacks a rule
abbrev pub outcome_of : Answer → Outcome
outcome_of Allow = Allowed
outcome_of Deny = Denied
outcome_of Refuse = Lacks
outcome_of Complain = Lacks

-- the rules of the asker
abbrev pub own_rules : Asker → List Rule
own_rules who = rules_at who.entry.profile who.child

-- the outcome of a request by the asker's rules, as in enforce mode
abbrev pub outcome_by : Asker → Request → Outcome
outcome_by who request = outcome_of (verdict Enforcing (audits who.entry.profile who.child) (own_rules who) request).answer

-- the outcome by what confines the asker: in mode unconfined no rule decides
abbrev pub confined_outcome : Asker → Request → Confinement → Outcome
confined_outcome who request ByName = Allowed
confined_outcome who request Unconfined = outcome_by who request
confined_outcome who request (By section mediation) = outcome_by who request

abbrev pub outcome_under : Asker → Request → Outcome
outcome_under who request = confined_outcome who request (in_state who.entry.profile who.entry.state who.child)

-- the outcome by the asker, if it exists
abbrev pub outcome_where : Option (Option Asker) → Request → Outcome
outcome_where None request = Nobody
outcome_where (Some None) request = Allowed
outcome_where (Some (Some who)) request = outcome_under who request

-- the outcome of a request for an asker in a policy set
abbrev pub outcome_in : List Loaded → List ℕ → Request → Outcome
outcome_in entries who request = outcome_where (asker entries who) request

-- the rules by which the asker decides; none where nothing of the name exists
abbrev pub rules_by : Option (Option Asker) → List Rule
rules_by (Some (Some who)) = own_rules who
rules_by (Some None) = []
rules_by None = []
