-- The rules of a policy set that the requests of logs want.
use Rattle.std.specs.Prelude.{◌≡◌, ℕ, ◌+◌, List, [], ◌∷◌, ◌++◌, fold}
use Rattle.aa_decide_ready.specs.Entries.{Loaded}
use Rattle.aa_set_answers.specs.Answers.{who_asks}
use Rattle.aatry_log_rules.specs.Outcomes.{outcome_in}
use Rattle.aatry_log_rules.specs.Wanted.{Wanted, wanted_with}
use Rattle.aatry_log_rules.specs.declared.asker.Outcome.{Outcome}
use Rattle.aatry_log_rules.specs.declared.asker.Outcome.TheVariants.{Allowed, Denied, Lacks, Nobody}
use Rattle.aatry_log_rules.specs.declared.gathering.RuleWants.{RuleWants}
use Rattle.aatry_requests.specs.Order.{IsMostAskedFirst}
use Rattle.aatry_requests.specs.Questions.{rule_request}
use Rattle.aatry_requests.specs.SeenTallies.{seen_all}
use Rattle.aatry_requests.specs.Tallies.{Tally}

-- the wanted requests, the requests of which a rule denies something, and how many have an asker that isn't loaded
pub record Wants : Type 0 where
  pub wanted : List Wanted
  pub denied : List Tally
  pub nobody : ℕ

-- the wants of the code
abbrev pub seen_wants : RuleWants → Wants
seen_wants wants = record { wanted = wants.wanted; denied = seen_all wants.denied.items; nobody = wants.nobody }

-- no requests
abbrev pub nothing : Wants
nothing = record { wanted = []; denied = []; nobody = 0 }

-- the wanted request of a tally that lacks something
abbrev pub wanted_of : Tally → Wanted
wanted_of tally = record { who = who_asks tally.question; request = rule_request tally.question; times = tally.times }

-- the wants with a request of this outcome
abbrev pub with_outcome : Tally → Wants → Outcome → Wants
with_outcome tally wants Allowed = wants
with_outcome tally wants Nobody = record wants { nobody = wants.nobody + 1 }
with_outcome tally wants Denied = record wants { denied = wants.denied ++ tally ∷ [] }
with_outcome tally wants Lacks = record wants { wanted = wanted_with (wanted_of tally) wants.wanted }

-- the outcome of a request
abbrev pub outcome_for : List Loaded → Tally → Outcome
outcome_for entries tally = outcome_in entries (who_asks tally.question) (rule_request tally.question)

-- the wants with a request
abbrev pub with_tally : List Loaded → Wants → Tally → Wants
with_tally entries wants tally = with_outcome tally wants (outcome_for entries tally)

-- the wants of requests, in this order
abbrev pub gathered : List Loaded → List Tally → Wants
gathered entries tallies = fold (with_tally entries) nothing tallies

-- the wants of some requests, the most frequent first
pub record IsGathered (entries : List Loaded) (tallies : List Tally) (wants : Wants) : Type 0 where
  pub asked : List Tally
  pub order : IsMostAskedFirst tallies asked
  pub wants_are : wants ≡ gathered entries asked
