-- The rules of which a request is asked, and which of them concern it.
use Rattle.std.specs.Prelude.{ℕ, Bool, List}
use Rattle.aa_decide_rules.specs.Verdict.{applies}
use Rattle.aa_profile_data.specs.Request.{ForCapability, ForFile, ForSockets, Request}
use Rattle.aa_profile_data.specs.Matching.{is_matching}
use Rattle.aa_profile_data.specs.declared.profile.Rule.{Rule}
use Rattle.aa_explain_rules.specs.Told.{places_where}
use Rattle.aa_explain_rules.specs.declared.asked.AskedRules.{AskedRules}
use Rattle.aa_explain_rules.specs.declared.asked.AskedRules.TheVariants.{Listed, Loaded}

-- the rules
abbrev pub rules_of : AskedRules → List Rule
rules_of (Listed audit rules) = rules.now
rules_of (Loaded section) = section.rules.now

-- the flag of their profile audits each of them
abbrev pub audits_of : AskedRules → Bool
audits_of (Listed audit rules) = audit
audits_of (Loaded section) = section.audit

-- A rule concerns a request: its pattern matches the requested path, whoever owns the file, or it covers the capability or the sockets.
abbrev pub concerns : Request → Rule → Bool
concerns (ForFile letters owned path) rule = is_matching path rule
concerns (ForCapability number) rule = applies (ForCapability number) rule
concerns (ForSockets domain kind) rule = applies (ForSockets domain kind) rule

-- the indexes of the rules that concern a request
abbrev pub concerned : Request → List Rule → List ℕ
concerned request rules = places_where (concerns request) 0 rules
