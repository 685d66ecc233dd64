-- What rules say of a request: cover, applicability, masks and the verdict (apparmor.d(5), "Rule Qualifiers", "Access Permission
-- Accumulation", "Capability Rules" and "Network Rules"; see docs/policy.md). Requests of all kinds are decided alike, by sets of needs.
use Rattle.std.specs.Prelude.{ℕ, Bool, false, true, not, ◌-◌, ◌&&◌, ◌||◌, ◌==◌, if◌then◌else◌, List, fold, None, Some, is_some}
use Rattle.aa_profile_data.specs.Request.{Request, ForCapability, ForFile, ForSockets}
use Rattle.aa_glob_syntax.specs.Matching.{matches}
use Rattle.aa_glob_syntax.specs.Reading.{items_of}
use Rattle.aa_profile_data.specs.Access.{EXEC, all_letters, common, union, without, covered}
use Rattle.aa_profile_data.specs.Cover.{covers_capability, covers_socket}
use Rattle.aa_profile_data.specs.declared.profile.FileRule.{FileRule}
use Rattle.aa_profile_data.specs.declared.profile.Rule.{Rule}
use Rattle.aa_profile_data.specs.declared.profile.Rule.TheVariants.{Cap, File, Net, Other}
use Rattle.aa_decide_rules.specs.declared.verdict.Answer.{Answer}
use Rattle.aa_decide_rules.specs.declared.verdict.Answer.TheVariants.{Allow, Complain, Deny, Refuse}
use Rattle.aa_decide_rules.specs.declared.verdict.Tag.{Tag}
use Rattle.aa_decide_rules.specs.declared.verdict.Tag.TheVariants.{Allowed, Audit, Denied}
use Rattle.aa_decide_rules.specs.declared.verdict.Verdict.{Verdict}
use Rattle.aa_decide_rules.specs.declared.judgement.Mediation.{Mediation}
use Rattle.aa_decide_rules.specs.declared.judgement.Mediation.TheVariants.{Complaining, Enforcing}

-- The need of a request that isn't for a file: there is one, and it is no letter.
abbrev pub the_need : ℕ
the_need = 128

-- what a request needs, as a set: the letters of a request for a file, or the one need
abbrev pub needs : Request → ℕ
needs (ForFile letters owned path) = letters
needs (ForCapability number) = the_need
needs (ForSockets domain kind) = the_need

-- a request is for a file
abbrev pub is_for_file : Request → Bool
is_for_file (ForFile letters owned path) = true
is_for_file (ForCapability number) = false
is_for_file (ForSockets domain kind) = false

-- A rule on files applies where its pattern matches the path and, if it is an owner's rule, the file is owned. A rule on capabilities or sockets
-- applies where it covers the request. No other rule applies.
abbrev pub applies : Request → Rule → Bool
applies (ForFile letters owned path) (File rule) = matches (items_of rule.pattern) path && (not rule.owner || owned)
applies (ForCapability number) (Cap rule) = covers_capability number rule
applies (ForSockets domain kind) (Net rule) = covers_socket domain kind rule
applies _ _ = false

-- the needs that a file rule covers: those of its letters, and with an exec word `x`
abbrev pub covered_by_file : FileRule → ℕ
covered_by_file rule = if is_some rule.exec then union (covered rule.access.0) EXEC else covered rule.access.0

-- the needs that a rule covers
abbrev pub covered_by : Rule → ℕ
covered_by (File rule) = covered_by_file rule
covered_by (Cap rule) = the_need
covered_by (Net rule) = the_need
covered_by (Other rule) = 0

-- a rule denies what it covers
abbrev pub denies : Rule → Bool
denies (File rule) = rule.deny
denies (Cap rule) = rule.deny
denies (Net rule) = rule.deny
denies (Other rule) = rule.deny

-- a rule is audited by its own qualifier, or by the flag of its profile
abbrev pub is_audited : Bool → Rule → Bool
is_audited flag (File rule) = flag || rule.audit
is_audited flag (Cap rule) = flag || rule.audit
is_audited flag (Net rule) = flag || rule.audit
is_audited flag (Other rule) = flag || rule.audit

-- an audited deny rule, and an audited allow rule
abbrev pub denies_aloud : Bool → Rule → Bool
denies_aloud flag rule = denies rule && is_audited flag rule

abbrev pub allows : Rule → Bool
allows rule = not (denies rule)

abbrev pub allows_aloud : Bool → Rule → Bool
allows_aloud flag rule = allows rule && is_audited flag rule

-- the needs of a request that a rule covers: none, where it doesn't apply
abbrev pub covers : Request → Rule → ℕ
covers request rule = if applies request rule then common (needs request) (covered_by rule) else 0

-- a set, with the needs added that a rule covers, if it passes a test
abbrev pub with_rule : Request → (Rule → Bool) → ℕ → Rule → ℕ
with_rule request test set rule = if test rule then union set (covers request rule) else set

-- a set, with the needs added that the rules cover that pass a test
abbrev pub with_covered : Request → (Rule → Bool) → ℕ → List Rule → ℕ
with_covered request test set rules = fold (with_rule request test) set rules

-- the needs that the rules that pass a test cover together
abbrev pub mask : Request → (Rule → Bool) → List Rule → ℕ
mask request test rules = with_covered request test 0 rules

-- the needs that a deny rule covers, and the needs that an audited one covers
abbrev pub denied : Request → List Rule → ℕ
denied request rules = mask request denies rules

abbrev pub loud : Bool → Request → List Rule → ℕ
loud flag request rules = mask request (denies_aloud flag) rules

-- the needs that an allow rule covers, and the needs that an audited one covers
abbrev pub granted : Request → List Rule → ℕ
granted request rules = mask request allows rules

abbrev pub audited : Bool → Request → List Rule → ℕ
audited flag request rules = mask request (allows_aloud flag) rules

-- the needs that an allow rule covers and none denies
abbrev pub allowed : Request → List Rule → ℕ
allowed request rules = without (granted request rules) (denied request rules)

-- the needs that are neither denied nor allowed
abbrev pub missing : Request → List Rule → ℕ
missing request rules = without (needs request) (union (denied request rules) (allowed request rules))

-- the letters among some needs
abbrev pub letters_among : ℕ → ℕ
letters_among mask = common mask (all_letters - 1)

-- An answer, and how it is logged: by this tag, with the letters among these needs, unless there are none.
abbrev pub logged : Answer → Tag → ℕ → Verdict
logged answer tag mask = record { answer = answer; tag = if mask == 0 then None else Some tag; mask = record { 0 = letters_among mask } }

-- what is not allowed is refused, or let through and logged
abbrev pub when_missing : Mediation → ℕ → Verdict
when_missing Enforcing mask = logged Refuse Denied mask
when_missing Complaining mask = logged Complain Allowed mask

-- A denied need decides first, whatever the mediation; then a missing one. The flag audits each rule of the profile.
abbrev pub verdict : Mediation → Bool → List Rule → Request → Verdict
verdict mediation flag rules request =
    if not (denied request rules == 0) then logged Deny Denied (union (loud flag request rules) (missing request rules)) else
    if not (missing request rules == 0) then when_missing mediation (missing request rules) else
    logged Allow Audit (audited flag request rules)
