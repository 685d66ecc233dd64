-- What is asked that is for no file, capabilities and sockets, and how the answers to that change.
use Rattle.std.specs.Prelude.{ℕ, zero, suc, Bool, false, true, if◌then◌else◌, List, [], ◌∷◌, ◌++◌}
use Rattle.std.specs.List.{list_any}
use Rattle.aa_decide_rules.specs.Verdict.{verdict}
use Rattle.aa_decide_rules.specs.declared.judgement.Mediation.TheVariants.{Enforcing}
use Rattle.aa_explain_changes.specs.Changes.{change_between, is_change}
use Rattle.aa_explain_changes.specs.Sides.{Sides}
use Rattle.aa_explain_changes.specs.declared.change.Change.{Change}
use Rattle.aa_explain_changes.specs.declared.change.Change.TheVariants.{Gained, Lost, Otherwise, Same}
use Rattle.aa_profile_data.specs.Request.{ForCapability, ForSockets, Request}
use Rattle.aa_explain_changes.specs.declared.change.Answers.{Answers}
use Rattle.aatry_path_changes.specs.declared.others.Other.{Other}
use Rattle.aatry_path_changes.specs.declared.others.Other.TheVariants.{Capability, Sockets}
use Rattle.aatry_path_changes.specs.declared.others.OtherChange.{OtherChange}

-- what is asked for
abbrev pub request_of : Other → Request
request_of (Capability number) = ForCapability number
request_of (Sockets domain kind) = ForSockets domain kind

-- what both sides answer to a request, each by its rules in enforce mode
abbrev pub answers_of : Sides → Request → Answers
answers_of sides request = record {
  old = verdict Enforcing sides.old.audit sides.old.rules request;
  new = verdict Enforcing sides.new.audit sides.new.rules request;
}

-- how one changes into the other
abbrev pub change_of : Bool → Answers → Change
change_of quiet answers = change_between quiet answers.old answers.new

-- what is asked for, with how the answer changes, and what is answered
abbrev pub other_change : Bool → Other → Answers → OtherChange
other_change quiet other answers = record { other = other; change = change_of quiet answers; answers = answers }

-- the same, if it changes
abbrev pub changed_by : Bool → Other → Answers → List OtherChange
changed_by quiet other answers = if is_change (change_of quiet answers) then other_change quiet other answers ∷ [] else []

abbrev pub changed_if : Sides → Other → List OtherChange
changed_if sides other = changed_by sides.quiet other (answers_of sides (request_of other))

-- that of the capabilities below a number
unfoldable pub capability_changes : Sides → ℕ → List OtherChange
capability_changes sides zero = []
capability_changes sides (suc number) = capability_changes sides number ++ changed_if sides (Capability number)

-- that of sockets of a domain, and of the types below a number
unfoldable pub type_changes : Sides → ℕ → ℕ → List OtherChange
type_changes sides domain zero = []
type_changes sides domain (suc kind) = type_changes sides domain kind ++ changed_if sides (Sockets domain kind)

-- that of sockets of the domains below a number, of each of the six types
unfoldable pub socket_changes : Sides → ℕ → List OtherChange
socket_changes sides zero = []
socket_changes sides (suc domain) = socket_changes sides domain ++ type_changes sides domain 6

-- of all 41 capabilities, and of the sockets of all 44 domains
abbrev pub other_changes : Sides → List OtherChange
other_changes sides = capability_changes sides 41 ++ socket_changes sides 44

-- something is allowed now that wasn't; and something isn't any more that was
abbrev pub is_gained : Change → Bool
is_gained Gained = true
is_gained Same = false
is_gained Lost = false
is_gained Otherwise = false

abbrev pub is_lost : Change → Bool
is_lost Lost = true
is_lost Same = false
is_lost Gained = false
is_lost Otherwise = false

abbrev pub has_gained : List OtherChange → Bool
has_gained changes = list_any (λ (c : OtherChange). is_gained c.change) changes

abbrev pub has_lost : List OtherChange → Bool
has_lost changes = list_any (λ (c : OtherChange). is_lost c.change) changes
