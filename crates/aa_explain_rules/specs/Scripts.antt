-- The rule that the start of a script lacks, beyond what the start of any other program lacks: its interpreter reads it, under the profile that
-- starts it.
use Rattle.std.specs.Prelude.{Bool, not, ◌&&◌, if◌then◌else◌, List, Option, None}
use Rattle.aa_profile_data.specs.Access.{EXEC, READ, has, union}
use Rattle.aa_profile_data.specs.Request.{ForFile, Request}
use Rattle.aa_profile_data.specs.declared.profile.Rule.{Rule}
use Rattle.aa_explain_rules.specs.Missing.{lacked, missing_rule}

-- a request for a file, with the need to read it added
abbrev pub with_reading : Request → Request
with_reading (ForFile letters owned path) = ForFile (union letters READ) owned path
with_reading request = request

-- a request lacks the start of a program, and, where that is a script, the reading that isn't among its needs
abbrev pub lacks_reading : Request → List Rule → Bool
lacks_reading request rules =
    has (lacked request rules) EXEC && (not (has (lacked request rules) READ) && has (lacked (with_reading request) rules) READ)

-- the rule that a request lacks for a script, where it lacks more then
abbrev pub script_rule : Request → List Rule → Option Rule
script_rule request rules = if lacks_reading request rules then missing_rule (with_reading request) rules else None
