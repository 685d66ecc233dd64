-- Questions by the requests that they make of rules.
use Rattle.std.specs.Prelude.{ℕ, List}
use Rattle.aa_profile_data.specs.Access.{EXEC}
use Rattle.aa_profile_data.specs.Request.{ForFile, Request}
use Rattle.aa_set_commands.specs.Question.{OfAccess, OfExec, Question}

-- the request that a question makes of rules: for the start of a program, whether it may be started at all
abbrev pub rule_request : Question → Request
rule_request (OfAccess who request) = request
rule_request (OfExec who owned path) = ForFile EXEC owned path

-- the question with this name as the asker
abbrev pub asked_as : List ℕ → Question → Question
asked_as name (OfAccess who request) = OfAccess name request
asked_as name (OfExec who owned path) = OfExec name owned path
