-- The questions of lines, in `ask`'s words (docs/commands.md, "Questions").
use Rattle.std.specs.Prelude.{ℕ, Bool, if◌then◌else◌, List, Option, None, Some, codes}
use Rattle.std.specs.Result.{result_ok}
use Rattle.std.specs.Str.{bytes_eq}
use Rattle.aa_profile_data.specs.Capabilities.{capability_number}
use Rattle.aa_profile_data.specs.Domains.{domain_number}
use Rattle.aa_set_commands.specs.Question.{Question, capability_question, exec_question, file_question, socket_question, type_number}
use Rattle.aatry_log_lines.specs.Asked.{question_of}
use Rattle.aatry_words.specs.Masks.{needs_of_mask}
use Rattle.aatry_log_lines.specs.declared.asked.LoggedQuestion.{LoggedQuestion}

-- a question of the code
abbrev pub seen_logged : LoggedQuestion → Question
seen_logged logged = question_of logged.asked

-- the question for the capability of a name, if there is one
abbrev pub capability_asked : Option (List ℕ) → Option (List ℕ) → Option Question
capability_asked (Some who) (Some name) = result_ok (capability_question who (capability_number name))
capability_asked _ _ = None

-- the question for sockets of a family and a type, if there are such
abbrev pub sockets_asked : Option (List ℕ) → Option (List ℕ) → Option (List ℕ) → Option Question
sockets_asked (Some who) (Some family) (Some sort) = result_ok (socket_question who (domain_number family) (type_number sort))
sockets_asked _ _ _ = None

-- the question for a path by its mask: that of a program's start where the mask is `x`
abbrev pub path_question : List ℕ → List ℕ → Bool → List ℕ → Option Question
path_question who mask owned path =
    if bytes_eq mask (codes "x") then result_ok (exec_question who (Some owned) path) else
    result_ok (file_question who (needs_of_mask mask) (Some owned) path)

-- the question for a path by its mask, if its parts are there
abbrev pub file_asked : Option (List ℕ) → Option (List ℕ) → Option Bool → Option (List ℕ) → Option Question
file_asked (Some who) (Some mask) (Some owned) (Some path) = path_question who mask owned path
file_asked _ _ _ _ = None
