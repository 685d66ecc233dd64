-- How questions are printed: in `ask`'s words (docs/commands.md, "Questions"), with the names of askers and of files in quotes, and each of their
-- bytes that isn't written as it is as `\x` and its digits. So a file of questions may have them.
use Rattle.std.specs.Prelude.{ℕ, Bool, if◌then◌else◌, List, ◌++◌, codes}
use Rattle.std.specs.Str.{bytes_eq}
use Rattle.aa_profile_data.specs.Access.{letters_of}
use Rattle.aa_profile_data.specs.Request.{ForCapability, ForFile, ForSockets, Request}
use Rattle.aa_profile_data.specs.Capabilities.{capability_name}
use Rattle.aa_profile_data.specs.Domains.{domain_name}
use Rattle.aa_profile_data.specs.Kinds.{kind_name}
use Rattle.aa_profile_data.specs.TableNames.{name_or_none}
use Rattle.aa_set_commands.specs.Question.{OfAccess, OfExec, Question}
use Rattle.aatry_questions.specs.Names.{name_text}

-- whether the file is owned
abbrev pub owned_text : Bool → List ℕ
owned_text owned = if owned then codes " owner " else codes " other "

-- the question whether the asker's request is allowed
abbrev pub access_text : List ℕ → Request → List ℕ
access_text who (ForFile needs owned path) =
    codes "file " ++ name_text who ++ codes " " ++ letters_of needs ++ owned_text owned ++ name_text path
access_text who (ForCapability number) = codes "cap " ++ name_text who ++ codes " " ++ name_or_none (capability_name number)
access_text who (ForSockets domain kind) =
    codes "net " ++ name_text who ++ codes " " ++ name_or_none (domain_name domain) ++ codes " " ++ name_or_none (kind_name kind)

-- a question as it is printed
abbrev pub question_text : Question → List ℕ
question_text (OfAccess who request) = access_text who request
question_text (OfExec who owned path) = codes "exec " ++ name_text who ++ owned_text owned ++ name_text path

-- two questions are the same: they have the same text
abbrev pub is_same : Question → Question → Bool
is_same question other = bytes_eq (question_text question) (question_text other)
