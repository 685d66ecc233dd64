-- Questions about paths that are lists of bytes, as all are that are read.
use Rattle.std.specs.Prelude.{◌<◌, ◌^◌}
use Rattle.std.specs.List.{All}
use Rattle.aa_set_commands.specs.Question.{OfAccess, OfExec, Question}

-- the path of a program that a question asks to start is a list of bytes
abbrev pub AsksOfBytes : Question → Type 0
AsksOfBytes (OfAccess who request) = Unit {0}
AsksOfBytes (OfExec who owned path) = All (λ b. b < 2 ^ 8) path
