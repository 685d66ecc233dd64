-- What contracts see of the code's files that are left out.
use Rattle.std.specs.Prelude.{List, map}
use Rattle.aatry_policy.specs.LeftOut.{LeftOut, LeftOutWords}
use Rattle.aatry_policy.specs.declared.left_out.LeftOutWords.{LeftOutWords as CodeWords}
use Rattle.aatry_policy.specs.declared.left_out_files.LeftOut.{LeftOut as CodeFile}

abbrev pub seen_left_out : CodeFile → LeftOut
seen_left_out file = record { name = file.name.now; refusal = file.refusal }

abbrev pub all_left_out : List CodeFile → List LeftOut
all_left_out files = map seen_left_out files

-- the words for them
abbrev pub seen_words : CodeWords → LeftOutWords
seen_words words = record { kind = words.kind.now; before = words.before.now; behind = words.behind.now }
