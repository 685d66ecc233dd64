-- The words of a fault that keeps the program from doing what it is asked for.
use Rattle.std.specs.Prelude.{ℕ, List, [], ◌∷◌, ◌++◌, codes, string_bytes}
use Rattle.aa_bytes.specs.Bytes.{line_feed}
use Rattle.aatry_folder.specs.declared.fault.Fault.{Fault}
use Rattle.aatry_folder.specs.declared.fault.Fault.TheVariants.{BadArguments, BadQuestion, Unreadable, TooMany, Compressed, NoMemory, Read, Write}
use Rattle.aatry_report.specs.Shown.{shown}

-- the words of a fault
abbrev pub words_of : Fault → List ℕ
words_of BadArguments = codes "aatry: bad arguments: see aatry --help"
words_of BadQuestion = codes "aatry: bad question: see aatry why --help, aatry who --help"
words_of (Unreadable _) = codes "aatry: cannot read "
words_of TooMany = codes "aatry: more than 65,536 files and folders"
words_of (Compressed _) = codes "aatry: compressed by gzip, to be unpacked by zcat first: "
words_of NoMemory = codes "aatry: no memory"
words_of Read = codes "aatry: read fault"
words_of Write = codes "aatry: write fault"

-- the name that follows them
abbrev pub name_of : Fault → List ℕ
name_of (Unreadable name) = string_bytes name
name_of (Compressed name) = string_bytes name
name_of _ = []

-- the line of a fault
abbrev pub told_line : Fault → List ℕ
told_line fault = words_of fault ++ shown (name_of fault) ++ line_feed ∷ []
