-- Where rules are written in the files of a folder.
use Rattle.std.specs.Prelude.{List}
use Rattle.std.specs.List.{All}
use Rattle.aa_text_files.specs.Files.{File, bytes_at}
use Rattle.aatry_report.specs.Walks.{IsOf}
use Rattle.aatry_why_lines.specs.declared.finding.FileWalk.{FileWalk}

-- a walk is one of the file of its number
abbrev pub IsOfItsFile : List File → FileWalk → Type 0
IsOfItsFile files own = IsOf (bytes_at files own.file) own.walk

-- each of some walks is one of the file of its number
abbrev pub AreOfTheirFiles : List File → List FileWalk → Type 0
AreOfTheirFiles files walks = All (IsOfItsFile files) walks
