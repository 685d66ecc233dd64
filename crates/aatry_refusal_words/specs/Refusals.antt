-- What is wrong with a command that is refused, in words.
use Rattle.std.specs.Prelude.{ℕ, List, codes, Option}
use Rattle.aa_profile_parsing.specs.declared.language.Language.{Language}
use Rattle.aa_set_commands.specs.declared.refusal.Refusal.{Refusal}
use Rattle.aa_set_commands.specs.declared.refusal.RefusalKind.{RefusalKind}
use Rattle.aa_set_commands.specs.declared.refusal.RefusalKind.TheVariants as kind
use Rattle.aa_text_files.specs.Files.{File}
use Rattle.aa_text_files.specs.declared.text_error.Place.{Place}
use Rattle.aatry_refusal_words.specs.Naming.{words_at}
use Rattle.aatry_report.specs.Words.{words_of}

-- what is wrong by the kind of a refusal alone
abbrev pub kind_words : RefusalKind → List ℕ
kind_words (kind.File refusal) = words_of refusal
kind_words kind.Exists = codes "a profile named in the file is already loaded"
kind_words kind.Absent = codes "no profile, child or hat has this name"
kind_words kind.Disabled = codes "the profile is disabled"
kind_words kind.NothingToUndo = codes "too few changes to undo; say `loading` to undo those of the loading, too"
kind_words kind.NothingToRedo = codes "too few changes to redo"
kind_words kind.BadCommand = codes "not a command: `help` lists the commands"
kind_words kind.LineTooLong = codes "the line has more than 65,536 bytes"
kind_words kind.BadRequest = codes "invalid words for a question, or an invalid name for a mark"
kind_words kind.NoMark = codes "no mark has this name"
kind_words kind.Memory = codes "memory ran out"

-- what is wrong by a kind and a place: with a file what its place names, and else what the kind says
abbrev pub words_by : Language → List File → RefusalKind → Option Place → List ℕ
words_by language files (kind.File refusal) place = words_at language files refusal place
words_by language files other place = kind_words other

-- what is wrong by a refusal
abbrev pub refusal_words : Language → List File → Refusal → List ℕ
refusal_words language files refusal = words_by language files refusal.refusal refusal.place
