-- The text of replies (docs/commands.md, "Replies").
use Rattle.std.specs.Prelude.{ℕ, Bool, true, false, Option, None, Some, List, [], ◌++◌, codes}
use Rattle.std.specs.Fmt.{decimal}
use Rattle.aa_set_answers.specs.Answers.{line_with}
use Rattle.aa_bytes.specs.Quoting.{written_text}
use Rattle.aa_text_files.specs.Files.{File, name_at}
use Rattle.aa_text_files.specs.declared.text_error.Place.{Place}
use Rattle.aa_set_commands.specs.Refusal.{number_of, name_of}
use Rattle.aa_set_commands.specs.declared.refusal.Refusal.{Refusal}
use Rattle.aa_set_manager.specs.declared.reply.Reply.{Reply}
use Rattle.aa_set_manager.specs.declared.reply.Reply.TheVariants.{Silent, Done, Refused, Answered}

-- how a place is written, after a blank: the file's name and the offset in bytes
abbrev pub place_text : List File → Option Place → List ℕ
place_text files None = []
place_text files (Some place) = codes " " ++ written_text (name_at files place.file) ++ codes " " ++ decimal place.at

-- the one line that prints a refusal
abbrev pub refusal_text : List File → Refusal → List ℕ
refusal_text files refusal =
    line_with (codes "refused " ++ decimal (number_of refusal.refusal) ++ codes " " ++ name_of refusal.refusal ++ place_text files refusal.place)

-- the text of a reply; a blank line has none
abbrev pub reply_text : List File → Reply → List ℕ
reply_text files Silent = []
reply_text files Done = line_with (codes "ok")
reply_text files (Refused refusal) = refusal_text files refusal
reply_text files (Answered lines) = lines

abbrev pub is_refusal : Reply → Bool
is_refusal (Refused refusal) = true
is_refusal _ = false

-- a reply that is no refusal, and not the silence after a blank line
abbrev pub is_acceptance : Reply → Bool
is_acceptance Done = true
is_acceptance (Answered lines) = true
is_acceptance _ = false
