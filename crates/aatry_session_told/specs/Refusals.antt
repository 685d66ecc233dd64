-- The reply to a line that is refused.
use Rattle.std.specs.Prelude.{ℕ, if◌then◌else◌, List, [], Option, None, Some, codes}
use Rattle.std.specs.Str.{bytes_eq}
use Rattle.aa_profile_parsing.specs.declared.language.Language.{Language}
use Rattle.aa_set_commands.specs.Refusal.{number_of}
use Rattle.aa_set_commands.specs.declared.refusal.Refusal.{Refusal}
use Rattle.aa_text_files.specs.Files.{File, bytes_at, name_at}
use Rattle.aa_text_files.specs.declared.text_error.Place.{Place}
use Rattle.aa_start.specs.Readable.{stand_in}
use Rattle.aatry_questions.specs.Faults.{Found, refusal_of}
use Rattle.aatry_refusal_words.specs.Refusals.{refusal_words}
use Rattle.aatry_report.specs.Faults.{fault_lines}
use Rattle.aatry_report.specs.FilePlaces.{path_below}
use Rattle.aatry_report.specs.Refusals.{placed_refusal}

-- the file of a place, where its bytes are those in place of a file that wasn't read
abbrev pub unread_at : List File → Option Place → Option ℕ
unread_at files None = None
unread_at files (Some place) = if bytes_eq (bytes_at files place.file) stand_in then Some place.file else None

-- the refusal as it is reported, where files are read by a language: at its place in a file, if it has one; or that this file wasn't read
abbrev pub told_by : Option ℕ → Language → List File → List ℕ → Refusal → List ℕ
told_by None language files base refusal =
    placed_refusal (refusal_words language files refusal) files base (codes "refused") (number_of refusal.refusal) refusal.place
told_by (Some file) language files base refusal =
    fault_lines (codes "the file wasn't read") (path_below base (name_at files file)) (number_of refusal.refusal) None []

abbrev pub refusal_told : Language → List File → List ℕ → Refusal → List ℕ
refusal_told language files base refusal = told_by (unread_at files refusal.place) language files base refusal

-- the refusal of words that are no question, in these words: with the refusal for what is wrong with them
abbrev pub no_question_told : List ℕ → Found → List ℕ
no_question_told words fault = fault_lines words (codes "refused") (number_of (refusal_of fault.wrong)) None []
