-- The lines that requests are read from: those of a kernel's log, or those of a file of questions.
use Rattle.std.specs.Prelude.{ℕ, nat_lt, if◌then◌else◌, List, [], ◌∷◌, Option, None, Some, Result, Ok, Err, length, map}
use Rattle.aa_set_commands.specs.Question.{Question}
use Rattle.aa_set_commands.specs.declared.refusal.Refusal.{Refusal}
use Rattle.aa_set_commands.specs.Limits.{longest_line}
use Rattle.aa_set_commands.specs.Words.{words_of}
use Rattle.aatry_log_lines.specs.Lines.{Asks, NoRequest, Told, Unreadable, told_by}
use Rattle.aatry_questions.specs.Meant.{question_meant}
use Rattle.aatry_questions.specs.Names.{unescaped}
use Rattle.aatry_requests.specs.declared.sources.Source.{Source}
use Rattle.aatry_requests.specs.declared.sources.Source.TheVariants.{Log, Questions}

-- a question that was read, if it could be
abbrev pub told_read : Result Question Refusal → Told
told_read (Ok question) = Asks question
told_read (Err refusal) = Unreadable

-- what words hold, as the question that they mean: no words hold no request
abbrev pub told_meant : List (List ℕ) → Told
told_meant [] = NoRequest
told_meant (word ∷ words) = told_read (question_meant (word ∷ words))

-- what the words of a line hold, by the bytes that they stand for: a line of blanks alone holds no request
abbrev pub told_by_words : Option (List (List ℕ)) → Told
told_by_words None = Unreadable
told_by_words (Some words) = told_meant (map unescaped words)

-- what a line of a log holds, which can't be read where it is longer than a line may be
abbrev pub told_in_log : List ℕ → Told
told_in_log line = if nat_lt longest_line (length line) then Unreadable else told_by line

-- what a line of a source holds
abbrev pub told_in : Source → List ℕ → Told
told_in Log line = told_in_log line
told_in Questions line = told_by_words (words_of line)
