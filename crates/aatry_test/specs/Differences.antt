-- How the lines of a run differ from those that a transcript wants, and which assertions don't hold.
use Rattle.std.specs.Prelude.{ℕ, ◌+◌, Bool, ◌&&◌, ◌||◌, ◌==◌, not, if◌then◌else◌, List, [], ◌∷◌, ◌++◌, codes, count_by, drop, flat_map, length}
use Rattle.std.specs.Fmt.{decimal}
use Rattle.std.specs.List.{filter, list_all, list_any}
use Rattle.std.specs.Str.{bytes_eq}
use Rattle.aa_bytes.specs.Bytes.{line_feed}
use Rattle.aatry_test.specs.Headings.{heading}
use Rattle.aatry_test.specs.Running.{Asserted}
use Rattle.aatry_report.specs.Shown.{shown}
use Rattle.aatry_transcripts.specs.Meeting.{are_met}
use Rattle.aatry_transcripts.specs.Replies.{told_next}
use Rattle.aatry_transcripts.specs.Transcripts.{before_command, is_assertion, is_command, wanted_in}

-- a line is one of these
abbrev pub is_among : List (List ℕ) → List ℕ → Bool
is_among lines line = list_any (bytes_eq line) lines

-- lines differ from others in their order or number alone
abbrev pub are_reordered : List (List ℕ) → List (List ℕ) → Bool
are_reordered lines others = list_all (is_among others) lines && list_all (is_among lines) others

-- a line, after a sign, as it is shown
abbrev pub marked_line : List ℕ → List ℕ → List ℕ
marked_line sign line = sign ++ shown line ++ line_feed ∷ []

-- those of these lines that aren't among the others, or all of them, each after a sign
abbrev pub marked_lines : List ℕ → Bool → List (List ℕ) → List (List ℕ) → List ℕ
marked_lines sign all others lines = flat_map (marked_line sign) (filter (λ line. all || not (is_among others line)) lines)

-- A command with what is wanted as its reply, and the reply. Its number is that of its line, from 1.
pub record Part : Type 0 where
  pub number : ℕ
  pub line : List ℕ
  pub wanted : List (List ℕ)
  pub told : List (List ℕ)

abbrev pub seen_part : ℕ → List ℕ → List (List ℕ) → List (List ℕ) → Part
seen_part number line wanted told = record { number = number; line = line; wanted = wanted; told = told }

-- the command of a line, if it holds one, with what the lines after it want, and the reply
abbrev pub part_of : ℕ → List ℕ → List (List ℕ) → List (List ℕ) → List Part
part_of number line behind told =
    if is_command line then seen_part number line (wanted_in (before_command behind)) told ∷ [] else []

-- the commands of lines, of which the first has this number, with the output from there on
abbrev pub parts : ℕ → List (List ℕ) → List (List ℕ) → List Part
parts number [] told = []
parts number (line ∷ behind) told =
    part_of number line behind (told_next line behind told) ++ parts (number + 1) behind (drop (length (told_next line behind told)) told)

-- the reply isn't what the wanted lines ask for
abbrev pub differs : Part → Bool
differs part = not (are_met part.wanted part.told)

-- the lines of a part that differ: those that are wanted and missing after `- `, those that aren't wanted after `+ `
abbrev pub differing_lines : List (List ℕ) → List (List ℕ) → List ℕ
differing_lines wanted told =
    marked_lines (codes "- ") (are_reordered wanted told) told wanted ++ marked_lines (codes "+ ") (are_reordered wanted told) wanted told

-- the report on a part: nothing, where the reply is the wanted one
abbrev pub part_text : List ℕ → Part → List ℕ
part_text path part = if differs part then heading path part.number part.line ++ differing_lines part.wanted part.told else []

-- the report on a wanted line before the first command: no command is answered by it
abbrev pub ahead_line : List ℕ → List ℕ → List ℕ
ahead_line path line = shown path ++ codes ": ahead of the first command: " ++ shown line ++ line_feed ∷ []

abbrev pub front_text : List ℕ → List (List ℕ) → List ℕ
front_text path wanted = flat_map (ahead_line path) wanted

-- a count after these words, where there are assertions
abbrev pub count_words : ℕ → List ℕ → ℕ → List ℕ
count_words assertions words count = if assertions == 0 then [] else words ++ decimal count

-- how many assertions there are, and how many of them don't hold
abbrev pub assertions_words : ℕ → List ℕ
assertions_words assertions = count_words assertions (codes ", assertions ") assertions

abbrev pub failing_words : ℕ → ℕ → List ℕ
failing_words assertions failing = count_words assertions (codes ", failing ") failing

-- the line of a transcript that passed, with its assertions
abbrev pub passed_line : List ℕ → ℕ → ℕ → List ℕ
passed_line path commands assertions = shown path ++ codes ": passed: commands " ++ decimal commands ++ assertions_words assertions ++ line_feed ∷ []

-- the words between the path of a transcript that didn't pass and its numbers, where it is accepted or not
abbrev pub outcome_words : Bool → List ℕ
outcome_words accepted = if accepted then codes ": accepted: commands " else codes ": failed: commands "

-- how many commands it has and how many replies differ, and how many assertions it has and how many don't hold
pub record Counts : Type 0 where
  pub commands : ℕ
  pub differing : ℕ
  pub assertions : ℕ
  pub failing : ℕ

-- the last line on a transcript that didn't pass
abbrev pub last_line : Bool → List ℕ → Counts → List ℕ
last_line accepted path counts =
    shown path ++ outcome_words accepted ++ decimal counts.commands ++ codes ", differing " ++ decimal counts.differing
    ++ assertions_words counts.assertions ++ failing_words counts.assertions counts.failing ++ line_feed ∷ []

-- the counts of a transcript, by its lines, those of the run, and the outcome of its assertions
abbrev pub counts_of : List (List ℕ) → List (List ℕ) → ℕ → Counts
counts_of lines told failing = record {
  commands = count_by is_command lines;
  differing = count_by differs (parts 1 lines told);
  assertions = count_by is_assertion lines;
  failing = failing;
}

-- the report on such a transcript, where it is accepted or not: replies that differ, assertions that don't hold, and the outcome
abbrev pub failure : Bool → List ℕ → List (List ℕ) → List (List ℕ) → Asserted → List ℕ
failure accepted path lines told asserted =
    front_text path (wanted_in (before_command lines)) ++ flat_map (part_text path) (parts 1 lines told)
    ++ asserted.text ++ last_line accepted path (counts_of lines told asserted.failing)

-- the replies are the wanted ones, and all assertions hold
abbrev pub passes : List (List ℕ) → List (List ℕ) → Asserted → Bool
passes lines told asserted = are_met (wanted_in lines) told && asserted.failing == 0

-- the report on a transcript, by its lines, those of the run, and its assertions, where it is accepted or not
abbrev pub comparison : Bool → List ℕ → List (List ℕ) → List (List ℕ) → Asserted → List ℕ
comparison accepted path lines told asserted =
    if passes lines told asserted
    then passed_line path (count_by is_command lines) (count_by is_assertion lines)
    else failure accepted path lines told asserted
