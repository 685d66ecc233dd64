-- What a transcript becomes whose replies are accepted. A line of its file has the carriage return at its end here, if it has one, and no line feed;
-- its meaning is that without the carriage return.
use Rattle.std.specs.Prelude.{ℕ, Bool, false, ◌&&◌, ◌||◌, if◌then◌else◌, List, [], ◌∷◌, ◌++◌, drop, flat_map, length, map}
use Rattle.std.specs.List.{list_all, list_any}
use Rattle.std.specs.Str.{bytes_eq}
use Rattle.std.specs.Str.Lines.{strip_carriage_return}
use Rattle.aa_bytes.specs.Bytes.{line_feed}
use Rattle.aa_bytes.specs.Texts.{is_empty}
use Rattle.aa_set_commands.specs.Lines.{lines}
use Rattle.aatry_transcripts.specs.Meeting.{are_met, leaves_out, left_out}
use Rattle.aatry_transcripts.specs.Replies.{begins_reply, is_audit_line, told_next}
use Rattle.aatry_transcripts.specs.Transcripts.{before_command, is_aside, is_command, is_wanted, wanted_in}

-- an output line that a transcript can want: it wouldn't be read as a command, assertion, comment or blanks, and doesn't lose a carriage return
abbrev pub can_be_wanted : List ℕ → Bool
can_be_wanted line = is_wanted line && bytes_eq (strip_carriage_return line) line

-- the output for a transcript, by its lines, can be accepted: each line can be wanted, and where there is any there is a command for it to follow
abbrev pub can_be_accepted : List (List ℕ) → List (List ℕ) → Bool
can_be_accepted transcript told = list_all can_be_wanted told && (is_empty told || list_any is_command transcript)

-- an answer comes first, followed by its audit line
abbrev pub is_answered : List (List ℕ) → Bool
is_answered [] = false
is_answered (line ∷ []) = false
is_answered (line ∷ next ∷ behind) = begins_reply line && is_audit_line next

-- the output, where each answer leaves out the audit line after it
abbrev pub shortened : List (List ℕ) → List (List ℕ)
shortened [] = []
shortened (line ∷ []) = line ∷ []
shortened (line ∷ next ∷ behind) =
    if begins_reply line && is_audit_line next then (line ++ left_out) ∷ shortened behind else line ∷ shortened (next ∷ behind)

-- the lines that are wanted from now on of a reply that differs: those of the output, without audit lines where one was left out of the wanted ones
abbrev pub renewed : List (List ℕ) → List (List ℕ) → List (List ℕ)
renewed wanted told = if list_any leaves_out wanted then shortened told else told

-- what ends a line of a file: its carriage return, or nothing
abbrev pub end_of : List ℕ → List ℕ
end_of raw = drop (length (strip_carriage_return raw)) raw

-- the lines right after a command: none where the reply is the wanted one, as the wanted lines stay where they are, and else the new ones, each
-- ended like the command
abbrev pub new_lines : List ℕ → List (List ℕ) → List (List ℕ) → List (List ℕ)
new_lines raw wanted told = if are_met wanted told then [] else map (λ line. line ++ end_of raw) (renewed wanted told)

-- what becomes of a line without a command: an assertion, a comment or blanks stay, and a wanted line stays where its reply is the wanted one
abbrev pub other_line : Bool → List ℕ → List (List ℕ)
other_line stays raw = if stays || is_aside (strip_carriage_return raw) then raw ∷ [] else []

-- What becomes of a line: a command stays, followed by the new lines of its reply. For a command what is wanted as its reply and the reply are
-- given.
abbrev pub accepted_line : Bool → List ℕ → List (List ℕ) → List (List ℕ) → List (List ℕ)
accepted_line stays raw wanted told =
    if is_command (strip_carriage_return raw) then raw ∷ new_lines raw wanted told else other_line stays raw

-- whether the wanted lines that follow a line stay
abbrev pub stay_behind : Bool → List ℕ → List (List ℕ) → List (List ℕ) → Bool
stay_behind stays raw wanted told = if is_command (strip_carriage_return raw) then are_met wanted told else stays

-- the output for a line, of the output from there on, and what the lines after it want of it
abbrev pub told_to : List ℕ → List (List ℕ) → List (List ℕ) → List (List ℕ)
told_to raw behind told = told_next (strip_carriage_return raw) (map strip_carriage_return behind) told

abbrev pub wanted_behind : List (List ℕ) → List (List ℕ)
wanted_behind behind = wanted_in (before_command (map strip_carriage_return behind))

-- what becomes of lines by the output from there on, where wanted lines before the next command stay or not
abbrev pub accepted_from : Bool → List (List ℕ) → List (List ℕ) → List (List ℕ)
accepted_from stays [] told = []
accepted_from stays (raw ∷ behind) told =
    accepted_line stays raw (wanted_behind behind) (told_to raw behind told)
    ++ accepted_from (stay_behind stays raw (wanted_behind behind) (told_to raw behind told)) behind (drop (length (told_to raw behind told)) told)

-- what becomes of the lines of a file: no reply is wanted before the first command
abbrev pub accepted_lines : List (List ℕ) → List (List ℕ) → List (List ℕ)
accepted_lines raw told = accepted_from false raw told

-- lines, each ended by a line feed
abbrev pub ended : List (List ℕ) → List ℕ
ended lines = flat_map (λ line. line ++ line_feed ∷ []) lines

-- the new text of a transcript's file
abbrev pub accepted_text : List ℕ → List (List ℕ) → List ℕ
accepted_text transcript told = ended (accepted_lines (lines transcript) told)
