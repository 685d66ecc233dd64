-- The notes on logs beside the report (docs/aatry.md, "`aatry log`").
use Rattle.std.specs.Prelude.{◌==◌, ℕ, if◌then◌else◌, List, [], ◌∷◌, ◌++◌, codes}
use Rattle.aa_bytes.specs.Bytes.{line_feed}
use Rattle.aatry_logs.specs.LogRequests.{LogRequests}
use Rattle.aatry_requests.specs.Counts.{number_text}

-- the words for a number: those for one, or the number and those for several
abbrev pub number_words : ℕ → (one several : List ℕ) → List ℕ
number_words number one several = if number == 1 then one else number_text number several

-- a line of such words, where the number isn't 0
abbrev pub note_line : ℕ → (one several : List ℕ) → List ℕ
note_line number one several = if number == 0 then [] else codes "aatry: " ++ number_words number one several ++ line_feed ∷ []

-- how many lines can't be read
abbrev pub unreadable_note : ℕ → List ℕ
unreadable_note number = note_line number (codes "1 line can't be read") (codes " lines can't be read")

-- how many of them `ausearch -i` wrote
abbrev pub interpreted_note : ℕ → List ℕ
interpreted_note number =
    note_line number (codes "1 of them is written by ausearch -i, of which none is read: use ausearch --raw")
    (codes " of them are written by ausearch -i, of which none is read: use ausearch --raw")

-- how many requests are for files of which the kernel knew no whole path
abbrev pub disconnected_note : ℕ → List ℕ
disconnected_note number =
    note_line number (codes "1 request is for a file of which the kernel knew no whole path (disconnected): see the flag attach_disconnected")
    (codes " requests are for files of which the kernel knew no whole path (disconnected): see the flag attach_disconnected")

-- how many requests are of learning profiles
abbrev pub learning_note : ℕ → List ℕ
learning_note number =
    note_line number (codes "1 request is of a learning profile NAME//null-PATH: in complain mode NAME started PATH, with no rule for that")
    (codes " requests are of learning profiles NAME//null-PATH: in complain mode NAME started PATH, with no rule for that")

-- the notes on lines that make no question
abbrev pub apart_note : LogRequests → List ℕ
apart_note logs =
    unreadable_note logs.unreadable.count ++ interpreted_note logs.interpreted ++ disconnected_note logs.disconnected.count
    ++ learning_note logs.learning.count

-- how many questions have an asker that isn't loaded
abbrev pub nobody_note : ℕ → List ℕ
nobody_note number = note_line number (codes "1 question is of nobody here") (codes " questions are of nobody here")

-- the notes on logs
abbrev pub logs_note : LogRequests → ℕ → List ℕ
logs_note logs nobody = apart_note logs ++ nobody_note nobody
