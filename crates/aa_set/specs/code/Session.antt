-- The invariant of the code's loop over pieces of an input: the lines so far, their replies, and what is left of the last line. What `run` promises
-- is in `Run`.
use Rattle.std.specs.Prelude.{◌≡◌, ℕ, ◌+◌, Bool, List, [], ◌∷◌, ◌++◌, map, take, Option}
use Rattle.std.specs.List.{flat_map, slice_split}
use Rattle.aa_text_files.specs.Files.{File}
use Rattle.aa_set_manager.specs.Manager.{Managed}
use Rattle.aa_set_commands.specs.Lines.{is_line_feed, whole_lines}
use Rattle.aa_set.specs.Reply.{reply_text}
use Rattle.aa_set_answers.specs.Answers.{line_with}
use Rattle.aa_set.specs.Run.{HoldsOfRead, IsAnswered, IsAnsweredSoFar, IsFrontAnswered, IsLeftAnswered, replies_to, after_lines, SumsUp}
use Rattle.aa_set_commands.specs.Streams.{AppendsFront, WritesBehind}
use Rattle.aa_set_commands.specs.Limits.{longest_line}
use Rattle.aa_set.specs.declared.session.Session.{Session}
use Rattle.aa_set.specs.declared.session.Summary.{Summary}

-- A session after these lines, each with its flag; the text of the replies was written to a writer that had `before` and has `now`.
pub record IsAfter (files : List File) (begin : Managed) (before now : Option (List ℕ)) (session : Session)
    (lines : List (List ℕ × Bool)) : Type 0 where
  pub managed : session.manager ≡ after_lines files begin lines
  pub written : WritesBehind before now [] session.waiting.items (flat_map (reply_text files) (replies_to files begin lines))
  pub summed : SumsUp session.summary (replies_to files begin lines)

-- An input consists of these lines, each ended by a line feed, and then of a line that isn't finished, of which a line
-- buffer holds as much as matters.
pub record IsCut (input : List ℕ) (lines : List (List ℕ × Bool)) (buffer : List ℕ) : Type 0 where
  pub unfinished : List ℕ
  pub cut : slice_split is_line_feed input ≡ map (λ line. line.0) lines ++ unfinished ∷ []
  pub held : buffer ≡ take (longest_line + 1) unfinished

-- a session and its line buffer are those after an input
pub record Follows (files : List File) (begin : Managed) (before now : Option (List ℕ)) (session : Session) (held input : List ℕ) : Type 0 where
  pub lines : List (List ℕ × Bool)
  pub after : IsAfter files begin before now session lines
  pub cut : IsCut input lines held

-- a session and its line buffer are those after nothing, whatever the files and the writer
abbrev pub IsFresh : Managed → Session → List ℕ → Type 0
IsFresh begin session held = (files : List File) (before : Option (List ℕ)) → Follows files begin before before session held []

-- how many bytes a read asks for
abbrev pub piece_size : ℕ
piece_size = 65536

-- how many lines a summary counts
abbrev pub counted : Session → ℕ
counted session = session.summary.accepted + session.summary.refused

-- how feeding bytes leads from one session to the next, whatever was fed before
abbrev pub Feeds : List File → (old new : Option (List ℕ)) → Session → Session → List ℕ → List ℕ → List ℕ → Type 0
Feeds files old new before after held left more =
    (begin : Managed) (start : Option (List ℕ)) (input : List ℕ)
    → Follows files begin start old before held input
    → Follows files begin start new after left (input ++ more)

-- how the end of a line leads from one session to the next, whatever was fed before: these last bytes of it, and a line feed
abbrev pub EndsLine : List File → (old new : Option (List ℕ)) → Session → Session → List ℕ → List ℕ → List ℕ → Type 0
EndsLine files old new before after held left last = Feeds files old new before after held left (line_with last)

-- how the end of an input leads from a session to a summary, whatever the input was
abbrev pub EndsInput : List File → (old new : Option (List ℕ)) → Session → List ℕ → Summary → Type 0
EndsInput files old new session held summary =
    (begin : Managed) (start : Option (List ℕ)) (input : List ℕ)
    → Follows files begin start old session held input
    → IsAnswered files begin start new summary input

-- how the input that a reader still has leads from a session without any to one that has answered it
abbrev pub Serves : List File → (left old new : Option (List ℕ)) → Session → List ℕ → Session → Type 0
Serves files left old new before held after =
    (begin : Managed) (start : Option (List ℕ))
    → Follows files begin start old before held []
    → IsLeftAnswered files begin left start new after.summary

-- how answering a line leads from one session to the next, whatever was answered before: with a flag where memory ran out at it
abbrev pub AnswersLine : List File → (old new : Option (List ℕ)) → Session → Session → List ℕ → Type 0
AnswersLine files old new before after line =
    (begin : Managed) (start : Option (List ℕ)) (lines : List (List ℕ × Bool))
    → IsAfter files begin start old before lines
    → (flag : Bool) × IsAfter files begin start new after (lines ++ (line, flag) ∷ [])

-- what was written is a prefix of the text of the replies to some lines, each with its flag, with which the whole lines of an input begin
pub record IsFrontOfWhole (files : List File) (begin : Managed) (before now : Option (List ℕ)) (input : List ℕ) : Type 0 where
  pub lines : List (List ℕ × Bool)
  pub more : List (List ℕ)
  pub whole : whole_lines input ≡ map (λ line. line.0) lines ++ more
  pub written : AppendsFront before now (flat_map (reply_text files) (replies_to files begin lines))

-- how a fault of the writer leaves what was written, where bytes were to be fed to a session, whatever was fed before
abbrev pub BreaksOff : List File → (old new : Option (List ℕ)) → Session → List ℕ → List ℕ → Type 0
BreaksOff files old new before held more =
    (begin : Managed) (start : Option (List ℕ)) (input : List ℕ)
    → Follows files begin start old before held input
    → IsFrontOfWhole files begin start new (input ++ more)

-- how a fault of the writer leaves what was written, where a line was to be answered, whatever was answered before: with a flag where memory ran out
-- at it
abbrev pub BreaksOffLine : List File → (old new : Option (List ℕ)) → Session → List ℕ → Type 0
BreaksOffLine files old new before line =
    (begin : Managed) (start : Option (List ℕ)) (lines : List (List ℕ × Bool))
    → IsAfter files begin start old before lines
    → (flag : Bool)
    × AppendsFront start new (flat_map (reply_text files) (replies_to files begin (lines ++ (line, flag) ∷ [])))

-- how a fault of the writer leaves what was written, where the input's end was to be answered
abbrev pub BreaksOffEnd : List File → (old new : Option (List ℕ)) → Session → List ℕ → Type 0
BreaksOffEnd files old new before held =
    (begin : Managed) (start : Option (List ℕ)) (input : List ℕ)
    → Follows files begin start old before held input
    → IsFrontAnswered files begin start new input

-- how reads that reached no end lead from a session without any: the whole lines that were read are answered
abbrev pub StopsAfter : List File → (left_before left_now old new : Option (List ℕ)) → Session → List ℕ → Type 0
StopsAfter files left_before left_now old new before held =
    (begin : Managed) (start : Option (List ℕ))
    → Follows files begin start old before held []
    → HoldsOfRead left_before left_now (IsAnsweredSoFar files begin start new)

-- how a fault of the writer leads from a session without any: a prefix of the output is written
abbrev pub BreaksAfter : List File → (left_before left_now old new : Option (List ℕ)) → Session → List ℕ → Type 0
BreaksAfter files left_before left_now old new before held =
    (begin : Managed) (start : Option (List ℕ))
    → Follows files begin start old before held []
    → HoldsOfRead left_before left_now (IsFrontAnswered files begin start new)
