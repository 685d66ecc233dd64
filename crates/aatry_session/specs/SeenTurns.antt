-- Turns of the code.
use Rattle.aa_set_commands.specs.Question.{IsWellFormed, seen_question}
use Rattle.aatry_session.specs.Turns.{Answer, Told, Ended, Anew, Compared, Widened, Asked}
use Rattle.aatry_session.specs.declared.session.Turn.{Turn}
use Rattle.aatry_session.specs.declared.session.Turn.TheVariants as turn

-- the answer of a turn, in the code
abbrev pub seen_turn : Turn → Answer
seen_turn (turn.Told text) = Told text
seen_turn turn.Quit = Ended
seen_turn turn.Reload = Anew
seen_turn turn.Status = Compared
seen_turn turn.Widen = Widened
seen_turn (turn.Why question) = Asked (seen_question question)

-- the question is well-formed
abbrev pub IsAskable : Turn → Type 0
IsAskable (turn.Why question) = IsWellFormed question
IsAskable _ = Unit {0}
