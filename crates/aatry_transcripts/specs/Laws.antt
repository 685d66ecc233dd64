-- What holds of a transcript whose replies are accepted.
use Rattle.std.specs.Prelude.{◌≡◌, ℕ, true, not, List}
use Rattle.std.specs.List.{filter}
use Rattle.std.specs.Str.Lines.{strip_carriage_return}
use Rattle.aa_set_commands.specs.Lines.{lines}
use Rattle.aatry_transcripts.specs.Accepting.{accepted_text, can_be_accepted}
use Rattle.aatry_transcripts.specs.Meeting.{are_met}
use Rattle.aatry_transcripts.specs.Transcripts.{input_of, is_wanted, transcript_lines, wanted_in}

-- the lines of a file that are no wanted ones, byte for byte: commands, assertions, comments and lines of blanks
abbrev pub other_lines : List ℕ → List (List ℕ)
other_lines text = filter (λ raw. not (is_wanted (strip_carriage_return raw))) (lines text)

-- the output for the commands of a transcript can be accepted
abbrev pub CanBeAccepted : List ℕ → List ℕ → Type 0
CanBeAccepted transcript output = can_be_accepted (transcript_lines transcript) (lines output) ≡ true

-- the accepted text wants exactly that output
abbrev pub PassesThen : Type 0
PassesThen =
    (transcript output : List ℕ) → CanBeAccepted transcript output
    → are_met (wanted_in (transcript_lines (accepted_text transcript (lines output)))) (lines output) ≡ true

-- its run gets the same commands, in their order
abbrev pub AsksTheSame : Type 0
AsksTheSame =
    (transcript output : List ℕ) → CanBeAccepted transcript output
    → input_of (transcript_lines (accepted_text transcript (lines output))) ≡ input_of (transcript_lines transcript)

-- no line is lost that isn't a wanted one
abbrev pub KeepsTheOthers : Type 0
KeepsTheOthers =
    (transcript output : List ℕ) → CanBeAccepted transcript output
    → other_lines (accepted_text transcript (lines output)) ≡ other_lines transcript
