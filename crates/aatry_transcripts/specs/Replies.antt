-- Where each reply ends in a run's output. The result of a comparison doesn't depend on this: it only decides below which command a line that
-- differs is shown.
use Rattle.std.specs.Prelude.{ℕ, ◌+◌, Bool, ◌&&◌, not, nat_le, if◌then◌else◌, List, [], ◌∷◌, codes, take}
use Rattle.std.specs.List.{list_any, prefix_len}
use Rattle.aa_bytes.specs.Texts.{begins, begins_with}
use Rattle.aatry_transcripts.specs.Transcripts.{command_in, is_blank, is_command}

abbrev pub is_small_letter : ℕ → Bool
is_small_letter b = nat_le 97 b && nat_le b 122

-- an audit line, which follows an answer that is logged
abbrev pub is_audit_line : List ℕ → Bool
is_audit_line line = begins_with (codes "apparmor=") line

-- A line that begins a reply: its first word is one of small letters. Those that follow begin otherwise, or are audit lines.
abbrev pub begins_reply : List ℕ → Bool
begins_reply line = begins is_small_letter line && not (is_audit_line line)

-- how many of these lines make the reply that begins with the first
abbrev pub reply_size : List (List ℕ) → ℕ
reply_size [] = 0
reply_size (first ∷ lines) = 1 + prefix_len (λ line. not (begins_reply line)) lines

-- the reply to the command of a line: a command of blanks has none
abbrev pub reply_to : List ℕ → List (List ℕ) → List (List ℕ)
reply_to line told = if is_blank (command_in line) then [] else take (reply_size told) told

-- the output for a line, among the lines from there on: nothing for one without a command, and all of them for the last command
abbrev pub told_next : List ℕ → List (List ℕ) → List (List ℕ) → List (List ℕ)
told_next line behind told =
    if not (is_command line) then []
    else if list_any is_command behind then reply_to line told
    else told
