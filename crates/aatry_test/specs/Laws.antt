-- What holds of tests, and of the parts of a transcript, by which differences are reported.
use Rattle.std.specs.Prelude.{◌≡◌, ℕ, ◌+◌, Bool, true, false, if◌then◌else◌, List, [], ◌∷◌, ◌++◌, flat_map}
use Rattle.std.specs.List.{list_any}
use Rattle.aa_profile_parsing.specs.declared.language.Language.{Language}
use Rattle.aa_text_files.specs.Files.{File}
use Rattle.aa_start.specs.Known.{Known}
use Rattle.aatry_test.specs.Below.{Came, TestsEach}
use Rattle.aatry_test.specs.Differences.{Part, part_of, parts}
use Rattle.aatry_test.specs.Tests.{Accepted, IsTested, Passed}
use Rattle.aatry_transcripts.specs.Replies.{begins_reply}
use Rattle.aatry_transcripts.specs.Transcripts.{before_command, command_in, is_blank, is_command, wanted_in}

-- The lines are a reply to the command of a line, of the form that replies have: the first begins a reply, and no other one does. A command of
-- blanks has none.
abbrev pub IsReplyTo : List ℕ → List (List ℕ) → Type 0
IsReplyTo line [] = is_blank (command_in line) ≡ true
IsReplyTo line (first ∷ more) = (is_blank (command_in line) ≡ false) × (begins_reply first ≡ true) × (list_any begins_reply more ≡ false)

-- each command of these lines, of which the first has this number, has such a reply by the number of its line
abbrev pub AreReplies : (ℕ → List (List ℕ)) → ℕ → List (List ℕ) → Type 0
AreReplies reply number [] = Unit {0}
AreReplies reply number (line ∷ behind) = (is_command line ≡ true → IsReplyTo line (reply number)) × AreReplies reply (number + 1) behind

-- the output where each command is answered by its reply
abbrev pub told_by : (ℕ → List (List ℕ)) → ℕ → List (List ℕ) → List (List ℕ)
told_by reply number [] = []
told_by reply number (line ∷ behind) = (if is_command line then reply number else []) ++ told_by reply (number + 1) behind

-- each command with what the lines after it want, and with its own reply
abbrev pub parts_by : (ℕ → List (List ℕ)) → ℕ → List (List ℕ) → List Part
parts_by reply number [] = []
parts_by reply number (line ∷ behind) = part_of number line behind (reply number) ++ parts_by reply (number + 1) behind

-- what differs is reported below the command that it answers
abbrev pub EachHasItsReply : Type 0
EachHasItsReply = (reply : ℕ → List (List ℕ)) (lines : List (List ℕ)) → AreReplies reply 1 lines → parts 1 lines (told_by reply 1 lines) ≡ parts_by reply 1 lines

-- no line of the output is left out, where there is a command, whatever it is
abbrev pub AllIsTold : Type 0
AllIsTold = (lines told : List (List ℕ)) → list_any is_command lines ≡ true → flat_map (λ part. part.told) (parts 1 lines told) ≡ told

-- no wanted line is left out: it comes before the first command, or is wanted of a part
abbrev pub AllIsWanted : Type 0
AllIsWanted =
    (lines told : List (List ℕ)) → wanted_in (before_command lines) ++ flat_map (λ part. part.wanted) (parts 1 lines told) ≡ wanted_in lines

-- A transcript that was accepted passes, whether the replies are to be accepted again or not.
abbrev pub AcceptedPass : Type 0
AcceptedPass =
    (language : Language) (files : List File) (accept again : Bool) (path transcript text shown : List ℕ)
    → IsTested language files accept path transcript (Accepted text) shown
    → (next : List ℕ) × IsTested language files again path text Passed next

-- where the replies aren't to be accepted, no file is to be replaced
abbrev pub NothingIsReplaced : Known → Type 0
NothingIsReplaced known =
    (language : Language) (files : List File) (paths : List (List ℕ)) (came : Came) → TestsEach language known files false paths came → came.replaced ≡ []
