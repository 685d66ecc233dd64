-- What a line of the kernel's log holds. Its pair of the key `apparmor` says so: that a request was denied, allowed in complain mode or audited, or
-- that policy was loaded, or the like.
use Rattle.std.specs.Prelude.{ℕ, Bool, true, false, is_some, not, ◌&&◌, ◌||◌, if◌then◌else◌, List, [], ◌∷◌, Option, None, Some, codes, option_and_then}
use Rattle.std.specs.Str.{bytes_eq}
use Rattle.aa_bytes.specs.Bytes.{quote}
use Rattle.aa_bytes.specs.Quoting.{quoted}
use Rattle.aa_bytes.specs.Texts.{begins_with, is_empty}
use Rattle.aa_profile_data.specs.Stacks.{parts_of}
use Rattle.aa_set_commands.specs.Question.{Question}
use Rattle.aatry_log_lines.specs.LoggedQuestions.{capability_asked, file_asked, seen_logged, sockets_asked}
use Rattle.aatry_log_lines.specs.Messages.{Broken, NoMessage, Whole, message_in}
use Rattle.aatry_log_lines.specs.Pairs.{value_of}
use Rattle.aatry_log_lines.specs.Values.{quoted_text, text_of}
use Rattle.aatry_log_lines.specs.declared.lines.LogLine.{LogLine}
use Rattle.aatry_log_lines.specs.declared.lines.LogLine.TheVariants as line

-- A request, as a question asks it; one that no question asks, as for a signal or a mount; one for a file of which the kernel knew no whole path, or
-- one of a learning profile, which no question asks either; no request; what can't be read; or a request that can't be read since its values are
-- interpreted.
pub data Told : Type 0 where
  Asks : (question : Question) → Told
  OtherRequest : Told
  Disconnected : Told
  Learning : Told
  NoRequest : Told
  Unreadable : Told
  Interpreted : Told

-- a line of the code
abbrev pub seen_line : LogLine → Told
seen_line (line.Asks question) = Asks (seen_logged question)
seen_line line.OtherRequest = OtherRequest
seen_line line.Disconnected = Disconnected
seen_line line.Learning = Learning
seen_line line.NoRequest = NoRequest
seen_line line.Unreadable = Unreadable
seen_line line.Interpreted = Interpreted

-- the words that are answers to a request
abbrev pub tells_request : List ℕ → Bool
tells_request word =
    bytes_eq word (codes "DENIED") || bytes_eq word (codes "ALLOWED") || bytes_eq word (codes "AUDIT") || bytes_eq word (codes "KILLED")

-- the words for something else
abbrev pub tells_else : List ℕ → Bool
tells_else word = bytes_eq word (codes "STATUS") || bytes_eq word (codes "HINT") || bytes_eq word (codes "ERROR")

-- the text of a key's value, if both are there
abbrev pub text_at : List ℕ → List ℕ → Option (List ℕ)
text_at key line = option_and_then text_of (value_of key line)

-- the text of a key's value that is always in quotes, if both are there
abbrev pub quoted_at : List ℕ → List ℕ → Option (List ℕ)
quoted_at key line = option_and_then quoted_text (value_of key line)

-- ---- what a question asks, and what none does

-- The request is decided by the host's own policy, and not by that of another namespace: its line names none, or `root`.
abbrev pub is_of_host : List ℕ → Bool
is_of_host line = elim (value_of (codes "namespace=") line) [ None ↦ true | Some value ↦ bytes_eq value (quoted (codes "root")) ]

-- The classes of requests that questions ask: on files, capabilities and sockets. Newer kernels log the class, of a message queue too, which has a
-- name and a mask like a file.
abbrev pub is_asked_class : List ℕ → Bool
is_asked_class value = bytes_eq value (quoted (codes "file")) || bytes_eq value (quoted (codes "cap")) || bytes_eq value (quoted (codes "net"))

-- the class of a line, if it has one, is among these
abbrev pub has_asked_class : List ℕ → Bool
has_asked_class line = elim (value_of (codes "class=") line) [ None ↦ true | Some value ↦ is_asked_class value ]

-- more than one
abbrev pub are_several : List (List ℕ) → Bool
are_several (name ∷ other ∷ more) = true
are_several _ = false

-- the asker: one by its name, if that can be read, or several profiles at once, as a stack has them
pub data Asker : Type 0 where
  One : (name : Option (List ℕ)) → Asker
  Several : Asker

-- the asker of a label, which is the name of one or those of several
abbrev pub labelled : Option (List ℕ) → Asker
labelled None = One None
labelled (Some label) = if are_several (parts_of label) then Several else One (Some label)

-- the asker of a line, by the name of its profile, or else by its label
abbrev pub asker_of : List ℕ → Asker
asker_of line = elim (value_of (codes "profile=") line) [ None ↦ labelled (text_at (codes "label=") line) | Some value ↦ One (text_of value) ]

-- Whether the task's user owns the file: both numbers are there, and they are equal. Where neither is there nobody is said to own it, and a line
-- with only one is cut off.
abbrev pub ownership : Option (List ℕ) → Option (List ℕ) → Option Bool
ownership None None = Some false
ownership (Some user) (Some owner) = Some (bytes_eq user owner)
ownership _ _ = None

abbrev pub owned_in : List ℕ → Option Bool
owned_in line = ownership (value_of (codes "fsuid=") line) (value_of (codes "ouid=") line)

-- The kernel's own words say that it knew no whole path, since the file lies below no place that is mounted where it looks from:
-- `info="Failed name lookup - disconnected path"`. The name of such a line is the part that it knew.
abbrev pub has_word : List ℕ → List ℕ → Bool
has_word word line = elim (value_of word line) [ None ↦ false | Some rest ↦ is_empty rest ]

abbrev pub is_disconnected : List ℕ → Bool
is_disconnected line = elim (value_of (codes "info=") line) [
  | None ↦ false
  | Some value ↦ bytes_eq value (quote ∷ codes "Failed") && has_word (codes "disconnected") line
]

-- A name is that of a learning profile. In complain mode the kernel runs a program that no rule of NAME allows under one, which it calls
-- `NAME//null-PATH`, by the program's path, or as older ones do `NAME//null-1f`, by a number; and so a hat or a profile that doesn't exist and is
-- changed to.
abbrev pub is_learning : List ℕ → Bool
is_learning [] = false
is_learning (b ∷ bs) = begins_with (codes "//null-") (b ∷ bs) || is_learning bs

-- the asker of a line with a process is a learning profile, where its name can be read: the kernel names that of each request, and no line of
-- `aaset` names one
abbrev pub is_of_learning : List ℕ → Option (List ℕ) → Bool
is_of_learning line None = false
is_of_learning line (Some name) = is_some (value_of (codes "pid=") line) && is_learning name

-- Sockets of the family unix are decided by `unix` rules, which no question asks. A line that `aaset` prints has the operation `net`, which no
-- kernel's has, and makes a question.
abbrev pub is_local : List ℕ → List ℕ → Bool
is_local line family =
    bytes_eq family (quoted (codes "unix"))
    && not (elim (value_of (codes "operation=") line) [ None ↦ false | Some value ↦ bytes_eq value (quoted (codes "net")) ])

-- ---- what a line holds

-- a question, if it can be asked
abbrev pub told_of : Option Question → Told
told_of None = Unreadable
told_of (Some question) = Asks question

-- what a line with the pairs of a file holds: its mask and its name
abbrev pub file_told : List ℕ → Option (List ℕ) → List ℕ → Option (List ℕ) → Told
file_told line who mask None = OtherRequest
file_told line who mask (Some name) =
    if is_disconnected line then Disconnected else told_of (file_asked who (quoted_text mask) (owned_in line) (text_of name))

-- what a line with the family of a socket holds
abbrev pub sockets_told : List ℕ → Option (List ℕ) → List ℕ → Told
sockets_told line who family =
    if is_local line family then OtherRequest else told_of (sockets_asked who (quoted_text family) (quoted_at (codes "sock_type=") line))

-- What a line holds that logs a request of one profile, which is no learning profile. Its keys say which kind it is: a capability's name, a socket's
-- family, or the mask and the name of a file.
abbrev pub asked_of : List ℕ → Option (List ℕ) → Told
asked_of line who = elim (value_of (codes "capname=") line) [
  | Some name ↦ told_of (capability_asked who (quoted_text name))
  | None ↦ elim (value_of (codes "family=") line) [
    | Some family ↦ sockets_told line who family
    | None ↦ elim (value_of (codes "requested_mask=") line) [
      | Some mask ↦ file_told line who mask (value_of (codes "name=") line)
      | None ↦ OtherRequest
    ]
  ]
]

-- what a line holds that logs a request of an asker
abbrev pub asked_by : List ℕ → Asker → Told
asked_by line Several = OtherRequest
asked_by line (One who) = if is_of_learning line who then Learning else asked_of line who

-- what a line holds that logs a request
abbrev pub request_told : List ℕ → Told
request_told line = if is_of_host line && has_asked_class line then asked_by line (asker_of line) else OtherRequest

-- What a line holds whose pair of `apparmor` has a value without quotes. `ausearch -i` writes all values so, and names as they are, with blanks and
-- all: where such a name ends isn't known, so a request is read of no such line.
abbrev pub told_interpreted : List ℕ → Told
told_interpreted word = if tells_request word then Interpreted else (if tells_else word then NoRequest else Unreadable)

-- what a line holds by the value of its pair of `apparmor`, and the word between its quotes
abbrev pub told_as : List ℕ → List ℕ → Option (List ℕ) → Told
told_as line value None = told_interpreted value
told_as line value (Some word) = if tells_request word then request_told line else (if tells_else word then NoRequest else Unreadable)

-- What a line holds of a program that asks the kernel what policy is and decides itself, as the bus of messages does: a request of another kind. All
-- of it follows `msg='`.
abbrev pub told_as_program : Option (List ℕ) → Told
told_as_program None = Unreadable
told_as_program (Some word) = if tells_request word then OtherRequest else (if tells_else word then NoRequest else Unreadable)

-- what a message holds
abbrev pub told_by_message : List ℕ → Told
told_by_message message = elim (value_of (codes "apparmor=") message) [
  | Some value ↦ told_as message value (quoted_text value)
  | None ↦ elim (value_of (codes "msg='apparmor=") message) [
    | Some value ↦ told_as_program (quoted_text value)
    | None ↦ NoRequest
  ]
]

-- what a line holds: its message, where it is a record of the journal, and else the line itself
abbrev pub told_by : List ℕ → Told
told_by line = elim (message_in line) [ NoMessage ↦ told_by_message line | Whole message ↦ told_by_message message | Broken ↦ Unreadable ]
