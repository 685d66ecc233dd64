-- What is wrong with the words of a question (docs/commands.md, "Questions").
use Rattle.std.specs.Prelude.{◌≡◌, ℕ, ⊤, Bool, if◌then◌else◌, List, [], ◌∷◌, Option, None, Some, Result, Ok, Err, codes, is_some}
use Rattle.std.specs.Str.{bytes_eq}
use Rattle.aa_profile_data.specs.Access.{bit_of, has, union}
use Rattle.aa_profile_data.specs.Capabilities.{capability_number}
use Rattle.aa_profile_data.specs.Domains.{domain_number}
use Rattle.aa_set_commands.specs.Question.{Question, is_path, owned_of, type_number}
use Rattle.aa_set_commands.specs.Refusal.{plain}
use Rattle.aa_set_commands.specs.declared.refusal.Refusal.{Refusal}
use Rattle.aa_set_commands.specs.declared.refusal.RefusalKind.{RefusalKind}
use Rattle.aa_set_commands.specs.declared.refusal.RefusalKind.TheVariants.{BadCommand, BadRequest}
use Rattle.aatry_questions.specs.declared.faults.QuestionKind.{QuestionKind}
use Rattle.aatry_questions.specs.declared.faults.QuestionKind.TheVariants.{Cap, Exec, File, Net}
use Rattle.aatry_questions.specs.declared.faults.WordFault.{WordFault}
use Rattle.aatry_questions.specs.declared.faults.Wrong.{Wrong}
use Rattle.aatry_questions.specs.declared.faults.Wrong.TheVariants.{Capability, Count, Domain, Kind, Letter, LetterTwice, NoLetter, Owned, Path, SocketType}

-- what is wrong, and the word, or the byte of it, that is
pub record Found : Type 0 where
  pub wrong : Wrong
  pub word : List ℕ

abbrev pub found : Wrong → List ℕ → Found
found wrong word = record { wrong = wrong; word = word }

-- a fault of the code
abbrev pub seen_fault : WordFault → Found
seen_fault fault = found fault.wrong fault.word.now

-- a fault of a word, unless it is good
abbrev pub unless : Bool → Wrong → List ℕ → Option Found
unless good wrong word = if good then None else Some (found wrong word)

-- the first fault, or else the second
abbrev pub first_fault : Option Found → Option Found → Option Found
first_fault (Some fault) second = Some fault
first_fault None second = second

-- the first letter that is unknown, or that a set of those before it has
abbrev pub letters_fault : ℕ → List ℕ → Option Found
letters_fault set [] = None
letters_fault set (letter ∷ more) = elim (bit_of letter) [
  | None ↦ Some (found Letter (letter ∷ []))
  | Some bit ↦ if has set bit then Some (found LetterTwice (letter ∷ [])) else letters_fault (union set bit) more
]

-- an access has a letter, and each is known and occurs once
abbrev pub access_fault : List ℕ → Option Found
access_fault [] = Some (found NoLetter [])
access_fault (letter ∷ more) = letters_fault 0 (letter ∷ more)

-- what is wrong with the words after the asker: the first of them that is wrong
abbrev pub exec_fault : List ℕ → List ℕ → Option Found
exec_fault owned path = first_fault (unless (is_some (owned_of owned)) Owned owned) (unless (is_path path) Path path)

abbrev pub socket_fault : List ℕ → List ℕ → Option Found
socket_fault domain sort =
    first_fault (unless (is_some (domain_number domain)) Domain domain) (unless (is_some (type_number sort)) SocketType sort)

-- the kind of questions that begin with a word
abbrev pub kind_of : List ℕ → Option QuestionKind
kind_of word =
    if bytes_eq word (codes "cap") then Some Cap else
    if bytes_eq word (codes "net") then Some Net else
    if bytes_eq word (codes "exec") then Some Exec else
    if bytes_eq word (codes "file") then Some File else None

-- what is wrong with the first word, where no question that begins with it has so many: it is of no kind, or their number is wrong
abbrev pub kind_fault : List ℕ → Found
kind_fault kind = elim (kind_of kind) [
  | None ↦ found Kind kind
  | Some of_kind ↦ found (Count of_kind) []
]

-- what is wrong with one word after a kind and the asker, which names the capability of this number, if it names one
abbrev pub of_one : List ℕ → List ℕ → Option ℕ → Option Found
of_one kind name number =
    if bytes_eq kind (codes "cap") then unless (is_some number) Capability name else Some (kind_fault kind)

-- what is wrong with two words after a kind and the asker
abbrev pub of_two : List ℕ → List ℕ → List ℕ → Option Found
of_two kind first second =
    if bytes_eq kind (codes "net") then socket_fault first second else
    if bytes_eq kind (codes "exec") then exec_fault first second else Some (kind_fault kind)

-- what is wrong with three words after a kind and the asker, of which the first is an access with this fault, if it has one
abbrev pub of_three : List ℕ → Option Found → List ℕ → List ℕ → Option Found
of_three kind access owned path =
    if bytes_eq kind (codes "file") then first_fault access (exec_fault owned path) else Some (kind_fault kind)

-- What is wrong with words after `ask`, if they make no question: with the first word, with how many there are, or with the first wrong word after
-- the asker.
abbrev pub question_fault : List (List ℕ) → Option Found
question_fault [] = Some (found Kind [])
question_fault (kind ∷ who ∷ name ∷ []) = of_one kind name (capability_number name)
question_fault (kind ∷ who ∷ first ∷ second ∷ []) = of_two kind first second
question_fault (kind ∷ who ∷ access ∷ owned ∷ path ∷ []) = of_three kind (access_fault access) owned path
question_fault (kind ∷ words) = Some (kind_fault kind)

-- the refusal of a command with such words: as none where their kind or their number is wrong, and else as one with a bad request
abbrev pub refusal_of : Wrong → RefusalKind
refusal_of Kind = BadCommand
refusal_of (Count kind) = BadCommand
refusal_of _ = BadRequest

-- what is wrong, and what a reading of the same words gives: a question exactly where nothing is, and else the refusal for the fault
abbrev pub Agree : Option Found → Result Question Refusal → Type 0
Agree None (Ok question) = ⊤
Agree None (Err refusal) = ⊥
Agree (Some fault) (Ok question) = ⊥
Agree (Some fault) (Err refusal) = refusal ≡ plain (refusal_of fault.wrong)
