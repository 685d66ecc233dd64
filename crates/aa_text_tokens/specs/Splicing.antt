-- Splicing: a file's tokens, each Include replaced by the tokens of the files that it includes (apparmor.d(5), "#include mechanism"; see
-- docs/policy.md, "Includes").
use Rattle.std.specs.Prelude.{ℕ, zero, suc, ◌+◌, ◌-◌, Bool, false, not, ◌==◌, nat_le, if◌then◌else◌, List, [], ◌∷◌, ◌++◌, length, take, Option, None, Some, Result, Ok, Err}
use Rattle.std.specs.List.{prefix_len}
use Rattle.aa_bytes.specs.Bytes.{slash}
use Rattle.aa_bytes.specs.Texts.{has_byte}
use Rattle.aa_text_tokens.specs.Cut.{Seen, cut}
use Rattle.aa_text_files.specs.Files.{File, bytes_at, file_at, has_file, is_folder_name}
use Rattle.aa_text_files.specs.Folder.{members}
use Rattle.aa_text_files.specs.Limit.{most_bytes}
use Rattle.aa_text_tokens.specs.declared.cut.CutRefusal.{CutRefusal}
use Rattle.aa_text_tokens.specs.declared.cut.CutRefusal.TheVariants as cut_refusal
use Rattle.aa_text_tokens.specs.declared.cut.TokenKind.TheVariants.{Include}
use Rattle.aa_text_files.specs.declared.text_error.Place.{Place}
use Rattle.aa_text_files.specs.declared.text_error.TextRefusal.{TextRefusal}
use Rattle.aa_text_files.specs.declared.text_error.TextRefusal.TheVariants.{ZeroByte, OpenQuote, OpenOther, NoFile, IncludeDepth, TextTooBig, Memory}

-- how deep includes may be nested
abbrev pub deepest : ℕ
deepest = 16

-- a token, and the index of its file among the files
pub record Placed : Type 0 where
  pub file : ℕ
  pub token : Seen

-- why a file can't be spliced, and the place of the fault, if it has one
abbrev pub Fault : Type 0
Fault = TextRefusal × Option Place

-- the result of entering files: their tokens, and how many bytes were entered so far; or the first fault
abbrev pub Entered : Type 0
Entered = Result (List Placed × ℕ) Fault

-- the name that an Include looks up: as it is written, without one `/` at its end
abbrev pub looked_up : List ℕ → List ℕ
looked_up name = if is_folder_name name then take (length name - 1) name else name

-- what an Include names: these files, nothing, or a file that doesn't exist
pub data Target : Type 0 where
  Entering : (files : List ℕ) → Target
  Nothing : Target
  Absent : Target

abbrev pub without : Bool → Target
without if_exists = if if_exists then Nothing else Absent

abbrev pub of_members : List ℕ → Target
of_members [] = Nothing
of_members (file ∷ files) = Entering (file ∷ files)

-- A file of the name, else the members of a folder of the name, else nothing or a fault.
unfoldable pub target : List File → List ℕ → Bool → Target
target files name if_exists =
    if length name == 0 then without if_exists else
    elim (file_at files (looked_up name)) [
      | Some file ↦ Entering (file ∷ [])
      | None ↦ if has_file files (looked_up name ++ slash ∷ []) then of_members (members files (looked_up name ++ slash ∷ [])) else without if_exists
    ]

abbrev pub refusal_of : CutRefusal → TextRefusal
refusal_of cut_refusal.OpenQuote = OpenQuote
refusal_of cut_refusal.OpenOther = OpenOther
refusal_of cut_refusal.Memory = Memory

-- tokens, followed by those of further files and tokens
unfoldable pub and_then : Entered → (ℕ → Entered) → Entered
and_then (Err fault) more = Err fault
and_then (Ok first) more = elim (more first.1) [ Err fault ↦ Err fault | Ok rest ↦ Ok (first.0 ++ rest.0, rest.1) ]

-- How a file is entered for an Include at a place, with so many bytes entered before; `None` where the depth is used up.
abbrev pub Way : Type 0
Way = Option (ℕ → ℕ → Option Place → Entered)

-- files in order
unfoldable pub each : (ℕ → ℕ → Option Place → Entered) → Option Place → List ℕ → ℕ → Entered
each enter place [] total = Ok ([], total)
each enter place (file ∷ files) total = and_then (enter file total place) (each enter place files)

-- the result of an Include: the depth is checked before the name
unfoldable pub included : Way → Place → Target → ℕ → Entered
included way place Nothing total = Ok ([], total)
included None place target total = Err (IncludeDepth, Some place)
included (Some enter) place Absent total = Err (NoFile, Some place)
included (Some enter) place (Entering files) total = each enter (Some place) files total

-- a file's tokens, each Include replaced
unfoldable pub walked : List File → Way → ℕ → List Seen → ℕ → Entered
walked files way file [] total = Ok ([], total)
walked files way file (token ∷ tokens) total =
    elim token.kind [
      | Include if_exists ↦ and_then (included way (record { file = file; at = token.start }) (target files token.text if_exists) total) (walked files way file tokens)
      | _ ↦ and_then (Ok (record { file = file; token = token } ∷ [], total)) (walked files way file tokens)
    ]

-- A file is entered: its bytes are counted, a zero byte is looked for, it is cut, and then its Includes are entered in order.
unfoldable pub entered : List File → Way → ℕ → ℕ → Option Place → Entered
entered files way file total place =
    let bytes = bytes_at files file in
    if not (nat_le (total + length bytes) most_bytes) then Err (TextTooBig, place) else
    if has_byte 0 bytes then Err (ZeroByte, Some (record { file = file; at = prefix_len (λ b. not (b == 0)) bytes })) else
    elim (cut 0 0 false bytes) [
      | Err fault ↦ Err (refusal_of fault.0, Some (record { file = file; at = fault.1 }))
      | Ok tokens ↦ walked files way file tokens (total + length bytes)
    ]

-- a file that is entered where includes may be nested so many levels deeper
unfoldable pub within : List File → ℕ → ℕ → ℕ → Option Place → Entered
within files zero file total place = entered files None file total place
within files (suc depth) file total place = entered files (Some (within files depth)) file total place

-- the tokens alone
abbrev pub tokens_of : Entered → Result (List Placed) Fault
tokens_of (Ok all) = Ok all.0
tokens_of (Err fault) = Err fault

-- the tokens of a command's own file, whose name is looked up as it is written
unfoldable pub spliced : List File → List ℕ → Result (List Placed) Fault
spliced files name = elim (file_at files name) [ None ↦ Err (NoFile, None) | Some file ↦ tokens_of (within files deepest file 0 None) ]
