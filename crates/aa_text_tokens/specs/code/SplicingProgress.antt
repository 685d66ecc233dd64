-- How far the splicing of files has come, by the tokens that are there.
use Rattle.std.specs.Prelude.{ℕ, zero, suc, ◌≡◌, ◌≢◌, ◌-◌, Bool, if◌then◌else◌, List, [], ◌∷◌, ◌++◌, Vec, Option, None, Some, Result, Ok, Err}
use Rattle.aa_bytes.specs.Bytes.{slash}
use Rattle.aa_text_files.specs.Files.{File, has_file}
use Rattle.aa_text_files.specs.Folder.{members}
use Rattle.aa_text_files.specs.declared.text_error.Place.{Place}
use Rattle.aa_text_files.specs.declared.text_error.TextError.{TextError}
use Rattle.aa_text_files.specs.declared.text_error.TextRefusal.TheVariants.{Memory}
use Rattle.aa_text_tokens.specs.Cut.{Seen}
use Rattle.aa_text_tokens.specs.Splicing.{Entered, Fault, Placed, Target, Absent, Way, each, entered, included, of_members, target, walked, within, without}

-- a fault of the code
abbrev pub fault_of : TextError → Fault
fault_of error = (error.refusal, error.place)

-- an error of the code is the fault of what is entered, unless memory ran out
abbrev pub IsFaultOf : {X : Type 0} → TextError → Result X Fault → Type 0
IsFaultOf error given = error.refusal ≢ Memory → given ≡ Err (fault_of error)

-- what an Include names, by its files, if they exist
abbrev pub target_of : {A : Type 0} → Option (Vec ℕ A) → Target
target_of None = Absent
target_of (Some found) = of_members found.items

-- what an Include names where no file has its name
abbrev pub folder_target : List File → List ℕ → Bool → Target
folder_target files name if_exists =
    if has_file files (name ++ slash ∷ []) then of_members (members files (name ++ slash ∷ [])) else without if_exists

-- how files are entered where includes may be nested so many levels deeper
abbrev pub way : List File → ℕ → Way
way files zero = None
way files (suc depth) = Some (within files depth)

-- Entering the files of an Include at a place, each with one less of the depth, has the Include's result.
abbrev pub IsIncluded : List File → ℕ → Place → List ℕ → Bool → List ℕ → Type 0
IsIncluded files depth place name if_exists found =
    (total : ℕ) → included (way files depth) place (target files name if_exists) total ≡ each (within files (depth - 1)) (Some place) found total

-- an Include at a place has the fault that an error of the code is
abbrev pub IsRefused : List File → ℕ → Place → List ℕ → Bool → TextError → Type 0
IsRefused files depth place name if_exists error =
    (total : ℕ) → IsFaultOf error (included (way files depth) place (target files name if_exists) total)

-- A file that is entered with so many bytes before has these tokens, and so many bytes are entered with it.
abbrev pub AreTokensOf : List File → ℕ → ℕ → Option Place → List Seen → ℕ → Type 0
AreTokensOf files file before place tokens total = (way : Way) → entered files way file before place ≡ walked files way file tokens total

-- the state of a splicer: the files, the tokens that were appended, and how many bytes were entered for them
pub record Progress : Type 0 where
  pub files : List File
  pub tokens : List Placed
  pub bytes : ℕ

-- the state with one more token of a file
abbrev pub with_token : Progress → ℕ → Seen → Progress
with_token so_far file token = record { files = so_far.files; tokens = so_far.tokens ++ record { file = file; token = token } ∷ []; bytes = so_far.bytes }

-- the state with the result of entering files
abbrev pub with_entered : Progress → Entered → Result Progress Fault
with_entered so_far (Ok entered) = Ok (record { files = so_far.files; tokens = so_far.tokens ++ entered.0; bytes = entered.1 })
with_entered so_far (Err fault) = Err fault

-- the state with a file that is entered where includes may be nested so many levels deeper
abbrev pub with_file : Progress → ℕ → ℕ → Option Place → Result Progress Fault
with_file so_far depth file place = with_entered so_far (within so_far.files depth file so_far.bytes place)

-- the state with some tokens of such a file, each Include replaced
abbrev pub with_walked : Progress → ℕ → ℕ → List Seen → Result Progress Fault
with_walked so_far depth file tokens = with_entered so_far (walked so_far.files (way so_far.files depth) file tokens so_far.bytes)

-- the state with files that are entered for an Include of such a file
abbrev pub with_each : Progress → ℕ → Place → List ℕ → Result Progress Fault
with_each so_far depth place found = with_entered so_far (each (within so_far.files (depth - 1)) (Some place) found so_far.bytes)

-- A file was read: its tokens now have the result that entering it had before.
abbrev pub IsRead : Progress → Progress → ℕ → Option Place → List Seen → Type 0
IsRead old new file place tokens = (depth : ℕ) → with_walked new depth file tokens ≡ with_file old depth file place

-- A token was appended: what follows it now has the result that both had before.
abbrev pub IsPut : Progress → Progress → ℕ → ℕ → Seen → Type 0
IsPut old new depth file token = (rest : List Seen) → with_walked new depth file rest ≡ with_walked old depth file (token ∷ rest)
