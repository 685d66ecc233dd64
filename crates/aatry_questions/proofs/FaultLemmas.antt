-- Something is wrong with words exactly where they ask no question.
use Rattle.std.proofs.Common.{◌≡◌, ℕ, Bool, true, false, List, [], ◌∷◌, refl, ap}
use Rattle.std.specs.Prelude.{⊤, Option, None, Some, Ok, Err, codes, if◌then◌else◌, is_some, option_and_then}
use Rattle.std.specs.Str.{bytes_eq}
use Rattle.aa_profile_data.specs.Access.{bit_of, has, letters_onto, needs_of, union}
use Rattle.aa_profile_data.specs.Request.{ForFile}
use Rattle.aa_profile_data.specs.Capabilities.{capability_number}
use Rattle.aa_profile_data.specs.Domains.{domain_number}
use Rattle.aa_set_commands.specs.Question.{OfAccess, OfExec, capability_question, exec_question, file_question, is_path, owned_of, question_of, socket_question, type_number}
use Rattle.aa_set_commands.specs.Refusal.{plain}
use Rattle.aa_set_commands.specs.declared.refusal.RefusalKind.TheVariants.{BadCommand, BadRequest}
use Rattle.aatry_words.specs.Capabilities.{capability_meant}
use Rattle.aatry_words.specs.Masks.{asked_letter, is_mask, needs_meant, needs_of_mask, needs_onto}
use Rattle.aatry_questions.specs.Faults.{Agree, Found, access_fault, exec_fault, first_fault, found, kind_fault, kind_of, letters_fault, question_fault, refusal_of, unless}
use Rattle.aatry_questions.specs.Meant.{mask_fault, meant_fault, needs_fault, question_meant}
use Rattle.aatry_questions.specs.declared.faults.QuestionKind.{QuestionKind}
use Rattle.aatry_questions.specs.declared.faults.Wrong.TheVariants.{Capability, Count, Domain, Kind, Letter, LetterTwice, Owned, Path, SocketType}

-- words of which no question has so many are no command
count_agrees : (kind : List ℕ) → Agree (Some (kind_fault kind)) (Err (plain BadCommand))
count_agrees kind = by (kind_of kind)
  where
    by : (o : Option QuestionKind) → plain BadCommand ≡ plain (refusal_of (elim o as (λ _. Found) [ None ↦ found Kind kind | Some of_kind ↦ found (Count of_kind) [] ]).wrong)
    by None = refl
    by (Some of_kind) = refl

capability_agrees : (who name : List ℕ) (number : Option ℕ) → Agree (unless (is_some number) Capability name) (capability_question who number)
capability_agrees who name None = refl
capability_agrees who name (Some number) = tt

socket_agrees : (who domain sort : List ℕ) (d k : Option ℕ)
    → Agree (first_fault (unless (is_some d) Domain domain) (unless (is_some k) SocketType sort)) (socket_question who d k)
socket_agrees who domain sort None k = refl
socket_agrees who domain sort (Some d) None = refl
socket_agrees who domain sort (Some d) (Some k) = tt

exec_agrees : (who owned path : List ℕ) → Agree (exec_fault owned path) (exec_question who (owned_of owned) path)
exec_agrees who owned path = by (owned_of owned)
  where
    of_path : (v p : Bool) → Agree (unless p Path path) (if p then Ok (OfExec who v path) else Err (plain BadRequest))
    of_path v true = tt
    of_path v false = refl

    by : (o : Option Bool) → Agree (first_fault (unless (is_some o) Owned owned) (unless (is_path path) Path path)) (exec_question who o path)
    by None = refl
    by (Some v) = of_path v (is_path path)

-- what is wrong with an access, and its letters: one of both is there, and it is a bad request
abbrev Goes : Option Found → Option ℕ → Type 0
Goes None (Some needs) = ⊤
Goes None None = ⊥
Goes (Some fault) None = BadRequest ≡ refusal_of fault.wrong
Goes (Some fault) (Some needs) = ⊥

letters_go : (set : ℕ) (letters : List ℕ) → Goes (letters_fault set letters) (letters_onto set letters)
letters_go set [] = tt
letters_go set (letter ∷ more) = by (bit_of letter) (λ bit. letters_go (union set bit) more)
  where
    of_bit : (bit : ℕ) (b : Bool) → Goes (letters_fault (union set bit) more) (letters_onto (union set bit) more)
        → Goes (if b then Some (found LetterTwice (letter ∷ [])) else letters_fault (union set bit) more) (if b then None else letters_onto (union set bit) more)
    of_bit bit true behind = refl
    of_bit bit false behind = behind

    by : (o : Option ℕ) → ((bit : ℕ) → Goes (letters_fault (union set bit) more) (letters_onto (union set bit) more))
        → Goes (elim o as (λ _. Option Found) [ None ↦ Some (found Letter (letter ∷ [])) | Some bit ↦ if has set bit then Some (found LetterTwice (letter ∷ [])) else letters_fault (union set bit) more ])
        (option_and_then (λ bit. if has set bit then None else letters_onto (union set bit) more) o)
    by None behind = refl
    by (Some bit) behind = of_bit bit (has set bit) (behind bit)

access_goes : (access : List ℕ) → Goes (access_fault access) (needs_of access)
access_goes [] = refl
access_goes (letter ∷ more) = letters_go 0 (letter ∷ more)

mask_goes : (set : ℕ) (letters : List ℕ) → Goes (mask_fault letters) (needs_onto set letters)
mask_goes set [] = tt
mask_goes set (letter ∷ more) = by (bit_of (asked_letter letter)) (λ bit. mask_goes (union set bit) more)
  where
    by : (o : Option ℕ) → ((bit : ℕ) → Goes (mask_fault more) (needs_onto (union set bit) more))
        → Goes (elim o as (λ _. Option Found) [ None ↦ Some (found Letter (letter ∷ [])) | Some bit ↦ mask_fault more ])
        (option_and_then (λ bit. needs_onto (union set bit) more) o)
    by None behind = refl
    by (Some bit) behind = behind bit

needs_go : (access : List ℕ) → Goes (needs_fault access) (needs_meant access)
needs_go [] = refl
needs_go (letter ∷ more) = by (is_mask (letter ∷ more))
  where
    by : (mask : Bool) → Goes (if mask then mask_fault (letter ∷ more) else access_fault (letter ∷ more))
        (if mask then needs_of_mask (letter ∷ more) else needs_of (letter ∷ more))
    by true = mask_goes 0 (letter ∷ more)
    by false = letters_go 0 (letter ∷ more)

-- an access with which this is wrong, and that needs this, with the words behind it
file_agrees : (who owned path : List ℕ) (fault : Option Found) (needs : Option ℕ) → Goes fault needs
    → Agree (first_fault fault (exec_fault owned path)) (file_question who needs (owned_of owned) path)
file_agrees who owned path = by
  where
    of_path : (needs : ℕ) (v p : Bool) → Agree (unless p Path path) (if p then Ok (OfAccess who (ForFile needs v path)) else Err (plain BadRequest))
    of_path needs v true = tt
    of_path needs v false = refl

    of_owned : (needs : ℕ) (o : Option Bool) → Agree (first_fault (unless (is_some o) Owned owned) (unless (is_path path) Path path)) (file_question who (Some needs) o path)
    of_owned needs None = refl
    of_owned needs (Some v) = of_path needs v (is_path path)

    by : (f : Option Found) (n : Option ℕ) → Goes f n → Agree (first_fault f (exec_fault owned path)) (file_question who n (owned_of owned) path)
    by None (Some needs) g = of_owned needs (owned_of owned)
    by None None g = absurd g
    by (Some fault) None g = ap plain g
    by (Some fault) (Some needs) g = absurd g

three : (kind who name : List ℕ) (number : Option ℕ) (is_cap : Bool)
    → Agree (if is_cap then unless (is_some number) Capability name else Some (kind_fault kind))
    (if is_cap then capability_question who number else Err (plain BadCommand))
three kind who name number true = capability_agrees who name number
three kind who name number false = count_agrees kind

four : (kind who third fourth : List ℕ) (is_net is_exec : Bool)
    → Agree (if is_net then first_fault (unless (is_some (domain_number third)) Domain third) (unless (is_some (type_number fourth)) SocketType fourth) else
    if is_exec then exec_fault third fourth else Some (kind_fault kind))
    (if is_net then socket_question who (domain_number third) (type_number fourth) else
    if is_exec then exec_question who (owned_of third) fourth else Err (plain BadCommand))
four kind who third fourth true is_exec = socket_agrees who third fourth (domain_number third) (type_number fourth)
four kind who third fourth false true = exec_agrees who third fourth
four kind who third fourth false false = count_agrees kind

five : (kind who owned path : List ℕ) (fault : Option Found) (needs : Option ℕ) (is_file : Bool) → Goes fault needs
    → Agree (if is_file then first_fault fault (exec_fault owned path) else Some (kind_fault kind))
    (if is_file then file_question who needs (owned_of owned) path else Err (plain BadCommand))
five kind who owned path fault needs true goes = file_agrees who owned path fault needs goes
five kind who owned path fault needs false goes = count_agrees kind

-- Something is wrong with words exactly where they ask no question, and they are refused as that says.
pub agree : (words : List (List ℕ)) → Agree (question_fault words) (question_of words)
agree [] = refl
agree (kind ∷ []) = count_agrees kind
agree (kind ∷ who ∷ []) = count_agrees kind
agree (kind ∷ who ∷ name ∷ []) = three kind who name (capability_number name) (bytes_eq kind (codes "cap"))
agree (kind ∷ who ∷ third ∷ fourth ∷ []) = four kind who third fourth (bytes_eq kind (codes "net")) (bytes_eq kind (codes "exec"))
agree (kind ∷ who ∷ access ∷ owned ∷ path ∷ []) =
    five kind who owned path (access_fault access) (needs_of access) (bytes_eq kind (codes "file")) (access_goes access)
agree (kind ∷ who ∷ access ∷ owned ∷ path ∷ more ∷ words) = count_agrees kind

-- The same of words that mean none.
pub meant-agree : (words : List (List ℕ)) → Agree (meant_fault words) (question_meant words)
meant-agree [] = refl
meant-agree (kind ∷ []) = count_agrees kind
meant-agree (kind ∷ who ∷ []) = count_agrees kind
meant-agree (kind ∷ who ∷ name ∷ []) = three kind who name (capability_number (capability_meant name)) (bytes_eq kind (codes "cap"))
meant-agree (kind ∷ who ∷ third ∷ fourth ∷ []) = agree (kind ∷ who ∷ third ∷ fourth ∷ [])
meant-agree (kind ∷ who ∷ access ∷ owned ∷ path ∷ []) =
    five kind who owned path (needs_fault access) (needs_meant access) (bytes_eq kind (codes "file")) (needs_go access)
meant-agree (kind ∷ who ∷ access ∷ owned ∷ path ∷ more ∷ words) = count_agrees kind
