-- The words of a question to `aatry`, which may be written like the kernel, its log and its tools write them (docs/aatry.md, "Why").
use Rattle.std.specs.Prelude.{ℕ, if◌then◌else◌, List, [], ◌∷◌, Option, None, Some, Result, Err, codes}
use Rattle.std.specs.Str.{bytes_eq}
use Rattle.aa_profile_data.specs.Access.{bit_of}
use Rattle.aa_profile_data.specs.Capabilities.{capability_number}
use Rattle.aa_set_commands.specs.Question.{Question, file_question, owned_of, question_of}
use Rattle.aa_set_commands.specs.Refusal.{plain}
use Rattle.aa_set_commands.specs.declared.refusal.Refusal.{Refusal}
use Rattle.aa_set_commands.specs.declared.refusal.RefusalKind.TheVariants.{BadCommand}
use Rattle.aatry_words.specs.Capabilities.{capability_meant}
use Rattle.aatry_words.specs.Masks.{asked_letter, is_mask, needs_meant}
use Rattle.aatry_questions.specs.Faults.{Found, access_fault, found, of_one, of_three, question_fault}
use Rattle.aatry_questions.specs.declared.faults.Wrong.TheVariants.{Letter}

-- the question for a file, of the words after `file` and the asker
abbrev pub file_meant : (kind who access owned path : List ℕ) → Result Question Refusal
file_meant kind who access owned path =
    if bytes_eq kind (codes "file") then file_question who (needs_meant access) (owned_of owned) path else Err (plain BadCommand)

-- The question that words mean: that of the words after `ask`, but the name of a capability may be written like the kernel and its tools write it,
-- and an access as a mask.
abbrev pub question_meant : List (List ℕ) → Result Question Refusal
question_meant (kind ∷ who ∷ name ∷ []) = question_of (kind ∷ who ∷ capability_meant name ∷ [])
question_meant (kind ∷ who ∷ access ∷ owned ∷ path ∷ []) = file_meant kind who access owned path
question_meant words = question_of words

-- the first letter of a mask that is unknown
abbrev pub mask_fault : List ℕ → Option Found
mask_fault [] = None
mask_fault (letter ∷ more) = elim (bit_of (asked_letter letter)) [ None ↦ Some (found Letter (letter ∷ [])) | Some bit ↦ mask_fault more ]

-- what is wrong with an access that a mask may be
abbrev pub needs_fault : List ℕ → Option Found
needs_fault access = if is_mask access then mask_fault access else access_fault access

-- What is wrong with words that mean no question: what is wrong with words after `ask`, but for an access and the name of a capability as they are
-- meant. The fault has the word as it is written.
abbrev pub meant_fault : List (List ℕ) → Option Found
meant_fault (kind ∷ who ∷ name ∷ []) = of_one kind name (capability_number (capability_meant name))
meant_fault (kind ∷ who ∷ access ∷ owned ∷ path ∷ []) = of_three kind (needs_fault access) owned path
meant_fault words = question_fault words
