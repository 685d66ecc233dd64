-- Words that ask a question mean it.
use Rattle.std.proofs.Common.{◌≡◌, ℕ, Bool, true, false, List, [], ◌∷◌, Option, None, Some, refl, ap, ◌∙◌}
use Rattle.std.specs.Prelude.{Err, IsSome, Ok, codes, if◌then◌else◌, is_some}
use Rattle.std.specs.Str.{bytes_eq}
use Rattle.aa_profile_data.specs.Access.{needs_of}
use Rattle.aa_profile_data.specs.Capabilities.{capability_number}
use Rattle.aa_set_commands.specs.Question.{Question, capability_question, file_question, owned_of, question_of}
use Rattle.aa_set_commands.specs.Refusal.{plain}
use Rattle.aa_set_commands.specs.declared.refusal.RefusalKind.TheVariants.{BadCommand}
use Rattle.aatry_words.specs.Capabilities.{capability_meant}
use Rattle.aatry_words.specs.Laws.{IsMeant}
use Rattle.aatry_words.specs.Masks.{needs_meant}
use Rattle.aatry_questions.specs.Meant.{question_meant}

abbrev NamesMean : Type 0
NamesMean = (name : List ℕ) → IsSome (capability_number name) → IsMeant name

abbrev LettersMean : Type 0
LettersMean = (access : List ℕ) (needs : ℕ) → needs_of access ≡ Some needs → needs_meant access ≡ Some needs

capability-means : NamesMean → (who name : List ℕ) (question : Question) → capability_question who (capability_number name) ≡ Ok question
    → capability_question who (capability_number (capability_meant name)) ≡ Ok question
capability-means names who name question = by (capability_number name) refl
  where
    by : (number : Option ℕ) → capability_number name ≡ number → capability_question who number ≡ Ok question
        → capability_question who (capability_number (capability_meant name)) ≡ Ok question
    by None is asks = absurd (cc)
    by (Some number) is asks =
        let some : is_some (capability_number name) ≡ true = ap is_some is in
        ap (λ word. capability_question who (capability_number word)) (names name some).plain ∙ ap (capability_question who) is ∙ asks

file-means : LettersMean → (who access owned path : List ℕ) (question : Question) → file_question who (needs_of access) (owned_of owned) path ≡ Ok question
    → file_question who (needs_meant access) (owned_of owned) path ≡ Ok question
file-means letters who access owned path question = by (needs_of access) refl
  where
    by : (needs : Option ℕ) → needs_of access ≡ needs → file_question who needs (owned_of owned) path ≡ Ok question
        → file_question who (needs_meant access) (owned_of owned) path ≡ Ok question
    by None is asks = absurd (cc)
    by (Some needs) is asks = ap (λ known. file_question who known (owned_of owned) path) (letters access needs is) ∙ asks

three-mean : NamesMean → (who name : List ℕ) (question : Question) (is_cap : Bool)
    → (if is_cap then capability_question who (capability_number name) else Err (plain BadCommand)) ≡ Ok question
    → (if is_cap then capability_question who (capability_number (capability_meant name)) else Err (plain BadCommand)) ≡ Ok question
three-mean names who name question true asks = capability-means names who name question asks
three-mean names who name question false asks = asks

five-mean : LettersMean → (who access owned path : List ℕ) (question : Question) (is_file : Bool)
    → (if is_file then file_question who (needs_of access) (owned_of owned) path else Err (plain BadCommand)) ≡ Ok question
    → (if is_file then file_question who (needs_meant access) (owned_of owned) path else Err (plain BadCommand)) ≡ Ok question
five-mean letters who access owned path question true asks = file-means letters who access owned path question asks
five-mean letters who access owned path question false asks = asks

pub words-mean : NamesMean → LettersMean → (words : List (List ℕ)) (question : Question) → question_of words ≡ Ok question → question_meant words ≡ Ok question
words-mean names letters [] question asks = asks
words-mean names letters (kind ∷ []) question asks = asks
words-mean names letters (kind ∷ who ∷ []) question asks = asks
words-mean names letters (kind ∷ who ∷ name ∷ []) question asks = three-mean names who name question (bytes_eq kind (codes "cap")) asks
words-mean names letters (kind ∷ who ∷ third ∷ fourth ∷ []) question asks = asks
words-mean names letters (kind ∷ who ∷ access ∷ owned ∷ path ∷ []) question asks = five-mean letters who access owned path question (bytes_eq kind (codes "file")) asks
words-mean names letters (kind ∷ who ∷ access ∷ owned ∷ path ∷ more ∷ words) question asks = asks
