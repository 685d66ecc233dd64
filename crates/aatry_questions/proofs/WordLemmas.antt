-- Words by their number.
use Rattle.std.proofs.Common.{◌≡◌, ◌≢◌, ℕ, ◌<◌, ◌≤◌, List, [], ◌∷◌, Some, arith, length, map, refl, slice_index_or}
use Rattle.aa_set_commands.specs.Question.{question_of}
use Rattle.aatry_words.specs.Capabilities.{capability_meant}
use Rattle.aatry_questions.specs.Faults.{kind_fault, question_fault}
use Rattle.aatry_questions.specs.Meant.{meant_fault, question_meant}

-- two words, and more than five, are as many as no question has
pub two-fault : {A : Type 0} (f : A → List ℕ) (words : List A) (none : A) → 2 ≤ length words → length words < 3
    → question_fault (map f words) ≡ Some (kind_fault (f (slice_index_or words 0 none)))
two-fault f [] none least below = absurd (omega (arith, least))
two-fault f (a ∷ []) none least below = absurd (omega (arith, least))
two-fault f (a ∷ b ∷ []) none least below = refl
two-fault f (a ∷ b ∷ c ∷ more) none least below = absurd (omega (arith, below))

pub six-fault : {A : Type 0} (f : A → List ℕ) (words : List A) (none : A) → 6 ≤ length words
    → question_fault (map f words) ≡ Some (kind_fault (f (slice_index_or words 0 none)))
six-fault f [] none least = absurd (omega (arith, least))
six-fault f (a ∷ []) none least = absurd (omega (arith, least))
six-fault f (a ∷ b ∷ []) none least = absurd (omega (arith, least))
six-fault f (a ∷ b ∷ c ∷ []) none least = absurd (omega (arith, least))
six-fault f (a ∷ b ∷ c ∷ d ∷ []) none least = absurd (omega (arith, least))
six-fault f (a ∷ b ∷ c ∷ d ∷ e ∷ []) none least = absurd (omega (arith, least))
six-fault f (a ∷ b ∷ c ∷ d ∷ e ∷ g ∷ more) none least = refl

-- three words mean what they ask with the name that is meant
pub three-question : {A : Type 0} (f : A → List ℕ) (words : List A) (none : A) → 3 ≤ length words → length words < 4
    → question_meant (map f words)
    ≡ question_of (f (slice_index_or words 0 none) ∷ f (slice_index_or words 1 none) ∷ capability_meant (f (slice_index_or words 2 none)) ∷ [])
three-question f [] none least below = absurd (omega (arith, least))
three-question f (a ∷ []) none least below = absurd (omega (arith, least))
three-question f (a ∷ b ∷ []) none least below = absurd (omega (arith, least))
three-question f (a ∷ b ∷ c ∷ []) none least below = refl
three-question f (a ∷ b ∷ c ∷ d ∷ more) none least below = absurd (omega (arith, below))

-- four words mean what they ask
pub four-question : {A : Type 0} (f : A → List ℕ) (words : List A) → 4 ≤ length words → length words < 5
    → question_meant (map f words) ≡ question_of (map f words)
four-question f [] least below = absurd (omega (arith, least))
four-question f (a ∷ []) least below = absurd (omega (arith, least))
four-question f (a ∷ b ∷ []) least below = absurd (omega (arith, least))
four-question f (a ∷ b ∷ c ∷ []) least below = absurd (omega (arith, least))
four-question f (a ∷ b ∷ c ∷ d ∷ []) least below = refl
four-question f (a ∷ b ∷ c ∷ d ∷ e ∷ more) least below = absurd (omega (arith, below))

-- with words of which there are other than three, and than five, the same is wrong as behind `ask`
pub other-fault : {A : Type 0} (f : A → List ℕ) (words : List A) → length words ≢ 3 → length words ≢ 5
    → meant_fault (map f words) ≡ question_fault (map f words)
other-fault f [] three five = refl
other-fault f (a ∷ []) three five = refl
other-fault f (a ∷ b ∷ []) three five = refl
other-fault f (a ∷ b ∷ c ∷ []) three five = absurd (three refl)
other-fault f (a ∷ b ∷ c ∷ d ∷ []) three five = refl
other-fault f (a ∷ b ∷ c ∷ d ∷ e ∷ []) three five = absurd (five refl)
other-fault f (a ∷ b ∷ c ∷ d ∷ e ∷ g ∷ more) three five = refl
