-- Words that ask.
use Rattle.std.proofs.Common.{◌≡◌, ◌≢◌, ℕ, List, [], ◌∷◌, length, map, refl}
use Rattle.std.specs.Result.{result_ok}
use Rattle.aatry_questions.specs.Meant.{question_meant}
use Rattle.aatry_requests.specs.AskedWords.{asked_by}

-- words of which there isn't one alone ask what they mean
pub asked-as_words : {A : Type 0} (text : A → List ℕ) (words : List A) → length words ≢ 1 → asked_by (map text words) ≡ result_ok (question_meant (map text words))
asked-as_words text [] other = refl
asked-as_words text (word ∷ []) other = absurd (other refl)
asked-as_words text (word ∷ next ∷ words) other = refl
