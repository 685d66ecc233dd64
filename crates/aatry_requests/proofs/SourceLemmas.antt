-- Lines of a file of questions that have no words that could be cut.
use Rattle.std.proofs.Common.{◌≡◌, ℕ, ◌<◌, List, [], ◌∷◌, length, map, refl, sym, arith, Option, None, Some}
use Rattle.std.specs.Prelude.{IfSome}
use Rattle.aa_set_commands.specs.Limits.{most_words}
use Rattle.aatry_log_lines.specs.Lines.{Unreadable}
use Rattle.aatry_questions.specs.Names.{unescaped}
use Rattle.aatry_requests.specs.Sources.{told_by_words, told_meant}

-- no question has so many words
too-many : (words : List (List ℕ)) → most_words < length words → told_meant (map unescaped words) ≡ Unreadable
too-many [] many = absurd (omega (arith, many))
too-many (a ∷ []) many = absurd (omega (arith, many))
too-many (a ∷ b ∷ []) many = absurd (omega (arith, many))
too-many (a ∷ b ∷ c ∷ []) many = absurd (omega (arith, many))
too-many (a ∷ b ∷ c ∷ d ∷ []) many = absurd (omega (arith, many))
too-many (a ∷ b ∷ c ∷ d ∷ e ∷ []) many = absurd (omega (arith, many))
too-many (a ∷ b ∷ c ∷ d ∷ e ∷ f ∷ rest) many = refl

pub uncut : (found : Option (List (List ℕ))) → IfSome found (λ words. most_words < length words) → Unreadable ≡ told_by_words found
uncut None many = refl
uncut (Some words) many = sym (too-many words many)
