-- Patterns, part by part.
use Rattle.std.proofs.Common.{◌≡◌, ℕ, ◌<◌, ◌==◌, ◌&&◌, Bool, true, false, cond, if◌then◌else◌, List, [], ◌∷◌, length, map, take, Option, None, Some, refl, sym, ap, ◌∙◌, arith, inl, inr}
use Rattle.std.specs.Prelude.{nat_le, Result, Ok, Err, IfOk}
use Rattle.std.specs.List.{dedup, dedup_from}
use Rattle.std.proofs.lemmas.Bool.{cases_lt, eqb-true}
use Rattle.std.proofs.lemmas.Bool.Decides.{nat_tests}
use Rattle.std.proofs.lemmas.List.{length-take-le, take_all}
use Rattle.aa_bytes.specs.Bytes.{slash}
use Rattle.aa_glob_syntax.specs.Reading.{longest}
use Rattle.aa_text_expansion.specs.Joining.{most_kept}
use Rattle.aa_glob_syntax.specs.Slashes.{collapsed}
use Rattle.aa_profile_grammar.specs.Patterns.{refusal_of_expansion, refusal_of_expansions}
use Rattle.aa_profile_parsing.specs.declared.profile_error.ProfileRefusal.{ProfileRefusal}
use Rattle.aa_glob_syntax.specs.declared.pattern_error.PatternError.TheVariants.{TooLong}
use Rattle.aa_profile_parsing.specs.declared.profile_error.ProfileRefusal.TheVariants.{Pattern}

-- a text that is too long makes no pattern
refusal-long : (text : List ℕ) → longest < length text → refusal_of_expansion text ≡ Some (Pattern TooLong)
refusal-long text h = let over : nat_le (length text) longest ≡ false = grind (arith, nat_tests) in rw over refl

-- the front of an expansion that is told decides its refusal
refusal-told : (text : List ℕ) → refusal_of_expansion (take most_kept text) ≡ refusal_of_expansion text
refusal-told text = elim (cases_lt (length text) most_kept) [
  | inl short ↦ ap refusal_of_expansion (take_all most_kept text (omega arith))
  | inr long ↦ let size = length-take-le most_kept text long in refusal-long (take most_kept text) (omega arith) ∙ sym (refusal-long text (omega arith))
]

-- an expansion that makes a pattern is told whole
whole : (text : List ℕ) → refusal_of_expansion text ≡ None → take most_kept text ≡ text
whole text fine = elim (cases_lt (length text) most_kept) [
  | inl short ↦ take_all most_kept text (omega arith)
  | inr long ↦ let wrong : Some (Pattern TooLong) ≡ None = sym (refusal-long text (omega arith)) ∙ fine in absurd (cc)
]

-- a first refusal, before that of others
abbrev before : Option ProfileRefusal → Option ProfileRefusal → Option ProfileRefusal
before first rest = elim first [ Some refusal ↦ Some refusal | None ↦ rest ]

pub refusals_told : (texts : List (List ℕ)) → refusal_of_expansions (map (take most_kept) texts) ≡ refusal_of_expansions texts
refusals_told [] = refl
refusals_told (text ∷ texts) = ap (λ first. before first (refusal_of_expansions (map (take most_kept) texts))) (refusal-told text) ∙ ap (before (refusal_of_expansion text)) (refusals_told texts)

-- where all expansions make patterns, these are those of the fronts that are told
pub patterns_told : (texts : List (List ℕ)) → refusal_of_expansions texts ≡ None → map collapsed (map (take most_kept) texts) ≡ map collapsed texts
patterns_told [] fine = refl
patterns_told (text ∷ texts) fine = by (refusal_of_expansion text) refl (patterns_told texts)
  where
    by : (first : Option ProfileRefusal) → refusal_of_expansion text ≡ first → (refusal_of_expansions texts ≡ None → map collapsed (map (take most_kept) texts) ≡ map collapsed texts)
        → map collapsed (map (take most_kept) (text ∷ texts)) ≡ map collapsed (text ∷ texts)
    by (Some refusal) e rest = let wrong : Some refusal ≡ None = rw (refusal_of_expansions, e) at fine in absurd (cc)
    by None e rest =
        let others : refusal_of_expansions texts ≡ None = rw (refusal_of_expansions, e) at fine in
        ap (λ front. collapsed front ∷ map collapsed (map (take most_kept) texts)) (whole text e) ∙ ap (λ patterns. collapsed text ∷ patterns) (rest others)

-- two facts of a value that is there give a third
pub both : {X E : Type 0} (r : Result X E) (P Q R : X → Type 0) → ((x : X) → P x → Q x → R x) → IfOk r P → IfOk r Q → IfOk r R
both (Ok x) P Q R third p q = third x p q
both (Err error) P Q R third p q = tt
