-- Choices of values of which as much is held as is kept.
use Rattle.std.proofs.Common.{◌≡◌, ℕ, List, [], ◌∷◌, map, refl, sym, ap, ◌∙◌}
use Rattle.aa_text_expansion.specs.Choices.{choices, choices_within}
use Rattle.aa_text_expansion.specs.Expanding.{AreCutOff}
use Rattle.aa_text_expansion.specs.Joining.{cut_off, joined}
use Rattle.aa_text_expansion.specs.Names.{EachName, EachNameWithin}
use Rattle.aa_text_expansion.specs.Parts.{Part, Byte, Name, Unclosed, parts}
use Rattle.aa_text_expansion.proofs.JoiningLemmas.{cut_off-append, cut_off-end-one, cut_off-front, cut_off-same}

-- what holds of all names holds of those among parts
pub each-all : (IsSuch : List ℕ → Type 0) → ((name : List ℕ) → IsSuch name) → (ps : List Part) → EachName IsSuch ps
each-all IsSuch all [] = tt
each-all IsSuch all (Byte b ∷ ps) = each-all IsSuch all ps
each-all IsSuch all (Name name ∷ ps) = (all name, each-all IsSuch all ps)
each-all IsSuch all (Unclosed ∷ ps) = tt

module _ (holds values : List ℕ → List (List ℕ)) where
  -- of parts
  pub parts-cut : (ps : List Part) → EachName (AreCutOff holds values) ps → cut_off (choices holds ps) ≡ cut_off (choices values ps)
  parts-cut [] each = refl
  parts-cut (Byte b ∷ ps) each =
      sym (cut_off-end-one (b ∷ []) (choices holds ps)) ∙ ap (λ all. cut_off (map (λ rest. b ∷ rest) all)) (parts-cut ps each) ∙ cut_off-end-one (b ∷ []) (choices values ps)
  parts-cut (Unclosed ∷ ps) each = refl
  parts-cut (Name name ∷ ps) each =
      sym (cut_off-front (holds name) (choices holds ps)) ∙ ap (λ all. cut_off (joined all (choices holds ps))) each.0
      ∙ cut_off-front (values name) (choices holds ps) ∙ cut_off-same (values name) _ _ (parts-cut ps each.1)

  -- of words
  pub words-cut : (words : List (List ℕ)) → EachNameWithin (AreCutOff holds values) words → cut_off (choices_within holds words) ≡ cut_off (choices_within values words)
  words-cut [] each = refl
  words-cut (word ∷ words) each =
      cut_off-append (choices holds (parts word)) (choices_within holds words)
      ∙ rw (parts-cut (parts word) each.0, words-cut words each.1) (sym (cut_off-append (choices values (parts word)) (choices_within values words)))
