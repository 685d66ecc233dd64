-- What holds of a text that names nothing.
use Rattle.std.proofs.Common.{◌≡◌, ℕ, zero, suc, true, false, not, List, [], ◌∷◌, length, refl, ap}
use Rattle.std.specs.Prelude.{None}
use Rattle.std.specs.List.{list_all, list_any}
use Rattle.std.proofs.lemmas.Bool.{or_from}
use Rattle.aa_text_expansion.specs.Missing.{is_missing}
use Rattle.aa_text_expansion.specs.Parts.{Part, Byte, Name, Unclosed, parts}
use Rattle.aa_text_variables.specs.ExpansionLaws.{is_byte, names_nothing}
use Rattle.aa_text_variables.specs.Expansions.{expansion_refusal, has_chain, leads_to_cycle, leads_to_undefined, leads_to_undefined_within, words_behind, words_behind_parts}
use Rattle.aa_text_variables.specs.Variables.{Variable, is_undefined, names_undefined}

-- where every name is missing, parts without one are bytes alone
pub none-named : (ps : List Part) → not (list_any (is_missing (λ name. true)) ps) ≡ list_all is_byte ps
none-named [] = refl
none-named (Byte b ∷ ps) = none-named ps
none-named (Name name ∷ ps) = refl
none-named (Unclosed ∷ ps) = refl

module _ (variables : List Variable) where
  -- no byte is an undefined name
  bytes-defined : (ps : List Part) → list_all is_byte ps ≡ true → list_any (is_undefined variables) ps ≡ false
  bytes-defined [] h = refl
  bytes-defined (Byte b ∷ ps) h = bytes-defined ps h
  bytes-defined (Name name ∷ ps) h = absurd cc
  bytes-defined (Unclosed ∷ ps) h = absurd cc

  -- no word stands behind bytes
  bytes-no_words : (ps : List Part) → list_all is_byte ps ≡ true → words_behind_parts variables ps ≡ []
  bytes-no_words [] h = refl
  bytes-no_words (Byte b ∷ ps) h = bytes-no_words ps h
  bytes-no_words (Name name ∷ ps) h = absurd cc
  bytes-no_words (Unclosed ∷ ps) h = absurd cc

  -- what names nothing undefined, and has no words behind it, leads to nothing undefined
  leads-nowhere : (depth : ℕ) (text : List ℕ) → names_undefined variables text ≡ false → words_behind variables text ≡ [] → leads_to_undefined_within variables depth text ≡ false
  leads-nowhere zero text h none = h
  leads-nowhere (suc depth) text h none =
      or_from (names_undefined variables text) (list_any (leads_to_undefined_within variables depth) (words_behind variables text)) h (ap (list_any (leads_to_undefined_within variables depth)) none)

  -- a text that names nothing is fine
  pub plain-fine : (text : List ℕ) → names_nothing text ≡ true → expansion_refusal variables text ≡ None
  plain-fine text h =
      let none : words_behind variables text ≡ [] = bytes-no_words (parts text) h in
      let undefined : leads_to_undefined variables text ≡ false = leads-nowhere (length variables) text (bytes-defined (parts text) h) none in
      let cycle : leads_to_cycle variables text ≡ false = ap (list_any (has_chain variables (length variables))) none in
      rw (undefined, cycle) refl
