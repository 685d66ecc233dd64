-- Parts of one kind, one after the other.
use Rattle.std.specs.Prelude.{ℕ, zero, suc, List, [], ◌∷◌, ◌++◌, length, Result, Ok, Err}
use Rattle.aa_text_tokens.specs.Splicing.{Placed}
use Rattle.aa_profile_parsing.specs.Parts.{Part}
use Rattle.aa_profile_parsing.specs.declared.fault.Fault.{Fault}
use Rattle.aa_profile_parsing.specs.declared.fault.Fault.TheVariants.{RanOut}
use Rattle.aa_profile_grammar.specs.declared.sequence.Next.{Next}
use Rattle.aa_profile_grammar.specs.declared.sequence.Next.TheVariants.{Item, Nothing, End}

-- what comes next where something comes that isn't kept, from what follows it
abbrev pub skipped : {A : Type 0} → Result (List Placed) Fault → Part (Next A)
skipped (Err fault) = Err fault
skipped (Ok behind) = Ok (Nothing, behind)

-- At most so many parts, after those that were read before, up to the one that ends the list. What comes next may depend on what was read.
abbrev pub row : {A : Type 0} → (List A → List Placed → Part (Next A)) → ℕ → List A → List Placed → Part (List A)
row next zero read tokens = Err RanOut
row next (suc most) read tokens = elim (next read tokens) [
  | Err fault ↦ Err fault
  | Ok found ↦ elim found.0 [
    | Item item ↦ row next most (read ++ item ∷ []) found.1
    | Nothing ↦ row next most read found.1
    | End ↦ Ok (read, found.1)
  ]
]

-- A list of parts. Each of them but the end takes a token, so no list has more parts than there are tokens, and the end.
abbrev pub rows : {A : Type 0} → (List A → List Placed → Part (Next A)) → List Placed → Part (List A)
rows next tokens = row next (suc (length tokens)) [] tokens
