-- The exchange of parts, one behind the other, in the place where they stand.
use Rattle.std.proofs.Common.{◌≡◌, ℕ, ◌+◌, ◌<◌, ◌≤◌, true, List, [], ◌∷◌, ◌++◌, length, take, drop, reverse, slice_index_or, slice_set, Option, refl, sym, ap, subst, ◌∙◌, append-nil, append_assoc, arith}
use Rattle.std.proofs.lemmas.Grind.{reverse_onto}
use Rattle.std.proofs.lemmas.List.Elements.{All-head, All-nil, All-push, All-set, All-tail}
use Rattle.std.proofs.lemmas.List.{drop_all, drop_more, drop-set-lt, take_all, take_more_set}
use Rattle.std.proofs.lemmas.Bool.{and_parts}
use Rattle.std.specs.List.{All, list_all}
use Rattle.aa_decide_ready.specs.Entries.{Loaded}
use Rattle.aa_set_parts.specs.Parts.{after, back, exchanged, is_state, left}
use Rattle.aa_set_parts.specs.PartLaws.{after-trimmed, exchanged-trimmed, left-trimmed}
use Rattle.aa_set_parts.specs.SlotLaws.{trimmed-again}
use Rattle.aa_set_parts.specs.Slots.{trimmed}
use Rattle.aa_set_parts.specs.declared.parts.Part.{Part}

-- the parts after their exchange, in the order in which they were
abbrev pub lefts : List (Option Loaded) → List Part → List Part
lefts slots [] = []
lefts slots (part ∷ parts) = left part slots ∷ lefts (exchanged part slots) parts

reverse-onto : (part : Part) (parts : List Part) → reverse (part ∷ parts) ≡ reverse parts ++ part ∷ []
reverse-onto part parts = reverse_onto parts part []

-- turned in their order they lead back
pub reverse-lefts : (slots : List (Option Loaded)) (parts : List Part) → reverse (lefts slots parts) ≡ back slots parts
reverse-lefts slots [] = refl
reverse-lefts slots (part ∷ parts) =
    reverse-onto (left part slots) (lefts (exchanged part slots) parts) ∙ ap (λ rest. rest ++ left part slots ∷ []) (reverse-lefts (exchanged part slots) parts)

-- empty slots at the end play no part
lefts-trimmed : (slots : List (Option Loaded)) (parts : List Part) → lefts (trimmed slots) parts ≡ lefts slots parts
lefts-trimmed slots [] = refl
lefts-trimmed slots (part ∷ parts) = (λ i. left-trimmed part slots i ∷ lefts (exchanged-trimmed part slots i) parts)

-- the slots after the rest of the parts, when one more was exchanged
pub after-more : (slots there : List (Option Loaded)) (parts : List Part) (at : ℕ) (given turned : Part) → at < length parts
    → trimmed there ≡ exchanged (slice_index_or parts at given) slots
    → after (trimmed there) (drop (at + 1) (slice_set parts at turned)) ≡ after (trimmed slots) (drop at parts)
after-more slots there parts at given turned h p =
    ap (after (trimmed there)) (drop-set-lt (at + 1) parts at turned (omega arith))
    ∙ ap (λ slots. after slots (drop (at + 1) parts)) p
    ∙ sym (ap (after (trimmed slots)) (drop_more parts at given h) ∙ after-trimmed slots (slice_index_or parts at given ∷ drop (at + 1) parts))

-- and the parts
pub lefts-more : (slots there : List (Option Loaded)) (parts : List Part) (at : ℕ) (given turned : Part) → at < length parts
    → trimmed there ≡ exchanged (slice_index_or parts at given) slots → turned ≡ left (slice_index_or parts at given) slots
    → take (at + 1) (slice_set parts at turned) ++ lefts (trimmed there) (drop (at + 1) (slice_set parts at turned)) ≡ take at parts ++ lefts (trimmed slots) (drop at parts)
lefts-more slots there parts at given turned h p q =
    (λ i. take_more_set parts at turned h i ++ lefts (trimmed there) (drop-set-lt (at + 1) parts at turned (omega arith) i))
    ∙ append_assoc (take at parts) (turned ∷ []) (lefts (trimmed there) (drop (at + 1) parts))
    ∙ (λ i. take at parts ++ q i ∷ lefts (p i) (drop (at + 1) parts))
    ∙ ap (λ rest. take at parts ++ rest) (sym (ap (lefts (trimmed slots)) (drop_more parts at given h) ∙ lefts-trimmed slots (slice_index_or parts at given ∷ drop (at + 1) parts)))

-- what is left are states alone, where it was before one more was exchanged
pub states-more : (parts : List Part) (at : ℕ) (given turned : Part) → at < length parts → list_all is_state (drop at parts) ≡ true
    → (is_state (slice_index_or parts at given) ≡ true) × (list_all is_state (drop (at + 1) (slice_set parts at turned)) ≡ true)
states-more parts at given turned h states =
    let parts_of = and_parts (is_state (slice_index_or parts at given)) (list_all is_state (drop (at + 1) parts)) (ap (list_all is_state) (sym (drop_more parts at given h)) ∙ states) in
    (parts_of.0, ap (list_all is_state) (drop-set-lt (at + 1) parts at turned (omega arith)) ∙ parts_of.1)

-- the slots of the parts stay
pub All-more : (slots there : List (Option Loaded)) (parts : List Part) (at : ℕ) (given turned : Part) → at < length parts → length there ≡ length slots
    → turned ≡ left (slice_index_or parts at given) slots → All (λ part. part.slot < length slots) parts → All (λ part. part.slot < length there) (slice_set parts at turned)
All-more slots there parts at given turned h same q within =
    subst (λ n. All (λ (part : Part). part.slot < n) (slice_set parts at turned)) (sym same)
    (All-set (λ (part : Part). part.slot < length slots) parts at turned (subst (λ (part : Part). part.slot < length slots) (sym q) (within at given h)) within)

-- the slots when all parts were exchanged
pub after-all : (slots : List (Option Loaded)) (parts : List Part) (at : ℕ) → length parts ≤ at → after (trimmed slots) (drop at parts) ≡ trimmed slots
after-all slots parts at h = ap (after (trimmed slots)) (drop_all at parts h) ∙ trimmed-again slots

-- and the parts
pub lefts-all : (slots : List (Option Loaded)) (parts : List Part) (at : ℕ) → length parts ≤ at → take at parts ++ lefts (trimmed slots) (drop at parts) ≡ parts
lefts-all slots parts at h = (λ i. take_all at parts h i ++ lefts (trimmed slots) (drop_all at parts h i)) ∙ append-nil parts

-- the parts that lead back have the same slots, turned in their order
pub All-back : (reach : ℕ) (slots : List (Option Loaded)) (parts : List Part) → All (λ part. part.slot < reach) parts → All (λ part. part.slot < reach) (back slots parts)
All-back reach slots [] h = All-nil (λ (part : Part). part.slot < reach)
All-back reach slots (part ∷ parts) h =
    All-push (λ (part : Part). part.slot < reach) (back (exchanged part slots) parts) (left part slots)
    (All-back reach (exchanged part slots) parts (All-tail (λ (part : Part). part.slot < reach) part parts h))
    (All-head (λ (part : Part). part.slot < reach) part parts h)
