-- Laws on slots of which one is filled or emptied.
use Rattle.std.proofs.Common.{◌≡◌, ℕ, zero, suc, List, [], ◌∷◌, Option, None, Some, refl, ap, ◌∙◌}
use Rattle.aa_decide_ready.specs.Entries.{Loaded}
use Rattle.aa_decide_ready.specs.Slots.{filled}
use Rattle.aa_set_parts.specs.Slots.{content_at, onto, trimmed, with_content}

trimmed-onto : (slot : Option Loaded) (slots : List (Option Loaded)) → trimmed (onto slot slots) ≡ onto slot (trimmed slots)
trimmed-onto (Some entry) slots = refl
trimmed-onto None [] = refl
trimmed-onto None (slot ∷ slots) = refl

-- what slots represent represents itself
pub trimmed-again : (slots : List (Option Loaded)) → trimmed (trimmed slots) ≡ trimmed slots
trimmed-again [] = refl
trimmed-again (slot ∷ slots) = trimmed-onto slot (trimmed slots) ∙ ap (onto slot) (trimmed-again slots)

content-onto : (k : ℕ) (slot : Option Loaded) (slots : List (Option Loaded)) → content_at (suc k) (onto slot slots) ≡ content_at k slots
content-onto k (Some entry) slots = refl
content-onto k None [] = refl
content-onto k None (slot ∷ slots) = refl

first-onto : (slot : Option Loaded) (slots : List (Option Loaded)) → content_at 0 (onto slot slots) ≡ slot
first-onto (Some entry) slots = refl
first-onto None [] = refl
first-onto None (slot ∷ slots) = refl

-- a slot holds what was put there
pub content-with : (k : ℕ) (content : Option Loaded) (slots : List (Option Loaded)) → content_at k (with_content k content slots) ≡ content
content-with zero content [] = first-onto content []
content-with zero content (old ∷ slots) = first-onto content (trimmed slots)
content-with (suc k) content [] = content-onto k None (with_content k content []) ∙ content-with k content []
content-with (suc k) content (old ∷ slots) = content-onto k old (with_content k content slots) ∙ content-with k content slots

with-onto : (k : ℕ) (content slot : Option Loaded) (slots : List (Option Loaded))
    → with_content (suc k) content (onto slot slots) ≡ onto slot (with_content k content slots)
with-onto k content (Some entry) slots = refl
with-onto k content None [] = refl
with-onto k content None (slot ∷ slots) = refl

first-with-onto : (content slot : Option Loaded) (slots : List (Option Loaded))
    → with_content 0 content (onto slot slots) ≡ onto content (trimmed slots)
first-with-onto content (Some entry) slots = refl
first-with-onto content None [] = refl
first-with-onto content None (slot ∷ slots) = refl

-- filling a slot with what it held gives back the slots, whatever it held in between
pub with-again : (k : ℕ) (content : Option Loaded) (slots : List (Option Loaded))
    → with_content k (content_at k slots) (with_content k content slots) ≡ trimmed slots
with-again zero content [] = first-with-onto None content []
with-again zero content (old ∷ slots) = first-with-onto old content (trimmed slots) ∙ ap (onto old) (trimmed-again slots)
with-again (suc k) content [] = with-onto k None None (with_content k content []) ∙ ap (onto None) (with-again k content [])
with-again (suc k) content (old ∷ slots) =
    with-onto k (content_at k slots) old (with_content k content slots) ∙ ap (onto old) (with-again k content slots)

-- slots of which one holds something else represent themselves
pub with-settled : (k : ℕ) (content : Option Loaded) (slots : List (Option Loaded))
    → trimmed (with_content k content slots) ≡ with_content k content slots
with-settled zero content [] = trimmed-onto content []
with-settled zero content (old ∷ slots) = trimmed-onto content (trimmed slots) ∙ ap (onto content) (trimmed-again slots)
with-settled (suc k) content [] = trimmed-onto None (with_content k content []) ∙ ap (onto None) (with-settled k content [])
with-settled (suc k) content (old ∷ slots) = trimmed-onto old (with_content k content slots) ∙ ap (onto old) (with-settled k content slots)

-- empty slots at the end play no part in what is put into one
pub with-trimmed : (k : ℕ) (content : Option Loaded) (slots : List (Option Loaded))
    → with_content k content (trimmed slots) ≡ with_content k content slots
with-trimmed k content [] = refl
with-trimmed zero content (old ∷ slots) = first-with-onto content old (trimmed slots) ∙ ap (onto content) (trimmed-again slots)
with-trimmed (suc k) content (old ∷ slots) = with-onto k content old (trimmed slots) ∙ ap (onto old) (with-trimmed k content slots)

-- empty slots at the end play no part in what a slot holds
pub content-trimmed : (k : ℕ) (slots : List (Option Loaded)) → content_at k (trimmed slots) ≡ content_at k slots
content-trimmed k [] = refl
content-trimmed zero (old ∷ slots) = first-onto old (trimmed slots)
content-trimmed (suc k) (old ∷ slots) = content-onto k old (trimmed slots) ∙ content-trimmed k slots

-- an empty slot plays no part in the entries
pub filled-onto : (slot : Option Loaded) (slots : List (Option Loaded)) → filled (onto slot slots) ≡ filled (slot ∷ slots)
filled-onto (Some entry) slots = refl
filled-onto None [] = refl
filled-onto None (slot ∷ slots) = refl

-- the entries of slots are those of what they represent
pub filled-trimmed : (slots : List (Option Loaded)) → filled (trimmed slots) ≡ filled slots
filled-trimmed [] = refl
filled-trimmed (Some entry ∷ slots) = ap (λ entries. entry ∷ entries) (filled-trimmed slots)
filled-trimmed (None ∷ slots) = filled-onto None (trimmed slots) ∙ filled-trimmed slots
