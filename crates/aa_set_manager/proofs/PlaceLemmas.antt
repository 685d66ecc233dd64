-- Slots by the names in them, and what one more entry in a slot makes of their entries.
use Rattle.std.proofs.Common.{◌≡◌, ℕ, zero, suc, ◌<◌, Bool, true, false, not, cond, List, [], ◌∷◌, ◌++◌, length, Option, None, Some, refl, sym, ap, ◌∙◌, arith}
use Rattle.std.specs.Prelude.{is_none}
use Rattle.std.specs.Option.{is_some, option_map}
use Rattle.std.proofs.lemmas.Slice.Eq.{bytes_eq-Decides}
use Rattle.aa_decide_ready.specs.Named.{entry_named, has_name, is_named}
use Rattle.aa_decide_ready.specs.Entries.{Loaded, is_in_force}
use Rattle.aa_decide_ready.specs.Slots.{entry_at, filled}
use Rattle.aa_set_manager.specs.Changes.{is_disabled, put}
use Rattle.aa_set_manager.specs.code.Places.{is_disabled_at, place_for}
use Rattle.aa_set_manager.proofs.NameLemmas.{has-found}
use Rattle.aa_decide_ready.proofs.FindLemmas.{found, found-is}
use Rattle.aa_decide_ready.specs.SlotNames.{holds, slot_named}
use Rattle.aa_set_parts.specs.Slots.{content_at, onto, trimmed, with_content}
use Rattle.aa_set_parts.specs.SlotLaws.{content-trimmed, filled-onto, filled-trimmed}

found-onto : (name : List ℕ) (slot : Option Loaded) (slots : List (Option Loaded)) → found name (onto slot slots) ≡ found name (slot ∷ slots)
found-onto name (Some entry) slots = refl
found-onto name None [] = refl
found-onto name None (slot ∷ slots) = refl

found-trimmed : (name : List ℕ) (slots : List (Option Loaded)) → found name (trimmed slots) ≡ found name slots
found-trimmed name [] = refl
found-trimmed name (slot ∷ slots) = found-onto name slot (trimmed slots) ∙ ap (λ rest. cond (holds name slot) (Some 0) (option_map (λ k. suc k) rest)) (found-trimmed name slots)

-- a name is found where it was, if the slot that holds something else holds no such name before and after
pub found-kept : (name : List ℕ) (k : ℕ) (content : Option Loaded) (slots : List (Option Loaded)) → holds name content ≡ false → holds name (content_at k slots) ≡ false
    → found name (with_content k content slots) ≡ found name slots
found-kept name zero content [] h o = found-onto name content [] ∙ ap (λ held. cond held (Some 0) None) h
found-kept name zero content (old ∷ slots) h o =
    found-onto name content (trimmed slots)
    ∙ (λ i. cond (h i) (Some 0) (option_map (λ k. suc k) (found-trimmed name slots i)))
    ∙ sym (ap (λ held. cond held (Some 0) (option_map (λ k. suc k) (found name slots))) o)
found-kept name (suc k) content [] h o =
    found-onto name None (with_content k content []) ∙ ap (option_map (λ k. suc k)) (found-kept name k content [] h refl)
found-kept name (suc k) content (old ∷ slots) h o =
    found-onto name old (with_content k content slots)
    ∙ ap (λ rest. cond (holds name old) (Some 0) (option_map (λ k. suc k) rest)) (found-kept name k content slots h o)

-- what stands in a slot where a name was found
pub record Holding (name : List ℕ) (slots : List (Option Loaded)) (k : ℕ) (there : Option Loaded) : Type 0 where
  pub entry : Loaded
  pub at : content_at k slots ≡ Some entry
  pub is : there ≡ Some entry
  pub named : is_named name entry ≡ true
  pub within : k < length (trimmed slots)

-- a name was found in a slot, or nowhere
abbrev pub Finds : List ℕ → List (Option Loaded) → Option ℕ → Option Loaded → Type 0
Finds name slots None there = there ≡ None
Finds name slots (Some k) there = Holding name slots k there

length-onto : (slot : Option Loaded) (slots : List (Option Loaded)) → 0 < length slots → length (onto slot slots) ≡ suc (length slots)
length-onto (Some entry) slots h = refl
length-onto None [] h = absurd (omega arith)
length-onto None (slot ∷ slots) h = refl

later : (name : List ℕ) (slot : Option Loaded) (slots : List (Option Loaded)) (k : Option ℕ) (there : Option Loaded) → Finds name slots k there
    → Finds name (slot ∷ slots) (option_map (λ k. suc k) k) there
later name slot slots None there h = h
later name slot slots (Some k) there h =
    let long = length-onto slot (trimmed slots) (let within = h.within in omega arith) in
    let within = h.within in
    record { entry = h.entry; at = h.at; is = h.is; named = h.named; within = omega arith }

pub finds : (name : List ℕ) (slots : List (Option Loaded)) → Finds name slots (found name slots) (entry_named name (filled slots))
finds name [] = refl
finds name (None ∷ slots) = later name None slots (found name slots) (entry_named name (filled slots)) (finds name slots)
finds name (Some entry ∷ slots) = by (is_named name entry) refl (finds name slots)
  where
    by : (here : Bool) → is_named name entry ≡ here → Finds name slots (found name slots) (entry_named name (filled slots))
        → Finds name (Some entry ∷ slots) (cond here (Some 0) (option_map (λ k. suc k) (found name slots))) (cond here (Some entry) (entry_named name (filled slots)))
    by true is rest = record { entry = entry; at = refl; is = refl; named = is; within = omega arith }
    by false is rest = later name (Some entry) slots (found name slots) (entry_named name (filled slots)) rest

-- whether a name is found, and whether it is there
pub some-found : (name : List ℕ) (slots : List (Option Loaded)) → is_some (found name slots) ≡ has_name name (filled slots)
some-found name slots = by (found name slots) (finds name slots) ∙ sym (has-found name (filled slots))
  where
    by : (k : Option ℕ) → Finds name slots k (entry_named name (filled slots)) → is_some k ≡ not (is_none (entry_named name (filled slots)))
    by None h = sym (ap (λ there. not (is_none there)) h)
    by (Some k) h = sym (ap (λ there. not (is_none there)) h.is)

pub none-found : (name : List ℕ) (slots : List (Option Loaded)) → is_none (found name slots) ≡ not (has_name name (filled slots))
none-found name slots = by (found name slots) (some-found name slots)
  where
    by : (k : Option ℕ) → is_some k ≡ has_name name (filled slots) → is_none k ≡ not (has_name name (filled slots))
    by None h = ap not h
    by (Some k) h = ap not h

entry-content : (slots : List (Option Loaded)) (k : ℕ) → entry_at slots k ≡ content_at k slots
entry-content [] k = refl
entry-content (slot ∷ slots) zero = refl
entry-content (slot ∷ slots) (suc k) = entry-content slots k

-- the profile in the slot where a name was found is disabled
pub disabled-found : (name : List ℕ) (slots : List (Option Loaded)) → is_disabled_at slots (found name slots) ≡ is_disabled name (filled slots)
disabled-found name slots = by (found name slots) (finds name slots)
  where
    is_disabled_there : Option Loaded → Bool
    is_disabled_there there = elim there [ None ↦ false | Some entry ↦ not (is_in_force entry.state) ]

    by : (k : Option ℕ) → Finds name slots k (entry_named name (filled slots)) → is_disabled_at slots k ≡ is_disabled name (filled slots)
    by None h = sym (ap is_disabled_there h)
    by (Some k) h = ap is_disabled_there (entry-content slots k ∙ h.at ∙ sym h.is)

content-end : (slots : List (Option Loaded)) → content_at (length slots) slots ≡ None
content-end [] = refl
content-end (slot ∷ slots) = content-end slots

-- the slot behind all is empty
pub content-behind : (slots : List (Option Loaded)) → content_at (length (trimmed slots)) slots ≡ None
content-behind slots = sym (content-trimmed (length (trimmed slots)) slots) ∙ content-end (trimmed slots)

-- one more slot at the end
pub with-end : (entry : Loaded) (slots : List (Option Loaded)) → with_content (length (trimmed slots)) (Some entry) slots ≡ trimmed slots ++ Some entry ∷ []
with-end entry [] = refl
with-end entry (Some other ∷ slots) = ap (λ rest. Some other ∷ rest) (with-end entry slots)
with-end entry (None ∷ slots) = by (trimmed slots) refl (with-end entry slots)
  where
    by : (rest : List (Option Loaded)) → trimmed slots ≡ rest → with_content (length rest) (Some entry) slots ≡ rest ++ Some entry ∷ []
        → with_content (length (onto None rest)) (Some entry) (None ∷ slots) ≡ onto None rest ++ Some entry ∷ []
    by [] e h = ap (onto (Some entry)) e
    by (slot ∷ rest) e h = ap (onto None) h

-- an entry in its place
pub filled-put : (entry : Loaded) (slots : List (Option Loaded))
    → filled (with_content (place_for (length (trimmed slots)) (found entry.profile.name slots)) (Some entry) slots) ≡ put entry (filled slots)
filled-put entry [] = refl
filled-put entry (Some other ∷ slots) = by (is_named entry.profile.name other) (found entry.profile.name slots) (filled-put entry slots)
  where
    by : (here : Bool) (k : Option ℕ) → filled (with_content (place_for (length (trimmed slots)) k) (Some entry) slots) ≡ put entry (filled slots)
        → filled (with_content (place_for (suc (length (trimmed slots))) (cond here (Some 0) (option_map (λ k. suc k) k))) (Some entry) (Some other ∷ slots))
        ≡ cond here (entry ∷ filled slots) (other ∷ put entry (filled slots))
    by true k h = ap (λ entries. entry ∷ entries) (filled-trimmed slots)
    by false None h = ap (λ entries. other ∷ entries) h
    by false (Some k) h = ap (λ entries. other ∷ entries) h
filled-put entry (None ∷ slots) = by (trimmed slots) refl (found entry.profile.name slots) (finds entry.profile.name slots) (filled-put entry slots)
  where
    by : (rest : List (Option Loaded)) → trimmed slots ≡ rest → (k : Option ℕ) → Finds entry.profile.name slots k (entry_named entry.profile.name (filled slots))
        → filled (with_content (place_for (length (trimmed slots)) k) (Some entry) slots) ≡ put entry (filled slots)
        → filled (with_content (place_for (length (onto None rest)) (option_map (λ k. suc k) k)) (Some entry) (None ∷ slots)) ≡ put entry (filled slots)
    by [] e None f h = ap (λ rest. filled (onto (Some entry) rest)) e ∙ ap (put entry) (sym (ap filled e) ∙ filled-trimmed slots)
    by [] e (Some k) f h = let within = f.within in let none = ap length e in absurd (omega arith)
    by (slot ∷ rest) e None f h =
        filled-onto None (with_content (suc (length rest)) (Some entry) slots) ∙ ap (λ n. filled (with_content n (Some entry) slots)) (sym (ap length e)) ∙ h
    by (slot ∷ rest) e (Some k) f h = filled-onto None (with_content k (Some entry) slots) ∙ h

onto-long : (slot : Option Loaded) (slots others : List (Option Loaded)) → length slots ≡ length others → 0 < length others → length (onto slot slots) ≡ length (onto slot others)
onto-long slot slots others h k = length-onto slot slots (omega arith) ∙ ap (λ n. suc n) h ∙ sym (length-onto slot others k)

within-onto : (slot : Option Loaded) (slots : List (Option Loaded)) (k : ℕ) → suc k < length (onto slot slots) → k < length slots
within-onto (Some entry) slots k h = omega arith
within-onto None [] k h = absurd (omega arith)
within-onto None (slot ∷ slots) k h = omega arith

some-long : (slot : Option Loaded) (entry : Loaded) (slots : List (Option Loaded)) → 0 < length (onto slot slots) → length (onto (Some entry) slots) ≡ length (onto slot slots)
some-long (Some other) entry slots h = refl
some-long None entry [] h = absurd (omega arith)
some-long None entry (slot ∷ slots) h = refl

-- an entry in a slot before the last filled one moves no end
pub length-with : (k : ℕ) (entry : Loaded) (slots : List (Option Loaded)) → k < length (trimmed slots) → length (with_content k (Some entry) slots) ≡ length (trimmed slots)
length-with k entry [] h = absurd (omega arith)
length-with zero entry (old ∷ slots) h = some-long old entry (trimmed slots) h
length-with (suc k) entry (old ∷ slots) h =
    let within : k < length (trimmed slots) = within-onto old (trimmed slots) k h in
    onto-long old (with_content k (Some entry) slots) (trimmed slots) (length-with k entry slots within) (omega arith)

-- the entry of a name stands in the slot where the name was found, and is found there by its own name
pub stands-at : (name : List ℕ) (slots : List (Option Loaded)) (k : ℕ) (entry : Loaded) → slot_named name slots ≡ Some k → entry_named name (filled slots) ≡ Some entry
    → (content_at k slots ≡ Some entry) × (found entry.profile.name slots ≡ Some k)
stands-at name slots k entry h is = by (found name slots) (sym (found-is name slots) ∙ h) refl (finds name slots)
  where
    by : (j : Option ℕ) → j ≡ Some k → found name slots ≡ j → Finds name slots j (entry_named name (filled slots))
        → (content_at k slots ≡ Some entry) × (found entry.profile.name slots ≡ Some k)
    by None e o f = absurd (cc)
    by (Some j) e o f =
        let same : j ≡ k = cc in
        let one : f.entry ≡ entry = cc in
        let own : entry.profile.name ≡ name = ap (λ (entry : Loaded). entry.profile.name) (sym one) ∙ (bytes_eq-Decides f.entry.profile.name name).0 f.named in
        (ap (λ n. content_at n slots) (sym same) ∙ f.at ∙ ap (λ (entry : Loaded). Some entry) one, ap (λ name. found name slots) own ∙ o ∙ e)
