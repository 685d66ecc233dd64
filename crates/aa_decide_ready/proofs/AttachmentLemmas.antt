-- The attachments of slots, and the slot of each.
use Rattle.std.proofs.lemmas.Bool.{cases_lt}
use Rattle.std.proofs.Common.{◌≡◌, ℕ, zero, suc, ◌+◌, ◌<◌, ◌≤◌, inl, inr, List, [], ◌∷◌, ◌++◌, length, slice_index_or, Option, None, Some, sym, ap, subst, ◌∙◌, arith}
use Rattle.std.specs.Prelude.{◌==◌, All, Contains, replicate, slice_get, slice_index}
use Rattle.std.specs.List.{dedup}
use Rattle.std.specs.List.Retain.{DiffersFromLast, IsFiltered}
use Rattle.std.specs.List.Sorted.{IsPermutation, IsSorted, IsStrictlyIncreasing}
use Rattle.std.specs.Ordering.{nat_cmp}
use Rattle.std.proofs.Math.ListN.{get_or-append}
use Rattle.std.proofs.Math.Seq.{get_or-append_seam}
use Rattle.std.proofs.lemmas.List.{append_assoc, append-nil, get_or-replicate, length-append, length-replicate}
use Rattle.std.proofs.lemmas.List.Elements.{All-append, All-contains, All-nil, All-replicate}
use Rattle.std.proofs.lemmas.List.Filters.{dedup_is}
use Rattle.std.proofs.lemmas.List.Kept.{Contains-dedup_nat, Contains-from_dedup}
use Rattle.std.proofs.lemmas.List.Sorted.{Contains-permutation, IsPermutation-sym}
use Rattle.std.proofs.lemmas.Map.Keys.{IsStrictlyIncreasing-dedup}
use Rattle.std.proofs.lemmas.Option.{get_or_from_slice_get, slice_get-get_or, slice_get_within}
use Rattle.aa_profile_data.specs.Picked.{picked}
use Rattle.aa_profile_data.proofs.PlaceLemmas.{Contains-from_get, picked-from, picked-has}
use Rattle.aa_decide_ready.specs.Entries.{Loaded}
use Rattle.aa_glob_syntax.specs.Patterns.{AreMatching}
use Rattle.aa_decide_ready.specs.SlotAttachments.{AreAttaching, Attaches, attachments_in}
use Rattle.aa_decide_ready.specs.Indexes.{ArePlaces, all_attachments, owners_from}

-- one slot more
pub all-more : (slots : List (Option Loaded)) (slot : Option Loaded) → all_attachments (slots ++ slot ∷ []) ≡ all_attachments slots ++ attachments_in slot
all-more [] slot = append-nil (attachments_in slot)
all-more (first ∷ slots) slot = ap (λ rest. attachments_in first ++ rest) (all-more slots slot) ∙ sym (append_assoc (attachments_in first) (all_attachments slots) (attachments_in slot))

pub owners-more : (number : ℕ) (slots : List (Option Loaded)) (slot : Option Loaded)
    → owners_from number (slots ++ slot ∷ []) ≡ owners_from number slots ++ replicate (length (attachments_in slot)) (number + length slots)
owners-more number [] slot = append-nil (replicate (length (attachments_in slot)) number) ∙ ap (λ n. replicate (length (attachments_in slot)) n) same
  where
    same : number ≡ number + 0
    same = omega arith
owners-more number (first ∷ slots) slot =
    ap (λ rest. replicate (length (attachments_in first)) number ++ rest) (owners-more (number + 1) slots slot ∙ ap (λ n. owners_from (number + 1) slots ++ replicate (length (attachments_in slot)) n) on)
    ∙ sym (append_assoc (replicate (length (attachments_in first)) number) (owners_from (number + 1) slots) (replicate (length (attachments_in slot)) (number + suc (length slots))))
  where
    on : number + 1 + length slots ≡ number + suc (length slots)
    on = omega arith

-- what stands in the first of two lists, and in the second
get-left : {X : Type 0} (xs ys : List X) (k : ℕ) (x : X) → slice_get xs k ≡ Some x → slice_get (xs ++ ys) k ≡ Some x
get-left [] ys k x is = absurd (cc)
get-left (y ∷ xs) ys zero x is = is
get-left (y ∷ xs) ys (suc k) x is = get-left xs ys k x is

get-right : {X : Type 0} (xs ys : List X) (k : ℕ) (x : X) → slice_get ys k ≡ Some x → slice_get (xs ++ ys) (length xs + k) ≡ Some x
get-right [] ys k x is = let same : k ≡ 0 + k = omega arith in subst (λ n. slice_get ys n ≡ Some x) same is
get-right (y ∷ xs) ys k x is =
    let same : suc (length xs + k) ≡ suc (length xs) + k = omega arith in
    subst (λ n. slice_get (y ∷ xs ++ ys) n ≡ Some x) same (get-right xs ys k x is)

get-replicate : (count k x : ℕ) → k < count → slice_get (replicate count x) k ≡ Some x
get-replicate count k x h =
    let long : k < length (replicate count x) = subst (λ n. k < n) (sym (length-replicate count x)) h in
    slice_get-get_or (replicate count x) k x long ∙ ap Some (get_or-replicate count k x x h)

-- an attachment of a slot stands among all, with the slot as its own
owner-at : (number : ℕ) (slots : List (Option Loaded)) (slot place : ℕ) (pattern : List ℕ) → slot < length slots
    → slice_get (attachments_in (slice_index_or slots slot None)) place ≡ Some pattern
    → (at : ℕ) × (slice_get (all_attachments slots) at ≡ Some pattern) × (slice_get (owners_from number slots) at ≡ Some (number + slot))
owner-at number [] slot place pattern h is = absurd (omega arith)
owner-at number (first ∷ slots) zero place pattern h is =
    let within = slice_get_within (attachments_in first) place pattern is in
    let same : number ≡ number + 0 = omega arith in (
      place,
      get-left (attachments_in first) (all_attachments slots) place pattern is,
      get-left (replicate (length (attachments_in first)) number) (owners_from (number + 1) slots) place (number + 0)
          (get-replicate (length (attachments_in first)) place number within ∙ ap Some same),
    )
owner-at number (first ∷ slots) (suc slot) place pattern h is =
    let (at, there, own) = owner-at (number + 1) slots slot place pattern (omega arith) is in
    let same : number + 1 + slot ≡ number + suc slot = omega arith in (
      length (attachments_in first) + at,
      get-right (attachments_in first) (all_attachments slots) at pattern there,
      subst (λ n. slice_get (replicate (length (attachments_in first)) number ++ owners_from (number + 1) slots) (n + at) ≡ Some (number + suc slot)) (length-replicate (length (attachments_in first)) number)
          (get-right (replicate (length (attachments_in first)) number) (owners_from (number + 1) slots) at (number + suc slot) (own ∙ ap Some same)),
    )

-- the own slot of each is there
owners-within : (number most : ℕ) (slots : List (Option Loaded)) → number + length slots ≤ most → All (λ slot. slot < most) (owners_from number slots)
owners-within number most [] h = All-nil (λ slot. slot < most)
owners-within number most (first ∷ slots) h =
    All-append (λ slot. slot < most) (replicate (length (attachments_in first)) number) (owners_from (number + 1) slots)
    (All-replicate (λ slot. slot < most) (length (attachments_in first)) number (omega arith))
    (owners-within (number + 1) most slots (omega arith))

-- the slots of the attachments that match, in order and each once
pub are-attaching : (path : List ℕ) (slots : List (Option Loaded)) (places sorted found : List ℕ) → AreMatching (all_attachments slots) path places
    → IsPermutation (picked (owners_from 0 slots) places) sorted → IsSorted nat_cmp sorted → IsFiltered (DiffersFromLast (λ a b. a == b)) [] sorted found
    → AreAttaching path slots found
are-attaching path slots places sorted found matching moved order filtered = record {
  rise = subst IsStrictlyIncreasing (sym each) (IsStrictlyIncreasing-dedup sorted order);
  within = λ slot there. within slot (subst (λ l. Contains l slot) each there);
  all = λ slot h attaches. subst (λ l. Contains l slot) (sym each) (all slot h attaches);
}
  where
    each : found ≡ dedup (λ a b. a == b) sorted
    each = dedup_is (λ a b. a == b) sorted found filtered

    within : (slot : ℕ) → Contains (dedup (λ a b. a == b) sorted) slot → slot < length slots
    within slot there =
        let kept = Contains-from_dedup (λ a b. a == b) sorted slot there in
        let among = Contains-permutation sorted (picked (owners_from 0 slots) places) slot (IsPermutation-sym (picked (owners_from 0 slots) places) sorted moved) kept in
        let (at, here, is) = picked-from (owners_from 0 slots) places slot among in
        All-contains (λ slot. slot < length slots) (owners_from 0 slots) slot (owners-within 0 (length slots) slots (omega arith)) (Contains-from_get (owners_from 0 slots) at slot is)

    all : (slot : ℕ) → slot < length slots → Attaches path (slice_index_or slots slot None) → Contains (dedup (λ a b. a == b) sorted) slot
    all slot h (place, pattern, is, matched) =
        let (at, there, own) = owner-at 0 slots slot place pattern h is in
        let same : 0 + slot ≡ slot = omega arith in
        let among = picked-has (owners_from 0 slots) places slot at ((matching at).1 (pattern, there, matched)) (own ∙ ap Some same) in
        Contains-dedup_nat sorted slot (Contains-permutation (picked (owners_from 0 slots) places) sorted slot moved among)

-- one place more
pub places-more : (count : ℕ) (places : List ℕ) → ArePlaces count places → ArePlaces (count + 1) (places ++ count ∷ [])
places-more count places (long, each) = (
  length-append places (count ∷ []) ∙ ap (λ n. n + 1) long,
  λ k h. elim (cases_lt k count) [
    | inl before ↦ get_or-append places (count ∷ []) 0 k (omega arith) ∙ each k before
    | inr last ↦ let same : k ≡ length places = omega arith in let own : count ≡ k = omega arith in
        ap (λ n. slice_index (places ++ count ∷ []) n) same ∙ get_or-append_seam places count [] 0 ∙ own
  ],
)

-- what stands at a place, whatever would stand behind the end
at-place : (xs : List ℕ) (k one other : ℕ) → k < length xs → slice_index_or xs k other ≡ slice_index_or xs k one
at-place xs k one other h = get_or_from_slice_get xs k (slice_index_or xs k one) other (slice_get-get_or xs k one h)

-- all places are those of the slots of which an attachment can match
pub all-attach : (path : List ℕ) (slots : List (Option Loaded)) (places : List ℕ) → ArePlaces (length slots) places → AreAttaching path slots places
all-attach path slots places (long, each) = record {
  rise = λ k h. let one = each k (omega arith) in let other = each (k + 1) (omega arith) in omega arith;
  within = λ slot (k, h, is).
      let own = each k (omega arith) in
      let same : slice_index places k ≡ slot = at-place places k slot 0 h ∙ is in
      omega arith;
  all = λ slot h attaches. (slot, omega arith, at-place places slot 0 slot (omega arith) ∙ each slot h);
}
