-- Slots and the entries in them: what is found in the ones is found in the others.
use Rattle.std.proofs.Common.{◌≡◌, ℕ, zero, suc, ◌+◌, ◌<◌, ◌==◌, ◌&&◌, ◌⊎◌, Bool, true, false, cond, List, [], ◌∷◌, length, map, Option, None, Some, ap, arith, inl, inr, refl, subst, sym, ◌∙◌}
use Rattle.std.specs.Prelude.{◌≢◌, ◌↔◌, fold, if◌then◌else◌, option_and_then, slice_get, slice_index, slice_index_or}
use Rattle.std.specs.Option.{option_map}
use Rattle.std.proofs.Math.Dec.{eqb-suc-zero, eqb-zero-suc, leb-suc-zero}
use Rattle.std.specs.List.Sorted.{IsStrictlyIncreasing}
use Rattle.std.proofs.lemmas.Bool.{cases_lt}
use Rattle.std.proofs.lemmas.List.{get_or-map, length-map}
use Rattle.std.proofs.lemmas.Map.Keys.{below_from_sorted, sorted_from_strictly_increasing}
use Rattle.std.proofs.lemmas.Option.{get_or_from_slice_get, slice_get-get_or}
use Rattle.aa_decide_rules.specs.RankLaws.{StandsOut}
use Rattle.aa_decide_rules.specs.Ranks.{best_rank, greater, rank}
use Rattle.aa_decide_rules.specs.StandingOut.{greatest, has_rank, place_of_only, standing_out}
use Rattle.aa_decide.specs.Attachment.{attached, entry_rank}
use Rattle.std.specs.Str.{bytes_eq}
use Rattle.aa_decide.specs.Exec.{named_in_force}
use Rattle.aa_decide_ready.specs.Named.{entry_named}
use Rattle.aa_decide_ready.specs.SlotAttachments.{AreAttaching, Attaches}
use Rattle.aa_decide_ready.specs.Entries.{Loaded, is_in_force}
use Rattle.aa_decide_ready.specs.Slots.{Holds, entry_at, filled}
use Rattle.aa_glob_syntax.specs.Matching.{matches}
use Rattle.aa_glob_syntax.specs.Patterns.{IsPatternAt}
use Rattle.aa_glob_syntax.specs.Reading.{items_of}
use Rattle.aa_decide.specs.code.SlotRanks.{slot_rank}

-- no entry of a name is in force where none has it, and the first of a name is the first in force where it is in force
pub none-in-force : (name : List ℕ) (entries : List Loaded) → entry_named name entries ≡ None → named_in_force name entries ≡ None
none-in-force name [] none = refl
none-in-force name (entry ∷ entries) none = by (bytes_eq entry.profile.name name) (is_in_force entry.state) none (λ none. none-in-force name entries none)
  where
    by : (named force : Bool) → cond named (Some entry) (entry_named name entries) ≡ None → (entry_named name entries ≡ None → named_in_force name entries ≡ None)
        → cond (force && named) (Some entry) (named_in_force name entries) ≡ None
    by true force none rest = absurd (cc)
    by false true none rest = rest none
    by false false none rest = rest none

pub first-in-force : (name : List ℕ) (entries : List Loaded) (first : Loaded) → entry_named name entries ≡ Some first → is_in_force first.state ≡ true
    → named_in_force name entries ≡ Some first
first-in-force name [] first is force = absurd (cc)
first-in-force name (entry ∷ entries) first is force = by (bytes_eq entry.profile.name name) (is_in_force entry.state) refl is (λ is. first-in-force name entries first is force)
  where
    by : (named here : Bool) → is_in_force entry.state ≡ here → cond named (Some entry) (entry_named name entries) ≡ Some first
        → (entry_named name entries ≡ Some first → named_in_force name entries ≡ Some first)
        → cond (here && named) (Some entry) (named_in_force name entries) ≡ Some first
    by true true e is rest = is
    by true false e is rest = let same : entry ≡ first = cc in let not : is_in_force first.state ≡ false = ap (λ (l : Loaded). is_in_force l.state) (sym same) ∙ e in absurd (cc)
    by false true e is rest = rest is
    by false false e is rest = rest is

-- what stands at a place, whatever would stand behind the end
at-default : (xs : List ℕ) (k one other : ℕ) → k < length xs → slice_index_or xs k other ≡ slice_index_or xs k one
at-default xs k one other h = get_or_from_slice_get xs k (slice_index_or xs k one) other (slice_get-get_or xs k one h)

-- of rising numbers a later one is greater
AllPairs-below : (xs : List ℕ) → IsStrictlyIncreasing xs → (i j : ℕ) → i < j → j < length xs → slice_index xs i < slice_index xs j
AllPairs-below xs rise i j h within = below_from_sorted xs i j 0 (sorted_from_strictly_increasing xs rise) h within

-- rank 0 is above none
greater-zero : (rank : ℕ) → greater rank 0 ≡ rank
greater-zero zero = refl
greater-zero (suc rank) = rw (leb-suc-zero rank) refl

-- empty slots change nothing of the greatest rank
greatest-filled : (path : List ℕ) (best : ℕ) (slots : List (Option Loaded))
    → fold greater best (map (slot_rank path) slots) ≡ fold greater best (map (entry_rank path) (filled slots))
greatest-filled path best [] = refl
greatest-filled path best (None ∷ slots) =
    ap (λ best. fold greater best (map (slot_rank path) slots)) (greater-zero best) ∙ greatest-filled path best slots
greatest-filled path best (Some entry ∷ slots) = greatest-filled path (greater best (entry_rank path entry)) slots

-- nor of whether a rank above 0 is there
has_rank-filled : (path : List ℕ) (rank : ℕ) (slots : List (Option Loaded))
    → has_rank (suc rank) (map (slot_rank path) slots) ≡ has_rank (suc rank) (map (entry_rank path) (filled slots))
has_rank-filled path rank [] = refl
has_rank-filled path rank (None ∷ slots) = rw (eqb-zero-suc rank) (has_rank-filled path rank slots)
has_rank-filled path rank (Some entry ∷ slots) = rw (has_rank-filled path rank slots) refl

one_more : (place : ℕ) → 1 + place ≡ suc place
one_more place = omega (arith)

-- a place among some, one further
further : {A : Type 0} (first : A) (items : List A) (place : Option ℕ)
    → option_map (slice_get (first ∷ items)) (option_map (λ place. 1 + place) place) ≡ option_map (slice_get items) place
further first items None = refl
further first items (Some place) = ap (λ n. Some (slice_get (first ∷ items) n)) (one_more place)

further-entry : (first : Loaded) (entries : List Loaded) (place : Option ℕ)
    → option_and_then (slice_get (first ∷ entries)) (option_map (λ place. 1 + place) place) ≡ option_and_then (slice_get entries) place
further-entry first entries None = refl
further-entry first entries (Some place) = ap (slice_get (first ∷ entries)) (one_more place)

-- what stands in the slot of a rank above 0 that stands there once
only-filled : (path : List ℕ) (rank : ℕ) (slots : List (Option Loaded))
    → Holds slots (place_of_only (suc rank) (map (slot_rank path) slots)) (option_and_then (slice_get (filled slots)) (place_of_only (suc rank) (map (entry_rank path) (filled slots))))
only-filled path rank [] = refl
only-filled path rank (None ∷ slots) =
    rw (eqb-zero-suc rank) (further None slots (place_of_only (suc rank) (map (slot_rank path) slots)) ∙ only-filled path rank slots)
only-filled path rank (Some entry ∷ slots) =
    by (entry_rank path entry == suc rank) (has_rank (suc rank) (map (slot_rank path) slots)) (has_rank (suc rank) (map (entry_rank path) (filled slots))) (has_rank-filled path rank slots)
    (only-filled path rank slots)
  where
    by : (here more others : Bool) → more ≡ others
        → Holds slots (place_of_only (suc rank) (map (slot_rank path) slots)) (option_and_then (slice_get (filled slots)) (place_of_only (suc rank) (map (entry_rank path) (filled slots))))
        → Holds (Some entry ∷ slots)
        (if here then (if more then None else Some 0) else option_map (λ place. 1 + place) (place_of_only (suc rank) (map (slot_rank path) slots)))
        (option_and_then (slice_get (entry ∷ filled slots))
        (if here then (if others then None else Some 0) else option_map (λ place. 1 + place) (place_of_only (suc rank) (map (entry_rank path) (filled slots)))))
    by true true true same rest = refl
    by true false false same rest = refl
    by true true false same rest = absurd (cc)
    by true false true same rest = absurd (cc)
    by false more others same rest =
        further (Some entry) slots (place_of_only (suc rank) (map (slot_rank path) slots)) ∙ rest
        ∙ ap (option_map (λ e. Some (Some e))) (sym (further-entry entry (filled slots) (place_of_only (suc rank) (map (entry_rank path) (filled slots)))))

-- the slot of the rank that no other reaches holds the profile whose rank no other reaches
pub attached-filled : (path : List ℕ) (slots : List (Option Loaded)) → Holds slots (standing_out (map (slot_rank path) slots)) (attached path (filled slots))
attached-filled path slots =
    by (greatest (map (slot_rank path) slots)) (greatest (map (entry_rank path) (filled slots))) (greatest-filled path 0 slots)
  where
    standing : ℕ → List ℕ → Option ℕ
    standing best ranks = if best == 0 then None else place_of_only best ranks

    by : (best other : ℕ) → best ≡ other
        → Holds slots (standing best (map (slot_rank path) slots)) (option_and_then (slice_get (filled slots)) (standing other (map (entry_rank path) (filled slots))))
    by zero other same = rw (sym same) refl
    by (suc best) other same = rw (sym same, eqb-suc-zero best) (only-filled path best slots)

-- an attachment matches where the best rank is above 0
some-match : (path : List ℕ) (best : ℕ) (patterns : List (List ℕ)) → 0 < fold (λ best pattern. greater best (rank path pattern)) best patterns
    → (0 < best) ⊎ ((place : ℕ) × (pattern : List ℕ) × IsPatternAt patterns place pattern × (matches (items_of pattern) path ≡ true))
some-match path best [] above = inl above
some-match path best (pattern ∷ patterns) above =
    by (matches (items_of pattern) path) refl (some-match path (greater best (rank path pattern)) patterns above)
  where
    Found : Type 0
    Found = (place : ℕ) × (other : List ℕ) × IsPatternAt (pattern ∷ patterns) place other × (matches (items_of other) path ≡ true)

    by : (b : Bool) → matches (items_of pattern) path ≡ b
        → (0 < greater best (rank path pattern)) ⊎ ((place : ℕ) × (other : List ℕ) × IsPatternAt patterns place other × (matches (items_of other) path ≡ true))
        → (0 < best) ⊎ Found
    by true is more = inr (0, pattern, refl, is)
    by false is (inl more) =
        let none : rank path pattern ≡ 0 = rw is refl in
        let same : greater best (rank path pattern) ≡ best = ap (greater best) none ∙ greater-zero best in
        inl (subst (λ n. 0 < n) same more)
    by false is (inr (place, other, at, matched)) = inr (suc place, other, at, matched)

attaches-above : (path : List ℕ) (slot : Option Loaded) → 0 < slot_rank path slot → Attaches path slot
attaches-above path None above = absurd (omega arith)
attaches-above path (Some entry) above = by (is_in_force entry.state) above
  where
    by : (force : Bool) → 0 < (if force then best_rank path entry.profile.attachments else 0) → Attaches path (Some entry)
    by true above = elim (some-match path 0 entry.profile.attachments above) [ inl none ↦ absurd (omega arith) | inr found ↦ found ]
    by false above = absurd (omega arith)

-- the rank of each slot, by its place
abbrev pub rank_of : List ℕ → List (Option Loaded) → ℕ → ℕ
rank_of path slots slot = slot_rank path (entry_at slots slot)

entry-index : (slots : List (Option Loaded)) (slot : ℕ) → slot < length slots → entry_at slots slot ≡ slice_index_or slots slot None
entry-index [] slot h = absurd (omega arith)
entry-index (first ∷ slots) zero h = same first
  where
    same : (content : Option Loaded) → elim (Some content) [ None ↦ None | Some content ↦ content ] ≡ content
    same content = refl
entry-index (first ∷ slots) (suc slot) h = entry-index slots slot (omega arith)

all-rank : (path : List ℕ) (slots : List (Option Loaded)) (slot : ℕ) → slot < length slots → slice_index (map (slot_rank path) slots) slot ≡ rank_of path slots slot
all-rank path slots slot h = get_or-map (slot_rank path) slots slot None 0 h ∙ ap (slot_rank path) (sym (entry-index slots slot h))

-- what is told of ranks: a place stands out exactly where its rank is above 0 and those at all others are lower
abbrev RankLaw : Type 0
RankLaw = (ranks : List ℕ) (place : ℕ) → (standing_out ranks ≡ Some place) ↔ StandsOut ranks place

module _ (law : RankLaw) (path : List ℕ) (slots : List (Option Loaded)) (places : List ℕ) (are : AreAttaching path slots places) where
  abbrev pub among : List ℕ
  among = map (rank_of path slots) places

  abbrev all : List ℕ
  all = map (slot_rank path) slots

  within : (k : ℕ) → k < length places → slice_index places k < length slots
  within k h = are.within (slice_index places k) (k, h, at-default places k 0 (slice_index places k) h)

  among-rank : (k : ℕ) → k < length places → slice_index among k ≡ slice_index all (slice_index places k)
  among-rank k h = get_or-map (rank_of path slots) places k 0 0 h ∙ sym (all-rank path slots (slice_index places k) (within k h))

  long : length among ≡ length places
  long = length-map places (rank_of path slots)

  all-long : length all ≡ length slots
  all-long = length-map slots (slot_rank path)

  -- a slot whose rank is above 0 stands among the places
  placed : (slot : ℕ) → slot < length slots → 0 < slice_index all slot → (k : ℕ) × (k < length places) × (slice_index places k ≡ slot)
  placed slot h above =
      let attaches = attaches-above path (entry_at slots slot) (subst (λ n. 0 < n) (all-rank path slots slot h) above) in
      let (k, inside, is) = are.all slot h (subst (λ content. Attaches path content) (entry-index slots slot h) attaches) in
      (k, inside, at-default places k slot 0 inside ∙ is)

  -- two places are of two slots
  apart : (k other : ℕ) → k < length places → other < length places → slice_index places k ≡ slice_index places other → k ≡ other
  apart k other h g same = elim (cases_lt k other) [
    | inl before ↦ let less = AllPairs-below places are.rise k other before g in absurd (omega arith)
    | inr not_before ↦ elim (cases_lt other k) [
      | inl before ↦ let less = AllPairs-below places are.rise other k before h in absurd (omega arith)
      | inr behind ↦ omega arith
    ]
  ]

  out-all : (k : ℕ) → StandsOut among k → StandsOut all (slice_index places k)
  out-all k (inside, above, others) =
      let h : k < length places = omega (arith, long) in
      let high = among-rank k h in (
        subst (λ n. slice_index places k < n) (sym all-long) (within k h),
        omega arith,
        λ other g differ. lower other (subst (λ n. other < n) all-long g) differ (slice_index all other) refl,
      )
    where
      lower : (other : ℕ) → other < length slots → other ≢ slice_index places k → (rank : ℕ) → slice_index all other ≡ rank → slice_index all other < slice_index all (slice_index places k)
      lower other g differ zero is = let h : k < length places = omega (arith, long) in let high = among-rank k h in omega arith
      lower other g differ (suc rank) is =
          let h : k < length places = omega (arith, long) in
          let (j, inside, at) = placed other g (omega arith) in
          let less = others j (omega (arith, long)) (λ same. differ (sym at ∙ ap (slice_index places) same)) in
          let low = among-rank j inside ∙ ap (slice_index all) at in
          let high = among-rank k h in
          omega arith

  out-among : (k : ℕ) → k < length places → StandsOut all (slice_index places k) → StandsOut among k
  out-among k h (inside, above, others) =
      let high = among-rank k h in (
        omega (arith, long),
        omega arith,
        λ other g differ.
            let j : other < length places = omega (arith, long) in
            let less = others (slice_index places other) (subst (λ n. slice_index places other < n) (sym all-long) (within other j)) (λ same. differ (apart other k j h same)) in
            let low = among-rank other j in
            omega arith,
      )

  standing-among : option_and_then (slice_get places) (standing_out among) ≡ standing_out all
  standing-among = by (standing_out among) refl (standing_out all) refl
    where
      by : (one : Option ℕ) → standing_out among ≡ one → (other : Option ℕ) → standing_out all ≡ other → option_and_then (slice_get places) one ≡ other
      by None e None f = refl
      by None e (Some slot) f =
          let out = (law all slot).0 f in
          let (k, inside, at) = placed slot (subst (λ n. slot < n) all-long out.0) out.1 in
          let some = (law among k).1 (out-among k inside (subst (StandsOut all) (sym at) out)) in
          absurd (cc)
      by (Some k) e other f =
          let out = (law among k).0 e in
          let h : k < length places = omega (arith, long) in
          slice_get-get_or places k 0 h ∙ sym ((law all (slice_index places k)).1 (out-all k out)) ∙ f

  -- the slot of the rank that no other reaches holds the profile that is attached
  pub attached-among : Holds slots (option_and_then (slice_get places) (standing_out among)) (attached path (filled slots))
  attached-among = subst (λ slot. Holds slots slot (attached path (filled slots))) (sym standing-among) (attached-filled path slots)
