-- The first rule that conflicts with one before it.
use Rattle.std.proofs.Common.{◌≡◌, ◌⊎◌, ℕ, zero, suc, ◌≤◌, Bool, true, false, List, [], ◌∷◌, ◌++◌, Option, None, Some, arith, ap, refl, sym, subst, ◌∙◌, inl, inr}
use Rattle.std.specs.Prelude.{if◌then◌else◌, min}
use Rattle.std.specs.List.{list_any}
use Rattle.std.specs.Option.{option_map}
use Rattle.aa_glob_pairs.proofs.LeastLemmas.{least_as}
use Rattle.aa_glob_pairs.specs.Clashes.{IsLeast}
use Rattle.aa_profile_conflicts.proofs.PlacedLemmas.{lead-from, lead-to, order}
use Rattle.aa_profile_conflicts.specs.Conflicting.{ConflictBy, ConflictsAt, lesser}
use Rattle.aa_profile_data.proofs.ConflictLemmas.{Meets, any-earlier, apart-from, apart-parts, conflict-apart, conflict-leads, earlier-any, meets-back, meets-first, meets-here, meets-on, true-apart}
use Rattle.aa_profile_data.proofs.RankLemmas.{rank-self, same-ranks}
use Rattle.aa_profile_data.specs.Conflicts.{Lead, conflict, first_conflict, lead_apart, lead_of}
use Rattle.aa_profile_data.specs.Ranks.{same_rank}
use Rattle.aa_profile_data.specs.declared.profile.Rank.{Rank}
use Rattle.aa_profile_data.specs.declared.profile.Rank.TheVariants.{Last, Loose, Plain}
use Rattle.aa_profile_data.specs.declared.profile.Rule.{Rule}

-- two rules that lead apart with one rank conflict
pub conflict-join : (rank : Rank) (one other : Rule) → ConflictBy rank one other → conflict one other ≡ true
conflict-join rank one other h =
    let (here, same_here) = lead-from rank one h.here h.leads_here in
    let (there, same_there) = lead-from rank other h.there h.leads_there in
    let first : (h.here).rank ≡ rank = same-ranks (h.here).rank rank same_here in
    let second : (h.there).rank ≡ rank = same-ranks (h.there).rank rank same_there in
    conflict-apart one other h.here h.there here there ∙ apart-from h.here h.there (first ∙ sym second) h.differ h.overlap

conflict-by : (one other : Rule) (here there : Lead) → lead_of one ≡ Some here → lead_of other ≡ Some there → lead_apart here there ≡ true → ConflictBy here.rank one other
conflict-by one other here there leads_here leads_there apart =
    let (alike, differ, overlap) = apart-parts here there apart in
    record {
      here = here;
      there = there;
      leads_here = lead-to here.rank one here leads_here (rank-self here.rank);
      leads_there = lead-to here.rank other there leads_there (ap (λ rank. same_rank rank here.rank) (sym alike) ∙ rank-self here.rank);
      differ = differ;
      overlap = overlap;
    }

-- and two that conflict do so with some rank
pub conflict-split : (one other : Rule) → conflict one other ≡ true → (rank : Rank) × ConflictBy rank one other
conflict-split one other is =
    let (here, there, leads_here, leads_there, apart) = conflict-leads one other is in
    (here.rank, conflict-by one other here there leads_here leads_there apart)

-- the first that conflicts is the least place of one that does
pub first-least : (before rules : List Rule) → IsLeast (first_conflict before rules) (Meets before rules)
first-least before [] = λ k h. let is = h.1 in absurd (cc)
first-least before (rule ∷ rules) = by (list_any (conflict rule) before) refl (first_conflict (before ++ rule ∷ []) rules) (first-least (before ++ rule ∷ []) rules)
  where
    least : (found : Option ℕ) → list_any (conflict rule) before ≡ false → IsLeast found (Meets (before ++ rule ∷ []) rules) → IsLeast (option_map suc found) (Meets before (rule ∷ rules))
    least None away rest = none
      where
        none : (k : ℕ) → Meets before (rule ∷ rules) k → ⊥
        none zero h = absurd (true-apart (list_any (conflict rule) before) away (meets-here before rule rules h))
        none (suc k) h = rest k (meets-back before rule rules k h)
    least (Some j) away rest = (meets-on before rule rules j rest.0, lower)
      where
        lower : (k : ℕ) → Meets before (rule ∷ rules) k → suc j ≤ k
        lower zero h = absurd (true-apart (list_any (conflict rule) before) away (meets-here before rule rules h))
        lower (suc k) h = let less = rest.1 k (meets-back before rule rules k h) in omega arith

    by : (b : Bool) → list_any (conflict rule) before ≡ b → (found : Option ℕ) → IsLeast found (Meets (before ++ rule ∷ []) rules)
        → IsLeast (if b then Some 0 else option_map suc found) (Meets before (rule ∷ rules))
    by true e found rest = (meets-first before rule rules e, λ k h. omega arith)
    by false e found rest = least found e rest

-- the rule at a place conflicts with an earlier one with one of the three ranks
abbrev pub ConflictsBySome : List Rule → ℕ → Type 0
ConflictsBySome rules place = (ConflictsAt Plain rules place ⊎ ConflictsAt Loose rules place) ⊎ ConflictsAt Last rules place

by-rank : (rank : Rank) (rules : List Rule) (place : ℕ) → ConflictsAt rank rules place → ConflictsBySome rules place
by-rank Last rules place h = inr h
by-rank Loose rules place h = inl (inr h)
by-rank Plain rules place h = inl (inl h)

-- so the rule at a place meets an earlier one where they conflict with one of them
pub meets-from : (rules : List Rule) (place : ℕ) → Meets [] rules place → ConflictsBySome rules place
meets-from rules place (other, at, meets) =
    let (before, one, earlier, there, is) = any-earlier (conflict other) rules place meets in
    let (rank, by) = conflict-split other one is in
    by-rank rank rules place (record { before = before; earlier = earlier; one = one; one_there = there; other = other; other_there = at; conflict = by })

meets-by : (rank : Rank) (rules : List Rule) (place : ℕ) → ConflictsAt rank rules place → Meets [] rules place
meets-by rank rules place h = (h.other, h.other_there, earlier-any (conflict h.other) rules h.before place h.one h.earlier h.one_there (conflict-join rank h.other h.one h.conflict))

pub meets-to : (rules : List Rule) (place : ℕ) → ConflictsBySome rules place → Meets [] rules place
meets-to rules place h = elim h [
  | inl above ↦ elim above [ inl by ↦ meets-by Plain rules place by | inr by ↦ meets-by Loose rules place by ]
  | inr by ↦ meets-by Last rules place by
]

-- there is one least number of a kind
pub least-one : (one other : Option ℕ) (Kind : ℕ → Type 0) → IsLeast one Kind → IsLeast other Kind → one ≡ other
least-one None None Kind a b = refl
least-one None (Some k) Kind a b = absurd (a k b.0)
least-one (Some k) None Kind a b = absurd (b k a.0)
least-one (Some j) (Some k) Kind a b = let less = a.1 k b.0 in let more = b.1 j a.0 in let same : j ≡ k = omega arith in ap Some same

-- the lesser of the least of two kinds is the least of both
pub lesser-least : (one other : Option ℕ) (Kind Other : ℕ → Type 0) → IsLeast one Kind → IsLeast other Other → IsLeast (lesser one other) (λ k. Kind k ⊎ Other k)
lesser-least None None Kind Other a b = λ k h. elim h [ inl first ↦ a k first | inr second ↦ b k second ]
lesser-least None (Some j) Kind Other a b = (inr b.0, λ k h. elim h [ inl first ↦ absurd (a k first) | inr second ↦ b.1 k second ])
lesser-least (Some j) None Kind Other a b = (inl a.0, λ k h. elim h [ inl first ↦ a.1 k first | inr second ↦ absurd (b k second) ])
lesser-least (Some i) (Some j) Kind Other a b = (there, least)
  where
    there : Kind (min i j) ⊎ Other (min i j)
    there = elim (order i j) [
      | inl less ↦ let is : i ≡ min i j = omega arith in inl (subst Kind is a.0)
      | inr more ↦ let is : j ≡ min i j = omega arith in inr (subst Other is b.0)
    ]

    least : (k : ℕ) → Kind k ⊎ Other k → min i j ≤ k
    least k h = elim h [ inl first ↦ let less = a.1 k first in omega arith | inr second ↦ let less = b.1 k second in omega arith ]

-- so that of the three ranks is the first that conflicts
pub first-of-all : (rules : List Rule) (plain loose last : Option ℕ)
    → IsLeast plain (ConflictsAt Plain rules) → IsLeast loose (ConflictsAt Loose rules) → IsLeast last (ConflictsAt Last rules)
    → lesser (lesser plain loose) last ≡ first_conflict [] rules
first-of-all rules plain loose last a b c =
    let above = lesser-least plain loose (ConflictsAt Plain rules) (ConflictsAt Loose rules) a b in
    least-one (lesser (lesser plain loose) last) (first_conflict [] rules) (Meets [] rules)
    (least_as (lesser (lesser plain loose) last) (ConflictsBySome rules) (Meets [] rules) (λ k. (meets-to rules k, meets-from rules k))
    (lesser-least (lesser plain loose) last (λ k. ConflictsAt Plain rules k ⊎ ConflictsAt Loose rules k) (ConflictsAt Last rules) above c))
    (first-least [] rules)
