-- Where rules lead, and at which places these stand.
use Rattle.std.proofs.Common.{◌≡◌, ◌⊎◌, ℕ, zero, suc, ◌+◌, ◌<◌, ◌≤◌, Bool, true, false, List, [], ◌∷◌, ◌++◌, Option, None, Some, arith, ap, refl, sym, ◌∙◌, inl, inr, map, append-nil}
use Rattle.std.specs.Prelude.{if◌then◌else◌, slice_get}
use Rattle.std.specs.List.{cons_option}
use Rattle.std.proofs.lemmas.List.{map-append}
use Rattle.std.proofs.lemmas.List.Elements.{filter_map-append}
use Rattle.aa_profile_conflicts.specs.Leads.{Placed, lead_by, leads, patterns_by, placed_from}
use Rattle.aa_profile_data.specs.Conflicts.{Lead, lead_of}
use Rattle.aa_profile_data.specs.Ranks.{same_rank}
use Rattle.aa_profile_data.specs.declared.profile.Rank.{Rank}
use Rattle.aa_profile_data.specs.declared.profile.Rule.{Rule}

-- what a lead with a rank is
pub lead-from : (rank : Rank) (rule : Rule) (lead : Lead) → lead_by rank rule ≡ Some lead → (lead_of rule ≡ Some lead) × (same_rank lead.rank rank ≡ true)
lead-from rank rule lead is = by (lead_of rule) refl is
  where
    pick : (found : Lead) (alike : Bool) → same_rank found.rank rank ≡ alike → (if alike then Some found else None) ≡ Some lead → (found ≡ lead) × (same_rank lead.rank rank ≡ true)
    pick found true e same = let one : found ≡ lead = cc in (one, (rw (sym one) e))
    pick found false e same = absurd (cc)

    by : (found : Option Lead) → lead_of rule ≡ found → elim found [ None ↦ None | Some own ↦ if same_rank own.rank rank then Some own else None ] ≡ Some lead
        → (lead_of rule ≡ Some lead) × (same_rank lead.rank rank ≡ true)
    by None e same = absurd (cc)
    by (Some own) e same = let (one, alike) = pick own (same_rank own.rank rank) refl same in (e ∙ ap Some one, alike)

pub lead-to : (rank : Rank) (rule : Rule) (lead : Lead) → lead_of rule ≡ Some lead → same_rank lead.rank rank ≡ true → lead_by rank rule ≡ Some lead
lead-to rank rule lead is alike =
    ap (λ (found : Option Lead). elim found [ None ↦ None | Some own ↦ if same_rank own.rank rank then Some own else None ]) is
    ∙ ap (λ (alike : Bool). if alike then Some lead else None) alike

-- the leads and the patterns of rules and of others behind them
pub leads-append : (rank : Rank) (rules others : List Rule) → leads rank (rules ++ others) ≡ leads rank rules ++ leads rank others
leads-append rank rules others = filter_map-append (lead_by rank) rules others

pub patterns-append : (rank : Rank) (rules others : List Rule) → patterns_by rank (rules ++ others) ≡ patterns_by rank rules ++ patterns_by rank others
patterns-append rank rules others =
    ap (map (λ lead. lead.pattern)) (leads-append rank rules others) ∙ map-append (λ (lead : Lead). lead.pattern) (leads rank rules) (leads rank others)

-- one rule more, which leads somewhere so or doesn't
pub leads-none : (rank : Rank) (rules : List Rule) (rule : Rule) → lead_by rank rule ≡ None → leads rank (rules ++ rule ∷ []) ≡ leads rank rules
leads-none rank rules rule is = leads-append rank rules (rule ∷ []) ∙ ap (λ found. leads rank rules ++ cons_option found []) is ∙ append-nil (leads rank rules)

pub leads-some : (rank : Rank) (rules : List Rule) (rule : Rule) (lead : Lead) → lead_by rank rule ≡ Some lead → leads rank (rules ++ rule ∷ []) ≡ leads rank rules ++ lead ∷ []
leads-some rank rules rule lead is = leads-append rank rules (rule ∷ []) ∙ ap (λ found. leads rank rules ++ cons_option found []) is

-- the leads with their places are the leads
get-map : {X Y : Type 0} (f : X → Y) (xs : List X) (k : ℕ) (y : Y) → slice_get (map f xs) k ≡ Some y → (x : X) × (slice_get xs k ≡ Some x) × (f x ≡ y)
get-map f [] k y is = absurd (cc)
get-map f (x ∷ xs) zero y is = (x, refl, (let same : f x ≡ y = cc in same))
get-map f (x ∷ xs) (suc k) y is = get-map f xs k y is

map-get : {X Y : Type 0} (f : X → Y) (xs : List X) (k : ℕ) (x : X) → slice_get xs k ≡ Some x → slice_get (map f xs) k ≡ Some (f x)
map-get f [] k x is = absurd (cc)
map-get f (y ∷ xs) zero x is = let same : y ≡ x = cc in ap (λ z. Some (f z)) same
map-get f (y ∷ xs) (suc k) x is = map-get f xs k x is

placed-leads : (rank : Rank) (first : ℕ) (rules : List Rule) → map (λ (placed : Placed). placed.lead) (placed_from rank first rules) ≡ leads rank rules
placed-leads rank first [] = refl
placed-leads rank first (rule ∷ rules) = by (lead_by rank rule) (placed-leads rank (first + 1) rules)
  where
    by : (found : Option Lead) → map (λ (placed : Placed). placed.lead) (placed_from rank (first + 1) rules) ≡ leads rank rules
        → map (λ (placed : Placed). placed.lead)
        (elim found [ None ↦ placed_from rank (first + 1) rules | Some lead ↦ record { place = first; lead = lead } ∷ placed_from rank (first + 1) rules ])
        ≡ cons_option found (leads rank rules)
    by None rest = rest
    by (Some lead) rest = ap (λ ls. lead ∷ ls) rest

pub lead-at : (rank : Rank) (rules : List Rule) (k : ℕ) (placed : Placed) → slice_get (placed_from rank 0 rules) k ≡ Some placed → slice_get (leads rank rules) k ≡ Some placed.lead
lead-at rank rules k placed is = ap (λ ls. slice_get ls k) (sym (placed-leads rank 0 rules)) ∙ map-get (λ (p : Placed). p.lead) (placed_from rank 0 rules) k placed is

pub pattern-at : (rank : Rank) (rules : List Rule) (k : ℕ) (placed : Placed) → slice_get (placed_from rank 0 rules) k ≡ Some placed
    → slice_get (patterns_by rank rules) k ≡ Some placed.lead.pattern
pattern-at rank rules k placed is = map-get (λ (lead : Lead). lead.pattern) (leads rank rules) k placed.lead (lead-at rank rules k placed is)

pub placed-at : (rank : Rank) (rules : List Rule) (k : ℕ) (pattern : List ℕ) → slice_get (patterns_by rank rules) k ≡ Some pattern
    → (placed : Placed) × (slice_get (placed_from rank 0 rules) k ≡ Some placed) × (placed.lead.pattern ≡ pattern)
placed-at rank rules k pattern is =
    let (lead, at, same) = get-map (λ (lead : Lead). lead.pattern) (leads rank rules) k pattern is in
    let (placed, there, also) = get-map (λ (p : Placed). p.lead) (placed_from rank 0 rules) k lead (ap (λ ls. slice_get ls k) (placed-leads rank 0 rules) ∙ at) in
    (placed, there, ap (λ (lead : Lead). lead.pattern) also ∙ same)

-- a lead with its place is that of the rule there
abbrev pub IsPlaced : Rank → ℕ → List Rule → Placed → Type 0
IsPlaced rank first rules placed = (at : ℕ) × (placed.place ≡ first + at) × (rule : Rule) × (slice_get rules at ≡ Some rule) × (lead_by rank rule ≡ Some placed.lead)

placed-later : (rank : Rank) (first : ℕ) (one : Rule) (rules : List Rule) (placed : Placed) → IsPlaced rank (first + 1) rules placed → IsPlaced rank first (one ∷ rules) placed
placed-later rank first one rules placed (at, is, rule, there, led) = (suc at, omega arith, rule, there, led)

pub placed-sound : (rank : Rank) (first : ℕ) (rules : List Rule) (k : ℕ) (placed : Placed) → slice_get (placed_from rank first rules) k ≡ Some placed
    → IsPlaced rank first rules placed
placed-sound rank first [] k placed is = absurd (cc)
placed-sound rank first (rule ∷ rules) k placed is =
    by (lead_by rank rule) refl k is (λ k is. placed-later rank first rule rules placed (placed-sound rank (first + 1) rules k placed is))
  where
    by : (found : Option Lead) → lead_by rank rule ≡ found → (k : ℕ)
        → slice_get (elim found [ None ↦ placed_from rank (first + 1) rules | Some lead ↦ record { place = first; lead = lead } ∷ placed_from rank (first + 1) rules ]) k ≡ Some placed
        → ((k : ℕ) → slice_get (placed_from rank (first + 1) rules) k ≡ Some placed → IsPlaced rank first (rule ∷ rules) placed)
        → IsPlaced rank first (rule ∷ rules) placed
    by None e k is rest = rest k is
    by (Some lead) e zero is rest =
        let here : record { place = first; lead = lead } ≡ placed = cc in
        (0, (let same : first ≡ placed.place = ap (λ (p : Placed). p.place) here in omega arith), rule, refl, e ∙ ap (λ (p : Placed). Some p.lead) here)
    by (Some lead) e (suc k) is rest = rest k is

pub placed-complete : (rank : Rank) (first : ℕ) (rules : List Rule) (at : ℕ) (rule : Rule) (lead : Lead) → slice_get rules at ≡ Some rule → lead_by rank rule ≡ Some lead
    → (k : ℕ) × (slice_get (placed_from rank first rules) k ≡ Some (record { place = first + at; lead = lead }))
placed-complete rank first [] at rule lead is led = absurd (cc)
placed-complete rank first (one ∷ rules) zero rule lead is led =
    let same : one ≡ rule = cc in
    let here : lead_by rank one ≡ Some lead = rw same led in
    let plain : first ≡ first + 0 = omega arith in (
      0,
      ap (λ (found : Option Lead).
          slice_get (elim found [ None ↦ placed_from rank (first + 1) rules | Some own ↦ record { place = first; lead = own } ∷ placed_from rank (first + 1) rules ]) 0) here
          ∙ ap (λ (n : ℕ). Some (record { place = n; lead = lead })) plain,
    )
placed-complete rank first (one ∷ rules) (suc at) rule lead is led = by (lead_by rank one) (placed-complete rank (first + 1) rules at rule lead is led)
  where
    Wanted : Placed
    Wanted = record { place = first + suc at; lead = lead }

    plain : (first + 1) + at ≡ first + suc at
    plain = omega arith

    by : (found : Option Lead) → (k : ℕ) × (slice_get (placed_from rank (first + 1) rules) k ≡ Some (record { place = (first + 1) + at; lead = lead }))
        → (k : ℕ)
        × (slice_get (elim found [ None ↦ placed_from rank (first + 1) rules | Some own ↦ record { place = first; lead = own } ∷ placed_from rank (first + 1) rules ]) k
        ≡ Some (record { place = first + suc at; lead = lead }))
    by None (k, there) = (k, there ∙ ap (λ (n : ℕ). Some (record { place = n; lead = lead })) plain)
    by (Some own) (k, there) = (suc k, there ∙ ap (λ (n : ℕ). Some (record { place = n; lead = lead })) plain)

-- their places rise
pub placed-rise : (rank : Rank) (first : ℕ) (rules : List Rule) (j k : ℕ) (one other : Placed) → slice_get (placed_from rank first rules) j ≡ Some one
    → slice_get (placed_from rank first rules) k ≡ Some other → j < k → one.place < other.place
placed-rise rank first [] j k one other here there less = absurd (cc)
placed-rise rank first (rule ∷ rules) j k one other here there less =
    by (lead_by rank rule) j k here there less (λ j k here there less. placed-rise rank (first + 1) rules j k one other here there less)
  where
    by : (found : Option Lead) (j k : ℕ)
        → slice_get (elim found [ None ↦ placed_from rank (first + 1) rules | Some lead ↦ record { place = first; lead = lead } ∷ placed_from rank (first + 1) rules ]) j ≡ Some one
        → slice_get (elim found [ None ↦ placed_from rank (first + 1) rules | Some lead ↦ record { place = first; lead = lead } ∷ placed_from rank (first + 1) rules ]) k ≡ Some other
        → j < k
        → ((j k : ℕ) → slice_get (placed_from rank (first + 1) rules) j ≡ Some one → slice_get (placed_from rank (first + 1) rules) k ≡ Some other → j < k → one.place < other.place)
        → one.place < other.place
    by None j k here there less rest = rest j k here there less
    by (Some lead) j zero here there less rest = absurd (omega arith)
    by (Some lead) zero (suc k) here there less rest =
        let same : record { place = first; lead = lead } ≡ one = cc in
        let place : first ≡ one.place = ap (λ (p : Placed). p.place) same in
        let (at, is, _rule, _there, _leads) = placed-sound rank (first + 1) rules k other there in
        omega arith
    by (Some lead) (suc j) (suc k) here there less rest = rest j k here there (omega arith)

-- of two numbers one is less, or the other is no more
pub order : (j k : ℕ) → (j < k) ⊎ (k ≤ j)
order j zero = inr (omega arith)
order zero (suc k) = inl (omega arith)
order (suc j) (suc k) = elim (order j k) [ inl less ↦ inl (omega arith) | inr more ↦ inr (omega arith) ]

pub placed-order : (rank : Rank) (rules : List Rule) (j k : ℕ) (one other : Placed) → slice_get (placed_from rank 0 rules) j ≡ Some one
    → slice_get (placed_from rank 0 rules) k ≡ Some other → one.place < other.place → j < k
placed-order rank rules j k one other here there less = elim (order j k) [
  | inl first ↦ first
  | inr later ↦ elim (order k j) [
    | inl second ↦ let more = placed-rise rank 0 rules k j other one there here second in absurd (omega arith)
    | inr same ↦
        let equal : k ≡ j = omega arith in
        let again : slice_get (placed_from rank 0 rules) j ≡ Some other = ap (slice_get (placed_from rank 0 rules)) (sym equal) ∙ there in
        let twice : one ≡ other = cc in
        let places : one.place ≡ other.place = ap (λ (p : Placed). p.place) twice in
        absurd (omega arith)
  ]
]

pub placed-no-later : (rank : Rank) (rules : List Rule) (j k : ℕ) (one other : Placed) → slice_get (placed_from rank 0 rules) j ≡ Some one
    → slice_get (placed_from rank 0 rules) k ≡ Some other → j ≤ k → one.place ≤ other.place
placed-no-later rank rules j k one other here there least = elim (order other.place one.place) [
  | inl less ↦ let first = placed-order rank rules k j other one there here less in absurd (omega arith)
  | inr more ↦ more
]
