-- Attachment doesn't depend on the order of the entries.
use Rattle.std.proofs.Common.{◌≡◌, ℕ, zero, suc, ◌<◌, Bool, true, false, List, [], ◌∷◌, length, map, Option, None, Some, arith, ap, refl, sym, ◌∙◌, subst}
use Rattle.std.specs.Prelude.{◌≢◌, ◌↔◌, ◌||◌, not, option_and_then, slice_get, slice_index, slice_index_or}
use Rattle.std.specs.List.{Contains, list_any}
use Rattle.std.specs.Str.{bytes_eq}
use Rattle.std.proofs.lemmas.Bool.{and_parts, not-true}
use Rattle.std.proofs.lemmas.List.{get_or-map, length-map}
use Rattle.std.proofs.lemmas.Option.{get_or_from_slice_get, slice_get-get_or, slice_get_within}
use Rattle.std.proofs.lemmas.Slice.Eq.{bytes_eq-Decides}
use Rattle.aa_decide_rules.specs.RankLaws.{StandsOut}
use Rattle.aa_decide_rules.specs.StandingOut.{standing_out}
use Rattle.aa_profile_data.specs.Profile.{are_distinct, is_named}
use Rattle.aa_decide.specs.Attachment.{attached, entry_rank}
use Rattle.aa_decide_ready.specs.Named.{profiles_of}
use Rattle.aa_decide_ready.specs.Entries.{Loaded}
use Rattle.aa_decide.specs.ExecLaws.{DifferInOrder, FitsBest, HaveDistinctNames, HaveSameEntries}

-- what stands at a place is there, and what is there stands at a place
pub there-at : {A : Type 0} (items : List A) (place : ℕ) (item : A) → slice_get items place ≡ Some item → Contains items item
there-at items place item at = (place, slice_get_within items place item at, get_or_from_slice_get items place item item at)

pub at-there : {A : Type 0} (items : List A) (item : A) → (there : Contains items item) → slice_get items there.0 ≡ Some item
at-there items item (place, within, is) = slice_get-get_or items place item within ∙ ap Some is

-- an entry that has a name, where some entry has it
named-there : (name : List ℕ) (entries : List Loaded) (place : ℕ) (entry : Loaded) → slice_get entries place ≡ Some entry → bytes_eq entry.profile.name name ≡ true
    → list_any (is_named name) (profiles_of entries) ≡ true
named-there name [] place entry at same = absurd (cc)
named-there name (first ∷ entries) zero entry at same =
    let is : first ≡ entry = cc in
    let here : bytes_eq first.profile.name name ≡ true = ap (λ (e : Loaded). bytes_eq e.profile.name name) is ∙ same in
    rw here refl
named-there name (first ∷ entries) (suc place) entry at same = by (bytes_eq first.profile.name name) (named-there name entries place entry at same)
  where
    by : (here : Bool) → list_any (is_named name) (profiles_of entries) ≡ true → (here || list_any (is_named name) (profiles_of entries)) ≡ true
    by true rest = refl
    by false rest = rest

-- of entries of different names no two places have one
one-place : (entries : List Loaded) → HaveDistinctNames entries → (one other : ℕ) (a b : Loaded) → slice_get entries one ≡ Some a → slice_get entries other ≡ Some b
    → a.profile.name ≡ b.profile.name → one ≡ other
one-place [] distinct one other a b at there same = absurd (cc)
one-place (first ∷ entries) distinct zero zero a b at there same = refl
one-place (first ∷ entries) distinct zero (suc other) a b at there same =
    let is : first ≡ a = cc in
    let parts = and_parts (not (list_any (is_named first.profile.name) (profiles_of entries))) (are_distinct (profiles_of entries)) distinct in
    let none = not-true (list_any (is_named first.profile.name) (profiles_of entries)) parts.0 in
    let names : b.profile.name ≡ first.profile.name = sym same ∙ ap (λ (e : Loaded). e.profile.name) (sym is) in
    let some = named-there first.profile.name entries other b there ((bytes_eq-Decides b.profile.name first.profile.name).1 names) in
    absurd (cc)
one-place (first ∷ entries) distinct (suc one) zero a b at there same =
    let is : first ≡ b = cc in
    let parts = and_parts (not (list_any (is_named first.profile.name) (profiles_of entries))) (are_distinct (profiles_of entries)) distinct in
    let none = not-true (list_any (is_named first.profile.name) (profiles_of entries)) parts.0 in
    let names : a.profile.name ≡ first.profile.name = same ∙ ap (λ (e : Loaded). e.profile.name) (sym is) in
    let some = named-there first.profile.name entries one a at ((bytes_eq-Decides a.profile.name first.profile.name).1 names) in
    absurd (cc)
one-place (first ∷ entries) distinct (suc one) (suc other) a b at there same =
    let parts = and_parts (not (list_any (is_named first.profile.name) (profiles_of entries))) (are_distinct (profiles_of entries)) distinct in
    ap suc (one-place entries parts.1 one other a b at there same)

-- so that entries of one name are the same
pub one-named : (entries : List Loaded) → HaveDistinctNames entries → (a b : Loaded) → Contains entries a → Contains entries b → a.profile.name ≡ b.profile.name → a ≡ b
one-named entries distinct a b here there same =
    let place = one-place entries distinct here.0 there.0 a b (at-there entries a here) (at-there entries b there) same in
    let equal : Some a ≡ Some b = sym (at-there entries a here) ∙ ap (slice_get entries) place ∙ at-there entries b there in
    cc

-- what is told of ranks: a place stands out exactly where its rank is above 0 and those at all others are lower
abbrev pub RankLaw : Type 0
RankLaw = (ranks : List ℕ) (place : ℕ) → (standing_out ranks ≡ Some place) ↔ StandsOut ranks place

-- the rank at a place
rank-at : (path : List ℕ) (entries : List Loaded) (place : ℕ) (entry : Loaded) → slice_get entries place ≡ Some entry → slice_index (map (entry_rank path) entries) place ≡ entry_rank path entry
rank-at path entries place entry at =
    get_or-map (entry_rank path) entries place entry 0 (slice_get_within entries place entry at) ∙ ap (entry_rank path) (get_or_from_slice_get entries place entry entry at)

rank-within : (path : List ℕ) (entries : List Loaded) (place : ℕ) (entry : Loaded) → slice_get entries place ≡ Some entry → place < length (map (entry_rank path) entries)
rank-within path entries place entry at = subst (λ n. place < n) (sym (length-map entries (entry_rank path))) (slice_get_within entries place entry at)

module _ (law : RankLaw) where
  -- the entry that is attached fits best
  pub attached-holds : (path : List ℕ) (entries : List Loaded) (entry : Loaded) → attached path entries ≡ Some entry → FitsBest path entries entry
  attached-holds path entries entry holds = by (standing_out (map (entry_rank path) entries)) refl holds
    where
      by : (found : Option ℕ) → standing_out (map (entry_rank path) entries) ≡ found → option_and_then (slice_get entries) found ≡ Some entry → FitsBest path entries entry
      by None is at = absurd (cc)
      by (Some place) is at =
          let out = (law (map (entry_rank path) entries) place).0 is in (
            there-at entries place entry at,
            subst (λ n. 0 < n) (rank-at path entries place entry at) out.1,
            λ other there differ.
                let lower = out.2 there.0 (rank-within path entries there.0 other (at-there entries other there)) (λ same.
                let equal : Some other ≡ Some entry = sym (at-there entries other there) ∙ ap (slice_get entries) same ∙ at in
                let is : other ≡ entry = cc in
                let named = (bytes_eq-Decides other.profile.name entry.profile.name).1 (ap (λ (e : Loaded). e.profile.name) is) in
                absurd (cc)) in
                let high = rank-at path entries place entry at in
                let low = rank-at path entries there.0 other (at-there entries other there) in
                omega arith,
          )

  -- and what fits best is attached
  pub attached-from : (path : List ℕ) (entries : List Loaded) (entry : Loaded) → HaveDistinctNames entries → FitsBest path entries entry → attached path entries ≡ Some entry
  attached-from path entries entry distinct (there, above, others) =
      let at = at-there entries entry there in
      let high = rank-at path entries there.0 entry at in
      let out = (law (map (entry_rank path) entries) there.0).1 (rank-within path entries there.0 entry at, omega arith, lower) in
      rw out at
    where
      lower : (other : ℕ) → other < length (map (entry_rank path) entries) → other ≢ there.0
          → slice_index (map (entry_rank path) entries) other < slice_index (map (entry_rank path) entries) there.0
      lower place within apart =
          let inside : place < length entries = subst (λ n. place < n) (length-map entries (entry_rank path)) within in
          let other = slice_index_or entries place entry in
          let at = slice_get-get_or entries place entry inside in
          let high = rank-at path entries there.0 entry (at-there entries entry there) in
          let low = rank-at path entries place (slice_index_or entries place entry) at in
          let less = others (slice_index_or entries place entry) (there-at entries place (slice_index_or entries place entry) at) (differ (bytes_eq (slice_index_or entries place entry).profile.name entry.profile.name) refl at) in
          omega arith
        where
          differ : (b : Bool) → bytes_eq (slice_index_or entries place entry).profile.name entry.profile.name ≡ b → slice_get entries place ≡ Some (slice_index_or entries place entry)
              → bytes_eq (slice_index_or entries place entry).profile.name entry.profile.name ≡ false
          differ false e at = e
          differ true e at =
              absurd (apart (one-place entries distinct place there.0 (slice_index_or entries place entry) entry at (at-there entries entry there)
              ((bytes_eq-Decides (slice_index_or entries place entry).profile.name entry.profile.name).0 e)))

  -- what fits best among some does among the same in another order
  fits-same : (path : List ℕ) (entries others : List Loaded) (entry : Loaded) → HaveSameEntries entries others → FitsBest path entries entry → FitsBest path others entry
  fits-same path entries others entry same (there, above, lower) = (same.0 entry there, above, λ other inside differ. lower other (same.1 other inside) differ)

  pub attached-order : (path : List ℕ) (entries others : List Loaded) → DifferInOrder entries others → attached path entries ≡ attached path others
  attached-order path entries others (distinct, apart, same) = by (attached path entries) refl (attached path others) refl
    where
      by : (one : Option Loaded) → attached path entries ≡ one → (other : Option Loaded) → attached path others ≡ other → one ≡ other
      by None e None f = refl
      by (Some one) e other f = sym (attached-from path others one apart (fits-same path entries others one same (attached-holds path entries one e))) ∙ f
      by None e (Some other) f = sym e ∙ attached-from path entries other distinct (fits-same path others entries other (same.1, same.0) (attached-holds path others other f))
