-- Policy sets that are alike attach a path to the profile of one name, and to the child of one name.
use Rattle.std.proofs.Common.{◌≡◌, ℕ, zero, suc, ◌<◌, true, false, List, [], ◌∷◌, length, map, Option, None, Some, refl, sym, ap, subst, ◌∙◌, arith}
use Rattle.std.specs.Prelude.{◌≢◌, ◌↔◌, slice_get, slice_index}
use Rattle.std.specs.List.{Contains}
use Rattle.std.specs.Option.{option_map}
use Rattle.std.specs.Str.{bytes_eq}
use Rattle.std.proofs.lemmas.List.{length-map}
use Rattle.std.proofs.lemmas.Option.{slice_get_within}
use Rattle.aa_decide.specs.Attachment.{attached, attached_child}
use Rattle.aa_decide.specs.Exec.{entry_asker}
use Rattle.aa_decide.specs.ExecLaws.{FitsBest, HaveDistinctNames}
use Rattle.aa_decide_rules.specs.RankLaws.{StandsOut}
use Rattle.aa_decide_rules.specs.Ranks.{best_rank}
use Rattle.aa_decide_rules.specs.StandingOut.{standing_out}
use Rattle.aa_decide_ready.specs.Entries.{Loaded}
use Rattle.aa_decide_ready.specs.Named.{entry_named}
use Rattle.aa_decide_ready.specs.Visits.{attachments_at, child_attachments}
use Rattle.aa_explain.proofs.NamedLemmas.{named-is, named-there, placed-is, placed-there}
use Rattle.aa_explain.proofs.PatternLemmas.{same-rank}
use Rattle.aa_explain.proofs.TwinLemmas.{child_at, itself, policies-back, same-entry-rank, twin-entry}
use Rattle.aa_explain.specs.AlikePolicies.{AreAlikePolicies, AreConfinedAlike, AreThereAlike}
use Rattle.aa_profile_data.specs.Profile.{are_distinct_children, child_place}
use Rattle.aa_profile_data.specs.declared.profile.Child.{Child}

-- what is told of the best fit: of entries of different names, one is attached exactly where it fits best
abbrev pub FitLaw : Type 0
FitLaw =
    (path : List ℕ) (entries : List Loaded) (entry : Loaded)
    → HaveDistinctNames entries → (attached path entries ≡ Some entry) ↔ FitsBest path entries entry

-- and of ranks: a place stands out exactly where its rank is above 0 and those at all others are lower
abbrev pub RankLaw : Type 0
RankLaw = (ranks : List ℕ) (place : ℕ) → (standing_out ranks ≡ Some place) ↔ StandsOut ranks place

module _ (law : FitLaw) where
  module _ (path : List ℕ) (entries others : List Loaded) (alike : AreAlikePolicies entries others) where
    -- where an entry fits best, so does the one of its name
    fits-twin : (one other : Loaded) → one.profile.name ≡ other.profile.name → Contains others other → AreConfinedAlike (itself one) (itself other)
        → FitsBest path entries one → FitsBest path others other
    fits-twin one other named there confined (here, above, lower) = (
      there,
      subst (λ rank. 0 < rank) (same-entry-rank path one other confined) above,
      λ rival inside apart.
          let found_rival = named-there others rival alike.other_names.0 inside in
          let (twin, found, rivals) = twin-entry others entries (policies-back entries others alike) rival.profile.name rival found_rival in
          let (own, same) = named-is rival.profile.name entries twin found in
          let differ : bytes_eq twin.profile.name one.profile.name ≡ false = (λ i. bytes_eq (same i) (named i)) ∙ apart in
          let less = lower twin own differ in
          let low = same-entry-rank path rival twin rivals in
          let high = same-entry-rank path one other confined in
          omega arith,
    )

    -- the profile that is attached is the one of the same name
    pub attached-twin : (one : Loaded) → attached path entries ≡ Some one
        → (other : Loaded) × (attached path others ≡ Some other)
        × (entry_named one.profile.name entries ≡ Some one) × (entry_named one.profile.name others ≡ Some other)
    attached-twin one holds =
        let fits = (law path entries one alike.names.0).0 holds in
        let here = named-there entries one alike.names.0 fits.0 in
        let (other, found, confined) = twin-entry entries others alike one.profile.name one here in
        let (there, named) = named-is one.profile.name others other found in
        (other, (law path others other alike.other_names.0).1 (fits-twin one other (sym named) there confined fits), here, found)

-- what stands within a list
some-at : {X : Type 0} (xs : List X) (place : ℕ) → place < length xs → (x : X) × (slice_get xs place ≡ Some x)
some-at [] place within = absurd (omega arith)
some-at (x ∷ xs) zero within = (x, refl)
some-at (x ∷ xs) (suc place) within = some-at xs place (omega arith)

-- the rank of the child or hat at a place
abbrev pub rank_at : List ℕ → Loaded → ℕ → ℕ
rank_at path entry place = best_rank path (attachments_at entry.profile (Some place))

abbrev pub ranks_of : List ℕ → List Child → List ℕ
ranks_of path children = map (λ child. best_rank path child.attachments) children

length-ranks : (path : List ℕ) (children : List Child) → length (ranks_of path children) ≡ length children
length-ranks path children = length-map children (λ child. best_rank path child.attachments)

index-rank : (path : List ℕ) (children : List Child) (place : ℕ) → place < length children
    → slice_index (ranks_of path children) place ≡ best_rank path (child_attachments (slice_get children place))
index-rank path [] place within = absurd (omega arith)
index-rank path (child ∷ children) zero within = refl
index-rank path (child ∷ children) (suc place) within = index-rank path children place (omega arith)

-- those that are confined alike have one rank
same-child-rank : (path : List ℕ) (one other : Loaded) (place spot : ℕ) → AreConfinedAlike (child_at one place) (child_at other spot)
    → rank_at path one place ≡ rank_at path other spot
same-child-rank path one other place spot alike =
    same-rank path (attachments_at one.profile (Some place)) (attachments_at other.profile (Some spot)) alike.attachments

-- where both have a child or hat of a name, that of the one has its place, and that of the other too
place-twin : (one other : Loaded) (child : List ℕ) (place : ℕ) → AreThereAlike (entry_asker (Some child) one) (entry_asker (Some child) other)
    → child_place child one.profile.children ≡ Some place
    → (spot : ℕ) × (child_place child other.profile.children ≡ Some spot) × AreConfinedAlike (child_at one place) (child_at other spot)
place-twin one other child place alike at =
    by (child_place child other.profile.children) refl
    (subst (λ found. AreThereAlike (option_map (child_at one) found) (entry_asker (Some child) other)) at alike)
  where
    by : (found : Option ℕ) → child_place child other.profile.children ≡ found
        → AreThereAlike (Some (child_at one place)) (option_map (child_at other) found)
        → (spot : ℕ) × (child_place child other.profile.children ≡ Some spot) × AreConfinedAlike (child_at one place) (child_at other spot)
    by None e alike = absurd alike
    by (Some spot) e alike = (spot, e, alike)

module _ (law : RankLaw) (path : List ℕ) (one other : Loaded)
    (apart : are_distinct_children one.profile.children ≡ true) (other_apart : are_distinct_children other.profile.children ≡ true)
    (there : (child : List ℕ) → AreThereAlike (entry_asker (Some child) one) (entry_asker (Some child) other))
    (back : (child : List ℕ) → AreThereAlike (entry_asker (Some child) other) (entry_asker (Some child) one)) where
  -- the child that is attached is the one of the same name
  pub child-twin : (place : ℕ) → attached_child path one.profile.children ≡ Some place
      → (child : List ℕ) × (spot : ℕ) × (attached_child path other.profile.children ≡ Some spot)
      × (child_place child one.profile.children ≡ Some place) × (child_place child other.profile.children ≡ Some spot)
  child-twin place holds =
      let (inside, above, lower) = (law (ranks_of path one.profile.children) place).0 holds in
      let within : place < length one.profile.children = subst (λ n. place < n) (length-ranks path one.profile.children) inside in
      let (child, at) = some-at one.profile.children place within in
      let here = placed-there one.profile.children place child apart at in
      let (spot, found, confined) = place-twin one other child.name place (there child.name) here in
      let (named, stands, same) = placed-is child.name other.profile.children spot found in
      let own = index-rank path one.profile.children place within in
      let ranks = same-child-rank path one other place spot confined in
      let outside : spot < length other.profile.children = slice_get_within other.profile.children spot named stands in
      let theirs = index-rank path other.profile.children spot outside in
      let more : spot < length (ranks_of path other.profile.children) = subst (λ n. spot < n) (sym (length-ranks path other.profile.children)) outside in
      let below = rival child.name place spot within outside here found own theirs ranks lower in
      (child.name, spot, (law (ranks_of path other.profile.children) spot).1 (more, omega arith, below), here, found)
    where
      rival : (child : List ℕ) (place spot : ℕ) → place < length one.profile.children → spot < length other.profile.children
          → child_place child one.profile.children ≡ Some place → child_place child other.profile.children ≡ Some spot
          → slice_index (ranks_of path one.profile.children) place ≡ rank_at path one place
          → slice_index (ranks_of path other.profile.children) spot ≡ rank_at path other spot
          → rank_at path one place ≡ rank_at path other spot
          → ((k : ℕ) → k < length (ranks_of path one.profile.children) → k ≢ place
          → slice_index (ranks_of path one.profile.children) k < slice_index (ranks_of path one.profile.children) place)
          → (k : ℕ) → k < length (ranks_of path other.profile.children) → k ≢ spot
          → slice_index (ranks_of path other.profile.children) k < slice_index (ranks_of path other.profile.children) spot
      rival child place spot within outside here found own theirs ranks lower k inside differ =
          let reach : k < length other.profile.children = subst (λ n. k < n) (length-ranks path other.profile.children) inside in
          let (they, at) = some-at other.profile.children k reach in
          let stands = placed-there other.profile.children k they other_apart at in
          let (twin, is, confined) = place-twin other one they.name k (back they.name) stands in
          let (own_twin, twin_at, named) = placed-is they.name one.profile.children twin is in
          let close : twin < length one.profile.children = slice_get_within one.profile.children twin own_twin twin_at in
          let wide : twin < length (ranks_of path one.profile.children) = subst (λ n. twin < n) (sym (length-ranks path one.profile.children)) close in
          let less = lower twin wide (apart_from they.name twin own_twin is named twin_at stands) in
          let first = index-rank path one.profile.children twin close in
          let second = index-rank path other.profile.children k reach in
          let equal = same-child-rank path other one k twin confined in
          omega arith
        where
          apart_from : (name : List ℕ) (twin : ℕ) (own_twin : Child) → child_place name one.profile.children ≡ Some twin
              → own_twin.name ≡ name → slice_get one.profile.children twin ≡ Some own_twin
              → child_place name other.profile.children ≡ Some k → twin ≢ place
          apart_from name twin own_twin is named twin_at stands same =
              let (first, first_at, first_named) = placed-is child one.profile.children place here in
              let one_child : Some own_twin ≡ Some first = sym twin_at ∙ ap (slice_get one.profile.children) same ∙ first_at in
              let equal : own_twin ≡ first = cc in
              let names : name ≡ child = sym named ∙ ap (λ (c : Child). c.name) equal ∙ first_named in
              let places : Some k ≡ Some spot = sym stands ∙ ap (λ n. child_place n other.profile.children) names ∙ found in
              let both : k ≡ spot = cc in
              differ both
