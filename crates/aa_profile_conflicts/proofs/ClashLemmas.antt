-- Leads whose patterns clash are those of rules that conflict.
use Rattle.std.proofs.Common.{◌≡◌, ℕ, ◌+◌, ◌<◌, ◌≤◌, List, length, Option, None, Some, Ok, arith, ap, sym, subst, ◌∙◌}
use Rattle.std.specs.Prelude.{slice_get}
use Rattle.std.specs.Option.{option_map}
use Rattle.std.proofs.lemmas.List.{length-map}
use Rattle.std.proofs.lemmas.List.Elements.{All-contains, All-nil}
use Rattle.std.proofs.lemmas.Option.{get_or_from_slice_get, slice_get_within}
use Rattle.aa_glob.specs.Automata.{AreRead, IsAutomatonOf}
use Rattle.aa_glob_nfa.specs.Graphs.{Graph}
use Rattle.aa_glob_pattern.specs.Laws.{OverlapsAreTested}
use Rattle.aa_glob_pairs.specs.Clashes.{IsLeast}
use Rattle.aa_glob_syntax.specs.Overlap.{ClashesAmong, Overlap}
use Rattle.aa_glob_syntax.specs.Reading.{items_of, reading}
use Rattle.aa_profile_conflicts.proofs.ClassLemmas.{classes-of-same, have-length, same-of-classes, same-of-few}
use Rattle.aa_profile_conflicts.proofs.PlacedLemmas.{lead-at, pattern-at, placed-at, placed-complete, placed-no-later, placed-order, placed-rise, placed-sound}
use Rattle.aa_profile_conflicts.specs.Classes.{AreClassesBy}
use Rattle.aa_profile_conflicts.specs.Conflicting.{ConflictsAt}
use Rattle.aa_profile_conflicts.specs.Leads.{Placed, leads, patterns_by, place_of, placed_from}
use Rattle.aa_profile_data.proofs.ConflictLemmas.{by-test}
use Rattle.aa_profile_data.specs.Conflicts.{Lead, same_transition}
use Rattle.aa_profile_data.specs.declared.profile.Rank.{Rank}
use Rattle.aa_profile_data.specs.declared.profile.Rule.{Rule}
use Rattle.aa_profile_data.specs.declared.profile.Transition.{Transition}

-- the patterns of an automaton are read
pub automaton-read : (automaton : Option Graph) (patterns : List (List ℕ)) → IsAutomatonOf automaton patterns → AreRead patterns
automaton-read None patterns none = rw none (All-nil (λ text. reading text ≡ Ok (items_of text)))
automaton-read (Some g) patterns graph = graph.read

overlap-sym : (one other : List ℕ) → Overlap one other → Overlap other one
overlap-sym one other (path, bytes, first, second) = (path, bytes, second, first)

module _ (rank : Rank) (rules : List Rule) (transitions : List Transition) (classes : List ℕ) (are : AreClassesBy (leads rank rules) transitions classes) where
  -- no two rules conflict where there are fewer than two transitions
  pub few-none : length transitions < 2 → IsLeast None (ConflictsAt rank rules)
  few-none few = λ place h.
      let other = h.conflict.here in
      let one = h.conflict.there in
      let (j, at) = placed-complete rank 0 rules h.before h.one one h.one_there h.conflict.leads_there in
      let (k, there) = placed-complete rank 0 rules place h.other other h.other_there h.conflict.leads_here in
      let same =
      same-of-few (leads rank rules) transitions classes are k j other one
      (lead-at rank rules k (record { place = 0 + place; lead = other }) there) (lead-at rank rules j (record { place = 0 + h.before; lead = one }) at) few in
      let apart = h.conflict.differ in
      absurd (cc)

  -- there is a class for each pattern
  pub patterns-classed : length (patterns_by rank rules) ≤ length classes
  patterns-classed =
      let count = length-map (leads rank rules) (λ (lead : Lead). lead.pattern) in
      let same = have-length transitions (leads rank rules) classes are.have in
      omega (arith, count, same)

  module _ (law : OverlapsAreTested) (read : AreRead (patterns_by rank rules)) where
    reads : (k : ℕ) (pattern : List ℕ) → slice_get (patterns_by rank rules) k ≡ Some pattern → reading pattern ≡ Ok (items_of pattern)
    reads k pattern at =
        All-contains (λ text. reading text ≡ Ok (items_of text)) (patterns_by rank rules) pattern read
        (k, slice_get_within (patterns_by rank rules) k pattern at, get_or_from_slice_get (patterns_by rank rules) k pattern pattern at)

    -- a lead whose pattern clashes with an earlier one is that of a rule that conflicts with an earlier one
    clash-conflict : (k : ℕ) (q : Placed) → slice_get (placed_from rank 0 rules) k ≡ Some q → ClashesAmong (patterns_by rank rules) classes k → ConflictsAt rank rules q.place
    clash-conflict k q there h =
        let (p, at, same) = placed-at rank rules h.before h.one h.one_there in
        let (q_at, q_is, q_rule, q_there, q_leads) = placed-sound rank 0 rules k q there in
        let (p_at, p_is, p_rule, p_there, p_leads) = placed-sound rank 0 rules h.before p at in
        let pattern : slice_get (patterns_by rank rules) k ≡ Some q.lead.pattern = pattern-at rank rules k q there in
        let known = h.other_there in
        let also : h.other ≡ q.lead.pattern = cc in
        let rise = placed-rise rank 0 rules h.before k p q at there h.earlier in
        record {
          before = p.place;
          earlier = rise;
          one = p_rule;
          one_there = (let plain : p.place ≡ p_at = omega arith in ap (slice_get rules) plain ∙ p_there);
          other = q_rule;
          other_there = (let plain : q.place ≡ q_at = omega arith in ap (slice_get rules) plain ∙ q_there);
          conflict = record {
            here = q.lead;
            there = p.lead;
            leads_here = q_leads;
            leads_there = p_leads;
            differ = by-test (same_transition q.lead.transition p.lead.transition)
                (λ equal. h.classes_differ (sym (classes-of-same (leads rank rules) transitions classes are k h.before q.lead p.lead (lead-at rank rules k q there)
                (lead-at rank rules h.before p at) equal)));
            overlap = (law q.lead.pattern p.lead.pattern (reads k q.lead.pattern pattern) (reads h.before p.lead.pattern (pattern-at rank rules h.before p at))).1
                (overlap-sym p.lead.pattern q.lead.pattern
                (subst (λ (text : List ℕ). Overlap text q.lead.pattern) (sym same) (subst (λ (text : List ℕ). Overlap h.one text) also h.overlap)));
          };
        }

    -- and the other way round
    conflict-clash : (place : ℕ) → ConflictsAt rank rules place
        → (k : ℕ) × (q : Placed) × (slice_get (placed_from rank 0 rules) k ≡ Some q) × (q.place ≡ place) × ClashesAmong (patterns_by rank rules) classes k
    conflict-clash place h =
        let other = h.conflict.here in
        let one = h.conflict.there in
        let p : Placed = record { place = 0 + h.before; lead = one } in
        let q : Placed = record { place = 0 + place; lead = other } in
        let (j, at) = placed-complete rank 0 rules h.before h.one one h.one_there h.conflict.leads_there in
        let (k, there) = placed-complete rank 0 rules place h.other other h.other_there h.conflict.leads_here in
        let p_pattern = pattern-at rank rules j p at in
        let q_pattern = pattern-at rank rules k q there in
        let earlier = h.earlier in (
          k,
          q,
          there,
          omega arith,
          record {
            before = j;
            earlier = placed-order rank rules j k p q at there (omega arith);
            one = one.pattern;
            one_there = p_pattern;
            other = other.pattern;
            other_there = q_pattern;
            classes_differ = λ alike.
                let same =
                same-of-classes (leads rank rules) transitions classes are k j other one (lead-at rank rules k q there) (lead-at rank rules j p at) (sym alike) in
                let no = h.conflict.differ in
                absurd (cc);
            overlap = overlap-sym other.pattern one.pattern
                ((law other.pattern one.pattern (reads k other.pattern q_pattern) (reads j one.pattern p_pattern)).0 h.conflict.overlap);
          },
        )

    -- so where no pattern clashes no rule conflicts
    pub none-conflicts : IsLeast None (ClashesAmong (patterns_by rank rules) classes) → IsLeast None (ConflictsAt rank rules)
    none-conflicts least = λ place h. let (k, q, there, is, clash) = conflict-clash place h in least k clash

    -- and the first pattern that clashes is that of the first rule that conflicts
    pub first-conflicts : (k : ℕ) → IsLeast (Some k) (ClashesAmong (patterns_by rank rules) classes)
        → IsLeast (option_map place_of (slice_get (placed_from rank 0 rules) k)) (ConflictsAt rank rules)
    first-conflicts k least =
        let (p, at, same) = placed-at rank rules k (least.0).other (least.0).other_there in
        subst (λ (found : Option ℕ). IsLeast found (ConflictsAt rank rules)) (sym (ap (option_map place_of) at)) (found p at)
      where
        found : (p : Placed) → slice_get (placed_from rank 0 rules) k ≡ Some p → IsLeast (Some p.place) (ConflictsAt rank rules)
        found p at = (
          clash-conflict k p at least.0,
          λ place h.
              let (j, q, there, is, clash) = conflict-clash place h in
              let less = placed-no-later rank rules k j p q at there (least.1 j clash) in
              omega arith,
        )

    -- as it is told
    pub none-told : (found : Option ℕ) (seen : List ℕ) → found ≡ None → seen ≡ classes → IsLeast found (ClashesAmong (patterns_by rank rules) seen)
        → IsLeast None (ConflictsAt rank rules)
    none-told found seen none same least =
        none-conflicts (subst (λ (o : Option ℕ). IsLeast o (ClashesAmong (patterns_by rank rules) classes)) none
        (subst (λ (cs : List ℕ). IsLeast found (ClashesAmong (patterns_by rank rules) cs)) same least))

    pub first-told : (found : Option ℕ) (seen : List ℕ) (k : ℕ) (place : Option ℕ) → found ≡ Some k → seen ≡ classes
        → place ≡ option_map place_of (slice_get (placed_from rank 0 rules) k) → IsLeast found (ClashesAmong (patterns_by rank rules) seen)
        → IsLeast place (ConflictsAt rank rules)
    first-told found seen k place some same is least =
        subst (λ (o : Option ℕ). IsLeast o (ConflictsAt rank rules)) (sym is)
        (first-conflicts k (subst (λ (o : Option ℕ). IsLeast o (ClashesAmong (patterns_by rank rules) classes)) some
        (subst (λ (cs : List ℕ). IsLeast found (ClashesAmong (patterns_by rank rules) cs)) same least)))
