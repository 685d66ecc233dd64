-- Going to marks, and what steps leave of them.
use Rattle.std.proofs.Common.{◌≡◌, ◌≢◌, ℕ, ◌+◌, ◌-◌, ◌<◌, ◌≤◌, leb, ltb, Bool, true, false, cond, true≢false, List, [], ◌∷◌, ◌++◌, length, take, drop, Option, None, Some, is_some, refl, sym, ap, subst, ◌∙◌, arith, append_assoc, take-append-drop}
use Rattle.std.proofs.lemmas.Bool.{false_from_ne_true, le-leb, leb-true, ltb-false, ltb-true}
use Rattle.std.proofs.lemmas.List.{length-map, length_push, length-take-le, take-append-le, take_at}
use Rattle.std.proofs.lemmas.Option.{same_Some}
use Rattle.std.proofs.lemmas.Slice.Eq.{bytes_eq-Decides}
use Rattle.std.specs.Map.{lookup}
use Rattle.std.specs.Str.{bytes_eq}
use Rattle.aa_history.specs.Machine.{AreUpTo, Machine, MarksItsSets, accepted, all_sets, can_go_back, can_go_on, gone_back, gone_on, gone_to, gone_to_mark, gone_to_number, gone_where, mapped, marked, standing_at, up_to, with_mark, with_number}
use Rattle.aa_history.specs.MarkLaws.{Accept, Mark, MarkIsMapped, MarkIsReached, MarkKeepsAll, MarkLeadsBack, MarkTwiceIsOnce, MarkedIsMapped, NewMarkIsOfNow, NewMarkLeavesOthers, Redo, Return, SameMarksLeadToOne, Spares, SparesThroughout, StartedMarksItsSets, Step, StepsMarkTheirSets, ToMarkIsMapped, Undo, run, stepped}
use Rattle.aa_history.proofs.MachineLemmas.{all_sets-standing, back_keeps, length-all_sets, none_on, on_keeps, same_marks, standing_between, there}
use Rattle.aa_history.proofs.MappedLemmas.{to_is_mapped}
use Rattle.aa_history.proofs.MarkLemmas.{found_within, up_to-within, with_number-within, within_more}

-- a name is the same as itself
same_name : (name : List ℕ) → bytes_eq name name ≡ true
same_name name = (bytes_eq-Decides name name).1 refl

-- a name has the number that was set
set-found : (name : List ℕ) (number : ℕ) (marks : List (List ℕ × ℕ)) → lookup (λ other. bytes_eq other name) (with_number name number marks) ≡ Some number
set-found name number [] = ap (λ test. cond test (Some number) None) (same_name name)
set-found name number (mark ∷ marks) = by (set-found name number marks) (bytes_eq mark.0 name) refl
  where
    by : lookup (λ other. bytes_eq other name) (with_number name number marks) ≡ Some number → (test : Bool) → bytes_eq mark.0 name ≡ test
        → lookup (λ other. bytes_eq other name) (cond test ((name, number) ∷ marks) (mark ∷ with_number name number marks)) ≡ Some number
    by rest true e = ap (λ test. cond test (Some number) (lookup (λ other. bytes_eq other name) marks)) (same_name name)
    by rest false e = ap (λ test. cond test (Some mark.1) (lookup (λ other. bytes_eq other name) (with_number name number marks))) e ∙ rest

-- a name is another than one that differs
other_name : (name other : List ℕ) → other ≢ name → bytes_eq name other ≡ false
other_name name other h = false_from_ne_true (bytes_eq name other) (λ e. h (sym ((bytes_eq-Decides name other).0 e)))

-- other names have the numbers that they had
set-others : (name other : List ℕ) (number : ℕ) (marks : List (List ℕ × ℕ)) → other ≢ name
    → lookup (λ key. bytes_eq key other) (with_number name number marks) ≡ lookup (λ key. bytes_eq key other) marks
set-others name other number [] h = ap (λ test. cond test (Some number) None) (other_name name other h)
set-others name other number (mark ∷ marks) h = by (set-others name other number marks h) (bytes_eq mark.0 name) refl
  where
    by : lookup (λ key. bytes_eq key other) (with_number name number marks) ≡ lookup (λ key. bytes_eq key other) marks → (test : Bool) → bytes_eq mark.0 name ≡ test
        → lookup (λ key. bytes_eq key other) (cond test ((name, number) ∷ marks) (mark ∷ with_number name number marks)) ≡ lookup (λ key. bytes_eq key other) (mark ∷ marks)
    by rest true e =
        let is : mark.0 ≡ name = (bytes_eq-Decides mark.0 name).0 e in
        ap (λ test. cond test (Some number) (lookup (λ key. bytes_eq key other) marks)) (other_name name other h)
        ∙ sym (ap (λ test. cond test (Some mark.1) (lookup (λ key. bytes_eq key other) marks)) (ap (λ key. bytes_eq key other) is ∙ other_name name other h))
    by rest false e = ap (cond (bytes_eq mark.0 other) (Some mark.1)) rest

-- a name whose number isn't above another has it still where those above that are dropped
left-found : (test : List ℕ → Bool) (number most : ℕ) (marks : List (List ℕ × ℕ)) → lookup test marks ≡ Some number → number ≤ most
    → lookup test (up_to most marks) ≡ Some number
left-found test number most [] e h = e
left-found test number most (mark ∷ marks) e h = by (λ rest. left-found test number most marks rest h) (test mark.0) (leb mark.1 most) refl refl e
  where
    by : (lookup test marks ≡ Some number → lookup test (up_to most marks) ≡ Some number) → (found kept : Bool) → test mark.0 ≡ found → leb mark.1 most ≡ kept
        → cond found (Some mark.1) (lookup test marks) ≡ Some number → lookup test (cond kept (mark ∷ up_to most marks) (up_to most marks)) ≡ Some number
    by rest true true e f is = ap (λ found. cond found (Some mark.1) (lookup test (up_to most marks))) e ∙ is
    by rest true false e f is =
        let same : mark.1 ≡ number = same_Some mark.1 number is in
        absurd (true≢false (sym (le-leb mark.1 most (omega (arith, same, h))) ∙ f))
    by rest false true e f is = ap (λ found. cond found (Some mark.1) (lookup test (up_to most marks))) e ∙ rest is
    by rest false false e f is = rest is

-- going by the difference is going to the place
to_number : {S : Type 0} (number : ℕ) (m : Machine S) → gone_to_number number m ≡ gone_to number m
to_number number m = by (ltb number (length m.earlier)) (ltb (length m.earlier) number) refl refl
  where
    by : (less more : Bool) → ltb number (length m.earlier) ≡ less → ltb (length m.earlier) number ≡ more
        → cond less (gone_back (length m.earlier - number) m) (cond more (gone_on (number - length m.earlier) m) m) ≡ gone_to number m
    by true more e f = let h = ltb-true number (length m.earlier) e in ap (λ place. gone_to place m) (omega (arith, h))
    by false true e f = let h = ltb-true (length m.earlier) number f in ap (λ place. gone_to place m) (omega (arith, h))
    by false false e f =
        let h = ltb-false number (length m.earlier) e in
        let k = ltb-false (length m.earlier) number f in
        sym (none_on m) ∙ ap (λ place. gone_to place m) (omega (arith, h, k))

-- going to a name that has a number, and to one that has none
to_mark : {S : Type 0} (name : List ℕ) (m : Machine S) (number : ℕ) → marked name m ≡ Some number → gone_to_mark name m ≡ gone_to number m
to_mark name m number e = ap (λ found. gone_where found m) e ∙ to_number number m

to_none : {S : Type 0} (name : List ℕ) (m : Machine S) → marked name m ≡ None → gone_to_mark name m ≡ m
to_none name m e = ap (λ found. gone_where found m) e

-- a mark is of one of all sets
place_within : {S : Type 0} (name : List ℕ) (m : Machine S) (number : ℕ) → MarksItsSets m → marked name m ≡ Some number → number < length (all_sets m)
place_within name m number h e =
    let within = found_within (length m.earlier + length m.later) (λ other. bytes_eq other name) m.marks number h e in
    let all = length-all_sets m in
    omega (arith, within, all)

-- going to a number that there is keeps all sets
pub number_keeps : {S : Type 0} (number : ℕ) (m : Machine S) → number ≤ length m.earlier + length m.later → all_sets (gone_to_number number m) ≡ all_sets m
number_keeps number m h =
    let all = length-all_sets m in
    ap all_sets (to_number number m) ∙ all_sets-standing number (all_sets m) m.now m.marks (omega (arith, h, all))

pub mark_of_now : {S : Type 0} → NewMarkIsOfNow S
mark_of_now name m = set-found name (length m.earlier) m.marks

pub mark_of_others : {S : Type 0} → NewMarkLeavesOthers S
mark_of_others name other m h = set-others name other (length m.earlier) m.marks h

pub same_marks_lead_to_one : {S : Type 0} → SameMarksLeadToOne S
same_marks_lead_to_one name other m e = ap (λ found. gone_where found m) e

pub started_marks : {S : Type 0} → StartedMarksItsSets S
started_marks set = tt

pub mark_keeps : {S : Type 0} → MarkKeepsAll S
mark_keeps name m h = by (marked name m) refl
  where
    by : (found : Option ℕ) → marked name m ≡ found → (all_sets (gone_to_mark name m) ≡ all_sets m) × ((gone_to_mark name m).marks ≡ m.marks)
    by None e = (ap all_sets (to_none name m e), ap (λ machine. machine.marks) (to_none name m e))
    by (Some number) e = (
      ap all_sets (to_mark name m number e) ∙ all_sets-standing number (all_sets m) m.now m.marks (place_within name m number h e),
      ap (λ machine. machine.marks) (to_mark name m number e),
    )

pub mark_reached : {S : Type 0} → MarkIsReached S
mark_reached name number m h e =
    let within = place_within name m number h e in
    ap (λ machine. length machine.earlier) (to_mark name m number e) ∙ length-take-le number (all_sets m) (omega (arith, within))

pub mark_twice : {S : Type 0} → MarkTwiceIsOnce S
mark_twice name m h = by (marked name m) refl
  where
    by : (found : Option ℕ) → marked name m ≡ found → gone_to_mark name (gone_to_mark name m) ≡ gone_to_mark name m
    by None e = ap (gone_to_mark name) (to_none name m e)
    by (Some number) e =
        let within = place_within name m number h e in
        ap (gone_to_mark name) (to_mark name m number e)
        ∙ to_mark name (gone_to number m) number e
        ∙ there number number m within within
        ∙ sym (to_mark name m number e)

-- as many sets have room for the same marks
same_sets : {S : Type 0} (a b : Machine S) → all_sets a ≡ all_sets b → a.marks ≡ b.marks → MarksItsSets b → MarksItsSets a
same_sets a b sets marks h =
    let one = length-all_sets a in
    let other = length-all_sets b in
    let size : length b.earlier + length b.later ≡ length a.earlier + length a.later = omega (arith, one, other, ap length sets) in
    subst (λ marks. AreUpTo (length a.earlier + length a.later) marks) (sym marks) (subst (λ most. AreUpTo most b.marks) size h)

-- each step keeps its marks of sets that it has
step_marks : {S : Type 0} (m : Machine S) (step : Step S) → MarksItsSets m → MarksItsSets (stepped m step)
step_marks m (Accept set) h =
    let longer = length_push m.earlier m.now in
    within_more (length m.earlier) (length (accepted m set).earlier + 0) (up_to (length m.earlier) m.marks) (omega (arith, longer)) (up_to-within (length m.earlier) m.marks)
step_marks m (Undo n) h = by (can_go_back n m) refl
  where
    by : (can : Bool) → can_go_back n m ≡ can → MarksItsSets (cond can (gone_back n m) m)
    by true e = same_sets (gone_back n m) m (back_keeps n m (leb-true n (length m.earlier) e)) refl h
    by false e = h
step_marks m (Redo n) h = by (can_go_on n m) refl
  where
    by : (can : Bool) → can_go_on n m ≡ can → MarksItsSets (cond can (gone_on n m) m)
    by true e = same_sets (gone_on n m) m (on_keeps n m (leb-true n (length m.later) e)) refl h
    by false e = h
step_marks m (Mark name) h = with_number-within (length m.earlier + length m.later) name (length m.earlier) m.marks h (omega arith)
step_marks m (Return name) h = let keeps = mark_keeps name m h in same_sets (gone_to_mark name m) m keeps.0 keeps.1 h

pub run_marks : {S : Type 0} → StepsMarkTheirSets S
run_marks m [] h = h
run_marks m (step ∷ steps) h = run_marks (stepped m step) steps (step_marks m step h)

-- the name marks a set of a machine, and the sets up to that are those of another machine up to its set now
record Leads {S : Type 0} (name : List ℕ) (base m : Machine S) : Type 0 where
  is : marked name m ≡ Some (length base.earlier)
  sets : take (length base.earlier + 1) (all_sets m) ≡ base.earlier ++ base.now ∷ []
  marks : MarksItsSets m

-- the same sets and marks lead as well
leads_same : {S : Type 0} (name : List ℕ) (base m n : Machine S) → all_sets n ≡ all_sets m → n.marks ≡ m.marks → Leads name base m → Leads name base n
leads_same name base m n sets marks h =
    record {
      is = ap (lookup (λ other. bytes_eq other name)) marks ∙ h.is;
      sets = ap (take (length base.earlier + 1)) sets ∙ h.sets;
      marks = same_sets n m sets marks h.marks;
    }

-- a step that spares the mark
leads_step : {S : Type 0} (name : List ℕ) (base m : Machine S) (step : Step S) → Leads name base m → Spares name (length base.earlier) m step → Leads name base (stepped m step)
leads_step name base m (Accept set) h spares =
    let longer = length_push m.earlier m.now in
    let size = length base.earlier + 1 in
    record {
      is = left-found (λ other. bytes_eq other name) (length base.earlier) (length m.earlier) m.marks h.is spares;
      sets = take-append-le size (m.earlier ++ m.now ∷ []) (set ∷ []) (omega (arith, longer, spares))
          ∙ sym (take-append-le size (m.earlier ++ m.now ∷ []) m.later (omega (arith, longer, spares)))
          ∙ ap (take size) (append_assoc m.earlier (m.now ∷ []) m.later)
          ∙ h.sets;
      marks = step_marks m (Accept set) h.marks;
    }
leads_step name base m (Undo n) h spares = by (can_go_back n m) refl
  where
    by : (can : Bool) → can_go_back n m ≡ can → Leads name base (cond can (gone_back n m) m)
    by true e = leads_same name base m (gone_back n m) (back_keeps n m (leb-true n (length m.earlier) e)) refl h
    by false e = h
leads_step name base m (Redo n) h spares = by (can_go_on n m) refl
  where
    by : (can : Bool) → can_go_on n m ≡ can → Leads name base (cond can (gone_on n m) m)
    by true e = leads_same name base m (gone_on n m) (on_keeps n m (leb-true n (length m.later) e)) refl h
    by false e = h
leads_step name base m (Mark other) h spares =
    record {
      is = set-others other name (length m.earlier) m.marks (λ same. spares (sym same)) ∙ h.is;
      sets = h.sets;
      marks = step_marks m (Mark other) h.marks;
    }
leads_step name base m (Return other) h spares = let keeps = mark_keeps other m h.marks in leads_same name base m (gone_to_mark other m) keeps.0 keeps.1 h

-- steps that spare the mark
leads_run : {S : Type 0} (name : List ℕ) (base m : Machine S) (steps : List (Step S)) → Leads name base m → SparesThroughout name (length base.earlier) m steps → Leads name base (run m steps)
leads_run name base m [] h spares = h
leads_run name base m (step ∷ steps) h spares = leads_run name base (stepped m step) steps (leads_step name base m step h spares.0) spares.1

-- where the name leads
led : {S : Type 0} (name : List ℕ) (base m : Machine S) → Leads name base m
    → gone_to_mark name m ≡ record base { later = drop (length base.earlier + 1) (all_sets m); marks = m.marks }
led name base m h =
    let place = length base.earlier in
    let further = drop (place + 1) (all_sets m) in
    let split : all_sets m ≡ base.earlier ++ base.now ∷ further =
    sym (take-append-drop (place + 1) (all_sets m)) ∙ ap (λ front. front ++ further) h.sets ∙ append_assoc base.earlier (base.now ∷ []) further in
    to_mark name m place h.is
    ∙ ap (λ sets. standing_at place sets m.now m.marks) split
    ∙ standing_between base.earlier base.now further place m.now m.marks refl

pub leads_back : {S : Type 0} → MarkLeadsBack S
leads_back {S} name m steps h spares =
    let base : Machine S = with_mark name m in
    let start : Leads name base base =
    record {
      is = mark_of_now name m;
      sets = ap (take (length m.earlier + 1)) (sym (append_assoc m.earlier (m.now ∷ []) m.later))
          ∙ take_at (m.earlier ++ m.now ∷ []) m.later (length m.earlier + 1) (length_push m.earlier m.now);
      marks = step_marks m (Mark name) h;
    } in
    let leads = leads_run name base base steps start spares in
    let is = led name base (run base steps) leads in
    (ap (λ found. is_some found) leads.is, ap (λ machine. machine.now) is, ap (λ machine. machine.earlier) is)

pub marked_is_mapped : {S T : Type 0} → MarkedIsMapped S T
marked_is_mapped f name m = refl

pub mark_is_mapped : {S T : Type 0} → MarkIsMapped S T
mark_is_mapped f name m = same_marks (mapped f m) (ap (λ size. with_number name size m.marks) (sym (length-map m.earlier f)))

pub to_mark_is_mapped : {S T : Type 0} → ToMarkIsMapped S T
to_mark_is_mapped f name m = by (marked name m) refl
  where
    by : (found : Option ℕ) → marked name m ≡ found → mapped f (gone_to_mark name m) ≡ gone_to_mark name (mapped f m)
    by None e = ap (mapped f) (to_none name m e) ∙ sym (to_none name (mapped f m) e)
    by (Some number) e = ap (mapped f) (to_mark name m number e) ∙ to_is_mapped f number m ∙ sym (to_mark name (mapped f m) number e)
