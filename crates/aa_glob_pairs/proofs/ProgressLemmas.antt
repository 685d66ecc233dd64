-- Pair after pair is looked at: at last all that are met were.
use Rattle.std.proofs.Common.{◌≡◌, ◌⊎◌, ◌↔◌, ℕ, ◌+◌, ◌<◌, ◌≤◌, List, [], ◌∷◌, ◌++◌, length, take, set, Option, None, Some, zero, suc, refl, sym, ap, subst, ◌∙◌, inl, inr, arith}
use Rattle.std.proofs.lemmas.Bool.{cases_lt}
use Rattle.std.proofs.lemmas.List.{get_or-set_other, get_or-set_same, length-replicate, length-set, take-append-le, take_all, take_more}
use Rattle.std.proofs.lemmas.List.Elements.{All-contains, All-nil, All-push, All-weaker, Contains-get_or}
use Rattle.std.proofs.lemmas.Option.{get_or_from_slice_get, slice_get_within}
use Rattle.std.specs.Prelude.{All, Bool, Contains, false, slice_get, slice_index_or, true}
use Rattle.aa_glob_pairs.proofs.BelowLemmas.{clash-covered, clash-turned}
use Rattle.aa_glob_pairs.proofs.GainLemmas.{nothing_there, pairs_as, pairs_nothing, passed_other, passed_there, same_or_not}
use Rattle.aa_glob_pairs.proofs.LeastLemmas.{lowers_as, lowers_nothing}
use Rattle.aa_glob_nfa.specs.Graphs.{EndsAt, Graph}
use Rattle.aa_glob_pairs.specs.Below.{can_clash}
use Rattle.aa_glob_pairs.specs.Clashes.{Clash, IsAtMost, IsLeast, Lowers}
use Rattle.aa_glob_pairs.specs.Graphs.{AreBelow, AreEndingsOf, AreMoves, class_at, Goes, IsLaid}
use Rattle.aa_glob_pairs.specs.Nodes.{FollowsBy}
use Rattle.aa_glob_pairs.specs.Pairs.{Classed, ClashOf, Follows, goes, GoTogether, MayClash, MeetsAt, Met, start, states_of}
use Rattle.aa_glob_pairs.specs.Waiting.{Gains, Ordered, row_at, SetsRow, Waits}
use Rattle.aa_glob_pairs.specs.code.Progress.{IsDone, IsMeeting, IsSeen, no_marks}
use Rattle.aa_glob_pairs.specs.declared.below.Below.{Below}
use Rattle.aa_glob_pairs.specs.declared.below.Below.TheVariants.{Nothing}
use Rattle.aa_glob_pairs.specs.declared.ends.Ending.{Ending}
use Rattle.aa_glob_pairs.specs.declared.meeting.Meeting.{Meeting}
use Rattle.aa_glob_pairs.specs.declared.moves.Moves.{Moves}

-- what a state goes to by a byte is no earlier
goes_later : (g : Graph) → IsLaid g → (c q x : ℕ) → q < length g.entries → Goes g c q x → (q ≤ x) × (x < length g.entries)
goes_later g laid c q x within (inl led) = let on = laid.later q x led.0 in (omega arith, laid.within q x led.0)
goes_later g laid c q x within (inr stayed) = (omega (arith, stayed.0), omega (arith, stayed.0, within))

-- what comes of a pair is no earlier in either, and is a pair of states
together_later : (g : Graph) → IsLaid g → (q r x y : ℕ) → q < length g.entries → r < length g.entries → GoTogether g q r x y
    → (q ≤ x) × (r ≤ y) × (x < length g.entries) × (y < length g.entries)
together_later g laid q r x y first second (inl free) =
    let on = laid.later q x free.0.0 in (omega arith, omega (arith, free.1), laid.within q x free.0.0, omega (arith, free.1, second))
together_later g laid q r x y first second (inr (inl free)) =
    let on = laid.later r y free.1.0 in (omega (arith, free.0), omega arith, omega (arith, free.0, first), laid.within r y free.1.0)
together_later g laid q r x y first second (inr (inr shared)) =
    let at = goes_later g laid shared.0 q x first shared.2 in
    let there = goes_later g laid shared.0 r y second shared.3 in
    (at.0, there.0, at.1, there.1)

follows_later : (g : Classed) (q r x y : ℕ) → IsLaid g.graph → Follows g q r x y → (q ≤ x) × (r ≤ y) × (x < states_of g) × (y < states_of g)
follows_later g q r x y laid follows = together_later g.graph laid q r x y follows.0 follows.1 follows.3

-- pairs that are met are pairs of states
pub met_within : (g : Classed) → IsLaid g.graph → {q r : ℕ} → Met g q r → (q < states_of g) × (r < states_of g)
met_within g laid start = (laid.some, laid.some)
met_within g laid (goes {q = q} {r = r} {x = x} {y = y} at follows) =
    let on = follows_later g q r x y laid follows in
    (on.2, on.3)

no_marks_are : (states : ℕ) → length (no_marks states) ≡ states
no_marks_are states = length-replicate states 0

-- A pair that is met is met turned round.
follows_turned : (g : Classed) (q r x y : ℕ) → Follows g q r x y → Follows g r q y x
follows_turned g q r x y follows =
    (follows.1, follows.0, clash-turned (slice_index_or g.belows q Nothing) (slice_index_or g.belows r Nothing) follows.2, turned follows.3)
  where
    turned : GoTogether g.graph q r x y → GoTogether g.graph r q y x
    turned (inl free) = inr (inl (free.1, free.0))
    turned (inr (inl free)) = inl (free.1, free.0)
    turned (inr (inr shared)) = inr (inr (shared.0, shared.1, shared.3, shared.2))

met_turned : (g : Classed) {q r : ℕ} → Met g q r → Met g r q
met_turned g start = start
met_turned g (goes {q = q} {r = r} {x = x} {y = y} at follows) = goes (met_turned g at) (follows_turned g q r x y follows)

-- the pair of starts waits
pub meeting_begins : (g : Classed) (none : List (ℕ × List ℕ)) (meeting : Meeting) → ((q : ℕ) → row_at none q ≡ []) → Gains none meeting.waiting (λ q r. (q ≡ 0) × (r ≡ 0)) → meeting.seen.items ≡ no_marks (states_of g) → meeting.found ≡ None
    → IsMeeting g 0 0 meeting
meeting_begins g none meeting empty gains seen found = record {
  marks = ap length seen ∙ no_marks_are (states_of g);
  begun = λ first. (gains.each 0 0).1 (inr (refl, refl));
  sound = λ q r waits. elim ((gains.each q r).0 waits) [
    | inl old ↦ absurd (nothing_there r (subst (λ (l : List ℕ). Contains l r) (empty q) old))
    | inr at ↦ (omega (arith, at.0, at.1), subst (λ x. Met g x r) (sym at.0) (subst (λ y. Met g 0 y) (sym at.1) start))
  ];
  looked = All-nil (IsSeen meeting.seen.items 0);
  unseen = λ r. omega (arith, zeros r);
  closed = λ q r x y on done follows. absurd (none_done q r done);
  there = λ k e. absurd (no_number k (sym found ∙ e));
  least = λ q r k done clash. absurd (none_done q r done);
}
  where
    zeros : (r : ℕ) → slice_index_or meeting.seen.items r 0 ≡ 0
    zeros r = ap (λ l. slice_index_or l r 0) seen ∙ all_zero (states_of g) r
      where
        all_zero : (n r : ℕ) → slice_index_or (no_marks n) r 0 ≡ 0
        all_zero zero r = refl
        all_zero (suc n) zero = refl
        all_zero (suc n) (suc r) = all_zero n r

    none_done : (q r : ℕ) → IsDone g meeting.seen.items 0 q r → ⊥
    none_done q r done = elim done.1 [ inl less ↦ omega (arith, less.0) | inr here ↦ omega (arith, here.1, zeros r) ]

    no_number : (k : ℕ) → None ≡ Some k → ⊥
    no_number k e = absurd cc

-- a pair that waits at the place that is next
waits_next : (rows : List (ℕ × List ℕ)) (row at column : ℕ) → slice_get (row_at rows row) at ≡ Some column → Waits rows row column
waits_next rows row at column is =
    subst (λ n. Waits rows row n) (get_or_from_slice_get (row_at rows row) at column 0 is)
    (Contains-get_or (row_at rows row) at 0 (slice_get_within (row_at rows row) at column is))

-- one more of a list
take_next : (xs : List ℕ) (i x : ℕ) → slice_get xs i ≡ Some x → take (i + 1) xs ≡ take i xs ++ x ∷ []
take_next xs i x is =
    take_more xs i x (slice_get_within xs i x is) ∙ ap (λ y. take i xs ++ y ∷ []) (get_or_from_slice_get xs i x x is)

-- a pair that was looked at already is passed
pub meeting_passed : (g : Classed) (row at column : ℕ) (meeting : Meeting) → slice_get (row_at meeting.waiting row) at ≡ Some column
    → IsMeeting g row at meeting → IsSeen meeting.seen.items row column → IsMeeting g row (at + 1) meeting
meeting_passed g row at column meeting is met seen = record {
  marks = met.marks;
  begun = met.begun;
  sound = met.sound;
  looked =
      subst (λ (l : List ℕ). All (IsSeen meeting.seen.items row) l) (sym (take_next (row_at meeting.waiting row) at column is))
      (All-push (IsSeen meeting.seen.items row) (take at (row_at meeting.waiting row)) column met.looked seen);
  unseen = met.unseen;
  closed = met.closed;
  there = met.there;
  least = met.least;
}

-- a pair comes of one behind whose states some pattern may clash with another
abbrev pub FollowsIf : Classed → ℕ → ℕ → ℕ → ℕ → Type 0
FollowsIf g q r x y = MayClash g q r × GoTogether g.graph q r x y

-- what comes of a pair, by the moves of its states
by_moves : (g : Graph) (q r : ℕ) (m o : Moves) → AreMoves g q m → AreMoves g r o → (x y : ℕ) → (FollowsBy m o q r x y ↔ GoTogether g q r x y)
by_moves g q r m o one two x y = (to, from)
  where
    to : FollowsBy m o q r x y → GoTogether g q r x y
    to (inl free) = inl ((one.free x).0 free.0, free.1)
    to (inr (inl free)) = inr (inl (free.0, (two.free y).0 free.1))
    to (inr (inr shared)) = inr (inr (shared.0, shared.1, (one.steps shared.0 x shared.1).0 shared.2, (two.steps shared.0 y shared.1).0 shared.3))

    from : GoTogether g q r x y → FollowsBy m o q r x y
    from (inl free) = inl ((one.free x).1 free.0, free.1)
    from (inr (inl free)) = inr (inl (free.0, (two.free y).1 free.1))
    from (inr (inr shared)) = inr (inr (shared.0, shared.1, (one.steps shared.0 x shared.1).1 shared.2, (two.steps shared.0 y shared.1).1 shared.3))

pub follows_all : (g : Classed) (row column : ℕ) (m o : Moves) (old new : List (ℕ × List ℕ)) → AreMoves g.graph row m → AreMoves g.graph column o → MayClash g row column
    → Gains old new (Ordered (FollowsBy m o row column)) → Gains old new (Ordered (FollowsIf g row column))
follows_all g row column m o old new one two may gains =
    pairs_as old new (FollowsBy m o row column) (FollowsIf g row column) gains
    (λ x y. (λ follows. (may, (by_moves g.graph row column m o one two x y).0 follows), λ both. (by_moves g.graph row column m o one two x y).1 both.1))

off_on : (b : Bool) → b ≡ false → b ≡ true → ⊥
off_on b off on = let wrong : false ≡ true = sym off ∙ on in absurd (cc)

-- the classes below two states don't differ
abbrev pub NoneClash : Classed → ℕ → ℕ → Type 0
NoneClash g q r = can_clash (slice_index_or g.belows q Nothing) (slice_index_or g.belows r Nothing) ≡ false

pub follows_none : (g : Classed) (row column : ℕ) (rows : List (ℕ × List ℕ)) → NoneClash g row column → Gains rows rows (Ordered (FollowsIf g row column))
follows_none g row column rows off =
    pairs_nothing rows (FollowsIf g row column) (λ x y both. off_on (can_clash (slice_index_or g.belows row Nothing) (slice_index_or g.belows column Nothing)) off both.0)

-- patterns of either state that clash with an earlier one of the other
abbrev pub ClashesOf : Classed → ℕ → ℕ → ℕ → Type 0
ClashesOf g q r k = ClashOf g q r k ⊎ ClashOf g r q k

-- some clash at two states only where some may behind them
pub may_clash : (g : Classed) → AreBelow g.graph g.classes g.belows → (q r k : ℕ) → q < states_of g → r < states_of g → ClashOf g q r k → MayClash g q r
may_clash g are q r k first second clash =
    clash-covered (slice_index_or g.belows q Nothing) (slice_index_or g.belows r Nothing) (class_at g.classes clash.0) (class_at g.classes k)
    ((are.each q first).own clash.0 clash.1) ((are.each r second).own k clash.2) clash.3

pub clashes_none : (g : Classed) → AreBelow g.graph g.classes g.belows → (row column : ℕ) (found : Option ℕ) → row < states_of g → column < states_of g → NoneClash g row column
    → Lowers found found (ClashesOf g row column)
clashes_none g are row column found first second off = lowers_nothing found (ClashesOf g row column) none
  where
    here : Below
    here = slice_index_or g.belows row Nothing

    there : Below
    there = slice_index_or g.belows column Nothing

    none : (k : ℕ) → ClashesOf g row column k → ⊥
    none k (inl clash) = off_on (can_clash here there) off (may_clash g are row column k first second clash)
    none k (inr clash) = off_on (can_clash here there) off (clash-turned there here (may_clash g are column row k second first clash))

-- patterns that end at two states clash as their lists say
clash_of : (g : Classed) (q r : ℕ) (ends others : List Ending) → AreEndingsOf g.graph g.classes q ends → AreEndingsOf g.graph g.classes r others → (k : ℕ)
    → (Clash ends others k ↔ ClashOf g q r k)
clash_of g q r ends others one two k = (to, from)
  where
    to : Clash ends others k → ClashOf g q r k
    to clash =
        let first = (one clash.0).0 clash.2 in
        let second = (two clash.1).0 clash.3 in (
          (clash.0).pattern,
          first.0,
          subst (λ p. EndsAt g.graph r p) clash.6 second.0,
          (λ same. clash.4 (first.1 ∙ (same ∙ ap (class_at g.classes) (sym clash.6)) ∙ sym second.1)),
          subst (λ p. (clash.0).pattern < p) clash.6 clash.5,
        )

    from : ClashOf g q r k → Clash ends others k
    from clash =
        let e : Ending = record { pattern = clash.0; class = class_at g.classes clash.0 } in
        let f : Ending = record { pattern = k; class = class_at g.classes k } in
        (e, f, (one e).1 (clash.1, refl), (two f).1 (clash.2, refl), clash.3, clash.4, refl)

pub clashes_all : (g : Classed) (row column : ℕ) (ends others : List Ending) (old new : Option ℕ) → AreEndingsOf g.graph g.classes row ends → AreEndingsOf g.graph g.classes column others
    → Lowers old new (λ k. Clash ends others k ⊎ Clash others ends k) → Lowers old new (ClashesOf g row column)
clashes_all g row column ends others old new one two lowers =
    lowers_as old new (λ k. Clash ends others k ⊎ Clash others ends k) (ClashesOf g row column) lowers (λ k. (
      λ h. elim h [ inl here ↦ inl ((clash_of g row column ends others one two k).0 here) | inr there ↦ inr ((clash_of g column row others ends two one k).0 there) ],
      λ h. elim h [ inl here ↦ inl ((clash_of g row column ends others one two k).1 here) | inr there ↦ inr ((clash_of g column row others ends two one k).1 there) ],
    ))

-- a pair is looked at
pub meeting_visited : (g : Classed) (row at column : ℕ) (old new : Meeting)
    → row < states_of g → slice_get (row_at old.waiting row) at ≡ Some column → column < states_of g
    → IsMeeting g row at old → Gains old.waiting new.waiting (Ordered (FollowsIf g row column)) → new.seen.items ≡ set old.seen.items column (row + 1)
    → Lowers old.found new.found (ClashesOf g row column) → IsMeeting g row (at + 1) new
meeting_visited g row at column old new inside is within met gains seen lowers = record {
  marks = ap length seen ∙ length-set old.seen.items column (row + 1) ∙ met.marks;
  begun = λ zero. (gains.each 0 0).1 (inl (met.begun zero));
  sound = λ q r waits. elim ((gains.each q r).0 waits) [
    | inl before ↦ met.sound q r before
    | inr pair ↦ (
      pair.0,
      elim pair.1 [
        | inl follows ↦ goes here (inside, within, follows.0, follows.1)
        | inr turned ↦ met_turned g (goes here (inside, within, turned.0, turned.1))
      ],
    )
  ];
  looked =
      subst (λ (l : List ℕ). All (IsSeen new.seen.items row) l) (sym front)
      (All-push (IsSeen new.seen.items row) (take at (row_at old.waiting row)) column
      (All-weaker (IsSeen old.seen.items row) (IsSeen new.seen.items row) still (take at (row_at old.waiting row)) met.looked) now);
  unseen = λ r. elim (same_or_not r column) [
    | inl same ↦ omega (arith, at_column r same)
    | inr apart ↦ omega (arith, elsewhere r apart, met.unseen r)
  ];
  closed = λ q r x y on done follows. elim (done_before q r done) [
    | inl before ↦ (gains.each x y).1 (inl (met.closed q r x y on before follows))
    | inr pair ↦ (gains.each x y).1 (inr (follows.0, elim follows.1 [ inl on ↦ inl (moved q r x y pair on) | inr turned ↦ inr (moved q r y x pair turned) ]))
  ];
  there = λ k e. elim (lowers.there k e) [
    | inl before ↦ met.there k before
    | inr clash ↦ elim clash [
      | inl one ↦ (row, column, here, one)
      | inr other ↦ (column, row, met_turned g here, other)
    ]
  ];
  least = λ q r k done clash. elim (done_before q r done) [
    | inl before ↦ lowers.kept k (met.least q r k before clash)
    | inr pair ↦ lowers.least k (elim clash [ inl one ↦ inl (clashed q r k pair one) | inr other ↦ inr (clashed_too q r k pair other) ])
  ];
}
  where
    marks : List ℕ
    marks = old.seen.items

    here : Met g row column
    here = (met.sound row column (waits_next old.waiting row at column is)).1

    at_column : (r : ℕ) → r ≡ column → slice_index_or new.seen.items r 0 ≡ row + 1
    at_column r same =
        ap (λ l. slice_index_or l r 0) seen ∙ ap (λ i. slice_index_or (set marks column (row + 1)) i 0) same
        ∙ get_or-set_same marks column (row + 1) 0 (subst (λ n. column < n) (sym met.marks) within)

    elsewhere : (r : ℕ) → (r ≡ column → ⊥) → slice_index_or new.seen.items r 0 ≡ slice_index_or marks r 0
    elsewhere r apart = ap (λ l. slice_index_or l r 0) seen ∙ get_or-set_other marks column r (row + 1) 0 apart

    now : IsSeen new.seen.items row column
    now = at_column column refl

    still : (r : ℕ) → IsSeen marks row r → IsSeen new.seen.items row r
    still r was = elim (same_or_not r column) [ inl same ↦ at_column r same | inr apart ↦ elsewhere r apart ∙ was ]

    -- the first pairs of the row are what they were
    front : take (at + 1) (row_at new.waiting row) ≡ take at (row_at old.waiting row) ++ column ∷ []
    front =
        let more = gains.fronts row in
        ap (take (at + 1)) more.1 ∙ take-append-le (at + 1) (row_at old.waiting row) more.0 (omega (arith, slice_get_within (row_at old.waiting row) at column is))
        ∙ take_next (row_at old.waiting row) at column is

    -- what was looked at now, and before
    done_before : (q r : ℕ) → IsDone g new.seen.items row q r → IsDone g marks row q r ⊎ ((q ≡ row) × (r ≡ column))
    done_before q r done = elim done.1 [
      | inl less ↦ inl (done.0, inl less)
      | inr same ↦ elim (same_or_not r column) [
        | inl pair ↦ inr (same.0, pair)
        | inr apart ↦ inl (done.0, inr (same.0, sym (elsewhere r apart) ∙ same.1))
      ]
    ]

    moved : (q r x y : ℕ) → (q ≡ row) × (r ≡ column) → Follows g q r x y → FollowsIf g row column x y
    moved q r x y pair follows = subst (λ i. FollowsIf g i column x y) pair.0 (subst (λ j. FollowsIf g q j x y) pair.1 (follows.2, follows.3))

    clashed : (q r k : ℕ) → (q ≡ row) × (r ≡ column) → ClashOf g q r k → ClashOf g row column k
    clashed q r k pair clash = subst (λ i. ClashOf g i column k) pair.0 (subst (λ j. ClashOf g q j k) pair.1 clash)

    clashed_too : (q r k : ℕ) → (q ≡ row) × (r ≡ column) → ClashOf g r q k → ClashOf g column row k
    clashed_too q r k pair clash = subst (λ i. ClashOf g column i k) pair.0 (subst (λ j. ClashOf g j q k) pair.1 clash)

-- where all pairs of a row were looked at, all that are met there wait, and were looked at
module _ (g : Classed) (row at : ℕ) (meeting : Meeting) (laid : IsLaid g.graph) (met : IsMeeting g row at meeting)
    (all : length (row_at meeting.waiting row) ≤ at) where
  looked_at : (r : ℕ) → Waits meeting.waiting row r → IsSeen meeting.seen.items row r
  looked_at r waits =
      All-contains (IsSeen meeting.seen.items row) (row_at meeting.waiting row) r
      (subst (λ (l : List ℕ). All (IsSeen meeting.seen.items row) l) (take_all at (row_at meeting.waiting row) all) met.looked) waits

  -- a pair that is met, in either order, whose lesser state is of this row
  abbrev HereWaits : ℕ → ℕ → Type 0
  HereWaits q r = (q ≤ r → q ≡ row → Waits meeting.waiting row r) × (r ≤ q → r ≡ row → Waits meeting.waiting row q)

  done_of : (q r : ℕ) → q ≤ r → q ≤ row → Met g q r → (q ≡ row → Waits meeting.waiting row r) → IsDone g meeting.seen.items row q r
  done_of q r rising up pair waits = (
    rising,
    elim (cases_lt q row) [
      | inl less ↦ inl (less, pair)
      | inr not ↦ let here : q ≡ row = omega (arith, up, not) in inr (here, looked_at r (waits here))
    ],
  )

  met_waits : {q r : ℕ} → Met g q r → HereWaits q r
  met_waits start = (
    (λ up e. subst (λ i. Waits meeting.waiting i 0) e (met.begun (sym e))),
    (λ up e. subst (λ i. Waits meeting.waiting i 0) e (met.begun (sym e))),
  )
  met_waits (goes {q = q} {r = r} {x = x} {y = y} pair follows) =
      let on = follows_later g q r x y laid follows in
      let before = met_waits pair in
      let turned = follows_turned g q r x y follows in (
        (λ up e. subst (λ i. Waits meeting.waiting i y) e (elim (cases_lt r q) [
          | inl falling ↦
              met.closed r q x y (omega (arith, e))
              (done_of r q (omega (arith, falling)) (omega (arith, falling, e, on.0)) (met_turned g pair) (λ here. before.1 (omega (arith, falling)) here)) (up, inr turned)
          | inr rising ↦ met.closed q r x y (omega (arith, e)) (done_of q r rising (omega (arith, e, on.0)) pair (λ here. before.0 rising here)) (up, inl follows)
        ])),
        (λ up e. subst (λ i. Waits meeting.waiting i x) e (elim (cases_lt r q) [
          | inl falling ↦
              met.closed r q y x (omega (arith, e))
              (done_of r q (omega (arith, falling)) (omega (arith, e, on.1)) (met_turned g pair) (λ here. before.1 (omega (arith, falling)) here)) (up, inl turned)
          | inr rising ↦
              met.closed q r y x (omega (arith, e)) (done_of q r rising (omega (arith, rising, e, on.1)) pair (λ here. before.0 rising here)) (up, inr follows)
        ])),
      )

  -- those of later rows
  done_next : (q r : ℕ) → IsDone g meeting.seen.items (row + 1) q r → IsDone g meeting.seen.items row q r
  done_next q r done = elim done.1 [
    | inl less ↦ done_of q r done.0 (omega (arith, less.0)) less.1 (λ here. (met_waits less.1).0 done.0 here)
    | inr here ↦ absurd (omega (arith, here.1, met.unseen r))
  ]

  -- the next row
  pub meeting_next_row : (new : Meeting) → SetsRow meeting.waiting new.waiting row [] → new.seen.items ≡ meeting.seen.items → new.found ≡ meeting.found → IsMeeting g (row + 1) 0 new
  meeting_next_row new passed seen found = record {
    marks = ap length seen ∙ met.marks;
    begun = λ zero. absurd (omega (arith, zero));
    sound = λ q r waits. met.sound q r (passed_there meeting.waiting new.waiting row q r passed waits);
    looked = All-nil (IsSeen new.seen.items (row + 1));
    unseen = λ r. omega (arith, ap (λ l. slice_index_or l r 0) seen, met.unseen r);
    closed = λ q r x y on done follows.
        passed_other meeting.waiting new.waiting row x y passed (λ same. omega (arith, same, on))
        (met.closed q r x y (omega (arith, on)) (done_next q r (subst (λ (l : List ℕ). IsDone g l (row + 1) q r) seen done)) follows);
    there = λ k e. met.there k (sym found ∙ e);
    least = λ q r k done clash.
        subst (λ f. IsAtMost f k) (sym found) (met.least q r k (done_next q r (subst (λ (l : List ℕ). IsDone g l (row + 1) q r) seen done)) clash);
  }

-- at last all pairs that are met were looked at
pub meeting_ends : (g : Classed) (meeting : Meeting) (row : ℕ) → IsLaid g.graph → states_of g ≤ row → IsMeeting g row 0 meeting
    → IsLeast meeting.found (MeetsAt g)
meeting_ends g meeting row laid end met = by_found meeting.found met.there least
  where
    least : (k : ℕ) → MeetsAt g k → IsAtMost meeting.found k
    least k h =
        let within = met_within g laid h.2 in
        elim (cases_lt h.1 h.0) [
          | inl falling ↦ met.least h.1 h.0 k (omega (arith, falling), inl (omega (arith, within.1, end), met_turned g h.2)) (inr h.3)
          | inr rising ↦ met.least h.0 h.1 k (rising, inl (omega (arith, within.0, end), h.2)) (inl h.3)
        ]

    by_found : (found : Option ℕ) → ((k : ℕ) → found ≡ Some k → MeetsAt g k) → ((k : ℕ) → MeetsAt g k → IsAtMost found k) → IsLeast found (MeetsAt g)
    by_found None there least = λ k h. let at = least k h in absurd (none at.0 at.1)
      where
        none : (k : ℕ) → None ≡ Some k → ⊥
        none k e = absurd cc
    by_found (Some j) there least = (there j refl, λ k h. let at = least k h in below j k at.0 at.1 at.2)
      where
        below : (j k i : ℕ) → Some j ≡ Some i → i ≤ k → j ≤ k
        below j k i e le = let same : j ≡ i = cc in omega (arith, same, le)

-- a pair that waits is one of states
pub column_within : (g : Classed) (row at column : ℕ) (meeting : Meeting) → IsLaid g.graph
    → slice_get (row_at meeting.waiting row) at ≡ Some column → IsMeeting g row at meeting → column < states_of g
column_within g row at column meeting laid is met =
    (met_within g laid (met.sound row column (waits_next meeting.waiting row at column is)).1).1
