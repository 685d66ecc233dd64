-- How a run comes on, from a state to the next and from a byte to the next.
use Rattle.std.proofs.Common.{◌≡◌, ◌≢◌, ℕ, zero, suc, ◌+◌, ◌*◌, ◌<◌, ◌≤◌, List, [], ◌∷◌, ◌++◌, length, take, drop, get_or, reverse, Option, Some, None, refl, sym, ◌∙◌, ap, subst, inl, inr, arith, length-append}
use Rattle.std.proofs.lemmas.Bool.{cases_eq}
use Rattle.std.proofs.lemmas.List.{reverse-append, take-append-drop, take_more}
use Rattle.std.proofs.Math.Nat.{suc-mul}
use Rattle.std.proofs.lemmas.Nat.{mul-le}
use Rattle.std.proofs.lemmas.List.Elements.{All-append, All-contains, All-weaker, All-nil, All-cons, Contains-append_left}
use Rattle.std.proofs.lemmas.Option.{get_or_from_slice_get, slice_get-get_or}
use Rattle.std.specs.Prelude.{All, Contains, slice_get}
use Rattle.aa_glob_nfa.specs.Entries.{is_free}
use Rattle.aa_glob_nfa.specs.Graphs.{Graph, Stays, Reaches}
use Rattle.aa_glob_nfa.specs.Graphs.Reaches.{begins, comes, takes, stays}
use Rattle.aa_glob_nfa.specs.Steps.{counted, IsCounted}
use Rattle.aa_glob_nfa.specs.Fronts.{Live, with_state, AreDistinct}
use Rattle.aa_glob_nfa.specs.code.Passes.{Adds}
use Rattle.aa_glob_nfa.specs.Runs.{HasReached, IsEntered, Follows, HasBrought, IsBegun, IsWhole, IsPassed, IsRunning}
use Rattle.aa_glob_nfa.specs.code.Passes.{FollowsIf, IsClosedUpTo, IsPassing}
use Rattle.aa_glob_nfa.proofs.ListLemmas.{some_same, Contains-first}
use Rattle.aa_glob_nfa.proofs.StepLemmas.{counted-counted}

-- the elements of a list stay where they are when others are put behind it
pub slice_get-append : {X : Type 0} → (xs ys : List X) (k : ℕ) → k < length xs → slice_get (xs ++ ys) k ≡ slice_get xs k
slice_get-append [] ys k h = absurd (omega arith)
slice_get-append (x ∷ xs) ys zero h = refl
slice_get-append (x ∷ xs) ys (suc k) h = slice_get-append xs ys k (omega arith)

-- the state that was found at a place of a list is in it
pub Contains-slice_get : (xs : List ℕ) (k x : ℕ) → k < length xs → slice_get xs k ≡ Some x → Contains xs x
Contains-slice_get xs k x within found = (k, within, get_or_from_slice_get xs k x x found)

-- what follows from a reached state behind a byte is reached behind it
pub reached_next : (g : Graph) (past : List ℕ) (c q r : ℕ) → Reaches g past q → Follows g c q r → Reaches g (c ∷ past) r
reached_next g past c q r at (inl entered) = takes at entered.0 entered.1
reached_next g past c q r at (inr stay) = stays (subst (λ x. Reaches g past x) (sym stay.0) at) (subst (λ x. Stays g x c) (sym stay.0) stay.1)

-- one state more is visited
pub passing_more : (g : Graph) (byte : Option ℕ) (at q : ℕ) (old here mine next behind : Live) → IsPassing g byte at old here next
    → at < length here.states → slice_get here.states at ≡ Some q → Adds here mine (IsEntered g is_free q) → Adds next behind (FollowsIf g byte q)
    → IsPassing g byte (at + 1) old mine behind
passing_more g byte at q old here mine next behind before low found adds follows =
    let wider : (k : ℕ) → k < length here.states → slice_get mine.states k ≡ slice_get here.states k =
    λ k h. ap (λ l. slice_get l k) adds.longer ∙ slice_get-append here.states adds.more k h in
    let length_mine : length mine.states ≡ length here.states + length adds.more = ap length adds.longer ∙ length-append here.states adds.more in
    let in_mine : (r : ℕ) → Contains here.states r → Contains mine.states r =
    λ r h. subst (λ l. Contains l r) (sym adds.longer) (Contains-append_left here.states adds.more r h) in
    let in_behind : (r : ℕ) → Contains next.states r → Contains behind.states r =
    λ r h. subst (λ l. Contains l r) (sym follows.longer) (Contains-append_left next.states follows.more r h) in
    let q_in : Contains here.states q = Contains-slice_get here.states at q low found in
    record {
      within = omega (arith, length_mine);
      room = adds.room ∙ before.room;
      next_room = follows.room ∙ before.next_room;
      longer = omega (arith, length_mine, before.longer);
      keeps = λ r h. in_mine r (before.keeps r h);
      closed = λ k p r h is entered.
          let read : k < length here.states → slice_get here.states k ≡ Some p = λ inside. sym (wider k inside) ∙ is in
          elim (cases_eq k at) [
            | inl last ↦
                let same : q ≡ p = some_same q p (sym found ∙ ap (slice_get here.states) (sym last) ∙ read (omega arith)) in
                adds.each r (subst (λ x. IsEntered g is_free x r) (sym same) entered)
            | inr other ↦ in_mine r (before.closed k p r (omega arith) (read (omega (arith, before.within))) entered)
          ];
      followed = λ k p r h is follow.
          let read : k < length here.states → slice_get here.states k ≡ Some p = λ inside. sym (wider k inside) ∙ is in
          elim (cases_eq k at) [
            | inl last ↦
                let same : q ≡ p = some_same q p (sym found ∙ ap (slice_get here.states) (sym last) ∙ read (omega arith)) in
                follows.each r (subst (λ x. FollowsIf g byte x r) (sym same) follow)
            | inr other ↦ in_behind r (before.followed k p r (omega arith) (read (omega (arith, before.within))) follow)
          ];
      reached = λ past all.
          let known = before.reached past all in
          let at_q : Reaches g past q = All-contains (Reaches g past) here.states q known q_in in
          subst (All (Reaches g past)) (sym adds.longer)
          (All-append (Reaches g past) here.states adds.more known
          (All-weaker (IsEntered g is_free q) (Reaches g past) (λ r entered. comes at_q entered.0 entered.1) adds.more adds.only));
      brought = λ past c is all.
          let at_q : Reaches g past q = All-contains (Reaches g past) here.states q (before.reached past all) q_in in
          subst (All (Reaches g (c ∷ past))) (sym follows.longer)
          (All-append (Reaches g (c ∷ past)) next.states follows.more (before.brought past c is all)
          (All-weaker (FollowsIf g byte q) (Reaches g (c ∷ past))
          (λ r follow. reached_next g past c q r at_q (subst (λ b. FollowsIf g b q r) is follow)) follows.more follows.only));
    }

-- a list that has what a text brings, and what comes freely from its states, has all that is reached
pub reached_all : (g : Graph) (past : List ℕ) (r : ℕ) (live : List ℕ) → HasBrought g past live → IsClosedUpTo g (length live) live
    → Reaches g past r → Contains live r
reached_all g _ _ live brought closed begins = brought
reached_all g past r live brought closed (comes {q = q} at leads free) =
    let there = reached_all g past q live brought closed at in
    closed there.0 q r there.1 (slice_get-get_or live there.0 q there.1 ∙ ap Some there.2) (leads, free)
reached_all g _ r live brought closed (takes {q = q} at leads taken) = brought q r at (inl (leads, taken))
reached_all g _ r live brought closed (stays at stay) = brought r r at (inr (refl, stay))

-- what a text brings stays in a list to which states are added
kept : (g : Graph) (past old new : List ℕ) → ((r : ℕ) → Contains old r → Contains new r) → HasBrought g past old → HasBrought g past new
kept g [] old new keeps brought = keeps 0 brought
kept g (c ∷ past) old new keeps brought = λ q r at follow. keeps r (brought q r at follow)

-- all states of a place were visited
pub passed : (g : Graph) (byte : Option ℕ) (at : ℕ) (old here next : Live) → IsPassing g byte at old here next
    → length here.states ≤ at → length here.states ≤ here.room → AreDistinct here.states → IsPassed g byte old here next
passed g byte at old here next passing done fits distinct =
    let end : at ≡ length here.states = omega (arith, passing.within) in
    let closed : IsClosedUpTo g (length here.states) here.states = subst (λ n. IsClosedUpTo g n here.states) end passing.closed in
    let each : (past : List ℕ) → IsBegun g past old.states → HasReached g past here.states =
    λ past begun r at_r. reached_all g past r here.states (kept g past old.states here.states passing.keeps begun.brought) closed at_r in
    record {
      room = passing.room;
      next_room = passing.next_room;
      longer = passing.longer;
      fits = fits;
      distinct = distinct;
      whole = λ past begun. record { reached = passing.reached past begun.reached; each = each past begun };
      begun = λ past c is begun. record {
        reached = passing.brought past c is begun.reached;
        brought = λ q r at_q follow.
            let there = each past begun q at_q in
            passing.followed there.0 q r (omega (arith, there.1))
            (slice_get-get_or here.states there.0 q there.1 ∙ ap Some there.2)
            (subst (λ b. FollowsIf g b q r) (sym is) follow);
      };
    }

-- where nothing is reached behind a text, nothing is behind a longer one
none_next : (g : Graph) (past : List ℕ) (c r : ℕ) → ((q : ℕ) → Reaches g past q → ⊥) → Reaches g (c ∷ past) r → ⊥
none_next g past c r none (comes {q = q} at leads free) = none_next g past c q none at
none_next g past c r none (takes {q = q} at leads taken) = none q at
none_next g past c r none (stays at stay) = none r at

pub none_later : (g : Graph) (past more : List ℕ) (r : ℕ) → ((q : ℕ) → Reaches g past q → ⊥) → Reaches g (more ++ past) r → ⊥
none_later g past [] r none at = none r at
none_later g past (c ∷ more) r none at = none_next g (more ++ past) c r (λ q h. none_later g past more q none h) at

pub reverse-split : (n : ℕ) (text : List ℕ) → reverse text ≡ reverse (drop n text) ++ reverse (take n text)
reverse-split n text = ap reverse (sym (take-append-drop n text)) ∙ reverse-append (take n text) (drop n text)

-- where no state is in the list that a text brings, none is reached behind it
pub dead_behind : (g : Graph) (past live : List ℕ) → IsBegun g past live → length live ≡ 0 → (q : ℕ) → Reaches g past q → ⊥
dead_behind g past [] begun none q at =
    let there = reached_all g past q [] begun.brought (λ k p r h is entered. absurd (omega arith)) at in
    absurd (omega (arith, there.1))
dead_behind g past (r ∷ live) begun none q at = absurd (omega arith)

-- a run ends early where nothing lives
pub whole_early : (g : Graph) (n : ℕ) (text live : List ℕ) → IsBegun g (reverse (take n text)) live → length live ≡ 0 → IsWhole g (reverse text) live
whole_early g n text [] begun none =
    let dead : (q : ℕ) → Reaches g (reverse (take n text)) q → ⊥ = dead_behind g (reverse (take n text)) [] begun none in
    record {
      reached = All-nil (Reaches g (reverse text));
      each = λ r at. absurd (none_later g (reverse (take n text)) (reverse (drop n text)) r dead (subst (λ l. Reaches g l r) (reverse-split n text) at));
    }
whole_early g n text (q ∷ live) begun none = absurd (omega arith)

-- before a text state 0 is there, by itself
pub begun-first : (g : Graph) (room : ℕ) (empty here : Live) → empty ≡ record { states = []; room = room } → here ≡ with_state 0 empty → IsBegun g [] here.states
begun-first g room empty here none put =
    let is : here ≡ record { states = 0 ∷ []; room = room } = put ∙ ap (with_state 0) none in
    subst (IsBegun g []) (sym (ap (λ l. l.states) is)) (record {
      reached = All-cons (Reaches g []) 0 [] begins (All-nil (Reaches g []));
      brought = Contains-first 0 [];
    })

-- the run begins at state 0
pub running_start : (g : Graph) (room old : ℕ) (empty here next : Live) → empty ≡ record { states = []; room = room } → here ≡ with_state 0 empty
    → next ≡ record { states = []; room = room } → IsRunning g [] room 0 here next old old
running_start g room old empty here next none put other =
    let is : here ≡ record { states = 0 ∷ []; room = room } = put ∙ ap (with_state 0) none in
    let states : here.states ≡ 0 ∷ [] = ap (λ l. l.states) is in
    record {
      begun = begun-first g room empty here none put;
      room_here = ap (λ l. l.room) is;
      empty = other;
      visits = 0;
      some = λ h. let some : length here.states ≡ 1 = ap length states in omega arith;
      few = omega arith;
      steps = refl;
    }

pub more_visits : (places room visits more : ℕ) → visits ≤ places * room → more ≤ room → visits + more ≤ (places + 1) * room
more_visits places room visits more few within =
    let one_more : places + 1 ≡ suc places = omega arith in
    let all : (places + 1) * room ≡ places * room + room = ap (λ n. n * room) one_more ∙ suc-mul places room in
    omega arith

-- the run comes on behind a byte
pub running_more : (g : Graph) (past : List ℕ) (room places c old mid new : ℕ) (here next mine behind cleared first second : Live)
    → IsRunning g past room places here next old mid → length here.states ≢ 0 → IsPassed g (Some c) here mine behind
    → new ≡ counted mid (length mine.states) → cleared ≡ record mine { states = [] } → first ≡ behind → second ≡ cleared
    → IsRunning g (c ∷ past) room (places + 1) first second old new
running_more g past room places c old mid new here next mine behind cleared first second running some passed steps empty swapped other =
    let same_room : mine.room ≡ room = passed.room ∙ running.room_here in
    record {
      begun = subst (λ l. IsBegun g (c ∷ past) l.states) (sym swapped) (passed.begun past c refl running.begun);
      room_here = ap (λ l. l.room) swapped ∙ passed.next_room ∙ running.room_here;
      empty = other ∙ empty ∙ ap (λ n. record { states = []; room = n }) same_room;
      visits = running.visits + length mine.states;
      some = λ none. let more = passed.longer in absurd (some (omega arith));
      few = more_visits places room running.visits (length mine.states) running.few (omega (arith, passed.fits, same_room));
      steps = steps ∙ ap (λ s. counted s (length mine.states)) running.steps ∙ counted-counted old running.visits (length mine.states);
    }

pub few_visits : (visits places n room : ℕ) → visits ≤ places * room → places ≤ n → visits ≤ (n + 1) * room
few_visits visits places n room few up =
    let more : places * room ≤ (n + 1) * room = mul-le places room (n + 1) room (omega arith) (omega arith) in
    omega (arith, few, more)

-- the steps of a run until now
pub running_so_far : (g : Graph) (past : List ℕ) (room places n old mid : ℕ) (here next : Live) → IsRunning g past room places here next old mid → places ≤ n
    → IsCounted 0 ((n + 1) * room) old mid
running_so_far g past room places n old mid here next running up =
    let none : 0 ≤ running.visits = omega arith in
    (running.visits, none, few_visits running.visits places n room running.few up, running.steps)

-- the steps of a run that ends early, where nothing lives
pub running_early : (g : Graph) (past : List ℕ) (room places n old mid : ℕ) (here next : Live) → IsRunning g past room places here next old mid → places ≤ n
    → length here.states ≡ 0 → IsCounted 1 ((n + 1) * room) old mid
running_early g past room places n old mid here next running up none =
    let some : 1 ≤ running.visits = elim (cases_eq running.visits 0) [
      | inl zero_visits ↦ let lives = running.some zero_visits in absurd (omega arith)
      | inr visited ↦ omega arith
    ] in
    (running.visits, some, few_visits running.visits places n room running.few up, running.steps)

-- what is counted once is counted
pub counted_some : (most old new : ℕ) → IsCounted 1 most old new → IsCounted 0 most old new
counted_some most old new counted = let none : 0 ≤ counted.0 = omega arith in (counted.0, none, counted.2, counted.3)

-- the steps of a run that came to the end of its text
pub running_end : (g : Graph) (past : List ℕ) (room places old mid new : ℕ) (here next mine behind : Live)
    → IsRunning g past room places here next old mid → IsPassed g None here mine behind → new ≡ counted mid (length mine.states)
    → IsCounted 1 ((places + 1) * room) old new
running_end g past room places old mid new here next mine behind running passed steps =
    let same_room : mine.room ≡ room = passed.room ∙ running.room_here in
    let more = passed.longer in
    let some : 1 ≤ running.visits + length mine.states = elim (cases_eq running.visits 0) [
      | inl none ↦ let lives = running.some none in omega arith
      | inr visited ↦ omega arith
    ] in (
      running.visits + length mine.states,
      some,
      more_visits places room running.visits (length mine.states) running.few (omega (arith, passed.fits, same_room)),
      steps ∙ ap (λ s. counted s (length mine.states)) running.steps ∙ counted-counted old running.visits (length mine.states),
    )

-- a text's front that is longer by one byte, the last byte first
pub reverse-longer : (text : List ℕ) (i d : ℕ) → i < length text → reverse (take (i + 1) text) ≡ get_or text i d ∷ reverse (take i text)
reverse-longer text i d within = ap reverse (take_more text i d within) ∙ reverse-append (take i text) (get_or text i d ∷ [])

-- a list that has all that is reached has what the last byte brings
pub begun-whole : (g : Graph) (past live : List ℕ) → IsWhole g past live → IsBegun g past live
begun-whole g [] live whole = record { reached = whole.reached; brought = whole.each 0 begins }
begun-whole g (c ∷ past) live whole = record {
  reached = whole.reached;
  brought = λ q r at follow. whole.each r (reached_next g past c q r at follow);
}
