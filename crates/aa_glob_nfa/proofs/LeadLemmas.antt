-- Where a state leads, by the way that leads on and by those of the table.
use Rattle.std.proofs.Common.{◌≡◌, ℕ, ◌+◌, ◌<◌, ◌⊎◌, Bool, true, false, cond, ◌==◌, ◌||◌, List, [], ◌∷◌, ◌++◌, length, Option, Some, None, refl, sym, ◌∙◌, ap, subst, inl, inr, true≢false, arith, eq-eqb}
use Rattle.std.proofs.lemmas.Bool.{and_parts, both_ways, eqb-true}
use Rattle.std.proofs.lemmas.List.Elements.{All-contains, Contains-append_left, Contains-push, Contains-push_cases}
use Rattle.aa_glob_nfa.specs.Entries.{is_free, takes_if}
use Rattle.aa_glob_nfa.specs.Graphs.{Graph, entry_of, Leads}
use Rattle.aa_glob_nfa.specs.Fronts.{Live, with_state}
use Rattle.aa_glob_nfa.specs.code.Passes.{Adds}
use Rattle.aa_glob_nfa.specs.OfTables.{AreSound, graph_of}
use Rattle.aa_glob_nfa.specs.Runs.{IsEntered, StaysAt}
use Rattle.aa_glob_nfa.specs.code.Passes.{Enters, FollowsIf, IsReady}
use Rattle.aa_glob_nfa.specs.Tables.{AreLeaving, by_of, entry_behind, is_byte, IsWay, LeadsAway, LeadsOn, may_lead, no_byte, set_of, state_at}
use Rattle.aa_bytes.specs.declared.byte_map.ByteMap.{ByteMap}
use Rattle.aa_glob_nfa.specs.declared.entry.Entry.{Entry}
use Rattle.aa_glob_nfa.specs.declared.entry.Entry.TheVariants.{Free as FreeEntry, Byte as ByteEntry, Inside as InsideEntry, Class as ClassEntry, Star as StarEntry, DoubleStar as DoubleStarEntry}
use Rattle.aa_glob_nfa.specs.declared.state.Gate.{Gate}
use Rattle.aa_glob_nfa.specs.declared.state.Gate.TheVariants.{Free, Byte, Inside, Class, Star, DoubleStar}
use Rattle.aa_glob_nfa.specs.declared.state.Way.{Way}
use Rattle.aa_glob_nfa.specs.declared.tables.Tables.{Tables}
use Rattle.aa_glob_nfa.proofs.FrontLemmas.{Adds-as, Adds-nothing, Adds-tested, Adds-then}
use Rattle.aa_glob_nfa.proofs.LeavingLemmas.{away_among, leads_both}
use Rattle.aa_glob_nfa.proofs.TableLemmas.{entry_of-graph_in}

-- a state is entered freely, or by the byte, if one comes
abbrev IsOpen : Option ℕ → Entry → Type 0
IsOpen byte entry = (is_free entry ≡ true) ⊎ (takes_if byte entry ≡ true)

-- what comes in freely takes no byte
pub free_takes_none : (entry : Entry) (byte : Option ℕ) → is_free entry ≡ true → takes_if byte entry ≡ false
free_takes_none entry None h = refl
free_takes_none FreeEntry (Some c) h = refl
free_takes_none (ByteEntry b) (Some c) h = absurd (true≢false (sym h))
free_takes_none InsideEntry (Some c) h = absurd (true≢false (sym h))
free_takes_none (ClassEntry set) (Some c) h = absurd (true≢false (sym h))
free_takes_none StarEntry (Some c) h = refl
free_takes_none DoubleStarEntry (Some c) h = refl

-- by which number a state is entered
open_byte : (byte : Option ℕ) (b : ℕ) (set : ByteMap) → IsOpen byte (entry_behind (Byte b) set) → is_byte b byte ≡ true
open_byte byte b set (inl free) = absurd (true≢false (sym free))
open_byte None b set (inr takes) = absurd (true≢false (sym takes))
open_byte (Some c) b set (inr takes) = takes

open_by : (byte : Option ℕ) (gate : Gate) (set : ByteMap) → IsOpen byte (entry_behind gate set) → (by_of gate == no_byte || is_byte (by_of gate) byte) ≡ true
open_by byte Free set opens = refl
open_by byte (Byte b) set opens = grind (arith, open_byte byte b set opens)
open_by byte Inside set opens = refl
open_by byte Class set opens = refl
open_by byte Star set opens = refl
open_by byte DoubleStar set opens = refl

-- a way to a state that is entered may lead there
may_lead-open : (t : Tables) (q : ℕ) (byte : Option ℕ) (way : Way) → IsWay t.states way → way.from ≡ q → IsOpen byte (entry_of (graph_of t) way.to)
    → may_lead q byte way ≡ true
may_lead-open t q byte way known from opens =
    let gate = (state_at t.states way.to).gate in
    let set = set_of t.classes.items way.to in
    let is : entry_of (graph_of t) way.to ≡ entry_behind gate set = entry_of-graph_in t.states t.ways.items t.classes.items t.ends.items way.to known.to in
    rw (eq-eqb way.from q from, known.by) (open_by byte gate set (subst (λ entry. IsOpen byte entry) is opens))

may_lead-from : (q : ℕ) (byte : Option ℕ) (way : Way) → may_lead q byte way ≡ true → way.from ≡ q
may_lead-from q byte way h = eqb-true way.from q (and_parts (way.from == q) (way.by == no_byte || is_byte way.by byte) h).0

-- what a visit needs is there still when states were entered
pub still_ready : (t : Tables) (byte : Option ℕ) (Kind : ℕ → Type 0) (here there next later : Live) → IsReady t here next → Enters (graph_of t) byte Kind here there next later
    → IsReady t there later
still_ready t byte Kind here there next later ready entered = record {
  sound = ready.sound;
  sorted = ready.sorted;
  room = entered.freely.room ∙ ready.room;
  next_room = entered.by_it.room ∙ ready.next_room;
}

-- no state is entered of a kind of which none is open
enters_nothing : (g : Graph) (byte : Option ℕ) (Kind : ℕ → Type 0) (here next : Live) → ((r : ℕ) → Kind r → IsOpen byte (entry_of g r) → ⊥)
    → Enters g byte Kind here here next next
enters_nothing g byte Kind here next none = record {
  freely = Adds-nothing here (λ r. Kind r × (is_free (entry_of g r) ≡ true)) (λ r kind. none r kind.0 (inl kind.1));
  by_it = Adds-nothing next (λ r. Kind r × (takes_if byte (entry_of g r) ≡ true)) (λ r kind. none r kind.0 (inr kind.1));
}

-- the same states by another kind
enters_as : (g : Graph) (byte : Option ℕ) (Kind Other : ℕ → Type 0) (here there next later : Live) → Enters g byte Kind here there next later
    → ((r : ℕ) → Kind r → Other r) → ((r : ℕ) → Other r → IsOpen byte (entry_of g r) → Kind r) → Enters g byte Other here there next later
enters_as g byte Kind Other here there next later entered to from = record {
  freely = Adds-as here there (λ r. Kind r × (is_free (entry_of g r) ≡ true)) (λ r. Other r × (is_free (entry_of g r) ≡ true)) entered.freely
      (λ r kind. (to r kind.0, kind.1)) (λ r other. (from r other.0 (inl other.1), other.1));
  by_it = Adds-as next later (λ r. Kind r × (takes_if byte (entry_of g r) ≡ true)) (λ r. Other r × (takes_if byte (entry_of g r) ≡ true)) entered.by_it
      (λ r kind. (to r kind.0, kind.1)) (λ r other. (from r other.0 (inr other.1), other.1));
}

-- states of two kinds, one behind the other
then_of : (g : Graph) (test : Entry → Bool) (First Second Both : ℕ → Type 0) (old mid new : Live)
    → Adds old mid (λ r. First r × (test (entry_of g r) ≡ true)) → Adds mid new (λ r. Second r × (test (entry_of g r) ≡ true))
    → ((r : ℕ) → First r → Both r) → ((r : ℕ) → Second r → Both r) → ((r : ℕ) → Both r → test (entry_of g r) ≡ true → First r ⊎ Second r)
    → Adds old new (λ r. Both r × (test (entry_of g r) ≡ true))
then_of g test First Second Both old mid new one two first second cases =
    Adds-then old mid new (λ r. First r × (test (entry_of g r) ≡ true)) (λ r. Second r × (test (entry_of g r) ≡ true)) (λ r. Both r × (test (entry_of g r) ≡ true)) one two
    (λ r kind. (first r kind.0, kind.1))
    (λ r kind. (second r kind.0, kind.1))
    (λ r kind. elim (cases r kind.0 kind.1) [ inl early ↦ inl (early, kind.1) | inr late ↦ inr (late, kind.1) ])

enters_then : (g : Graph) (byte : Option ℕ) (First Second Both : ℕ → Type 0) (here there yonder next later latest : Live)
    → Enters g byte First here there next later → Enters g byte Second there yonder later latest
    → ((r : ℕ) → First r → Both r) → ((r : ℕ) → Second r → Both r) → ((r : ℕ) → Both r → IsOpen byte (entry_of g r) → First r ⊎ Second r)
    → Enters g byte Both here yonder next latest
enters_then g byte First Second Both here there yonder next later latest one two first second cases = record {
  freely = then_of g is_free First Second Both here there yonder one.freely two.freely first second (λ r kind free. cases r kind (inl free));
  by_it = then_of g (takes_if byte) First Second Both next later latest one.by_it two.by_it first second (λ r kind takes. cases r kind (inr takes));
}

-- one state, if it is entered
tested : (g : Graph) (test : Entry → Bool) (number : ℕ) (old new : Live) → new ≡ cond (test (entry_of g number)) (with_state number old) old
    → Adds old new (λ r. (r ≡ number) × (test (entry_of g r) ≡ true))
tested g test number old new is =
    Adds-as old new (λ r. (r ≡ number) × (test (entry_of g number) ≡ true)) (λ r. (r ≡ number) × (test (entry_of g r) ≡ true))
    (Adds-tested number (test (entry_of g number)) old new is)
    (λ r kind. (kind.0, ap (λ x. test (entry_of g x)) kind.0 ∙ kind.1))
    (λ r kind. (kind.0, ap (λ x. test (entry_of g x)) (sym kind.0) ∙ kind.1))

one_of : (g : Graph) (byte : Option ℕ) (number : ℕ) (here there next later : Live) → there ≡ cond (is_free (entry_of g number)) (with_state number here) here
    → later ≡ cond (takes_if byte (entry_of g number)) (with_state number next) next → Enters g byte (λ r. r ≡ number) here there next later
one_of g byte number here there next later is_here is_next = record {
  freely = tested g is_free number here there is_here;
  by_it = tested g (takes_if byte) number next later is_next;
}

pub one_freely : (g : Graph) (byte : Option ℕ) (number : ℕ) (here there next : Live) → is_free (entry_of g number) ≡ true → there ≡ with_state number here
    → Enters g byte (λ r. r ≡ number) here there next next
one_freely g byte number here there next free is =
    one_of g byte number here there next next (rw free is) (rw (free_takes_none (entry_of g number) byte free) refl)

pub one_by_it : (g : Graph) (byte : Option ℕ) (number : ℕ) (here next later : Live) → is_free (entry_of g number) ≡ false → takes_if byte (entry_of g number) ≡ true
    → later ≡ with_state number next → Enters g byte (λ r. r ≡ number) here here next later
one_by_it g byte number here next later not takes is = one_of g byte number here here next later (rw not refl) (rw takes is)

pub one_not : (g : Graph) (byte : Option ℕ) (number : ℕ) (here next : Live) → is_free (entry_of g number) ≡ false → takes_if byte (entry_of g number) ≡ false
    → Enters g byte (λ r. r ≡ number) here here next next
one_not g byte number here next not takes = one_of g byte number here here next next (rw not refl) (rw takes refl)

-- the state that a way leads on to, and none where no way leads on
pub enters_on : (t : Tables) (byte : Option ℕ) (q : ℕ) (here there next later : Live) → (state_at t.states q).leads_on ≡ true
    → Enters (graph_of t) byte (λ r. r ≡ q + 1) here there next later → Enters (graph_of t) byte (LeadsOn t.states q) here there next later
enters_on t byte q here there next later on one =
    enters_as (graph_of t) byte (λ r. r ≡ q + 1) (LeadsOn t.states q) here there next later one (λ r same. (on, same)) (λ r kind opens. kind.1)

pub none_on : (t : Tables) (byte : Option ℕ) (q : ℕ) (here next : Live) → (state_at t.states q).leads_on ≡ false
    → Enters (graph_of t) byte (LeadsOn t.states q) here here next next
none_on t byte q here next off = enters_nothing (graph_of t) byte (LeadsOn t.states q) here next (λ r kind opens. both_ways _ off kind.0)

-- no state is entered by the table from one without the flag
pub none_away : (t : Tables) (byte : Option ℕ) (q : ℕ) (here next : Live) → AreSound t → (state_at t.states q).leads_away ≡ false
    → Enters (graph_of t) byte (LeadsAway t.ways.items q) here here next next
none_away t byte q here next sound off =
    enters_nothing (graph_of t) byte (LeadsAway t.ways.items q) here next
    (λ r kind opens.
    let known = All-contains (IsWay t.states) t.ways.items kind.0 sound.each_way kind.1 in
    both_ways _ off (sym (ap (λ x. (state_at t.states x).leads_away) kind.2) ∙ known.flagged))

-- no states by no ways, and one way more: it leads from the state, or to none that is entered
pub none_yet : (t : Tables) (byte : Option ℕ) (q : ℕ) (here next : Live) → Enters (graph_of t) byte (LeadsAway [] q) here here next next
none_yet t byte q here next = enters_nothing (graph_of t) byte (LeadsAway [] q) here next (λ r kind opens. omega (arith, kind.1.1))

pub one_more : (t : Tables) (byte : Option ℕ) (q : ℕ) (ways : List Way) (way : Way) (here there yonder next later latest : Live) → may_lead q byte way ≡ true
    → Enters (graph_of t) byte (LeadsAway ways q) here there next later → Enters (graph_of t) byte (λ r. r ≡ way.to) there yonder later latest
    → Enters (graph_of t) byte (LeadsAway (ways ++ way ∷ []) q) here yonder next latest
one_more t byte q ways way here there yonder next later latest leads before one =
    let from = may_lead-from q byte way leads in
    enters_then (graph_of t) byte (LeadsAway ways q) (λ r. r ≡ way.to) (LeadsAway (ways ++ way ∷ []) q) here there yonder next later latest before one
    (λ r kind. (kind.0, Contains-append_left ways (way ∷ []) kind.0 kind.1, kind.2, kind.3))
    (λ r same. (way, Contains-push ways way, from, sym same))
    (λ r kind opens. elim (Contains-push_cases ways way kind.0 kind.1) [
      | inl early ↦ inl (kind.0, early, kind.2, kind.3)
      | inr last ↦ inr (sym kind.3 ∙ ap (λ w. w.to) (sym last))
    ])

pub none_more : (t : Tables) (byte : Option ℕ) (q : ℕ) (ways : List Way) (way : Way) (here there next later : Live) → IsWay t.states way → may_lead q byte way ≡ false
    → Enters (graph_of t) byte (LeadsAway ways q) here there next later → Enters (graph_of t) byte (LeadsAway (ways ++ way ∷ []) q) here there next later
none_more t byte q ways way here there next later known not before =
    enters_as (graph_of t) byte (LeadsAway ways q) (LeadsAway (ways ++ way ∷ []) q) here there next later before
    (λ r kind. (kind.0, Contains-append_left ways (way ∷ []) kind.0 kind.1, kind.2, kind.3))
    (λ r kind opens. elim (Contains-push_cases ways way kind.0 kind.1) [
      | inl early ↦ (kind.0, early, kind.2, kind.3)
      | inr last ↦
          let from : way.from ≡ q = ap (λ w. w.from) last ∙ kind.2 in
          let to : way.to ≡ r = ap (λ w. w.to) last ∙ kind.3 in
          let enters : IsOpen byte (entry_of (graph_of t) way.to) = subst (λ x. IsOpen byte (entry_of (graph_of t) x)) (sym to) opens in
          absurd (both_ways _ not (may_lead-open t q byte way known from enters))
    ])

-- what is entered by both parts of those that lead from the state
pub enters_away : (t : Tables) (byte : Option ℕ) (q : ℕ) (any own : List Way) (here there yonder next later latest : Live) → AreSound t → AreLeaving t.ways.items q byte any own
    → Enters (graph_of t) byte (LeadsAway any q) here there next later → Enters (graph_of t) byte (LeadsAway own q) there yonder later latest
    → Enters (graph_of t) byte (LeadsAway t.ways.items q) here yonder next latest
enters_away t byte q any own here there yonder next later latest sound leaving one two =
    enters_then (graph_of t) byte (LeadsAway any q) (LeadsAway own q) (LeadsAway t.ways.items q) here there yonder next later latest one two
    (λ r. away_among t.ways.items any q r leaving.only_any)
    (λ r. away_among t.ways.items own q r leaving.only_own)
    (λ r kind opens.
    let known = All-contains (IsWay t.states) t.ways.items kind.0 sound.each_way kind.1 in
    let enters : IsOpen byte (entry_of (graph_of t) kind.0.to) = subst (λ x. IsOpen byte (entry_of (graph_of t) x)) (sym kind.3) opens in
    elim (leaving.each kind.0 kind.1 (may_lead-open t q byte kind.0 known kind.2 enters)) [
      | inl among ↦ inl (kind.0, among, kind.2, kind.3)
      | inr among ↦ inr (kind.0, among, kind.2, kind.3)
    ])

-- what is entered by the way that leads on, and by those of the table
pub enters_all : (t : Tables) (byte : Option ℕ) (q : ℕ) (here there yonder next later latest : Live) → q < length t.states
    → Enters (graph_of t) byte (LeadsOn t.states q) here there next later → Enters (graph_of t) byte (LeadsAway t.ways.items q) there yonder later latest
    → Enters (graph_of t) byte (Leads (graph_of t) q) here yonder next latest
enters_all t byte q here there yonder next later latest within on away =
    enters_then (graph_of t) byte (LeadsOn t.states q) (LeadsAway t.ways.items q) (Leads (graph_of t) q) here there yonder next later latest on away
    (λ r kind. (leads_both t q r within).1 (inl kind))
    (λ r kind. (leads_both t q r within).1 (inr kind))
    (λ r leads opens. (leads_both t q r within).0 leads)

-- what follows behind a byte: what it leads into, and the state itself if it stays
pub follows_some : (g : Graph) (byte : Option ℕ) (c q : ℕ) (old mid new : Live) → byte ≡ Some c → Adds old mid (IsEntered g (takes_if byte) q)
    → Adds mid new (StaysAt g c q) → Adds old new (FollowsIf g byte q)
follows_some g byte c q old mid new is entered stay =
    let taken : Adds old mid (IsEntered g (takes_if (Some c)) q) = subst (λ b. Adds old mid (IsEntered g (takes_if b) q)) is entered in
    subst (λ b. Adds old new (FollowsIf g b q)) (sym is)
    (Adds-then old mid new (IsEntered g (takes_if (Some c)) q) (StaysAt g c q) (FollowsIf g (Some c) q) taken stay
    (λ r kind. inl kind) (λ r kind. inr kind) (λ r kind. kind))

-- nothing follows where no byte comes
pub follows_none : (g : Graph) (byte : Option ℕ) (q : ℕ) (old new : Live) → byte ≡ None → Adds old new (IsEntered g (takes_if byte) q)
    → Adds old new (FollowsIf g byte q)
follows_none g byte q old new is entered =
    subst (λ b. Adds old new (FollowsIf g b q)) (sym is)
    (Adds-as old new (IsEntered g (takes_if byte) q) (FollowsIf g None q) entered
    (λ r kind. true≢false (sym kind.1 ∙ ap (λ b. takes_if b (entry_of g r)) is))
    (λ r kind. absurd kind))
