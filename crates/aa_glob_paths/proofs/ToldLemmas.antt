-- Which bytes a set of states tells apart.
use Rattle.std.proofs.Common.{◌≡◌, ℕ, ◌<◌, true, false, not, ◌==◌, ◌||◌, Bool, List, [], ◌∷◌, ◌++◌, length, get_or, refl, sym, ◌∙◌, ap, subst, inl, inr, true≢false, eq-eqb, eqb-true}
use Rattle.std.proofs.lemmas.Bool.{cases_Bool}
use Rattle.std.proofs.lemmas.List.Elements.{Contains-append_left, Contains-get_or, Contains-push, Contains-push_cases}
use Rattle.std.specs.Prelude.{Contains}
use Rattle.aa_bytes.specs.Bytes.{slash}
use Rattle.aa_bytes.specs.ByteMaps.{in_map}
use Rattle.aa_bytes.specs.ByteSets.{is_inside}
use Rattle.aa_bytes.specs.declared.byte_map.ByteMap.{ByteMap}
use Rattle.aa_glob_nfa.specs.Entries.{stays_at, takes_byte}
use Rattle.aa_glob_nfa.specs.Graphs.{entry_of, Graph, Leads}
use Rattle.aa_glob_nfa.specs.OfTables.{graph_of}
use Rattle.aa_glob_nfa.specs.Tables.{entry_behind, LeadsAway, LeadsOn, set_of, state_at}
use Rattle.aa_glob_nfa.specs.declared.entry.Entry.{Entry}
use Rattle.aa_glob_nfa.specs.declared.entry.Entry.TheVariants.{Free as FreeEntry, Byte as ByteEntry, Inside as InsideEntry, Class as ClassEntry, Star as StarEntry, DoubleStar as DoubleStarEntry}
use Rattle.aa_glob_nfa.specs.declared.state.Gate.{Gate}
use Rattle.aa_glob_nfa.specs.declared.state.Gate.TheVariants.{Byte, Inside}
use Rattle.aa_glob_nfa.specs.declared.state.Way.{Way}
use Rattle.aa_glob_nfa.specs.declared.tables.Tables.{Tables}
use Rattle.aa_glob_nfa.proofs.TableLemmas.{entry_of-graph_in, Leads-cases}
use Rattle.aa_glob_paths.specs.Alike.{AreAlikeFrom, StandForAll, StandForAllFrom}
use Rattle.aa_glob_paths.specs.code.Told.{ArePicked, HasEnds, HasStanding, IsUntold, KeepsTold, StandsFor, TellsEntry, TellsSet, TellsWays}

or-true : (b : Bool) → (b || true) ≡ true
or-true true = refl
or-true false = refl

-- what isn't told later wasn't before
not-before : (old new : ByteMap) (c : ℕ) → KeepsTold old new → in_map new c ≡ false → in_map old c ≡ false
not-before old new c keeps none = elim (cases_Bool (in_map old c)) [
  | inl there ↦ absurd (true≢false (sym (keeps c there) ∙ none))
  | inr not ↦ not
]

pub tells-more : (g : Graph) (bytes : List ℕ) (old new : ByteMap) (r : ℕ) → KeepsTold old new → TellsEntry g bytes old r → TellsEntry g bytes new r
tells-more g bytes old new r keeps tells c d first second =
    tells c d (first.0, not-before old new c keeps first.1) (second.0, not-before old new d keeps second.1)

pub keeps-then : (old mid new : ByteMap) → KeepsTold old mid → KeepsTold mid new → KeepsTold old new
keeps-then old mid new first second c there = second c (first c there)

pub keeps-ends : (old new : ByteMap) → KeepsTold old new → HasEnds old → HasEnds new
keeps-ends old new keeps ends = (keeps 0 ends.0, keeps slash ends.1)

pub keeps-same : (told : ByteMap) → KeepsTold told told
keeps-same told c there = there

-- what is put into a set is in it, and what was in it still is
pub put-there : (old new : ByteMap) (b : ℕ) → ((c : ℕ) → in_map new c ≡ (c == b || in_map old c)) → in_map new b ≡ true
put-there old new b put = put b ∙ rw (eq-eqb b b refl) refl

pub was-there : (old new : ByteMap) (b c : ℕ) → ((d : ℕ) → in_map new d ≡ (d == b || in_map old d)) → in_map old c ≡ true → in_map new c ≡ true
was-there old new b c put there = put c ∙ rw there (or-true (c == b))

-- one byte more that leads into a state is told, or one that doesn't isn't
pub taken-more : (g : Graph) (r : ℕ) (bytes : List ℕ) (b : ℕ) (old new : ByteMap)
    → ((c : ℕ) → Contains bytes c → takes_byte (entry_of g r) c ≡ true → in_map old c ≡ true) → ((c : ℕ) → in_map new c ≡ (c == b || in_map old c))
    → (c : ℕ) → Contains (bytes ++ b ∷ []) c → takes_byte (entry_of g r) c ≡ true → in_map new c ≡ true
taken-more g r bytes b old new before put c among takes = elim (Contains-push_cases bytes b c among) [
  | inl early ↦ was-there old new b c put (before c early takes)
  | inr last ↦ subst (λ x. in_map new x ≡ true) last (put-there old new b put)
]

pub taken-same : (g : Graph) (r : ℕ) (bytes : List ℕ) (b : ℕ) (told : ByteMap)
    → ((c : ℕ) → Contains bytes c → takes_byte (entry_of g r) c ≡ true → in_map told c ≡ true) → takes_byte (entry_of g r) b ≡ false
    → (c : ℕ) → Contains (bytes ++ b ∷ []) c → takes_byte (entry_of g r) c ≡ true → in_map told c ≡ true
taken-same g r bytes b told before none c among takes = elim (Contains-push_cases bytes b c among) [
  | inl early ↦ before c early takes
  | inr last ↦ absurd (true≢false (sym takes ∙ ap (takes_byte (entry_of g r)) (sym last) ∙ none))
]

-- a byte that isn't told ends neither a path nor a segment of one
not-one : (told : ByteMap) (b c : ℕ) → in_map told b ≡ true → in_map told c ≡ false → (c == b) ≡ false
not-one told b c there none = elim (cases_Bool (c == b)) [
  | inl same ↦ absurd (true≢false (sym there ∙ ap (in_map told) (sym (eqb-true c b same)) ∙ none))
  | inr other ↦ other
]

inside-untold : (told : ByteMap) (c : ℕ) → HasEnds told → in_map told c ≡ false → is_inside c ≡ true
inside-untold told c ends none = rw (not-one told 0 c ends.0 none, not-one told slash c ends.1 none) refl

-- bytes that all lead into a state, or of which none does
all-same : (g : Graph) (bytes : List ℕ) (told : ByteMap) (r : ℕ) (taken : Bool) → ((c : ℕ) → IsUntold bytes told c → takes_byte (entry_of g r) c ≡ taken)
    → TellsEntry g bytes told r
all-same g bytes told r taken each c d first second = each c first ∙ sym (each d second)

module _ (t : Tables) (bytes : List ℕ) (told : ByteMap) (r : ℕ) (within : r < length t.states) where
  -- by its gate
  taken-by : (gate : Gate) (c : ℕ) → (state_at t.states r).gate ≡ gate
      → takes_byte (entry_of (graph_of t) r) c ≡ takes_byte (entry_behind gate (set_of t.classes.items r)) c
  taken-by gate c is =
      ap (λ e. takes_byte e c) (entry_of-graph_in t.states t.ways.items t.classes.items t.ends.items r within ∙ ap (λ x. entry_behind x (set_of t.classes.items r)) is)

  pub tells-byte : (b : ℕ) → (state_at t.states r).gate ≡ Byte b → in_map told b ≡ true → TellsEntry (graph_of t) bytes told r
  tells-byte b is there = all-same (graph_of t) bytes told r false (λ c untold. taken-by (Byte b) c is ∙ not-one told b c there untold.1)

  pub tells-inside : (state_at t.states r).gate ≡ Inside → HasEnds told → TellsEntry (graph_of t) bytes told r
  tells-inside is ends = all-same (graph_of t) bytes told r true (λ c untold. taken-by Inside c is ∙ inside-untold told c ends untold.1)

  -- where no byte leads into it
  pub tells-none : (gate : Gate) → (state_at t.states r).gate ≡ gate → ((c : ℕ) → takes_byte (entry_behind gate (set_of t.classes.items r)) c ≡ false)
      → TellsEntry (graph_of t) bytes told r
  tells-none gate is none = all-same (graph_of t) bytes told r false (λ c untold. taken-by gate c is ∙ none c)

-- where each byte that leads into it is told
pub tells-taken : (g : Graph) (bytes : List ℕ) (told : ByteMap) (r : ℕ) → ((c : ℕ) → Contains bytes c → takes_byte (entry_of g r) c ≡ true → in_map told c ≡ true)
    → TellsEntry g bytes told r
tells-taken g bytes told r taken = all-same g bytes told r false (λ c untold. elim (cases_Bool (takes_byte (entry_of g r) c)) [
  | inl takes ↦ absurd (true≢false (sym (taken c untold.0 takes) ∙ untold.1))
  | inr none ↦ none
])

-- one way more
pub by-more : (g : Graph) (bytes : List ℕ) (told later : ByteMap) (ways : List Way) (way : Way) (q : ℕ) → KeepsTold told later → TellsWays (LeadsAway ways q) g bytes told
    → (way.from ≡ q → TellsEntry g bytes later way.to) → TellsWays (LeadsAway (ways ++ way ∷ []) q) g bytes later
by-more g bytes told later ways way q keeps before here r kind = elim (Contains-push_cases ways way kind.0 kind.1) [
  | inl early ↦ tells-more g bytes told later r keeps (before r (kind.0, early, kind.2, kind.3))
  | inr last ↦ subst (TellsEntry g bytes later) (ap (λ (w : Way). w.to) last ∙ kind.3) (here (ap (λ (w : Way). w.from) last ∙ kind.2))
]

-- all ways, that which leads on and those of the table
pub all-ways : (t : Tables) (bytes : List ℕ) (told later : ByteMap) (q : ℕ) → KeepsTold told later → TellsWays (LeadsOn t.states q) (graph_of t) bytes told
    → TellsWays (LeadsAway t.ways.items q) (graph_of t) bytes later → TellsWays (Leads (graph_of t) q) (graph_of t) bytes later
all-ways t bytes told later q keeps on away r leads =
    elim (Leads-cases t.states t.ways.items t.classes.items t.ends.items q r leads) [
      | inl next ↦ tells-more (graph_of t) bytes told later r keeps (on r (next.1, next.2))
      | inr other ↦ away r other
    ]

-- one state more
pub set-more : (g : Graph) (bytes : List ℕ) (told later : ByteMap) (set : List ℕ) (q : ℕ) → KeepsTold told later → TellsSet g bytes told set
    → TellsWays (Leads g q) g bytes later → TellsSet g bytes later (set ++ q ∷ [])
set-more g bytes told later set q keeps before here p among = elim (Contains-push_cases set q p among) [
  | inl early ↦ λ r leads. tells-more g bytes told later r keeps (before p early r leads)
  | inr last ↦ subst (λ x. TellsWays (Leads g x) g bytes later) last here
]

-- no state that stays at one of the bytes that aren't told leaves another
stays-same : (entry : Entry) (c d : ℕ) → is_inside c ≡ is_inside d → (c == 0) ≡ (d == 0) → stays_at entry c ≡ stays_at entry d
stays-same FreeEntry c d inside nought = refl
stays-same (ByteEntry b) c d inside nought = refl
stays-same InsideEntry c d inside nought = refl
stays-same (ClassEntry set) c d inside nought = refl
stays-same StarEntry c d inside nought = inside
stays-same DoubleStarEntry c d inside nought = ap not nought

untold-alike : (g : Graph) (bytes : List ℕ) (told : ByteMap) (set : List ℕ) (c d : ℕ) → HasEnds told → TellsSet g bytes told set → IsUntold bytes told c
    → IsUntold bytes told d → AreAlikeFrom g set c d
untold-alike g bytes told set c d ends tells first second q among = (
  (λ r leads. tells q among r leads c d first second),
  stays-same (entry_of g q) c d (inside-untold told c ends first.1 ∙ sym (inside-untold told d ends second.1))
      (not-one told 0 c ends.0 first.1 ∙ sym (not-one told 0 d ends.0 second.1)),
)

-- the picked ones stand for all
pub stand-picked : (g : Graph) (bytes : List ℕ) (told : ByteMap) (set own : List ℕ) → HasEnds told → TellsSet g bytes told set → ArePicked bytes told own
    → StandForAll g bytes → StandForAllFrom g set own
stand-picked g bytes told set own ends tells picks stand c is_byte =
    let like = stand c is_byte in
    let here = picks.each like.0 like.1 in
    let from : StandsFor told here.0 like.0 → AreAlikeFrom g set here.0 c = λ stands. elim stands [
      | inl same ↦ λ q among. (
        (λ r leads. ap (takes_byte (entry_of g r)) same ∙ (like.2 r).0),
        ap (stays_at (entry_of g q)) same ∙ (like.2 q).1,
      )
      | inr none ↦
          let alike = untold-alike g bytes told set here.0 like.0 ends tells (picks.only here.0 here.1, none.0) (like.1, none.1) in
          λ q among. (
            (λ r leads. (alike q among).0 r leads ∙ (like.2 r).0),
            (alike q among).1 ∙ (like.2 q).1,
          )
    ] in
    (here.0, here.1, from here.2)

-- what stands for the bytes so far, when one more is picked
pub stand-there : (told : ByteMap) (own : List ℕ) (b : ℕ) → HasStanding told (own ++ b ∷ []) b
stand-there told own b = (b, Contains-push own b, inl refl)

pub stand-more : (told : ByteMap) (bytes : List ℕ) (byte : ℕ) (own : List ℕ) (b : ℕ) → ((c : ℕ) → Contains bytes c → HasStanding told own c)
    → HasStanding told (own ++ b ∷ []) byte → (c : ℕ) → Contains (bytes ++ byte ∷ []) c → HasStanding told (own ++ b ∷ []) c
stand-more told bytes byte own b before here c among = elim (Contains-push_cases bytes byte c among) [
  | inl early ↦ let one = before c early in (one.0, Contains-append_left own (b ∷ []) one.0 one.1, one.2)
  | inr last ↦ subst (HasStanding told (own ++ b ∷ [])) last here
]

-- a byte that isn't told, when another stands for it
pub stand-last : (told : ByteMap) (bytes : List ℕ) (byte : ℕ) (own : List ℕ) → ((c : ℕ) → Contains bytes c → HasStanding told own c) → HasStanding told own byte
    → (c : ℕ) → Contains (bytes ++ byte ∷ []) c → HasStanding told own c
stand-last told bytes byte own before here c among = elim (Contains-push_cases bytes byte c among) [
  | inl early ↦ before c early
  | inr last ↦ subst (HasStanding told own) last here
]

pub only-pushed : (bytes own : List ℕ) (i : ℕ) → i < length bytes → ((b : ℕ) → Contains own b → Contains bytes b)
    → (b : ℕ) → Contains (own ++ get_or bytes i 0 ∷ []) b → Contains bytes b
only-pushed bytes own i within before b among = elim (Contains-push_cases own (get_or bytes i 0) b among) [
  | inl early ↦ before b early
  | inr last ↦ subst (Contains bytes) last (Contains-get_or bytes i 0 within)
]
