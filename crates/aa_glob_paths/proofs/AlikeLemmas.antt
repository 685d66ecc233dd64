-- Bytes that no state tells apart.
use Rattle.std.proofs.Common.{◌≡◌, ℕ, zero, suc, ◌+◌, ◌/◌, ◌%◌, ◌<◌, false, not, ◌==◌, List, [], ◌∷◌, length, drop, get_or, take, refl, sym, ◌∙◌, ap, subst, inl, inr, arith, eqb-true}
use Rattle.std.proofs.lemmas.Bool.{cases_Bool, cases_lt, true≢false}
use Rattle.std.proofs.lemmas.List.{get_or_past, take_more}
use Rattle.std.proofs.lemmas.Nat.Bits.{bit_at-zero}
use Rattle.std.specs.Int.{bit_at}
use Rattle.std.specs.Prelude.{Contains}
use Rattle.std.proofs.lemmas.List.Elements.{All-head, All-tail, Contains-append_left, Contains-push, Contains-push_cases}
use Rattle.aa_bytes.specs.ByteMaps.{in_map}
use Rattle.aa_bytes.specs.ByteSets.{is_inside}
use Rattle.aa_bytes.specs.declared.byte_map.ByteMap.{ByteMap}
use Rattle.aa_glob_nfa.specs.Entries.{stays_at, takes_byte}
use Rattle.aa_glob_nfa.specs.Graphs.{entry_of, Graph, Leads, Reaches}
use Rattle.aa_glob_nfa.specs.Graphs.Reaches.{begins, comes, takes, stays}
use Rattle.aa_glob_nfa.specs.OfTables.{graph_of}
use Rattle.aa_glob_nfa.specs.Tables.{entry_behind, no_bytes, set_of, State, state_at}
use Rattle.aa_glob_nfa.specs.declared.entry.Entry.{Entry}
use Rattle.aa_glob_nfa.specs.declared.entry.Entry.TheVariants.{Free as FreeEntry}
use Rattle.aa_glob_nfa.specs.declared.state.ClassRow.{ClassRow}
use Rattle.aa_glob_nfa.specs.declared.state.Gate.{Gate}
use Rattle.aa_glob_nfa.specs.declared.state.Gate.TheVariants.{Free, Byte, Inside, Class, Star, DoubleStar}
use Rattle.aa_glob_nfa.specs.declared.tables.Tables.{Tables}
use Rattle.aa_glob_nfa.proofs.TableLemmas.{entry_of-graph_in, length-entries_in}
use Rattle.aa_glob_paths.specs.Alike.{AreAlike, printed, StandForPrinted}
use Rattle.aa_glob_paths.specs.code.Apart.{GetsLike, GetsLikeEach, HasOwnBytes, HaveAlike}

-- from the states that are reached behind a text two bytes lead into the same states, and leave the same of them as they are
abbrev pub LeadSame : Graph → List ℕ → ℕ → ℕ → Type 0
LeadSame g past c d =
    (q : ℕ) → Reaches g past q
    → ((r : ℕ) → Leads g q r → takes_byte (entry_of g r) c ≡ takes_byte (entry_of g r) d) × (stays_at (entry_of g q) c ≡ stays_at (entry_of g q) d)

pub same-turned : (g : Graph) (past : List ℕ) (c d : ℕ) → LeadSame g past c d → LeadSame g past d c
same-turned g past c d same q at = (λ r leads. sym ((same q at).0 r leads), sym (same q at).1)

-- what is reached behind one of them is reached behind the other
pub reached-same : (g : Graph) (past : List ℕ) (c d : ℕ) → LeadSame g past c d → {text : List ℕ} {r : ℕ} → Reaches g text r → text ≡ c ∷ past → Reaches g (d ∷ past) r
reached-same g past c d same begins is = absurd (let none = ap length is in omega (arith, none))
reached-same g past c d same (comes at leads free) is = comes (reached-same g past c d same at is) leads free
reached-same g past c d same (takes {past = text} {q = q} {r = r} {c = e} at leads taken) is =
    let here = subst (λ t. Reaches g t q) (ap (drop 1) is) at in
    takes here leads (sym ((same q here).0 r leads) ∙ ap (takes_byte (entry_of g r)) (sym (ap (λ l. get_or l 0 0) is)) ∙ taken)
reached-same g past c d same (stays {past = text} {r = r} {c = e} at stay) is =
    let here = subst (λ t. Reaches g t r) (ap (drop 1) is) at in
    stays here (sym (same r here).1 ∙ ap (stays_at (entry_of g r)) (sym (ap (λ l. get_or l 0 0) is)) ∙ stay)

-- no byte is in the set without any
abbrev four_zeros : List ℕ
four_zeros = 0 ∷ 0 ∷ 0 ∷ 0 ∷ []

zero-at : (k : ℕ) → get_or four_zeros k 0 ≡ 0
zero-at zero = refl
zero-at (suc zero) = refl
zero-at (suc (suc zero)) = refl
zero-at (suc (suc (suc zero))) = refl
zero-at (suc (suc (suc (suc k)))) = refl

in_map-none : (byte : ℕ) → in_map no_bytes byte ≡ false
in_map-none byte = ap (λ w. bit_at w (byte % 64) == 1) (zero-at (byte / 64)) ∙ ap (λ b. b == 1) (bit_at-zero (byte % 64))

-- a state's set has both bytes or neither, where those of all classes do
set-alike : (classes : List ClassRow) (q c d : ℕ) → HaveAlike classes c d → in_map no_bytes c ≡ in_map no_bytes d → in_map (set_of classes q) c ≡ in_map (set_of classes q) d
set-alike [] q c d alike none = none
set-alike (class ∷ classes) q c d alike none = elim (cases_Bool (class.state == q)) [
  | inl same ↦ rw same (All-head (λ row. in_map row.map c ≡ in_map row.map d) class classes alike)
  | inr other ↦ rw other (set-alike classes q c d (All-tail (λ row. in_map row.map c ≡ in_map row.map d) class classes alike) none)
]

-- what tells two bytes apart at a state
abbrev SameAt : Entry → ℕ → ℕ → Type 0
SameAt entry c d = (takes_byte entry c ≡ takes_byte entry d) × (stays_at entry c ≡ stays_at entry d)

-- a gate doesn't tell them apart, where neither is its own, both are inside or neither, both are zero or neither, and its set has both or neither
gate-alike : (gate : Gate) (set : ByteMap) (c d : ℕ) → ((b : ℕ) → gate ≡ Byte b → (c == b) ≡ (d == b)) → is_inside c ≡ is_inside d → (c == 0) ≡ (d == 0)
    → in_map set c ≡ in_map set d → SameAt (entry_behind gate set) c d
gate-alike Free set c d own inside nought sets = (refl, refl)
gate-alike (Byte b) set c d own inside nought sets = (own b refl, refl)
gate-alike Inside set c d own inside nought sets = (inside, refl)
gate-alike Class set c d own inside nought sets = (sets, refl)
gate-alike Star set c d own inside nought sets = (refl, inside)
gate-alike DoubleStar set c d own inside nought sets = (refl, ap not nought)

-- a byte that leads alone into no state isn't that of one
not-own : (states : List State) (own : ByteMap) (q b c : ℕ) → HasOwnBytes states (length states) own → q < length states → (state_at states q).gate ≡ Byte b
    → in_map own c ≡ false → (c == b) ≡ false
not-own states own q b c has within gate none = elim (cases_Bool (c == b)) [
  | inl same ↦ absurd (true≢false (sym (has q b within gate) ∙ ap (in_map own) (sym (eqb-true c b same)) ∙ none))
  | inr other ↦ other
]

pub tables-alike : (t : Tables) (own : ByteMap) (c d : ℕ) → HasOwnBytes t.states (length t.states) own → in_map own c ≡ false → in_map own d ≡ false
    → is_inside c ≡ is_inside d → (c == 0) ≡ (d == 0) → HaveAlike t.classes.items c d → AreAlike (graph_of t) c d
tables-alike t own c d has first second inside nought sets r = elim (cases_lt r (length t.states)) [
  | inl within ↦
      subst (λ (e : Entry). SameAt e c d) (sym (entry_of-graph_in t.states t.ways.items t.classes.items t.ends.items r within))
      (gate-alike (state_at t.states r).gate (set_of t.classes.items r) c d
      (λ b gate. not-own t.states own r b c has within gate first ∙ sym (not-own t.states own r b d has within gate second)) inside nought
      (set-alike t.classes.items r c d sets (in_map-none c ∙ sym (in_map-none d))))
  | inr past ↦
      subst (λ (e : Entry). SameAt e c d) (sym (get_or_past (graph_of t).entries r FreeEntry (omega (arith, length-entries_in t.classes.items 0 t.states, past)))) (refl, refl)
]

pub same-alike : (g : Graph) (c d : ℕ) → c ≡ d → AreAlike g c d
same-alike g c d same r = (ap (takes_byte (entry_of g r)) same, ap (stays_at (entry_of g r)) same)

-- one byte more has one like it
pub likes-more : (g : Graph) (old mid new more : List ℕ) (i d : ℕ) → i < length more → GetsLikeEach g old mid (take i more) → GetsLike g mid new (get_or more i d)
    → GetsLikeEach g old new (take (i + 1) more)
likes-more g old mid new more i d within before put =
    let next = take_more more i d within in
    record {
      keeps = λ b h. put.keeps b (before.keeps b h);
      only = λ b h. elim (put.only b h) [
        | inl early ↦ elim (before.only b early) [
          | inl first ↦ inl first
          | inr among ↦ inr (subst (λ l. Contains l b) (sym next) (Contains-append_left (take i more) (get_or more i d ∷ []) b among))
        ]
        | inr same ↦ inr (subst (λ x. Contains (take (i + 1) more) x) (sym same) (subst (λ l. Contains l (get_or more i d)) (sym next) (Contains-push (take i more) (get_or more i d))))
      ];
      like = λ c h. elim (Contains-push_cases (take i more) (get_or more i d) c (subst (λ l. Contains l c) next h)) [
        | inl early ↦ let one = before.like c early in (one.0, put.keeps one.0 one.1, one.2)
        | inr same ↦ subst (λ x. (b : ℕ) × Contains new b × AreAlike g b x) same put.like
      ];
    }

pub likes-none : (g : Graph) (bytes : List ℕ) → GetsLikeEach g bytes bytes []
likes-none g bytes = record { keeps = λ b h. h; only = λ b h. inl h; like = λ c h. absurd (omega (arith, h.1)) }

-- what can be printed is stood for, by what got one like each
pub stand-printed : (g : Graph) (bytes : List ℕ) → GetsLikeEach g [] bytes printed → StandForPrinted g bytes
stand-printed g bytes got c among =
    let one = got.like c among in
    let kind : Contains printed one.0 = elim (got.only one.0 one.1) [ inl none ↦ absurd (omega (arith, none.1)) | inr here ↦ here ] in
    (one.0, one.1, kind, one.2)
