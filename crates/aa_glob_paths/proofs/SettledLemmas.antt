-- What is settled stays so behind all that follows.
use Rattle.std.proofs.Common.{◌≡◌, ◌≢◌, ℕ, ◌+◌, ◌<◌, ◌≤◌, Bool, true, false, not, List, [], ◌∷◌, ◌++◌, length, length-append, drop, get_or, refl, sym, ◌∙◌, ap, subst, inl, inr, arith, ne_eqb}
use Rattle.std.proofs.lemmas.Bool.{cases_eq, cases_lt, true≢false}
use Rattle.std.proofs.lemmas.List.{get_or_append_left, get_or_past, get_or_push}
use Rattle.aa_glob_nfa.specs.Entries.{is_free, stays_at, takes_byte}
use Rattle.aa_glob_nfa.specs.Graphs.{entry_of, Graph, Reaches, Stays}
use Rattle.aa_glob_nfa.specs.OfTables.{graph_of}
use Rattle.aa_glob_nfa.specs.Tables.{entry_behind, set_of, state_at}
use Rattle.aa_glob_nfa.specs.declared.state.Gate.TheVariants.{DoubleStar as DoubleStarGate}
use Rattle.aa_glob_nfa.specs.declared.tables.Tables.{Tables}
use Rattle.aa_glob_nfa.proofs.TableLemmas.{entry_of-graph_in, Leads-on, length-entries_in}
use Rattle.aa_glob_nfa.specs.Graphs.Reaches.{begins, comes, takes, stays}
use Rattle.aa_glob_nfa.specs.declared.entry.Entry.{Entry}
use Rattle.aa_glob_nfa.specs.declared.entry.Entry.TheVariants.{Free, Byte, Inside, Class, Star, DoubleStar}
use Rattle.aa_glob_paths.specs.SetLaws.{NotPassedOverIsUnsettled}
use Rattle.aa_glob_paths.specs.Reachable.{IsUnsettled, StaysUnsettled}
use Rattle.aa_glob_paths.specs.Settled.{MarksSettled, Settles, TakesNoZero}

-- before the last byte of a text that leads somewhere the text leads somewhere, too
somewhere-before : (g : Graph) {text : List ℕ} {r : ℕ} → Reaches g text r → (past : List ℕ) (c : ℕ) → text ≡ c ∷ past → (q : ℕ) × Reaches g past q
somewhere-before g begins past c is = absurd (let none = ap length is in omega (arith, none))
somewhere-before g (comes at leads free) past c is = somewhere-before g at past c is
somewhere-before g (takes {past = text} {q = q} at leads taken) past c is = (q, subst (λ t. Reaches g t q) (ap (drop 1) is) at)
somewhere-before g (stays {past = text} {r = r} at stay) past c is = (r, subst (λ t. Reaches g t r) (ap (drop 1) is) at)

-- zero leaves no state as it is
stays-none : (entry : Entry) → stays_at entry 0 ≡ false
stays-none Free = refl
stays-none (Byte b) = refl
stays-none Inside = refl
stays-none (Class map) = refl
stays-none Star = refl
stays-none DoubleStar = refl

-- that byte isn't zero
not-zero : (g : Graph) → TakesNoZero g → {text : List ℕ} {r : ℕ} → Reaches g text r → (past : List ℕ) (c : ℕ) → text ≡ c ∷ past → c ≢ 0
not-zero g none begins past c is zero_is = absurd (let wrong = ap length is in omega (arith, wrong))
not-zero g none (comes at leads free) past c is zero_is = not-zero g none at past c is zero_is
not-zero g none (takes {r = r} {c = d} at leads taken) past c is zero_is =
    let same : d ≡ 0 = ap (λ l. get_or l 0 0) is ∙ zero_is in
    true≢false (sym taken ∙ ap (takes_byte (entry_of g r)) same ∙ none r)
not-zero g none (stays {r = r} {c = d} at stay) past c is zero_is =
    let same : d ≡ 0 = ap (λ l. get_or l 0 0) is ∙ zero_is in
    true≢false (sym stay ∙ ap (stays_at (entry_of g r)) same ∙ stays-none (entry_of g r))

-- where no settled state lives behind a text that leads somewhere, none does behind a beginning of it
unsettled-before : (g : Graph) (classes : List ℕ) (settled : List Bool) → MarksSettled g classes settled → (past : List ℕ) → (r : ℕ) × Reaches g past r
    → IsUnsettled g settled past → StaysUnsettled g settled past
unsettled-before g classes settled marks [] lives none = none
unsettled-before g classes settled marks (c ∷ past) lives none = (
  none,
  unsettled-before g classes settled marks past (somewhere-before g lives.1 past c refl) (λ q at is.
      let settles = marks q is in
      none q (stays at (settles.stays c (not-zero g settles.no_zero lives.1 past c refl))) is),
)

pub not-passed_over : NotPassedOverIsUnsettled
not-passed_over g classes settled past marks lives not_passed = unsettled-before g classes settled marks past lives (λ q at is. not_passed ((marks q is).ends past at))

-- zero brings into no state, where it brings into none that there is
pub takes-none : (t : Tables) (count : ℕ) → ((r : ℕ) → r < count → takes_byte (entry_of (graph_of t) r) 0 ≡ false) → length t.states ≤ count → TakesNoZero (graph_of t)
takes-none t count none end r = elim (cases_lt r count) [
  | inl low ↦ none r low
  | inr past ↦
      let g = graph_of t in
      let long = length-entries_in t.classes.items 0 t.states in
      ap (λ e. takes_byte e 0) (get_or_past g.entries r Free (omega (arith, past, long, end)))
]

-- a state whose gate is `**` is left as it is by each byte but zero
pub stays-double : (t : Tables) (q : ℕ) → q < length t.states → (state_at t.states q).gate ≡ DoubleStarGate → (c : ℕ) → c ≢ 0 → Stays (graph_of t) q c
stays-double t q within is c other =
    let set = set_of t.classes.items q in
    rw (entry_of-graph_in t.states t.ways.items t.classes.items t.ends.items q within)
    (ap (λ gate. stays_at (entry_behind gate set) c) is ∙ ap not (ne_eqb c 0 other))

-- a way that leads on to a state that is entered freely
pub follows-on : (t : Tables) (q r : ℕ) → r < length t.states → (state_at t.states r).leads_on ≡ true → is_free (entry_of (graph_of t) (r + 1)) ≡ true
    → ((past : List ℕ) → Reaches (graph_of t) past q → Reaches (graph_of t) past r) → (past : List ℕ) → Reaches (graph_of t) past q → Reaches (graph_of t) past (r + 1)
follows-on t q r within on free follows past at = comes (follows past at) (Leads-on t.states t.ways.items t.classes.items t.ends.items r within on) free

-- one state more
pub marks-more : (g : Graph) (classes : List ℕ) (settled : List Bool) (mark : Bool) (at : ℕ) → length settled ≡ at → MarksSettled g classes settled → (mark ≡ true → Settles g classes at)
    → MarksSettled g classes (settled ++ mark ∷ [])
marks-more g classes settled mark at long marks here q is = elim (cases_lt q at) [
  | inl low ↦ marks q (sym (get_or_append_left settled (mark ∷ []) false q (omega (arith, low, long))) ∙ is)
  | inr high ↦ elim (cases_eq q at) [
    | inl same ↦ subst (Settles g classes) (sym same) (here (sym (get_or_push settled mark false at long) ∙ ap (λ k. get_or (settled ++ mark ∷ []) k false) (sym same) ∙ is))
    | inr other ↦
        let more = length-append settled (mark ∷ []) in
        absurd (true≢false (sym is ∙ get_or_past (settled ++ mark ∷ []) q false (omega (arith, more, long, high, other))))
  ]
]
