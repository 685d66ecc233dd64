-- A state of a drawn graph is reached behind the texts that read its trail.
use mathlib.Core.List.{reverse_aux}
use Rattle.std.proofs.Common.{◌≡◌, ◌↔◌, ℕ, zero, suc, ◌<◌, ◌^◌, true, List, [], ◌∷◌, length, reverse, Contains, refl, sym, ap, ◌∙◌, inl, inr, arith, Ok}
use Rattle.std.proofs.lemmas.Bool.{false≢true}
use Rattle.std.proofs.lemmas.List.{get_or_default}
use Rattle.std.proofs.lemmas.List.Elements.{All-from_recursion, recursion_from_All}
use Rattle.std.specs.List.{AllByRecursion}
use Rattle.aa_glob_syntax.specs.Elements.{Element}
use Rattle.aa_glob_syntax.specs.Matching.{matches}
use Rattle.aa_glob_syntax.specs.Reading.{items_of, reading}
use Rattle.aa_glob.proofs.EntryLemmas.{arrives, free-behind, stays-behind, takes-behind}
use Rattle.aa_glob.specs.Drawn.{IsDrawn, Suits, SuitsLast, trail_at}
use Rattle.aa_glob_nfa.specs.Graphs.{AreBytes}
use Rattle.aa_glob_nfa.specs.Entries.{stays_at}
use Rattle.aa_glob_nfa.specs.Graphs.{begins, comes, entry_of, Graph, Leads, Reaches, stays, takes}
use Rattle.aa_glob_pattern.specs.Laws.{SomeAreReadAsOneIs, SourcesAreShorter, TrailsAreReadBehindSources, WholeTrailsAreMatched}
use Rattle.aa_glob_pattern.specs.Reads.{element_behind, reads, some_reads, Texts}
use Rattle.aa_glob_pattern.specs.Trails.{sources, Trail, trail_of}

-- each number of a text is a byte
abbrev EachIsByte : List ℕ → Type 0
EachIsByte past = AllByRecursion (λ c. c < 2 ^ 8) past

-- A state that a way leads to has a last element, and where the way comes from, that is read, one of its sources is read.
abbrev IsLedTo : Graph → List Trail → ℕ → List ℕ → Type 0
IsLedTo g trails r past = (e : Element) × (trail : Trail) × (trail_at trails r ≡ e ∷ trail) × Suits e (entry_of g r) × (some_reads (sources (e ∷ trail)) past ≡ true)

led : (g : Graph) (trails : List Trail) → SomeAreReadAsOneIs → IsDrawn g trails → (q r : ℕ) (past : List ℕ) → Leads g q r → reads (trail_at trails q) past ≡ true → IsLedTo g trails r past
led g trails some drawn q r past leads h =
    let within = drawn.within q r leads in
    let source = (drawn.ways q r within.0 within.1).0 leads in
    by_trail (trail_at trails r) refl (drawn.entries r within.1) source
  where
    by_trail : (trail : Trail) → trail_at trails r ≡ trail → SuitsLast trail (entry_of g r) → Contains (sources trail) (trail_at trails q) → IsLedTo g trails r past
    by_trail [] is suits source = absurd (omega arith)
    by_trail (e ∷ trail) is suits source = (e, trail, is, suits, (some (sources (e ∷ trail)) past).1 (trail_at trails q, source, h))

-- What reaches a state reads its trail.
reads-reached : (g : Graph) (trails : List Trail) → TrailsAreReadBehindSources → SomeAreReadAsOneIs → IsDrawn g trails → {past : List ℕ} {r : ℕ} → Reaches g past r → r < length trails → EachIsByte past → reads (trail_at trails r) past ≡ true
reads-reached g trails step some drawn begins within bytes = ap (λ (trail : Trail). reads trail []) drawn.start
reads-reached g trails step some drawn (comes {past = past} {q = q} {r = r} reached leads free) within bytes =
    let from = reads-reached g trails step some drawn reached (drawn.within q r leads).0 bytes in
    let to = led g trails some drawn q r past leads from in
    ap (λ (trail : Trail). reads trail past) to.2 ∙ step to.0 to.1 past ∙ free-behind to.0 (entry_of g r) (some_reads (sources (to.0 ∷ to.1))) past to.3 free to.4
reads-reached g trails step some drawn (takes {past = past} {q = q} {r = r} {c = c} reached leads taken) within bytes =
    let from = reads-reached g trails step some drawn reached (drawn.within q r leads).0 bytes.1 in
    let to = led g trails some drawn q r past leads from in
    ap (λ (trail : Trail). reads trail (c ∷ past)) to.2 ∙ step to.0 to.1 (c ∷ past) ∙ takes-behind to.0 (entry_of g r) (some_reads (sources (to.0 ∷ to.1))) past c to.3 bytes.0 taken to.4
reads-reached g trails step some drawn (stays {past = past} {r = r} {c = c} reached stayed) within bytes =
    by_trail (trail_at trails r) refl (drawn.entries r within) (reads-reached g trails step some drawn reached within bytes.1)
  where
    by_trail : (trail : Trail) → trail_at trails r ≡ trail → SuitsLast trail (entry_of g r) → reads (trail_at trails r) past ≡ true → reads (trail_at trails r) (c ∷ past) ≡ true
    by_trail [] is suits h = absurd (false≢true (sym (ap (λ x. stays_at x c) suits) ∙ stayed))
    by_trail (e ∷ trail) is suits h =
        let here = sym (step e trail past) ∙ ap (λ (t : Trail). reads t past) (sym is) ∙ h in
        ap (λ (t : Trail). reads t (c ∷ past)) is ∙ step e trail (c ∷ past) ∙ stays-behind e (entry_of g r) (some_reads (sources (e ∷ trail))) past c suits stayed here

-- a state is reached behind a text from one that leads to it
abbrev IsLedFrom : Graph → ℕ → List ℕ → Type 0
IsLedFrom g r past = (q : ℕ) × Leads g q r × Reaches g past q

-- A state is reached behind what reads its last element, where states that lead to it are reached behind what is read before.
arrived : (g : Graph) (r : ℕ) (e : Element) (before : Texts) → Suits e (entry_of g r) → ((past : List ℕ) → EachIsByte past → before past ≡ true → IsLedFrom g r past) → (past : List ℕ) → EachIsByte past → element_behind e before past ≡ true → Reaches g past r
arrived g r e before suits come [] bytes h =
    let arrival = arrives e (entry_of g r) before [] suits tt h in
    let from = come [] tt arrival.1 in
    comes from.2 from.1 arrival.0
arrived g r e before suits come (c ∷ past) bytes h = elim (arrives e (entry_of g r) before (c ∷ past) suits bytes.0 h) [
  | inl free ↦ let from = come (c ∷ past) bytes free.1 in comes from.2 from.1 free.0
  | inr (inl taken) ↦ let from = come past bytes.1 taken.1 in takes from.2 from.1 taken.0
  | inr (inr stayed) ↦ stays (arrived g r e before suits come past bytes.1 stayed.1) stayed.0
]

-- the empty text alone reads the empty trail
nothing_read : (past : List ℕ) → reads [] past ≡ true → past ≡ []
nothing_read [] h = refl
nothing_read (c ∷ past) h = absurd (false≢true h)

-- What reads a state's trail reaches it.
reached-reads : (n : ℕ) (g : Graph) (trails : List Trail) → TrailsAreReadBehindSources → SomeAreReadAsOneIs → SourcesAreShorter → IsDrawn g trails → (r : ℕ) → r < length trails → length (trail_at trails r) < n → (past : List ℕ) → EachIsByte past → reads (trail_at trails r) past ≡ true → Reaches g past r
reached-reads zero g trails step some shorter drawn r within long past bytes h = absurd (omega arith)
reached-reads (suc n) g trails step some shorter drawn r within long past bytes h =
    by_trail (λ q inside less past bytes h. reached-reads n g trails step some shorter drawn q inside less past bytes h) (trail_at trails r) refl (drawn.entries r within) h
  where
    by_trail : ((q : ℕ) → q < length trails → length (trail_at trails q) < n → (past : List ℕ) → EachIsByte past → reads (trail_at trails q) past ≡ true → Reaches g past q) → (trail : Trail) → trail_at trails r ≡ trail → SuitsLast trail (entry_of g r) → reads (trail_at trails r) past ≡ true → Reaches g past r
    by_trail reach [] is suits h =
        let first : r ≡ 0 = drawn.apart r 0 within drawn.begins (is ∙ sym drawn.start) in
        let none : past ≡ [] = nothing_read past (ap (λ (t : Trail). reads t past) (sym is) ∙ h) in
        rw (first, none) begins
    by_trail reach (e ∷ trail) is suits h =
        let come : (past : List ℕ) → EachIsByte past → some_reads (sources (e ∷ trail)) past ≡ true → IsLedFrom g r past = λ past bytes h.
        let source = (some (sources (e ∷ trail)) past).0 h in
        let there = drawn.all_there r source.0 within (rw is source.1) in
        let same : trail_at trails there.0 ≡ source.0 = get_or_default trails there.0 [] source.0 there.1 ∙ there.2 in
        let less = (shorter (e ∷ trail) source.0 source.1).2 in
        let length_is = ap length is in
        let length_same = ap length same in
        let leads = (drawn.ways there.0 r there.1 within).1 (rw (is, same) source.1) in
        (there.0, leads, reach there.0 there.1 (omega arith) past bytes (ap (λ (t : Trail). reads t past) same ∙ source.2))
        in
        arrived g r e (some_reads (sources (e ∷ trail))) suits come past bytes (sym (step e trail past) ∙ ap (λ (t : Trail). reads t past) (sym is) ∙ h)

-- A state is reached behind the texts that read its trail.
pub reaches-reads : TrailsAreReadBehindSources → SomeAreReadAsOneIs → SourcesAreShorter → (g : Graph) (trails : List Trail) → IsDrawn g trails → (q : ℕ) (past : List ℕ) → q < length trails → AreBytes past → (Reaches g past q ↔ (reads (trail_at trails q) past ≡ true))
reaches-reads step some shorter g trails drawn q past within bytes =
    let each = recursion_from_All (λ c. c < 2 ^ 8) past bytes in (
      λ reached. reads-reached g trails step some drawn reached within each,
      λ h. reached-reads (suc (length (trail_at trails q))) g trails step some shorter drawn q within (omega arith) past each h,
    )

-- each number of a text is a byte, whichever way the text is written
bytes-onto : (path past : List ℕ) → EachIsByte path → EachIsByte past → EachIsByte (reverse_aux path past)
bytes-onto [] past first bytes = bytes
bytes-onto (c ∷ path) past first bytes = bytes-onto path (c ∷ past) first.1 (first.0, bytes)

-- The state that has a pattern's trail is reached behind the texts that match the pattern.
pub reaches-matches : TrailsAreReadBehindSources → SomeAreReadAsOneIs → SourcesAreShorter → WholeTrailsAreMatched → (g : Graph) (trails : List Trail) → IsDrawn g trails
    → (text path : List ℕ) (q : ℕ) → reading text ≡ Ok (items_of text) → q < length trails → trail_at trails q ≡ trail_of text → AreBytes path → (Reaches g (reverse path) q ↔ (matches (items_of text) path ≡ true))
reaches-matches step some shorter whole g trails drawn text path q is_read within is bytes =
    let each = bytes-onto path [] (recursion_from_All (λ c. c < 2 ^ 8) path bytes) tt in
    let same = ap (λ (t : Trail). reads t (reverse path)) is ∙ whole text path is_read in
    let both = reaches-reads step some shorter g trails drawn q (reverse path) within (All-from_recursion (λ c. c < 2 ^ 8) (reverse path) each) in
    (λ reached. sym same ∙ both.0 reached, λ h. both.1 (same ∙ h))
