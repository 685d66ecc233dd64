-- Where the sources of a trail lie, and how many groups are open behind it.
use mathlib.Core.List.{reverse_aux, reverse_aux-eq}
use Rattle.std.proofs.Common.{◌≡◌, ℕ, zero, suc, ◌+◌, ◌-◌, ◌<◌, ◌==◌, Bool, true, false, if◌then◌else◌, List, [], ◌∷◌, ◌++◌, length, reverse, refl, sym, ap, ◌∙◌, inl, inr, arith, Contains, ◌↔◌, slice_index_or, Ok}
use Rattle.std.proofs.lemmas.Bool.{cases_Bool, false≢true, or_cases, or_left, or_right}
use Rattle.std.proofs.lemmas.List.{length-append}
use Rattle.std.proofs.lemmas.List.Elements.{All-cons, All-contains, All-nil}
use Rattle.std.specs.List.{All}
use Rattle.aa_bytes.specs.Bytes.{comma}
use Rattle.aa_glob_syntax.specs.Elements.{Element, Single, Open, Comma, Close, Fault, elements}
use Rattle.aa_glob_syntax.specs.Items.{Byte, Pattern}
use Rattle.aa_glob_syntax.specs.OpenGroups.{groups_behind, sources_behind}
use Rattle.aa_glob_syntax.specs.Reading.{group, pieces, reading}
use Rattle.aa_glob_syntax.specs.Symbols.{symbols}
use Rattle.aa_glob_syntax.specs.declared.context.Context.TheVariants.{Elsewhere}
use Rattle.aa_glob_pattern.proofs.WalkLemmas.{fine-comma, fine-group, fine-onto, fine-whole, HasNoFault, reading-whole, too_deep}
use Rattle.aa_glob_pattern.specs.Beginnings.{IsSuffixOf}
use Rattle.aa_glob_pattern.specs.Laws.{IsShorterBeginning, StandsInGroups}
use Rattle.aa_glob_pattern.specs.Reads.{reads, some_reads}
use Rattle.aa_glob_pattern.specs.Trails.{depth_behind, element_within, grouped, groups_of, sources, Trail, trail_behind, trail_of, TrailGroup}

-- a trail has this one as a beginning, or is it
abbrev HasSuffix : Trail → Trail → Type 0
HasSuffix trail s = IsSuffixOf s trail

one_more : (e : Element) (trail s : Trail) → HasSuffix trail s → HasSuffix (e ∷ trail) s
one_more e trail s h = (e ∷ h.0, ap (λ l. e ∷ l) h.1)

each_one_more : (e : Element) (trail : Trail) (ss : List Trail) → All (HasSuffix trail) ss → All (HasSuffix (e ∷ trail)) ss
each_one_more e trail ss each = λ k d within. one_more e trail _ (each k d within)

-- what open groups hold are beginnings of the trail
abbrev AreWithin : Trail → List TrailGroup → Type 0
AreWithin trail [] = Unit
AreWithin trail (g ∷ gs) = HasSuffix trail g.beginning × All (HasSuffix trail) g.ends × AreWithin trail gs

within_more : (e : Element) (trail : Trail) (gs : List TrailGroup) → AreWithin trail gs → AreWithin (e ∷ trail) gs
within_more e trail [] h = tt
within_more e trail (g ∷ gs) h = (one_more e trail g.beginning h.0, each_one_more e trail g.ends h.1, within_more e trail gs h.2)

within-behind : (e : Element) (trail : Trail) (gs : List TrailGroup) → AreWithin trail gs → AreWithin (e ∷ trail) (groups_behind e trail (e ∷ trail) gs)
within-behind (Single item) trail gs h = within_more (Single item) trail gs h
within-behind Open trail gs h = (([], refl), All-nil (HasSuffix (Open ∷ trail)), within_more Open trail gs h)
within-behind Comma trail [] h = tt
within-behind Comma trail (g ∷ gs) h =
    let more = within_more Comma trail (g ∷ gs) h in
    (more.0, All-cons (HasSuffix (Comma ∷ trail)) trail g.ends (Comma ∷ [], refl) more.1, more.2)
within-behind Close trail [] h = tt
within-behind Close trail (g ∷ gs) h = within_more Close trail gs h.2
within-behind (Fault error) trail gs h = within_more (Fault error) trail gs h

within-groups : (trail : Trail) → AreWithin trail (groups_of trail)
within-groups [] = tt
within-groups (e ∷ trail) = within-behind e trail (groups_of trail) (within-groups trail)

-- one trail alone
alone : (trail s : Trail) → HasSuffix trail s → All (HasSuffix trail) (s ∷ [])
alone trail s h = All-cons (HasSuffix trail) s [] h (All-nil (HasSuffix trail))

within-sources : (e : Element) (trail : Trail) (gs : List TrailGroup) → AreWithin trail gs → All (HasSuffix trail) (sources_behind e trail gs)
within-sources (Single item) trail gs h = alone trail trail ([], refl)
within-sources Open trail gs h = alone trail trail ([], refl)
within-sources Comma trail [] h = alone trail trail ([], refl)
within-sources Comma trail (g ∷ gs) h = alone trail g.beginning h.0
within-sources Close trail [] h = alone trail trail ([], refl)
within-sources Close trail (g ∷ gs) h = All-cons (HasSuffix trail) trail g.ends ([], refl) h.1
within-sources (Fault error) trail gs h = alone trail trail ([], refl)

-- The sources of a trail are beginnings of it, and shorter.
pub shorter-sources : (trail s : Trail) → Contains (sources trail) s → IsShorterBeginning s trail
shorter-sources [] s h = absurd (omega arith)
shorter-sources (e ∷ trail) s h =
    let begins = All-contains (HasSuffix trail) (sources (e ∷ trail)) s (within-sources e trail (groups_of trail) (within-groups trail)) h in
    let long = length-append begins.0 s in
    let same = ap length begins.1 in
    (e ∷ begins.0, ap (λ l. e ∷ l) begins.1, omega arith)

-- some trail is read exactly where one of them is
pub some_reads-one : (trails : List Trail) (past : List ℕ) → (some_reads trails past ≡ true ↔ ((trail : Trail) × Contains trails trail × (reads trail past ≡ true)))
some_reads-one trails past = (found trails, λ h. passes trails h.0 h.1.0 h.1.1 h.1.2 h.2)
  where
    found : (trails : List Trail) → some_reads trails past ≡ true → (trail : Trail) × Contains trails trail × (reads trail past ≡ true)
    found [] h = absurd (false≢true h)
    found (t ∷ ts) h = elim (or_cases (reads t past) (some_reads ts past) h) [
      | inl first ↦ (t, (0, omega arith, refl), first)
      | inr later ↦ let rest = found ts later in (rest.0, (suc rest.1.0, omega arith, rest.1.2), rest.2)
    ]

    passes : (trails : List Trail) (trail : Trail) (k : ℕ) → k < length trails → slice_index_or trails k trail ≡ trail → reads trail past ≡ true → some_reads trails past ≡ true
    passes [] trail k within is h = absurd (omega arith)
    passes (t ∷ ts) trail zero within is h = or_left (reads t past) (some_reads ts past) (ap (λ s. reads s past) is ∙ h)
    passes (t ∷ ts) trail (suc k) within is h = or_right (reads t past) (some_reads ts past) (passes ts trail k (omega arith) is h)

-- a trail that grows by elements
trail_behind-onto : (depth : ℕ) (es : List Element) (trail : Trail) → trail_behind trail depth es ≡ reverse_aux (grouped depth es) trail
trail_behind-onto depth [] trail = refl
trail_behind-onto depth (e ∷ es) trail = trail_behind-onto (depth_behind depth e) es (element_within depth e ∷ trail)

pub trail_behind-reverse : (depth : ℕ) (es : List Element) (trail : Trail) → trail_behind trail depth es ≡ reverse (grouped depth es) ++ trail
trail_behind-reverse depth es trail = trail_behind-onto depth es trail ∙ reverse_aux-eq (grouped depth es) trail

pub trail_of-behind : (text : List ℕ) → trail_of text ≡ trail_behind [] 0 (elements Elsewhere (symbols text))
trail_of-behind text = sym (trail_behind-onto 0 (elements Elsewhere (symbols text)) [])

-- as many groups are open as were opened and not closed
length-open : (e : Element) (trail : Trail) (gs : List TrailGroup) → length (groups_behind e trail (e ∷ trail) gs) ≡ depth_behind (length gs) e
length-open (Single item) trail gs = refl
length-open Open trail gs = omega arith
length-open Comma trail [] = refl
length-open Comma trail (g ∷ gs) = refl
length-open Close trail [] = refl
length-open Close trail (g ∷ gs) = omega arith
length-open (Fault error) trail gs = refl

pub length-behind : (e : Element) (trail : Trail) → length (groups_of (e ∷ trail)) ≡ depth_behind (length (groups_of trail)) e
length-behind e trail = length-open e trail (groups_of trail)

pub length-groups : (e : Element) (trail : Trail) → length (groups_of (element_within (length (groups_of trail)) e ∷ trail)) ≡ depth_behind (length (groups_of trail)) e
length-groups (Single item) trail = refl
length-groups Open trail = length-behind Open trail
length-groups Comma trail = by_test (length (groups_of trail) == 0)
  where
    by_test : (c : Bool) → length (groups_of ((if c then Single (Byte comma) else Comma) ∷ trail)) ≡ length (groups_of trail)
    by_test true = refl
    by_test false = length-behind Comma trail
length-groups Close trail = length-behind Close trail
length-groups (Fault error) trail = refl

-- a depth that is not zero
pub not_outside : (depth : ℕ) → (depth == 0) ≡ false → 0 < depth
not_outside zero h = absurd (false≢true (sym h))
not_outside (suc depth) h = omega arith

-- commas and braces of a text without a fault stand in groups
stands-behind : (es : List Element) (depth : ℕ) (trail : Trail) → length (groups_of trail) ≡ depth → HasNoFault depth (pieces depth es) → StandsInGroups trail → StandsInGroups (trail_behind trail depth es)
stands-behind [] depth trail opened fine stands = stands
stands-behind (Single item ∷ es) depth trail opened fine stands =
    stands-behind es depth (Single item ∷ trail) opened (fine-onto item (pieces depth es) depth fine) (λ h. absurd (false≢true h), stands)
stands-behind (Open ∷ es) depth trail opened fine stands =
    let within = too_deep depth (group (pieces (depth + 1) es)) fine in
    stands-behind es (depth + 1) (Open ∷ trail) (omega arith) (fine-group (pieces (depth + 1) es) depth within.0) (λ h. absurd (false≢true h), stands)
stands-behind (Comma ∷ es) depth trail opened fine stands = elim (cases_Bool (depth == 0)) [
  | inl outside ↦
      let itself = rw outside at fine in
      rw outside (stands-behind es depth (Single (Byte comma) ∷ trail) opened (fine-onto (Byte comma) (pieces depth es) depth itself) (λ h. absurd (false≢true h), stands))
  | inr within ↦
      let cuts = rw within at fine in
      let deep = not_outside depth within in
      let some : 0 < length (groups_of trail) = omega arith in
      rw within (stands-behind es depth (Comma ∷ trail) (length-behind Comma trail ∙ opened) (fine-comma (pieces depth es) depth cuts) (λ h. some, stands))
]
stands-behind (Close ∷ es) depth trail opened fine stands =
    let deep = not_outside depth fine.0 in
    let some : 0 < length (groups_of trail) = omega arith in
    stands-behind es (depth - 1) (Close ∷ trail) (length-behind Close trail ∙ ap (λ n. n - 1) opened) fine.1 (λ h. some, stands)
stands-behind (Fault error ∷ es) depth trail opened fine stands = absurd fine

-- In a text that reads as a pattern each comma and each closing brace stands in a group, but for commas that stand for themselves.
pub stands-trail_of : (text : List ℕ) (items : Pattern) → reading text ≡ Ok items → StandsInGroups (trail_of text)
stands-trail_of text items is_read =
    let es = elements Elsewhere (symbols text) in
    let all = reading-whole text items is_read in
    rw (trail_of-behind text) (stands-behind es 0 [] refl (fine-whole (pieces 0 es) items all) tt)

-- So does each of its beginnings.
pub stands-beginning : (later : List Element) (trail : Trail) → StandsInGroups (later ++ trail) → StandsInGroups trail
stands-beginning [] trail stands = stands
stands-beginning (e ∷ later) trail stands = stands-beginning later trail stands.1
