-- What is known behind the elements of a text is what its pieces come to.
use mathlib.Core.List.{reverse_aux}
use Rattle.std.proofs.Common.{◌≡◌, ℕ, ◌+◌, ◌-◌, ◌==◌, Bool, true, false, ◌||◌, if◌then◌else◌, not, nat_le, List, [], ◌∷◌, length, refl, sym, ap, ◌∙◌, inl, inr, arith, Result, Ok, Err}
use Rattle.std.proofs.Math.Bool.{or-false}
use Rattle.std.proofs.lemmas.Bool.{cases_Bool, false≢true, ne_eqb}
use Rattle.aa_bytes.specs.Bytes.{comma}
use Rattle.aa_glob_syntax.specs.Elements.{Element, Single, Open, Comma, Close, Fault, elements}
use Rattle.aa_glob_syntax.specs.Items.{Item, Byte, Group, Pattern, Patterns, NoMore, More}
use Rattle.aa_glob_syntax.specs.Reading.{Pieces, Cut, Ended, Closed, Refused, begins_with_slash, behind_comma, deepest, group, has_zero, longest, onto, pieces, reading, refused, whole}
use Rattle.aa_glob_syntax.specs.declared.pattern_error.PatternError.{PatternError}
use Rattle.aa_glob_syntax.specs.declared.pattern_error.PatternError.TheVariants.{NotAbsolute, TooDeep, TooLong, ZeroByte}
use Rattle.aa_glob_syntax.specs.declared.context.Context.TheVariants.{Elsewhere}
use Rattle.aa_glob_syntax.specs.Symbols.{symbols}
use Rattle.aa_glob_pattern.proofs.SourceLemmas.{same_texts}
use Rattle.aa_glob_pattern.specs.Reads.{either, empty_text, item_behind, Known, known, known_behind, KnownGroup, no_text, pattern_behind, patterns_behind, reads, Texts}
use Rattle.aa_glob_pattern.specs.Trails.{grouped, Trail, trail_of}

-- what is known when elements are read one by one
abbrev pub known_after : Known → List Element → Known
known_after k [] = k
known_after k (e ∷ es) = known_after (known_behind e k) es

-- what is known when a pattern is read
abbrev pattern_read : Pattern → Known → Known
pattern_read items k = record { here = pattern_behind items k.here; groups = k.groups }

-- what is known when patterns are read, each behind a comma
abbrev others_read : Patterns → Known → Known
others_read NoMore k = k
others_read (More pattern patterns) k = others_read patterns (pattern_read pattern (known_behind Comma k))

-- what is known when the pieces of a text are read
abbrev pub pieces_read : Pieces → Known → Known
pieces_read (Cut first others Ended) k = others_read others (pattern_read first k)
pieces_read (Cut first others (Closed after)) k = pieces_read after (known_behind Close (others_read others (pattern_read first k)))
pieces_read (Cut first others (Refused error)) k = k

-- No fault is in the pieces of a text that stands in so many groups, nor a brace that closes none.
abbrev pub HasNoFault : ℕ → Pieces → Type 0
HasNoFault depth (Cut first others Ended) = Unit
HasNoFault depth (Cut first others (Closed after)) = ((depth == 0) ≡ false) × HasNoFault (depth - 1) after
HasNoFault depth (Cut first others (Refused error)) = ⊥

-- an item before pieces
read-onto : (item : Item) (p : Pieces) (k : Known) (depth : ℕ) → HasNoFault depth (onto item p) → pieces_read p (record { here = item_behind item k.here; groups = k.groups }) ≡ pieces_read (onto item p) k
read-onto item (Cut first others Ended) k depth fine = refl
read-onto item (Cut first others (Closed after)) k depth fine = refl
read-onto item (Cut first others (Refused error)) k depth fine = absurd fine

pub fine-onto : (item : Item) (p : Pieces) (depth : ℕ) → HasNoFault depth (onto item p) → HasNoFault depth p
fine-onto item (Cut first others Ended) depth fine = tt
fine-onto item (Cut first others (Closed after)) depth fine = fine
fine-onto item (Cut first others (Refused error)) depth fine = fine

-- a comma before pieces
read-comma : (p : Pieces) (k : Known) (depth : ℕ) → HasNoFault depth (behind_comma p) → pieces_read p (known_behind Comma k) ≡ pieces_read (behind_comma p) k
read-comma (Cut first others Ended) k depth fine = refl
read-comma (Cut first others (Closed after)) k depth fine = refl
read-comma (Cut first others (Refused error)) k depth fine = absurd fine

pub fine-comma : (p : Pieces) (depth : ℕ) → HasNoFault depth (behind_comma p) → HasNoFault depth p
fine-comma (Cut first others Ended) depth fine = tt
fine-comma (Cut first others (Closed after)) depth fine = fine
fine-comma (Cut first others (Refused error)) depth fine = fine

-- what is known behind a group's closing brace, from what is known before the commas that are left
others-closed : (others : Patterns) (here begins ends : Texts) (gs : List KnownGroup)
    → known_behind Close (others_read others (record { here = here; groups = record { beginning = begins; ends = ends } ∷ gs }))
    ≡ record { here = either (either here ends) (patterns_behind others begins); groups = gs }
others-closed NoMore here begins ends gs =
    ap (λ (t : Texts). record { here = t; groups = gs }) (same_texts (either here ends) (either (either here ends) no_text) (λ past. sym (or-false (here past || ends past))))
others-closed (More pattern patterns) here begins ends gs =
    others-closed patterns (pattern_behind pattern begins) begins (either here ends) gs
    ∙ ap (λ (t : Texts). record { here = t; groups = gs }) (same_texts _ _ (λ past. turned (pattern_behind pattern begins past) (here past) (ends past) (patterns_behind patterns begins past)))
  where
    turned : (a b c d : Bool) → ((a || (b || c)) || d) ≡ ((b || c) || (a || d))
    turned a b c d = grind arith

-- what is known behind a whole group
group-closed : (first second : Pattern) (others : Patterns) (k : Known)
    → known_behind Close (others_read (More second others) (pattern_read first (known_behind Open k))) ≡ record { here = item_behind (Group first second others) k.here; groups = k.groups }
group-closed first second others k =
    others-closed others (pattern_behind second k.here) k.here (either (pattern_behind first k.here) no_text) k.groups
    ∙ ap (λ (t : Texts). record { here = t; groups = k.groups }) (same_texts _ _ (λ past. turned (pattern_behind second k.here past) (pattern_behind first k.here past) (patterns_behind others k.here past)))
  where
    turned : (a b c : Bool) → ((a || (b || false)) || c) ≡ (b || (a || c))
    turned a b c = grind arith

-- the pieces of a group, and those behind it
read-group : (p : Pieces) (k : Known) (depth : ℕ) → HasNoFault depth (group p) → pieces_read p (known_behind Open k) ≡ pieces_read (group p) k
read-group (Cut first others Ended) k depth fine = absurd fine
read-group (Cut first others (Refused error)) k depth fine = absurd fine
read-group (Cut first NoMore (Closed after)) k depth fine = absurd fine
read-group (Cut first (More second others) (Closed after)) k depth fine =
    ap (pieces_read after) (group-closed first second others k) ∙ read-onto (Group first second others) after k depth fine

pub fine-group : (p : Pieces) (depth : ℕ) → HasNoFault depth (group p) → HasNoFault (depth + 1) p
fine-group (Cut first others Ended) depth fine = tt
fine-group (Cut first others (Refused error)) depth fine = fine
fine-group (Cut first NoMore (Closed after)) depth fine = absurd fine
fine-group (Cut first (More second others) (Closed after)) depth fine =
    let back : depth + 1 - 1 ≡ depth = omega arith in
    (ne_eqb (depth + 1) 0 (omega arith), rw back (fine-onto (Group first second others) after depth fine))

-- a fault that is met is in the pieces
pub too_deep : (depth : ℕ) (p : Pieces) → HasNoFault depth (if depth == deepest then refused TooDeep else p) → HasNoFault depth p × ((if depth == deepest then refused TooDeep else p) ≡ p)
too_deep depth p fine = by_test (depth == deepest) fine
  where
    by_test : (c : Bool) → HasNoFault depth (if c then refused TooDeep else p) → HasNoFault depth p × ((if c then refused TooDeep else p) ≡ p)
    by_test true fine = absurd fine
    by_test false fine = (fine, refl)

-- What is known behind the elements of a text without a fault is what its pieces come to.
pub known_after-grouped : (es : List Element) (depth : ℕ) (k : Known) → HasNoFault depth (pieces depth es) → known_after k (grouped depth es) ≡ pieces_read (pieces depth es) k
known_after-grouped [] depth k fine = refl
known_after-grouped (Single item ∷ es) depth k fine =
    known_after-grouped es depth (record { here = item_behind item k.here; groups = k.groups }) (fine-onto item (pieces depth es) depth fine)
    ∙ read-onto item (pieces depth es) k depth fine
known_after-grouped (Open ∷ es) depth k fine =
    let within = too_deep depth (group (pieces (depth + 1) es)) fine in
    known_after-grouped es (depth + 1) (known_behind Open k) (fine-group (pieces (depth + 1) es) depth within.0)
    ∙ read-group (pieces (depth + 1) es) k depth within.0
    ∙ ap (λ p. pieces_read p k) (sym within.1)
known_after-grouped (Comma ∷ es) depth k fine = elim (cases_Bool (depth == 0)) [
  | inl outside ↦
      let itself = rw outside at fine in
      rw outside (known_after-grouped es depth (record { here = item_behind (Byte comma) k.here; groups = k.groups }) (fine-onto (Byte comma) (pieces depth es) depth itself) ∙ read-onto (Byte comma) (pieces depth es) k depth itself)
  | inr within ↦
      let cuts = rw within at fine in
      rw within (known_after-grouped es depth (known_behind Comma k) (fine-comma (pieces depth es) depth cuts) ∙ read-comma (pieces depth es) k depth cuts)
]
known_after-grouped (Close ∷ es) depth k fine = known_after-grouped es (depth - 1) (known_behind Close k) fine.1
known_after-grouped (Fault error ∷ es) depth k fine = absurd fine

-- Outside groups nothing is cut at commas.
abbrev CutsInGroups : ℕ → Pieces → Type 0
CutsInGroups depth (Cut first others Ended) = (depth == 0) ≡ true → others ≡ NoMore
CutsInGroups depth (Cut first others (Closed after)) = CutsInGroups (depth - 1) after
CutsInGroups depth (Cut first others (Refused error)) = Unit

cuts-onto : (item : Item) (p : Pieces) (depth : ℕ) → CutsInGroups depth p → CutsInGroups depth (onto item p)
cuts-onto item (Cut first others Ended) depth cuts = cuts
cuts-onto item (Cut first others (Closed after)) depth cuts = cuts
cuts-onto item (Cut first others (Refused error)) depth cuts = tt

cuts-comma : (p : Pieces) (depth : ℕ) → (depth == 0) ≡ false → CutsInGroups depth p → CutsInGroups depth (behind_comma p)
cuts-comma (Cut first others Ended) depth within cuts = λ outside. absurd (false≢true (sym within ∙ outside))
cuts-comma (Cut first others (Closed after)) depth within cuts = cuts
cuts-comma (Cut first others (Refused error)) depth within cuts = tt

cuts-group : (p : Pieces) (depth : ℕ) → CutsInGroups (depth + 1) p → CutsInGroups depth (group p)
cuts-group (Cut first others Ended) depth cuts = tt
cuts-group (Cut first others (Refused error)) depth cuts = tt
cuts-group (Cut first NoMore (Closed after)) depth cuts = tt
cuts-group (Cut first (More second others) (Closed after)) depth cuts =
    let back : depth + 1 - 1 ≡ depth = omega arith in
    cuts-onto (Group first second others) after depth (rw back at cuts)

cuts-if : (c : Bool) (p q : Pieces) (depth : ℕ) → CutsInGroups depth p → CutsInGroups depth q → CutsInGroups depth (if c then p else q)
cuts-if true p q depth first second = first
cuts-if false p q depth first second = second

cuts-pieces : (es : List Element) (depth : ℕ) → CutsInGroups depth (pieces depth es)
cuts-pieces [] depth = λ outside. refl
cuts-pieces (Single item ∷ es) depth = cuts-onto item (pieces depth es) depth (cuts-pieces es depth)
cuts-pieces (Open ∷ es) depth =
    cuts-if (depth == deepest) (refused TooDeep) (group (pieces (depth + 1) es)) depth tt (cuts-group (pieces (depth + 1) es) depth (cuts-pieces es (depth + 1)))
cuts-pieces (Comma ∷ es) depth = elim (cases_Bool (depth == 0)) [
  | inl outside ↦ rw outside (cuts-onto (Byte comma) (pieces depth es) depth (cuts-pieces es depth))
  | inr within ↦ rw within (cuts-comma (pieces depth es) depth within (cuts-pieces es depth))
]
cuts-pieces (Close ∷ es) depth = cuts-pieces es (depth - 1)
cuts-pieces (Fault error ∷ es) depth = tt

-- a whole text that reads as a pattern has no fault
pub fine-whole : (p : Pieces) (items : Pattern) → whole p ≡ Ok items → HasNoFault 0 p
fine-whole (Cut first others Ended) items reads = tt
fine-whole (Cut first others (Closed after)) items reads = absurd (cc)
fine-whole (Cut first others (Refused error)) items reads = absurd (cc)

-- the texts that read a whole text's pieces are those that read its pattern
whole-read : (p : Pieces) (items : Pattern) → whole p ≡ Ok items → CutsInGroups 0 p → (pieces_read p (known [])).here ≡ pattern_behind items empty_text
whole-read (Cut first others Ended) items reads cuts =
    let same : first ≡ items = cc in
    ap (λ (ps : Patterns). (others_read ps (pattern_read first (known []))).here) (cuts refl) ∙ ap (λ (ps : Pattern). pattern_behind ps empty_text) same
whole-read (Cut first others (Closed after)) items reads cuts = absurd (cc)
whole-read (Cut first others (Refused error)) items reads cuts = absurd (cc)

-- a trail that grows by elements
pub known-reverse : (es : List Element) (trail : Trail) → known (reverse_aux es trail) ≡ known_after (known trail) es
known-reverse [] trail = refl
known-reverse (e ∷ es) trail = known-reverse es (e ∷ trail)

-- a text that reads as a pattern has none of the faults that are told first
pub behind_first : (c : Bool) (error : PatternError) (rest : Result Pattern PatternError) (items : Pattern) → (if c then Err error else rest) ≡ Ok items → rest ≡ Ok items
behind_first true error rest items reads = absurd (cc)
behind_first false error rest items reads = reads

pub reading-whole : (text : List ℕ) (items : Pattern) → reading text ≡ Ok items → whole (pieces 0 (elements Elsewhere (symbols text))) ≡ Ok items
reading-whole text items reads =
    let behind_length = behind_first (not (nat_le (length text) longest)) TooLong _ items reads in
    let behind_zero = behind_first (has_zero text) ZeroByte _ items behind_length in
    behind_first (not (begins_with_slash text)) NotAbsolute _ items behind_zero

-- The texts that read a pattern's trail are those that read its items.
pub reads-trail_of : (text : List ℕ) (items : Pattern) → reading text ≡ Ok items → reads (trail_of text) ≡ pattern_behind items empty_text
reads-trail_of text items is_read =
    let es = elements Elsewhere (symbols text) in
    let all = reading-whole text items is_read in
    ap (λ (k : Known). k.here) (known-reverse (grouped 0 es) [] ∙ known_after-grouped es 0 (known []) (fine-whole (pieces 0 es) items all))
    ∙ whole-read (pieces 0 es) items all (cuts-pieces es 0)
