-- The steps in which lists are written out.
use Rattle.std.proofs.Common.{Global, ◌≡◌, ℕ, ◌+◌, ◌*◌, ◌<◌, ◌≤◌, List, [], ◌∷◌, ◌++◌, map, length, length-append, take, append-nil, append_assoc, arith, refl, sym, ap, subst, ◌∙◌}
use Rattle.std.specs.Prelude.{Some, Vec, slice_get}
use Rattle.std.proofs.lemmas.List.{length-take, map-append, take-append-le}
use Rattle.aa_text_expansion.specs.Joining.{cut_off, joined, most_kept, texts_of}
use Rattle.aa_text_expansion.specs.code.Made.{Listed, listed_at, no_texts, one_step_more, with_ends, with_more}
use Rattle.aa_text_expansion.specs.code.Written.{Adds, AreStacked, IsBegunLast, IsStacked, IsStarted, IsStep, Waits, ahead, ends_of, of_cell, outcome, outcomes, rest_at, rests, steps_ahead, the_end}
use Rattle.aa_text_expansion.specs.declared.writing.Begun.{Begun}
use Rattle.aa_text_expansion.specs.declared.writing.Cell.{Cell}
use Rattle.aa_text_expansion.specs.declared.writing.Writing.{Writing}
use Rattle.aa_text_expansion.proofs.GrownLemmas.{grown-front}
use Rattle.aa_text_expansion.proofs.JoiningLemmas.{cut_off-append, joined-append, joined-joined, joined-nil, map-ends, map-same, take-front}
use Rattle.aa_text_expansion.proofs.MadeLemmas.{joined-length}
use Rattle.aa_text_expansion.proofs.WrittenLemmas.{earlier-pushed, earlier-taken, outcomes-agree, outcomes-pushed, rest-cell, rest-pushed, rests-pushed, rests-taken, stacked-higher, stacked-popped, stacked-pushed, steps-agree, steps-pushed}

-- bytes are written behind a text
pub ends-written : (text bytes : List ℕ) (ends : List (List ℕ))
    → cut_off (map (λ end. take most_kept (text ++ bytes) ++ end) ends) ≡ cut_off (map (λ end. text ++ end) (joined (bytes ∷ []) ends))
ends-written text bytes ends =
    map-ends (λ end. take most_kept (text ++ bytes) ++ end) (take most_kept) ends
    ∙ map-same (λ end. take most_kept (take most_kept (text ++ bytes) ++ end)) (λ end. take most_kept (text ++ (bytes ++ end))) ends
    (λ end. take-front most_kept (text ++ bytes) end ∙ ap (take most_kept) (append_assoc text bytes end))
    ∙ sym (
    ap (λ all. cut_off (map (λ end. text ++ end) all)) (append-nil (map (λ end. bytes ++ end) ends))
    ∙ ap cut_off (map-ends (λ end. bytes ++ end) (λ end. text ++ end) ends) ∙ map-ends (λ end. text ++ (bytes ++ end)) (take most_kept) ends
    )

-- nothing is written behind a text that is full
pub ends-full : (text : List ℕ) (texts ends : List (List ℕ)) → most_kept ≤ length text → length texts ≡ 1
    → cut_off (map (λ end. text ++ end) ends) ≡ cut_off (map (λ end. text ++ end) (joined texts ends))
ends-full text [] ends full one = absurd (omega arith)
ends-full text (first ∷ second ∷ texts) ends full one = absurd (omega arith)
ends-full text (first ∷ []) ends full one =
    map-ends (λ end. text ++ end) (take most_kept) ends
    ∙ map-same (λ end. take most_kept (text ++ end)) (λ end. take most_kept (text ++ (first ++ end))) ends
    (λ end. take-append-le most_kept text end full ∙ sym (take-append-le most_kept text (first ++ end) full))
    ∙ sym (
    ap (λ all. cut_off (map (λ end. text ++ end) all)) (append-nil (map (λ end. first ++ end) ends))
    ∙ ap cut_off (map-ends (λ end. first ++ end) (λ end. text ++ end) ends) ∙ map-ends (λ end. text ++ (first ++ end)) (take most_kept) ends
    )

-- the empty text before each
map-nothing : (ends : List (List ℕ)) → map (λ end. [] ++ end) ends ≡ ends
map-nothing [] = refl
map-nothing (end ∷ ends) = ap (◌∷◌ end) (map-nothing ends)

-- the texts of two lists are written behind a text
pub ends-both : (text : List ℕ) (texts more ends : List (List ℕ))
    → cut_off (map (λ end. text ++ end) (joined (texts ++ more) ends)) ≡ cut_off (map (λ end. text ++ end) (joined texts ends)) ++ cut_off (map (λ end. text ++ end) (joined more ends))
ends-both text texts more ends =
    ap (λ all. cut_off (map (λ end. text ++ end) all)) (joined-append texts more ends)
    ∙ ap cut_off (map-append (λ end. text ++ end) (joined texts ends) (joined more ends))
    ∙ cut_off-append (map (λ end. text ++ end) (joined texts ends)) (map (λ end. text ++ end) (joined more ends))

-- the steps through joined lists
pub steps-joined : (first second rest : Listed) → (with_ends first (with_ends second rest)).steps < (with_ends (one_step_more (with_ends first second)) rest).steps
steps-joined first second rest =
    let a = length first.texts in
    let b = length second.texts in
    let r = rest.steps in
    let all : length (joined first.texts second.texts) * r ≡ a * (b * r) = rw (joined-length first.texts second.texts) (omega arith) in
    let parts : a * (second.steps + b * r) ≡ a * second.steps + a * (b * r) = omega arith in
    omega arith

-- and through those of which one stands behind the other
pub steps-both : (first second rest : Listed) → (with_ends first rest).steps + (with_ends second rest).steps < (with_ends (one_step_more (with_more first second)) rest).steps
steps-both first second rest =
    let a = length first.texts in
    let b = length second.texts in
    let r = rest.steps in
    let all : length (first.texts ++ second.texts) * r ≡ a * r + b * r = rw (length-append first.texts second.texts) (omega arith) in
    omega arith

module _ (lists : List Listed) where
  -- one more text waits
  pub waits : (before after : Writing) (begun : Begun) → IsStacked before → begun.rest ≤ begun.height → begun.height ≡ length before.cells.items
      → after.cells ≡ before.cells → after.done ≡ before.done → after.waiting.items ≡ before.waiting.items ++ begun ∷ []
      → Waits lists before (outcome lists (rests lists before.cells.items) begun) (ahead lists (rests lists before.cells.items) begun).steps after
  waits before after begun stacked within high cells done pushed = record {
    stacked = record {
      waiting = rw (cells, pushed) (stacked-pushed 0 before.waiting.items (length before.cells.items) (length before.cells.items) begun stacked.waiting (omega arith) within (omega arith));
      cells = rw cells stacked.cells;
    };
    done = done;
    cells = ap (λ all. all.items) cells;
    texts = rw (cells, pushed) (outcomes-pushed lists (rests lists before.cells.items) before.waiting.items begun);
    steps = rw (cells, pushed) (steps-pushed lists (rests lists before.cells.items) before.waiting.items begun);
  }

  -- which adds what will come of it
  pub waits-adds : (before after : Writing) (more : List (List ℕ)) (cost : ℕ) → Waits lists before more cost after → Adds lists before more cost after
  waits-adds before after more cost w = record {
    stacked = w.stacked;
    texts = rw (w.done, w.texts) refl;
    steps = let same = w.steps in omega arith;
  }

  -- one more cell, and those that wait are as they were
  pub stacked-linked : (before linked : Writing) (cell : Cell) → IsStacked before → cell.rest ≤ length before.cells.items → linked.cells.items ≡ before.cells.items ++ cell ∷ []
      → linked.waiting ≡ before.waiting → IsStacked linked
  stacked-linked before linked cell stacked within cells waiting = record {
    waiting = rw (waiting, cells) (stacked-higher 0 before.waiting.items (length before.cells.items) (length (before.cells.items ++ cell ∷ [])) stacked.waiting (rw (length-append before.cells.items (cell ∷ [])) (omega arith)));
    cells = rw cells (earlier-pushed 0 before.cells.items cell stacked.cells (omega arith));
  }

  -- a text waits behind which a new cell goes
  pub linked-adds : (before linked after : Writing) (cell : Cell) (text : List ℕ) (first : Listed) → IsStacked before → linked.cells.items ≡ before.cells.items ++ cell ∷ []
      → linked.waiting ≡ before.waiting → linked.done ≡ before.done
      → Waits lists linked (cut_off (map (λ end. text ++ end) (with_ends first (rest_at (rests lists linked.cells.items) (length linked.cells.items))).texts))
      (with_ends first (rest_at (rests lists linked.cells.items) (length linked.cells.items))).steps after
      → Adds lists before (cut_off (map (λ end. text ++ end) (with_ends first (of_cell lists (rests lists before.cells.items) cell)).texts))
      (with_ends first (of_cell lists (rests lists before.cells.items) cell)).steps after
  linked-adds before linked after cell text first stacked cells waiting done w = record {
    stacked = w.stacked;
    texts = rw (w.done, done, w.texts, waiting, other, same) refl;
    steps = let all = rw (waiting, steps, same) at w.steps in omega arith;
  }
    where
      high : length linked.cells.items ≡ 1 + length before.cells.items
      high = rw (cells, length-append before.cells.items (cell ∷ [])) (omega arith)

      same : rest_at (rests lists linked.cells.items) (length linked.cells.items) ≡ of_cell lists (rests lists before.cells.items) cell
      same = rw (high, cells) (rest-pushed lists before.cells.items cell)

      other : outcomes lists (rests lists linked.cells.items) before.waiting.items ≡ outcomes lists (rests lists before.cells.items) before.waiting.items
      other = rw cells (outcomes-agree lists 0 before.waiting.items (length before.cells.items) (rests lists before.cells.items) (rests lists (before.cells.items ++ cell ∷ [])) stacked.waiting (rests-pushed lists before.cells.items cell))

      steps : steps_ahead lists (rests lists linked.cells.items) before.waiting.items ≡ steps_ahead lists (rests lists before.cells.items) before.waiting.items
      steps = rw cells (steps-agree lists 0 before.waiting.items (length before.cells.items) (rests lists before.cells.items) (rests lists (before.cells.items ++ cell ∷ [])) stacked.waiting (rests-pushed lists before.cells.items cell))

  -- the text that was begun last goes on
  pub begun-last : (before after : Writing) (begun : Begun) → IsStacked before → before.waiting.items ≡ after.waiting.items ++ begun ∷ [] → after.done ≡ before.done
      → after.cells.items ≡ take begun.height before.cells.items → IsBegunLast lists before begun after
  begun-last before after begun stacked popped done cells = record {
    stacked = record {
      waiting = rw size parts.0;
      cells = rw cells (earlier-taken 0 before.cells.items begun.height stacked.cells);
    };
    within = rw size parts.1;
    texts = rw (popped, done, outcomes-pushed lists (rests lists before.cells.items) after.waiting.items begun, agree begun.rest parts.1, sym (outcomes-agree lists 0 after.waiting.items begun.height (rests lists before.cells.items) (rests lists after.cells.items) parts.0 agree)) refl;
    steps = rw (popped, steps-pushed lists (rests lists before.cells.items) after.waiting.items begun, agree begun.rest parts.1, sym (steps-agree lists 0 after.waiting.items begun.height (rests lists before.cells.items) (rests lists after.cells.items) parts.0 agree)) refl;
  }
    where
      parts : AreStacked 0 after.waiting.items begun.height × (begun.rest ≤ begun.height) × (begun.height ≤ length before.cells.items)
      parts = stacked-popped 0 after.waiting.items (length before.cells.items) begun (rw popped at stacked.waiting)

      size : length after.cells.items ≡ begun.height
      size = let few = parts.2 in rw (cells, length-take begun.height before.cells.items) (omega arith)

      agree : (number : ℕ) → number ≤ begun.height → rest_at (rests lists after.cells.items) number ≡ rest_at (rests lists before.cells.items) number
      agree = rw cells (rests-taken lists before.cells.items begun.height parts.2)

  -- a step that leaves no texts
  pub step-none : (before : Writing) (begun : Begun) → IsStacked before → listed_at lists begun.list ≡ no_texts → IsStep lists before begun before
  step-none before begun stacked none = record {
    stacked = stacked;
    texts = rw none refl;
    steps = rw none (omega arith);
  }

  -- a step that adds what there was, for less
  pub step-adds : (before after : Writing) (begun : Begun) (more : List (List ℕ)) (cost : ℕ) → Adds lists before more cost after
      → more ≡ outcome lists (rests lists before.cells.items) begun → cost < (ahead lists (rests lists before.cells.items) begun).steps → IsStep lists before begun after
  step-adds before after begun more cost adds same less = record {
    stacked = adds.stacked;
    texts = adds.texts ∙ rw same refl;
    steps = let most = adds.steps in omega arith;
  }

  -- a text is written
  pub step-text : (before after : Writing) (begun : Begun) (bytes text : List ℕ) → listed_at lists begun.list ≡ record { texts = bytes ∷ []; steps = 1 }
      → text ≡ take most_kept (begun.text.items ++ bytes)
      → Adds lists before (cut_off (map (λ end. text ++ end) (rest_at (rests lists before.cells.items) begun.rest).texts)) (rest_at (rests lists before.cells.items) begun.rest).steps after
      → IsStep lists before begun after
  step-text before after begun bytes text list written adds =
      step-adds before after begun _ _ adds
      (rw (list, written) (ends-written begun.text.items bytes (rest_at (rests lists before.cells.items) begun.rest).texts)) (rw list (omega arith))

  -- nothing is written behind a text that is full
  pub step-full : (before after : Writing) (begun : Begun) → length (listed_at lists begun.list).texts ≡ 1 → 1 ≤ (listed_at lists begun.list).steps → most_kept ≤ length begun.text.items
      → Adds lists before (cut_off (map (λ end. begun.text.items ++ end) (rest_at (rests lists before.cells.items) begun.rest).texts)) (rest_at (rests lists before.cells.items) begun.rest).steps after
      → IsStep lists before begun after
  step-full before after begun one some full adds =
      let times : length (listed_at lists begun.list).texts * (rest_at (rests lists before.cells.items) begun.rest).steps ≡ (rest_at (rests lists before.cells.items) begun.rest).steps = rw one (omega arith) in
      step-adds before after begun _ _ adds
      (ends-full begun.text.items (listed_at lists begun.list).texts (rest_at (rests lists before.cells.items) begun.rest).texts full one) (omega arith)

  -- the texts of joined lists are written one behind the other
  pub step-joined : (before after : Writing) (begun : Begun) (first second : Listed) → listed_at lists begun.list ≡ one_step_more (with_ends first second)
      → Adds lists before (cut_off (map (λ end. begun.text.items ++ end) (with_ends first (with_ends second (rest_at (rests lists before.cells.items) begun.rest))).texts))
      (with_ends first (with_ends second (rest_at (rests lists before.cells.items) begun.rest))).steps after
      → IsStep lists before begun after
  step-joined before after begun first second list adds =
      let rest = rest_at (rests lists before.cells.items) begun.rest in
      step-adds before after begun _ _ adds
      (rw list (ap (λ all. cut_off (map (λ end. begun.text.items ++ end) all)) (sym (joined-joined first.texts second.texts rest.texts)))) (rw list (steps-joined first second rest))

  -- the texts of two lists are written
  pub step-both : (before after : Writing) (begun : Begun) (first second : Listed) → listed_at lists begun.list ≡ one_step_more (with_more first second)
      → Adds lists before
      (cut_off (map (λ end. begun.text.items ++ end) (with_ends first (rest_at (rests lists before.cells.items) begun.rest)).texts)
      ++ cut_off (map (λ end. begun.text.items ++ end) (with_ends second (rest_at (rests lists before.cells.items) begun.rest)).texts))
      ((with_ends first (rest_at (rests lists before.cells.items) begun.rest)).steps + (with_ends second (rest_at (rests lists before.cells.items) begun.rest)).steps) after
      → IsStep lists before begun after
  step-both before after begun first second list adds =
      let rest = rest_at (rests lists before.cells.items) begun.rest in
      step-adds before after begun _ _ adds
      (rw list (sym (ends-both begun.text.items first.texts second.texts rest.texts))) (rw list (steps-both first second rest))

  -- two texts wait
  pub both-adds : (before middle after : Writing) (first second : List (List ℕ)) (cost other : ℕ) → Waits lists before second other middle → Waits lists middle first cost after
      → Adds lists before (first ++ second) (cost + other) after
  both-adds before middle after first second cost other w v = record {
    stacked = v.stacked;
    texts = rw (v.done, w.done, v.texts, w.texts) (ap (λ rest. texts_of before.done ++ rest) (sym (append_assoc first second (outcomes lists (rests lists before.cells.items) before.waiting.items))));
    steps = let a = w.steps in let b = v.steps in omega arith;
  }

  -- writing is begun
  pub started : (list : ℕ) (writing : Writing) (begun : Begun) → writing.cells.items ≡ [] → writing.done.items ≡ [] → writing.waiting.items ≡ begun ∷ []
      → begun.text.items ≡ [] → begun.list ≡ list → begun.rest ≡ 0 → begun.height ≡ 0 → IsStarted lists list writing
  started list writing begun cells done waiting text of rest height = record {
    stacked = record {
      waiting = rw (waiting, cells) (omega arith, omega arith, omega arith);
      cells = rw cells tt;
    };
    texts = rw (done, waiting, cells, text, of, rest) (ap cut_off (map-nothing (joined (listed_at lists list).texts ([] ∷ [])) ∙ joined-nil (listed_at lists list).texts));
  }

  -- the first rest is the end
  pub rest-first : (cells : List Cell) → rest_at (rests lists cells) 0 ≡ the_end
  rest-first cells = grown-front (of_cell lists) (the_end ∷ []) cells 0 the_end (omega arith)

  -- a text goes on with the rest of a cell
  pub cell-adds : (before after : Writing) (text : Vec ℕ Global) (number : ℕ) (cell : Cell) (at : ℕ) → IsStacked before → number ≡ 1 + at → slice_get before.cells.items at ≡ Some cell
      → Waits lists before (ends_of text (with_ends (listed_at lists cell.list) (rest_at (rests lists before.cells.items) cell.rest)).texts)
      (with_ends (listed_at lists cell.list) (rest_at (rests lists before.cells.items) cell.rest)).steps after
      → Adds lists before (ends_of text (rest_at (rests lists before.cells.items) number).texts) (rest_at (rests lists before.cells.items) number).steps after
  cell-adds before after text number cell at stacked place there w =
      let same : rest_at (rests lists before.cells.items) number ≡ of_cell lists (rests lists before.cells.items) cell =
      ap (rest_at (rests lists before.cells.items)) place ∙ rest-cell lists before.cells.items at cell stacked.cells there in
      subst (λ rest. Adds lists before (ends_of text rest.texts) rest.steps after) (sym same) (waits-adds before after _ _ w)
