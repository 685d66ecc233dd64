-- How lists are written out: texts that are begun, what is still to be appended to them, and texts that are finished.
use Rattle.std.specs.Prelude.{ℕ, suc, ◌+◌, ◌≡◌, ◌<◌, ◌≤◌, List, [], ◌∷◌, ◌++◌, length, map, slice_index_or, Vec}
use Rattle.aa_text_expansion.specs.Joining.{cut_off, texts_of}
use Rattle.aa_text_expansion.specs.code.Made.{Listed, grown, listed_at, with_ends}
use Rattle.aa_text_expansion.specs.declared.writing.Begun.{Begun}
use Rattle.aa_text_expansion.specs.declared.writing.Cell.{Cell}
use Rattle.aa_text_expansion.specs.declared.writing.Writing.{Writing}

-- nothing more is appended to a text
abbrev pub the_end : Listed
the_end = record { texts = [] ∷ []; steps = 0 }

-- what is appended to a text, by its number: 0 for nothing, and else one more than that of its cell
abbrev pub rest_at : List Listed → ℕ → Listed
rest_at rests number = slice_index_or rests number the_end

-- what a cell means: the texts of a list, followed by what its rest means
abbrev pub of_cell : List Listed → List Listed → Cell → Listed
of_cell lists before cell = with_ends (listed_at lists cell.list) (rest_at before cell.rest)

abbrev pub rests : List Listed → List Cell → List Listed
rests lists cells = grown (of_cell lists) (the_end ∷ []) cells

-- the texts of a list, followed by what a number means
abbrev pub ends_at : List Listed → List Cell → ℕ → ℕ → Listed
ends_at lists cells list rest = with_ends (listed_at lists list) (rest_at (rests lists cells) rest)

-- a text followed by each of these, each cut off
abbrev pub ends_of : {A : Type 0} → Vec ℕ A → List (List ℕ) → List (List ℕ)
ends_of text ends = cut_off (map (λ end. text.items ++ end) ends)

-- what a text that was begun still has before it
abbrev pub ahead : List Listed → List Listed → Begun → Listed
ahead lists rests begun = with_ends (listed_at lists begun.list) (rest_at rests begun.rest)

-- the texts that a begun text becomes
abbrev pub outcome : List Listed → List Listed → Begun → List (List ℕ)
outcome lists rests begun = ends_of begun.text (ahead lists rests begun).texts

-- the texts that all begun texts become: what was begun last is finished first
abbrev pub outcomes : List Listed → List Listed → List Begun → List (List ℕ)
outcomes lists rests [] = []
outcomes lists rests (begun ∷ more) = outcomes lists rests more ++ outcome lists rests begun

-- the steps that are left for the begun texts
abbrev pub steps_ahead : List Listed → List Listed → List Begun → ℕ
steps_ahead lists rests [] = 0
steps_ahead lists rests (begun ∷ more) = steps_ahead lists rests more + (ahead lists rests begun).steps

-- Each text that was begun needs only the first cells, and no more than those begun after it.
abbrev pub AreStacked : ℕ → List Begun → ℕ → Type 0
AreStacked low [] top = low ≤ top
AreStacked low (begun ∷ more) top = (low ≤ begun.height) × (begun.rest ≤ begun.height) × AreStacked begun.height more top

-- Each cell is followed by what an earlier one means, or by nothing.
abbrev pub AreEarlier : ℕ → List Cell → Type 0
AreEarlier number [] = Unit {0}
AreEarlier number (cell ∷ cells) = (cell.rest ≤ number) × AreEarlier (suc number) cells

-- there are the cells that the waiting texts need
pub record IsStacked (writing : Writing) : Type 0 where
  pub waiting : AreStacked 0 writing.waiting.items (length writing.cells.items)
  pub cells : AreEarlier 0 writing.cells.items

-- the texts that are finished, and those that will be
abbrev pub all_texts : List Listed → Writing → List (List ℕ)
all_texts lists writing = texts_of writing.done ++ outcomes lists (rests lists writing.cells.items) writing.waiting.items

-- the steps that are left until all are finished
abbrev pub all_steps : List Listed → Writing → ℕ
all_steps lists writing = steps_ahead lists (rests lists writing.cells.items) writing.waiting.items

-- One more text waits, which will become these, as the first of those that wait.
pub record Waits (lists : List Listed) (before : Writing) (more : List (List ℕ)) (cost : ℕ) (after : Writing) : Type 0 where
  pub stacked : IsStacked after
  pub done : after.done ≡ before.done
  pub cells : after.cells.items ≡ before.cells.items
  pub texts : outcomes lists (rests lists after.cells.items) after.waiting.items ≡ more ++ outcomes lists (rests lists before.cells.items) before.waiting.items
  pub steps : all_steps lists after ≡ cost + all_steps lists before

-- Where more texts wait or are finished, these come after those that were finished before, followed by those that waited.
pub record Adds (lists : List Listed) (before : Writing) (more : List (List ℕ)) (cost : ℕ) (after : Writing) : Type 0 where
  pub stacked : IsStacked after
  pub texts : all_texts lists after ≡ texts_of before.done ++ (more ++ outcomes lists (rests lists before.cells.items) before.waiting.items)
  pub steps : all_steps lists after ≤ cost + all_steps lists before

-- writing of a list is begun
pub record IsStarted (lists : List Listed) (list : ℕ) (writing : Writing) : Type 0 where
  pub stacked : IsStacked writing
  pub texts : all_texts lists writing ≡ cut_off (listed_at lists list).texts

-- no text waits: those that are finished are all
pub record IsAllDone (lists : List Listed) (before after : Writing) : Type 0 where
  pub stacked : IsStacked after
  pub texts : texts_of after.done ≡ all_texts lists before

-- The text that was begun last waits no more: there are the cells that it needs, and what it becomes comes first.
pub record IsBegunLast (lists : List Listed) (before : Writing) (begun : Begun) (after : Writing) : Type 0 where
  pub stacked : IsStacked after
  pub within : begun.rest ≤ length after.cells.items
  pub texts : all_texts lists before
      ≡ texts_of after.done ++ (outcome lists (rests lists after.cells.items) begun ++ outcomes lists (rests lists after.cells.items) after.waiting.items)
  pub steps : all_steps lists before ≡ (ahead lists (rests lists after.cells.items) begun).steps + all_steps lists after

-- A step was made with a text: what it becomes stays the same, and fewer steps are left.
pub record IsStep (lists : List Listed) (before : Writing) (begun : Begun) (after : Writing) : Type 0 where
  pub stacked : IsStacked after
  pub texts : all_texts lists after
      ≡ texts_of before.done ++ (outcome lists (rests lists before.cells.items) begun ++ outcomes lists (rests lists before.cells.items) before.waiting.items)
  pub steps : all_steps lists after < (ahead lists (rests lists before.cells.items) begun).steps + all_steps lists before
