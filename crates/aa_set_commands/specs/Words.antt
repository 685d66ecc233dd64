-- The words of a command line (docs/commands.md). A word is between blanks, or between two quotes with nothing escaped in it and followed by a blank
-- or the line's end.
use Rattle.std.specs.Prelude.{ℕ, Bool, true, ◌==◌, ◌||◌, if◌then◌else◌, List, [], ◌∷◌, Option, None, Some}
use Rattle.std.specs.Option.{option_map}
use Rattle.std.specs.List.{onto_first}
use Rattle.aa_bytes.specs.Bytes.{carriage_return, quote, space, tab}

-- the blanks of a command line: space, tab and carriage return
abbrev pub is_command_blank : ℕ → Bool
is_command_blank b = b == space || b == tab || b == carriage_return

-- a quote
abbrev pub is_quote : ℕ → Bool
is_quote b = b == quote

abbrev mutual
  -- the words of a line from an offset where a word may begin; none where a quote isn't closed, or is followed directly
  pub words_of : List ℕ → Option (List (List ℕ))
  words_of [] = Some []
  words_of (b ∷ bs) =
      if is_command_blank b then words_of bs else (if is_quote b then words_in_quotes bs else option_map (onto_first b) (words_in_word bs))

  -- the words from within a word: the first is what is left of it
  pub words_in_word : List ℕ → Option (List (List ℕ))
  words_in_word [] = Some ([] ∷ [])
  words_in_word (b ∷ bs) = if is_command_blank b then option_map (λ words. [] ∷ words) (words_of bs) else option_map (onto_first b) (words_in_word bs)

  -- the words from within quotes: the first is what is left in them
  pub words_in_quotes : List ℕ → Option (List (List ℕ))
  words_in_quotes [] = None
  words_in_quotes (b ∷ bs) = if is_quote b then words_after_quotes bs else option_map (onto_first b) (words_in_quotes bs)

  -- the words from directly after the closing quote: the first is empty
  pub words_after_quotes : List ℕ → Option (List (List ℕ))
  words_after_quotes [] = Some ([] ∷ [])
  words_after_quotes (b ∷ bs) = if is_command_blank b then option_map (λ words. [] ∷ words) (words_of bs) else None

-- a word directly before this text ends there
abbrev pub is_word_end : List ℕ → Bool
is_word_end [] = true
is_word_end (b ∷ bs) = is_command_blank b
