-- The lines of an input that comes piece by piece.
use Rattle.std.specs.Prelude.{◌≡◌, ◌==◌, ◌⊎◌, ℕ, ◌+◌, Bool, true, false, not, List, [], ◌∷◌, ◌++◌, Option, length, take}
use Rattle.std.specs.Io.KnownBytes.{Consumes, IsAtEnd}
use Rattle.std.specs.List.{list_any}
use Rattle.aa_bytes.specs.Bytes.{line_feed}
use Rattle.aa_set_commands.specs.Limits.{longest_line}
use Rattle.aa_set_commands.specs.Lines.{is_line_feed}

-- how many reads a line takes at most
abbrev pub most_reads : ℕ
most_reads = 2147483648

-- how many lines of an input are returned at most
abbrev pub most_lines : ℕ
most_lines = 1073741824

-- What had waited and what was read since are the text so far and what waits now, and no line ends in the text.
pub record Comes (before now : Option (List ℕ)) (waited waits text : List ℕ) : Type 0 where
  pub read : List ℕ
  pub consumed : Consumes before now read
  pub whole : waited ++ read ≡ text ++ waits
  pub unended : list_any is_line_feed text ≡ false

-- as much of a line as matters: one byte more than a line may have shows that it is too long
abbrev pub kept : List ℕ → List ℕ
kept line = take (longest_line + 1) line

-- A line was returned: of what had waited and what was read since it is what is before the first line feed, and what follows that waits; or there
-- was no line feed to the input's end, and it is all of it, of which nothing waits. At the end there is a line where it isn't empty.
pub record GivesLine (before now : Option (List ℕ)) (waited waits given : List ℕ) (is_line : Bool) : Type 0 where
  pub line : List ℕ
  pub gives : given ≡ kept line
  pub comes : (Comes before now waited (line_feed ∷ waits) line × (is_line ≡ true))
      ⊎ (Comes before now waited [] line × (waits ≡ []) × IsAtEnd now × (is_line ≡ not (length given == 0)))

-- No line was returned: what had waited and what was read since is a beginning of a line, which is held as far as it matters, and what waits now.
pub record BreaksOff (before now : Option (List ℕ)) (waited waits held : List ℕ) : Type 0 where
  pub line : List ℕ
  pub holds : held ≡ kept line
  pub comes : Comes before now waited waits line
