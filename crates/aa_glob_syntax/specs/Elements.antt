-- The elements of a pattern's text, from left to right: items, and the braces and commas of groups (apparmor.d(5),
-- "Globbing").
use Rattle.std.specs.Prelude.{ℕ, Bool, true, false, ◌==◌, if◌then◌else◌, List, [], ◌∷◌, ◌++◌, Result, Ok, Err}
use Rattle.aa_bytes.specs.Bytes.{closing_brace, closing_bracket, comma, opening_brace, opening_bracket, question_mark, slash, star}
use Rattle.aa_glob_syntax.specs.Classes.{class}
use Rattle.aa_glob_syntax.specs.Items.{Item, Byte, Set, Star, DoubleStar}
use Rattle.aa_glob_syntax.specs.Symbols.{is_plain}
use Rattle.aa_bytes.specs.declared.byte_set.ByteSet.{ByteSet}
use Rattle.aa_bytes.specs.declared.byte_set.ByteSet.TheVariants.{Inside}
use Rattle.aa_glob_syntax.specs.declared.symbol.Symbol.{Symbol}
use Rattle.aa_glob_syntax.specs.declared.symbol.Symbol.TheVariants.{Plain, Escaped, Broken}
use Rattle.aa_glob_syntax.specs.declared.pattern_error.PatternError.{PatternError}
use Rattle.aa_glob_syntax.specs.declared.pattern_error.PatternError.TheVariants.{BadEscape}
use Rattle.aa_glob_syntax.specs.declared.context.Context.{Context}
use Rattle.aa_glob_syntax.specs.declared.context.Context.TheVariants.{AfterSlash, AfterStar, Elsewhere}

-- An element: an item that is no group, what a group is made of, or the fault at which reading ends.
pub data Element : Type 0 where
  Single : (item : Item) → Element
  Open : Element
  Comma : Element
  Close : Element
  Fault : (error : PatternError) → Element

-- the context of a symbol that comes after this byte
abbrev pub context_after : ℕ → Context
context_after b = if b == slash then AfterSlash else Elsewhere

-- a text of symbols begins with this byte, without a backslash
abbrev pub begins_plain : ℕ → List Symbol → Bool
begins_plain b [] = false
begins_plain b (l ∷ ls) = is_plain b l

-- what follows the stars that a text begins with
abbrev pub behind_stars : List Symbol → List Symbol
behind_stars [] = []
behind_stars (l ∷ ls) = if is_plain star l then behind_stars ls else l ∷ ls

-- the end of a segment comes next: `/`, or the text's end
abbrev pub is_segment_end : List Symbol → Bool
is_segment_end [] = true
is_segment_end (l ∷ ls) = is_plain slash l

-- What a run of stars reads as, from what follows its first: one star alone is a star, two and more are a double star.
abbrev pub stars : List Symbol → Element
stars ls = Single (if begins_plain star ls then DoubleStar else Star)

-- A run that is a whole segment of its own matches at least one byte, the first of which isn't `/`: no file's name is empty. The slash before it may
-- have a backslash, the one after it may not.
abbrev pub is_whole_segment : Context → List Symbol → Bool
is_whole_segment AfterSlash ls = is_segment_end (behind_stars ls)
is_whole_segment _ ls = false

-- The first star of a run determines what the run reads as, and the others add nothing.
abbrev pub run : Context → List Symbol → List Element
run AfterStar ls = []
run context ls = if is_whole_segment context ls then Single (Set Inside) ∷ stars ls ∷ [] else stars ls ∷ []

-- what a class reads as
abbrev pub class_element : Result ByteSet PatternError → Element
class_element (Ok set) = Single (Set set)
class_element (Err error) = Fault error

-- `[` begins a class, `{` a group; `?` is one byte within a segment; a comma and braces are those of groups.
abbrev mutual
  -- the elements of a text with this context
  pub elements : Context → List Symbol → List Element
  elements context [] = []
  elements context (Broken ∷ ls) = Fault BadEscape ∷ []
  elements context (Escaped b ∷ ls) = Single (Byte b) ∷ elements (context_after b) ls
  elements context (Plain b ∷ ls) =
      if b == star then run context ls ++ elements AfterStar ls else
      if b == opening_bracket then class_element (class ls) ∷ behind_class ls else
      if b == question_mark then Single (Set Inside) ∷ elements Elsewhere ls else
      if b == opening_brace then Open ∷ elements Elsewhere ls else
      if b == comma then Comma ∷ elements Elsewhere ls else
      if b == closing_brace then Close ∷ elements Elsewhere ls else
      Single (Byte b) ∷ elements (context_after b) ls

  -- the elements after the class within which a text begins, that is, after the first `]` without a backslash
  pub behind_class : List Symbol → List Element
  behind_class [] = []
  behind_class (l ∷ ls) = if is_plain closing_bracket l then elements Elsewhere ls else behind_class ls
