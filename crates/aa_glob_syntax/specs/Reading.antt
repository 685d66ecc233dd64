-- Reading of a pattern's text: the items that it spells, or the first fault from the left (apparmor.d(5), "Globbing"; see
-- docs/policy.md).
use Rattle.std.specs.Prelude.{◌≡◌, ◌≤◌, ℕ, ◌+◌, ◌-◌, Bool, true, false, ◌==◌, not, nat_le, if◌then◌else◌, List, [], ◌∷◌, length, Result, Ok, Err}
use Rattle.aa_bytes.specs.Bytes.{comma, slash}
use Rattle.aa_bytes.specs.Texts.{begins_with_byte, has_byte}
use Rattle.aa_glob_syntax.specs.Items.{Item, Byte, Group, Pattern, End, Next, Patterns, NoMore, More}
use Rattle.aa_glob_syntax.specs.Symbols.{symbols}
use Rattle.aa_glob_syntax.specs.Elements.{Element, Single, Open, Comma, Close, Fault, elements}
use Rattle.aa_glob_syntax.specs.declared.pattern_error.PatternError.{PatternError}
use Rattle.aa_glob_syntax.specs.declared.pattern_error.PatternError.TheVariants.{NotAbsolute, UnclosedGroup, StrayClose, FewAlternatives, TooLong, TooDeep, ZeroByte}
use Rattle.aa_glob_syntax.specs.declared.context.Context.TheVariants.{Elsewhere}

mutual
  -- A text, or what is left of one, cut at the commas of the group that it is in: the pattern before the first of them, the others, and how the text
  -- ends.
  pub data Pieces : Type 0 where
    Cut : (first : Pattern) → (others : Patterns) → (ending : Ending) → Pieces

  -- A text ends by itself, or a brace closes the group that it is in and something follows, or it has a fault.
  pub data Ending : Type 0 where
    Ended : Ending
    Closed : (after : Pieces) → Ending
    Refused : (error : PatternError) → Ending

abbrev pub first_of : Pieces → Pattern
first_of (Cut first others ending) = first

abbrev pub others_of : Pieces → Patterns
others_of (Cut first others ending) = others

abbrev pub ending_of : Pieces → Ending
ending_of (Cut first others ending) = ending

-- an item, and then the pieces
abbrev pub onto : Item → Pieces → Pieces
onto item p = Cut (Next item (first_of p)) (others_of p) (ending_of p)

-- a comma, and then the pieces
abbrev pub behind_comma : Pieces → Pieces
behind_comma p = Cut End (More (first_of p) (others_of p)) (ending_of p)

-- no pieces, but a fault
abbrev pub refused : PatternError → Pieces
refused error = Cut End NoMore (Refused error)

-- The alternatives of a group and how its text ends. A group has two alternatives at least.
abbrev pub group_of : Pattern → Patterns → Ending → Pieces
group_of first others Ended = refused UnclosedGroup
group_of first others (Refused error) = refused error
group_of first NoMore (Closed after) = refused FewAlternatives
group_of first (More second others) (Closed after) = onto (Group first second others) after

-- a brace, and then the pieces of its group
abbrev pub group : Pieces → Pieces
group p = group_of (first_of p) (others_of p) (ending_of p)

-- how deep groups may be nested
abbrev pub deepest : ℕ
deepest = 16

-- The pieces of a text within so many groups. A comma outside groups stands for itself.
abbrev pub pieces : ℕ → List Element → Pieces
pieces depth [] = Cut End NoMore Ended
pieces depth (Single item ∷ es) = onto item (pieces depth es)
pieces depth (Open ∷ es) = if depth == deepest then refused TooDeep else group (pieces (depth + 1) es)
pieces depth (Comma ∷ es) = if depth == 0 then onto (Byte comma) (pieces depth es) else behind_comma (pieces depth es)
pieces depth (Close ∷ es) = Cut End NoMore (Closed (pieces (depth - 1) es))
pieces depth (Fault error ∷ es) = refused error

-- the pattern of a whole text, from its pieces
abbrev pub whole_of : Pattern → Ending → Result Pattern PatternError
whole_of first Ended = Ok first
whole_of first (Closed after) = Err StrayClose
whole_of first (Refused error) = Err error

abbrev pub whole : Pieces → Result Pattern PatternError
whole p = whole_of (first_of p) (ending_of p)

-- how many bytes a pattern's text may have
abbrev pub longest : ℕ
longest = 4096

-- a text begins with `/`
abbrev pub begins_with_slash : List ℕ → Bool
begins_with_slash text = begins_with_byte slash text

-- a text holds a zero byte
abbrev pub has_zero : List ℕ → Bool
has_zero text = has_byte 0 text

-- a text has none of the faults that are checked before anything is read
abbrev pub HasNoFirstFault : List ℕ → Type 0
HasNoFirstFault text = (length text ≤ longest) × (has_zero text ≡ false) × (begins_with_slash text ≡ true)

-- What a text reads as, or why it is refused: its length first, then a zero byte, then its first byte, and then the first
-- fault from the left.
abbrev pub reading : List ℕ → Result Pattern PatternError
reading text =
    if not (nat_le (length text) longest) then Err TooLong else
    if has_zero text then Err ZeroByte else
    if not (begins_with_slash text) then Err NotAbsolute else
    whole (pieces 0 (elements Elsewhere (symbols text)))

-- the items that were read; none for a refused text
abbrev pub items_read : Result Pattern PatternError → Pattern
items_read (Ok items) = items
items_read (Err error) = End

-- The items that a text reads as. Contracts speak of those of texts that read as a pattern.
abbrev pub items_of : List ℕ → Pattern
items_of text = items_read (reading text)
