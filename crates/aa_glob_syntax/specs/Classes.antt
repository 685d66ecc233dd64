-- Classes, as `[a-c]` and `[^/]` (apparmor.d(5), "Globbing"). `[` begins one, and the first `]` without a backslash ends it.
use Rattle.std.specs.Prelude.{ℕ, Bool, true, false, ◌&&◌, not, nat_lt, if◌then◌else◌, List, [], ◌∷◌, ◌++◌, Result, Ok, Err}
use Rattle.aa_bytes.specs.Bytes.{caret, closing_bracket, dash}
use Rattle.aa_glob_syntax.specs.Symbols.{byte_of, is_broken, is_plain, symbols}
use Rattle.aa_bytes.specs.declared.byte_set.ByteRange.{ByteRange}
use Rattle.aa_bytes.specs.declared.byte_set.ByteSet.{ByteSet}
use Rattle.aa_bytes.specs.declared.byte_set.ByteSet.TheVariants.{Class, Inside}
use Rattle.aa_glob_syntax.specs.declared.symbol.Symbol.{Symbol}
use Rattle.aa_glob_syntax.specs.declared.pattern_error.PatternError.{PatternError}
use Rattle.aa_glob_syntax.specs.declared.pattern_error.PatternError.TheVariants.{UnclosedClass, EmptyClass, BadRange, BadEscape}

-- the bytes from the byte of one symbol to that of another
abbrev pub range : Symbol → Symbol → ByteRange
range first end = record { first = byte_of first; last = byte_of end }

-- what follows a range, unless its end is broken or comes before its beginning
abbrev pub behind_range : Symbol → Symbol → Result (List ByteRange) PatternError → Result (List ByteRange) PatternError
behind_range first end after =
    if is_broken end then Err BadEscape else
    if nat_lt (byte_of end) (byte_of first) then Err BadRange else
    after

-- A member that begins before this text is a range: `-` comes next, and then a symbol that isn't the closing `]`.
abbrev pub is_range : List Symbol → Bool
is_range (link ∷ end ∷ ls) = is_plain dash link && not (is_plain closing_bracket end)
is_range ls = false

-- The members of a class: those before, and those in the text up to the first `]` without a backslash. A member is a range or a single byte. The
-- last clause is for a text too short for a range.
abbrev pub members : List ByteRange → List Symbol → Result (List ByteRange) PatternError
members before [] = Err UnclosedClass
members before (first ∷ link ∷ end ∷ ls) =
    if is_plain closing_bracket first then Ok before else
    if is_broken first then Err BadEscape else
    if is_range (link ∷ end ∷ ls) then behind_range first end (members (before ++ range first end ∷ []) ls) else
    members (before ++ range first first ∷ []) (link ∷ end ∷ ls)
members before (first ∷ ls) =
    if is_plain closing_bracket first then Ok before else
    if is_broken first then Err BadEscape else
    members (before ++ range first first ∷ []) ls

-- the set of a class of these members
abbrev pub set_of : Bool → Result (List ByteRange) PatternError → Result ByteSet PatternError
set_of negated (Err error) = Err error
set_of negated (Ok []) = Err EmptyClass
set_of negated (Ok (member ∷ more)) = Ok (Class negated (member ∷ more))

-- The set of a class, from the text after its `[`, or the first fault in it. A `^` there negates it.
abbrev pub class : List Symbol → Result ByteSet PatternError
class [] = Err UnclosedClass
class (l ∷ ls) = if is_plain caret l then set_of true (members [] ls) else set_of false (members [] (l ∷ ls))

-- the set that was read; an arbitrary one for a refused class, of which no contract speaks
abbrev pub set_read : Result ByteSet PatternError → ByteSet
set_read (Ok set) = set
set_read (Err error) = Inside

-- the set of a class, from the text after its `[`
abbrev pub set_in : List ℕ → ByteSet
set_in text = set_read (class (symbols text))
