-- The cursor over a pattern's text: the element that each of its answers means, and what is left to read.
use Rattle.std.specs.Prelude.{◌≡◌, ℕ, ◌+◌, ◌*◌, List, [], ◌∷◌, length, Option, None, Some}
use Rattle.aa_bytes.specs.declared.byte_set.ByteSet.{ByteSet}
use Rattle.aa_bytes.specs.declared.byte_set.ByteSet.TheVariants.{Inside}
use Rattle.aa_glob_syntax.specs.Classes.{set_in}
use Rattle.aa_glob_syntax.specs.Elements.{Element, Single, Open, Comma, Close, Fault, context_after, elements}
use Rattle.aa_glob_syntax.specs.Items.{Byte, Set, Star, DoubleStar}
use Rattle.aa_glob_syntax.specs.Symbols.{symbols}
use Rattle.aa_glob_syntax.specs.declared.class.Class.{Class}
use Rattle.aa_glob_syntax.specs.declared.context.Context.{Context}
use Rattle.aa_glob_syntax.specs.declared.context.Context.TheVariants.{AfterSlash, AfterStar, Elsewhere}
use Rattle.aa_glob_syntax.specs.declared.element.Element.{Element as Found}
use Rattle.aa_glob_syntax.specs.declared.element.Element.TheVariants as found
use Rattle.aa_glob_syntax.specs.declared.element.Next.{Next}
use Rattle.aa_glob_syntax.specs.declared.pattern_error.PatternError.{PatternError}

-- a class's text, from after its `[` up to its `]`, which is included
abbrev pub class_text : Class → List ℕ
class_text class = class.text.now

-- the set of a class as it is written in the text, which its text determines
abbrev pub class_set : Class → ByteSet
class_set class = set_in (class_text class)

-- the element that a cursor's element means
abbrev pub meaning : Found → Element
meaning (found.Byte b) = Single (Byte b)
meaning found.Inside = Single (Set Inside)
meaning (found.Class class) = Single (Set (class_set class))
meaning found.Star = Single Star
meaning found.DoubleStar = Single DoubleStar
meaning found.Open = Open
meaning found.Comma = Comma
meaning found.Close = Close

-- the context after an element
abbrev pub context_behind : Found → Context
context_behind (found.Byte b) = context_after b
context_behind found.Star = AfterStar
context_behind found.DoubleStar = AfterStar
context_behind element = Elsewhere

-- the elements of a text, by what comes next in it
abbrev pub elements_from : Option Next → List Element
elements_from None = []
elements_from (Some next) = meaning next.element ∷ elements next.context (symbols next.rest.now)

-- elements begin with a fault
abbrev pub BeginWithFault : PatternError → List Element → Type 0
BeginWithFault error es = (rest : List Element) × (es ≡ Fault error ∷ rest)

-- How much is left to read. A star after a slash may be met twice: for the one byte that its run needs, and for the run.
abbrev pub left : Context → List ℕ → ℕ
left AfterSlash text = 2 * length text + 1
left context text = 2 * length text
