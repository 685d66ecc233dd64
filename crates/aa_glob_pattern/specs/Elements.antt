-- The elements of a pattern's text, each within the groups that it stands in, as they are read one after the other.
use Rattle.std.specs.Prelude.{ℕ, ◌<◌, List, [], ◌∷◌, Option, None, Some}
use Rattle.aa_glob_syntax.specs.Cursor.{meaning}
use Rattle.aa_glob_syntax.specs.Elements.{Element, Single, Open, Comma, Close, Fault, elements}
use Rattle.aa_glob_syntax.specs.Reading.{deepest}
use Rattle.aa_glob_syntax.specs.Symbols.{symbols}
use Rattle.aa_glob_syntax.specs.declared.context.Context.{Context}
use Rattle.aa_glob_syntax.specs.declared.context.Context.TheVariants.{Elsewhere}
use Rattle.aa_glob_syntax.specs.declared.element.Next.{Next}
use Rattle.aa_glob_pattern.specs.Trails.{depth_behind, grouped}

-- an element that may come where so many groups are open
abbrev pub MayStand : ℕ → Element → Type 0
MayStand depth (Single item) = Unit
MayStand depth Open = depth < deepest
MayStand depth Comma = 0 < depth
MayStand depth Close = 0 < depth
MayStand depth (Fault error) = ⊥

-- each of these elements may come where as many groups are open as are before it
abbrev pub EachMayStand : ℕ → List Element → Type 0
EachMayStand depth [] = Unit
EachMayStand depth (e ∷ es) = MayStand depth e × EachMayStand (depth_behind depth e) es

-- what is left of a text, with this context and so many open groups
abbrev pub elements_left : ℕ → Context → List ℕ → List Element
elements_left depth context text = grouped depth (elements context (symbols text))

-- the elements of a pattern's text
abbrev pub elements_of : List ℕ → List Element
elements_of text = elements_left 0 Elsewhere text

-- the elements of a text within so many groups, by what comes next in it
abbrev pub left_from : ℕ → Option Next → List Element
left_from depth None = []
left_from depth (Some next) = meaning next.element ∷ elements_left (depth_behind depth (meaning next.element)) next.context next.rest.now
