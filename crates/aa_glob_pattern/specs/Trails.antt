-- Trails: beginnings of patterns as lists of elements, the last element first. Patterns that begin alike have the same first trails.
use Rattle.std.specs.Prelude.{ℕ, ◌+◌, ◌-◌, ◌==◌, if◌then◌else◌, List, [], ◌∷◌, reverse}
use Rattle.aa_bytes.specs.Bytes.{comma}
use Rattle.aa_glob_syntax.specs.Elements.{Element, Single, Open, Comma, Close, Fault, elements}
use Rattle.aa_glob_syntax.specs.Items.{Byte}
use Rattle.aa_glob_syntax.specs.OpenGroups.{groups_behind, OpenGroup, sources_behind}
use Rattle.aa_glob_syntax.specs.Symbols.{symbols}
use Rattle.aa_glob_syntax.specs.declared.context.Context.TheVariants.{Elsewhere}

-- the elements of a beginning, the last one first
abbrev pub Trail : Type 0
Trail = List Element

-- an element within so many groups, where a comma outside groups stands for itself
abbrev pub element_within : ℕ → Element → Element
element_within depth (Single item) = Single item
element_within depth Open = Open
element_within depth Comma = if depth == 0 then Single (Byte comma) else Comma
element_within depth Close = Close
element_within depth (Fault error) = Fault error

-- how many groups are open after an element before which so many are
abbrev pub depth_behind : ℕ → Element → ℕ
depth_behind depth (Single item) = depth
depth_behind depth Open = depth + 1
depth_behind depth Comma = depth
depth_behind depth Close = depth - 1
depth_behind depth (Fault error) = depth

-- the elements of a text within so many groups
abbrev pub grouped : ℕ → List Element → List Element
grouped depth [] = []
grouped depth (e ∷ es) = element_within depth e ∷ grouped (depth_behind depth e) es

-- the trail of a pattern's whole text
abbrev pub trail_of : List ℕ → Trail
trail_of text = reverse (grouped 0 (elements Elsewhere (symbols text)))

-- the trail that continues another one, within so many groups, by these elements
abbrev pub trail_behind : Trail → ℕ → List Element → Trail
trail_behind trail depth [] = trail
trail_behind trail depth (e ∷ es) = trail_behind (element_within depth e ∷ trail) (depth_behind depth e) es

-- a group that is open after a trail: the trail after its brace, and those before its commas, the last one first
abbrev pub TrailGroup : Type 0
TrailGroup = OpenGroup Trail (List Trail)

-- the groups that are open after a trail, the innermost first
abbrev pub groups_of : Trail → List TrailGroup
groups_of [] = []
groups_of (e ∷ trail) = groups_behind e trail (e ∷ trail) (groups_of trail)

-- The beginnings that lead to a trail: of a comma that of its group's alternatives, of a closing brace the ends of these, of any other
-- element the trail before it.
abbrev pub sources : Trail → List Trail
sources [] = []
sources (e ∷ trail) = sources_behind e trail (groups_of trail)
