-- The fault of a pattern's text, found from left to right by the groups that are open. That this is what `reading` says is what `check_pattern`
-- ensures.
use Rattle.std.specs.Prelude.{ℕ, Bool, true, false, ◌==◌, if◌then◌else◌, List, [], ◌∷◌, length, Option, None, Some}
use Rattle.aa_glob_syntax.specs.Elements.{Element, Single, Open, Comma, Close, Fault, elements}
use Rattle.aa_glob_syntax.specs.Items.{Byte}
use Rattle.aa_glob_syntax.specs.OpenGroups.{outer, with_innermost}
use Rattle.aa_glob_syntax.specs.Reading.{deepest}
use Rattle.aa_glob_syntax.specs.Symbols.{symbols}
use Rattle.aa_glob_syntax.specs.declared.context.Context.TheVariants.{Elsewhere}
use Rattle.aa_glob_syntax.specs.declared.pattern_error.PatternError.{PatternError}
use Rattle.aa_glob_syntax.specs.declared.pattern_error.PatternError.TheVariants.{FewAlternatives, StrayClose, TooDeep, UnclosedGroup}

-- Of each open group it is known whether it had a comma. A comma belongs to the innermost.
abbrev pub with_comma : List Bool → List Bool
with_comma groups = with_innermost (λ parted. true) groups

-- the fault of a text that ends in these groups
abbrev pub fault_at_end : List Bool → Option PatternError
fault_at_end [] = None
fault_at_end (parted ∷ groups) = Some UnclosedGroup

-- the fault of a brace that closes the innermost group, or else that of what follows it
abbrev pub fault_at_close : List Bool → Option PatternError → Option PatternError
fault_at_close [] behind = Some StrayClose
fault_at_close (parted ∷ groups) behind = if parted then behind else Some FewAlternatives

-- the first fault of elements within these open groups, if there is one
abbrev pub first_fault : List Element → List Bool → Option PatternError
first_fault [] groups = fault_at_end groups
first_fault (Single item ∷ es) groups = first_fault es groups
first_fault (Open ∷ es) groups = if length groups == deepest then Some TooDeep else first_fault es (false ∷ groups)
first_fault (Comma ∷ es) groups = first_fault es (with_comma groups)
first_fault (Close ∷ es) groups = fault_at_close groups (first_fault es (outer groups))
first_fault (Fault error ∷ es) groups = Some error

-- an element that outside groups is a byte that stands for itself
abbrev pub is_byte : Element → Bool
is_byte (Single (Byte b)) = true
is_byte Comma = true
is_byte e = false

-- the elements of a whole text
abbrev pub spelled : List ℕ → List Element
spelled text = elements Elsewhere (symbols text)
