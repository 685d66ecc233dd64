-- Plain patterns (apparmor.d(5), "Execute Rules"; docs/policy.md, "The start of a program"): those without stars, `?` and classes that begin with
-- `^`.
use Rattle.std.specs.Prelude.{ℕ, Bool, true, false, not, List}
use Rattle.std.specs.List.{list_all}
use Rattle.aa_bytes.specs.declared.byte_set.ByteSet.{ByteSet}
use Rattle.aa_bytes.specs.declared.byte_set.ByteSet.TheVariants.{Class, Inside}
use Rattle.aa_glob_syntax.specs.Elements.{Close, Comma, Element, Fault, Open, Single, elements}
use Rattle.aa_glob_syntax.specs.Items.{Byte, DoubleStar, Group, Item, Set, Star}
use Rattle.aa_glob_syntax.specs.Symbols.{symbols}
use Rattle.aa_glob_syntax.specs.declared.context.Context.TheVariants.{Elsewhere}

-- a set that lists bytes is plain: not a negated one, and not that of `?`
abbrev pub is_plain_set : ByteSet → Bool
is_plain_set Inside = false
is_plain_set (Class negated ranges) = not negated

-- a byte that stands for itself, and a plain set; a group isn't read as one item
abbrev pub is_plain_item : Item → Bool
is_plain_item (Byte byte) = true
is_plain_item (Set set) = is_plain_set set
is_plain_item Star = false
is_plain_item DoubleStar = false
is_plain_item (Group first second others) = false

-- an element of a text is plain: a plain item, or what groups are made of
abbrev pub is_plain_element : Element → Bool
is_plain_element (Single item) = is_plain_item item
is_plain_element Open = true
is_plain_element Comma = true
is_plain_element Close = true
is_plain_element (Fault error) = false

-- the text of a pattern is plain where each of its elements is
abbrev pub is_plain : List ℕ → Bool
is_plain text = list_all is_plain_element (elements Elsewhere (symbols text))
