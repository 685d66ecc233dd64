-- What the cursor over a text's elements has left to read.
use Rattle.std.specs.Prelude.{List}
use Rattle.aa_glob_syntax.specs.Elements.{Element}
use Rattle.aa_glob_pattern.specs.Elements.{elements_left}
use Rattle.aa_glob_pattern.specs.declared.elements.Elements.{Elements}

-- the elements that are left
abbrev pub left_in : Elements → List Element
left_in elements = elements_left elements.depth elements.context elements.rest.now
