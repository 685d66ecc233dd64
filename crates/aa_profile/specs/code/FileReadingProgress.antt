-- How far the reading of a file has come.
use Rattle.std.specs.Prelude.{List, [], ◌∷◌, Option, None, Some}
use Rattle.aa_text_variables.specs.Variables.{Variable}
use Rattle.aa_text_files.specs.declared.text_error.Place.{Place}
use Rattle.aa_profile.specs.Assignments.{first_undefined}
use Rattle.aa_profile_grammar.specs.Preamble.{Assignment}
use Rattle.aa_profile_parsing.specs.Tokens.{place_of}

-- the place of the first of assignments' values that names a variable that isn't defined
abbrev pub first_undefined_value : List Variable → List Assignment → Option Place
first_undefined_value variables [] = None
first_undefined_value variables (assignment ∷ assignments) = elim (first_undefined variables assignment.values) [
  | Some token ↦ Some (place_of token)
  | None ↦ first_undefined_value variables assignments
]
