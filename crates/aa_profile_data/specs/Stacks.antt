-- Stacks: several profiles at once, as a target names them (apparmor.d(5), "Execute Rules"; docs/policy.md, "Stacks").
use Rattle.std.specs.Prelude.{ℕ, zero, suc, Bool, true, false, ◌&&◌, ◌||◌, if◌then◌else◌, List, [], ◌∷◌, Option, None, Some, drop, codes}
use Rattle.std.specs.List.{list_all, onto_first}
use Rattle.aa_bytes.specs.Bytes.{ampersand}
use Rattle.aa_bytes.specs.Texts.{begins_with, begins_with_byte}
use Rattle.aa_profile_data.specs.FullNames.{is_full_name}
use Rattle.aa_profile_data.specs.Names.{is_top_name}
use Rattle.aa_profile_data.specs.declared.exec_word.Destination.{Destination}
use Rattle.aa_profile_data.specs.declared.exec_word.Destination.TheVariants as to

-- the parts of what follows so many bytes of a text, which is cut at each `//&`: at the first from the left, and then at the next after it
abbrev pub parts_behind : ℕ → List ℕ → List (List ℕ)
parts_behind skipped [] = [] ∷ []
parts_behind (suc skipped) (b ∷ bs) = parts_behind skipped bs
parts_behind zero (b ∷ bs) = if begins_with (codes "//&") (b ∷ bs) then [] ∷ parts_behind 2 bs else onto_first b (parts_behind zero bs)

-- the parts of a text, which is cut at each `//&`
abbrev pub parts_of : List ℕ → List (List ℕ)
parts_of text = parts_behind zero text

-- the parts after a `//&`, if there is one
abbrev pub parts_of_rest : Option (List ℕ) → List (List ℕ)
parts_of_rest None = []
parts_of_rest (Some rest) = parts_of rest

-- names with `//&` between them, or one alone: each is a full name
abbrev pub are_full_names : List ℕ → Bool
are_full_names text = list_all is_full_name (parts_of text)

-- a stack on the profile that would be taken otherwise: `&`, followed by such names
abbrev pub is_open_stack : List ℕ → Bool
is_open_stack text = begins_with_byte ampersand text && are_full_names (drop 1 text)

-- What the target of a word may be that leads to a profile, a child or a hat: a name, or a stack, on whatever profile would be taken or, where the
-- word leads to a profile, of names alone. A text is cut at each `//&` before its names are looked at, so none has two readings.
abbrev pub is_name_or_stack_of : Destination → List ℕ → Bool
is_name_or_stack_of to.Profile text = is_open_stack text || are_full_names text
is_name_or_stack_of to.Child text = is_open_stack text || is_top_name text
is_name_or_stack_of _ text = false

-- A stack, as a text names it: whether it is on the profile that would be taken otherwise, and the full names of its other members.
pub record Stack : Type 0 where
  pub on_base : Bool
  pub members : List (List ℕ)

-- a stack of names alone: of at least two
abbrev pub stack_of_names : List (List ℕ) → Option Stack
stack_of_names [] = None
stack_of_names (name ∷ []) = None
stack_of_names (name ∷ other ∷ more) = Some (record { on_base = false; members = name ∷ other ∷ more })

-- The stack that a text names, if it names one: it begins with `&`, or is full names with `//&` between them. A name is never one: that of a child
-- may begin with `/&`, and what comes before it then ends in a slash, as no name does.
abbrev pub stack_of : List ℕ → Option Stack
stack_of text =
    if begins_with_byte ampersand text then Some (record { on_base = true; members = parts_of (drop 1 text) }) else
    if are_full_names text then stack_of_names (parts_of text) else
    None
