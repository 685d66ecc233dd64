-- Options of a command that go only with a flag, or only without it.
use Rattle.std.specs.Prelude.{ℕ, if◌then◌else◌, List, [], ◌∷◌, ◌++◌, Option, Some, None, codes}
use Rattle.std.specs.List.{list_any}
use Rattle.std.specs.Str.{bytes_eq}
use Rattle.aatry_report.specs.Shown.{shown}
use Rattle.aatry_hints.specs.Options.{is_word_of}
use Rattle.aatry_hints.specs.Parts.{Given, Part, Plain, is_given_as}

-- a command, a flag of it, the options that it takes only with the flag, and those that it takes only without it
pub record Together : Type 0 where
  pub command : List ℕ
  pub flag : List ℕ
  pub only_with : List (List ℕ)
  pub only_without : List (List ℕ)

-- `diff` for all paths
abbrev pub with_all : Together
with_all = record {
  command = codes "diff";
  flag = codes "--all";
  only_with = codes "--quiet-audit" ∷ codes "--limit" ∷ [];
  only_without = codes "--log" ∷ codes "--questions" ∷ [];
}

-- `check` for rules that decide nothing
abbrev pub with_rules : Together
with_rules = record {
  command = codes "check";
  flag = codes "--rules";
  only_with = codes "--included" ∷ codes "--limit" ∷ codes "--verbose" ∷ [];
  only_without = [];
}

-- the flag of a command and its options, if it has one
abbrev pub together_of : List ℕ → Option Together
together_of command =
    if bytes_eq command (codes "diff") then Some with_all else if bytes_eq command (codes "check") then Some with_rules else None

-- the first option among some parts that is one of these
abbrev pub first_of : List (List ℕ) → List Part → Option (List ℕ)
first_of names [] = None
first_of names (Given name value ∷ more) = if is_word_of names name then Some name else first_of names more
first_of names (Plain word ∷ more) = first_of names more

-- the hint for an option that needs the flag, if there is one, and for one that can't be given with it
abbrev pub needs_told : Together → Option (List ℕ) → Option (List ℕ)
needs_told together None = None
needs_told together (Some name) =
    Some (codes "aatry: " ++ together.command ++ codes " takes " ++ shown name ++ codes " only with " ++ together.flag ++ codes "\n")

abbrev pub bars_told : Together → Option (List ℕ) → Option (List ℕ)
bars_told together None = None
bars_told together (Some name) =
    Some (codes "aatry: " ++ together.command ++ codes " takes no " ++ shown name ++ codes " with " ++ together.flag ++ codes "\n")

-- the hint for the options of a command among parts
abbrev pub together_told : List Part → Together → Option (List ℕ)
together_told parts together =
    if list_any (is_given_as together.flag) parts then bars_told together (first_of together.only_without parts)
    else needs_told together (first_of together.only_with parts)

abbrev pub told_of : List Part → Option Together → Option (List ℕ)
told_of parts None = None
told_of parts (Some together) = together_told parts together

-- the hint by the word in place of a command: other commands have none
abbrev pub together_hint : Option (List ℕ) → List Part → Option (List ℕ)
together_hint None parts = None
together_hint (Some command) parts = told_of parts (together_of command)
