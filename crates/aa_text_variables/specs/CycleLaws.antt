-- Definitions for the law of cycles.
use Rattle.std.specs.Prelude.{ℕ, ◌≡◌, ◌↔◌, true, List, Some}
use Rattle.std.specs.List.{Contains}
use Rattle.aa_text_variables.specs.ExpansionLaws.{names_variable}
use Rattle.aa_text_variables.specs.Expansions.{has_chain, is_cyclic, words_named, words_of}
use Rattle.aa_text_variables.specs.Variables.{Variable, named}

-- A text leads to the variable of a name: it names it, or a word of a variable that it names leads to it.
pub data LeadsTo (variables : List Variable) : List ℕ → List ℕ → Type 0 where
  at_once : (text name : List ℕ) → names_variable text name ≡ true → LeadsTo variables text name
  over : (text between word name : List ℕ) → names_variable text between ≡ true → Contains (words_named variables between) word → LeadsTo variables word name
      → LeadsTo variables text name

-- the variable of a name leads to itself: a word of it leads to it
abbrev pub LeadsToItself : List Variable → List ℕ → Type 0
LeadsToItself variables name = (word : List ℕ) × Contains (words_named variables name) word × LeadsTo variables word name

-- a text leads to some variable that leads to itself
abbrev pub ReachesCycle : List Variable → List ℕ → Type 0
ReachesCycle variables text = (name : List ℕ) × LeadsTo variables text name × LeadsToItself variables name

-- a variable is that of its name
abbrev pub IsOneOf : List Variable → Variable → Type 0
IsOneOf variables variable = named variable.name variables ≡ Some variable

-- a variable leads to itself, or to one that does, exactly where one of its words leads to some variable that leads to itself
abbrev pub IsCyclicByWord : List Variable → Variable → Type 0
IsCyclicByWord variables variable = (is_cyclic variables variable ≡ true) ↔ ((word : List ℕ) × Contains (words_of variable) word × ReachesCycle variables word)

-- a text has chains of any length
abbrev pub HasAnyChain : List Variable → List ℕ → Type 0
HasAnyChain variables text = (size : ℕ) → has_chain variables size text ≡ true
