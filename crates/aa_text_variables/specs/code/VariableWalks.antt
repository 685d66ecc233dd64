-- A depth-first walk through variables, which leaves each after all that its words name.
use Rattle.std.specs.Prelude.{ℕ, Bool, true, false, ◌||◌, nat_eq, ◌≡◌, ◌<◌, List, [], ◌∷◌, ◌++◌, length, map, Option, None, Some, if◌then◌else◌}
use Rattle.std.specs.List.{list_any, IsDistinct}
use Rattle.aa_text_variables.specs.Variables.{Variable}
use Rattle.aa_text_variables.specs.Expansions.{has_chain}
use Rattle.aa_text_variables.specs.code.ExpansionOrder.{IsOrder, is_text_known}
use Rattle.aa_text_expansion.specs.Numbers.{with_index, with_indexes}
use Rattle.aa_text_variables.specs.code.ReachedVariables.{indexes_within}
use Rattle.aa_text_variables.specs.code.VariableIndexes.{words_at}
use Rattle.aa_text_variables.specs.declared.variables.walk.Task.{Task}
use Rattle.aa_text_variables.specs.declared.variables.walk.Task.TheVariants.{Enter, Leave}
use Rattle.aa_text_variables.specs.declared.variables.walk.Walk.{Walk}

-- the indices of the variables that the words of one name, each once
abbrev pub names_at : List Variable → ℕ → List ℕ
names_at variables index = with_indexes [] (indexes_within variables (words_at variables index))

-- The state of a walk: what it entered, its tasks, the next one last, and the order of those that it left.
pub record Progress : Type 0 where
  pub entered : List ℕ
  pub tasks : List Task
  pub order : List ℕ

-- the state of a walk in memory
abbrev pub progress : Walk → Progress
progress walk = record { entered = walk.entered.keys; tasks = walk.tasks.items; order = walk.order.keys }

-- A variable that isn't in the order is entered: it is left once all that its words name is in the order. One that was entered already leads
-- to itself.
abbrev pub after_enter : List Variable → ℕ → Progress → Option Progress
after_enter variables index walk =
    if list_any (nat_eq index) walk.order then Some walk else
    if list_any (nat_eq index) walk.entered then None else
    Some record {
      entered = with_index walk.entered index;
      tasks = walk.tasks ++ Leave index ∷ map Enter (names_at variables index);
      order = walk.order;
    }

-- the state after a task, if that can be done
abbrev pub after_task : List Variable → Task → Progress → Option Progress
after_task variables (Enter index) walk = after_enter variables index walk
after_task variables (Leave index) walk = Some record { entered = walk.entered; tasks = walk.tasks; order = with_index walk.order index }

-- all numbers of a list are less than a bound
abbrev pub AllBelow : ℕ → List ℕ → Type 0
AllBelow bound xs = (q : ℕ) → list_any (nat_eq q) xs ≡ true → q < bound

-- an order of variables, each once
pub record IsSettled (variables : List Variable) (order : List ℕ) : Type 0 where
  pub ordered : IsOrder variables order
  pub below : AllBelow (length variables) order
  pub distinct : IsDistinct nat_eq order

-- a list begins with another
abbrev pub BeginsWith : List ℕ → List ℕ → Type 0
BeginsWith before all = (more : List ℕ) × (all ≡ before ++ more)

-- an order has all that a text names, after what it had before
pub record IsOrderOf (variables : List Variable) (text before order : List ℕ) : Type 0 where
  pub settled : IsSettled variables order
  pub begins : BeginsWith before order
  pub named : is_text_known variables order text ≡ true

-- a walk has entered nothing, and has no task yet
pub record IsBeginning (variables : List Variable) (walk : Progress) : Type 0 where
  pub settled : IsSettled variables walk.order
  pub nothing : walk.entered ≡ []
  pub idle : walk.tasks ≡ []

-- an order has what it had before, followed by some more
pub record IsWalked (variables : List Variable) (starts before order : List ℕ) : Type 0 where
  pub settled : IsSettled variables order
  pub begins : BeginsWith before order
  pub has : (q : ℕ) → list_any (nat_eq q) starts ≡ true → list_any (nat_eq q) order ≡ true
  pub keeps : (q : ℕ) → list_any (nat_eq q) before ≡ true → list_any (nat_eq q) order ≡ true

-- the words of the variable at an index have chains of any length
abbrev pub IsEndless : List Variable → ℕ → Type 0
IsEndless variables index = (size : ℕ) → list_any (has_chain variables size) (words_at variables index) ≡ true

-- the words of the variable at one of some indices have chains of any length
abbrev pub SomeEndless : List Variable → List ℕ → Type 0
SomeEndless variables indexes = (index : ℕ) × (list_any (nat_eq index) indexes ≡ true) × IsEndless variables index

-- a task is to enter or to leave the variable at an index
abbrev pub is_for : ℕ → Task → Bool
is_for index (Enter other) = nat_eq index other
is_for index (Leave other) = nat_eq index other

-- a task is to leave the variable at an index
abbrev pub leaves : ℕ → Task → Bool
leaves index (Enter other) = false
leaves index (Leave other) = nat_eq index other

-- each of some indices is in an order, or one of some tasks is for it
abbrev pub AreSeenTo : (ℕ → Task → Bool) → List ℕ → List Task → List ℕ → Type 0
AreSeenTo is_task order tasks indexes = (q : ℕ) → list_any (nat_eq q) indexes ≡ true → (list_any (nat_eq q) order || list_any (is_task q) tasks) ≡ true

-- Tasks for some names, and, after each task to leave a variable, tasks for what its words name, all of which is covered.
abbrev pub IsStack : List Variable → List ℕ → List ℕ → List Task → Type 0
IsStack variables order names [] = Unit
IsStack variables order names (Enter index ∷ tasks) = (list_any (nat_eq index) names ≡ true) × IsStack variables order names tasks
IsStack variables order names (Leave index ∷ tasks) =
    (list_any (nat_eq index) names ≡ true) × AreSeenTo is_for order tasks (names_at variables index) × IsStack variables order (names_at variables index) tasks

-- What is known of a walk from some indices, which began with an order.
pub record IsWalk (variables : List Variable) (starts before : List ℕ) (walk : Progress) : Type 0 where
  -- what was left is in an order, after what that had before
  pub settled : IsSettled variables walk.order
  pub begins : BeginsWith before walk.order
  pub keeps : (q : ℕ) → list_any (nat_eq q) before ≡ true → list_any (nat_eq q) walk.order ≡ true
  -- each start is covered
  pub seen : AreSeenTo is_for walk.order walk.tasks starts
  -- all that the words name of those that are to be left is covered
  pub stack : IsStack variables walk.order starts walk.tasks
  -- what was entered was left, or is to be
  pub entered : AreSeenTo leaves walk.order walk.tasks walk.entered
  -- what was entered are indices of variables, each once
  pub below : AllBelow (length variables) walk.entered
  pub distinct : IsDistinct nat_eq walk.entered
