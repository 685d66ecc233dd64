-- Who starts programs, before a change of policy and behind it, and what these lead to.
use Rattle.std.specs.Prelude.{◌≡◌, ℕ, Bool, List, Option, IfSome, Some, option_and_then}
use Rattle.std.specs.Option.{option_map}
use Rattle.aa_decide.specs.Exec.{Asker, ExecAnswer, exec_answer}
use Rattle.aa_decide.specs.SeenExec.{IsIn, seen_asker, seen_to}
use Rattle.aa_decide_ready.specs.Entries.{Loaded}
use Rattle.aa_decide_ready.specs.Slots.{filled}
use Rattle.aa_explain_start_changes.specs.Places.{Lead, lead_by, place_of}
use Rattle.aa_explain_start_changes.specs.declared.starter.Led.{Led}
use Rattle.aa_explain_start_changes.specs.declared.starter.Starter.{Starter as CodeStarter}
use Rattle.aa_explain_start_changes.specs.declared.starter.Starters.{Starters as CodeStarters}

-- someone who starts programs, and the policy set by which that is decided; or no one in particular
pub record Starter : Type 0 where
  pub slots : List (Option Loaded)
  pub asker : Option Asker

-- who does before a change of policy, and who behind it
pub record Starters : Type 0 where
  pub old : Starter
  pub new : Starter

abbrev pub seen_starter : CodeStarter → Starter
seen_starter starter = record { slots = starter.slots.now; asker = option_map seen_asker starter.asker }

abbrev pub seen_starters : CodeStarters → Starters
seen_starters starters = record { old = seen_starter starters.old; new = seen_starter starters.new }

-- who starts programs is one of his policy set
abbrev pub IsThere : CodeStarter → Type 0
IsThere starter = IfSome starter.asker (IsIn starter.slots.now)

pub record AreThere (starters : CodeStarters) : Type 0 where
  pub old : IsThere starters.old
  pub new : IsThere starters.new

-- what is answered to the start of the program of a path, whose file the task's user owns, or another
abbrev pub answer_of : Starter → Bool → List ℕ → ExecAnswer
answer_of starter owned path = exec_answer (filled starter.slots) starter.asker owned path

-- what it leads to, by name; none where it isn't started
abbrev pub lead_of : Starter → Bool → List ℕ → Option Lead
lead_of starter owned path = lead_by (answer_of starter owned path)

-- the same of what is told of it by slots
abbrev pub lead_at : List (Option Loaded) → Led → Option Lead
lead_at slots led = option_map (λ place. record { place = place; scrub = led.scrub }) (option_and_then place_of (seen_to slots led.to))

-- what is told of a start by slots is what is answered
pub record IsLed (starter : Starter) (owned : Bool) (path : List ℕ) (led : Led) : Type 0 where
  pub to : seen_to starter.slots led.to ≡ Some (answer_of starter owned path).to
  pub scrub : led.scrub ≡ (answer_of starter owned path).scrub
