use Rattle.std.proofs.Common.{◌≡◌, List, Option, take}
use Rattle.aa_decide_ready.specs.Entries.{Loaded}
use Rattle.aa_decide_ready.specs.SlotNames.{slots_named}
use Rattle.aa_decide_ready.specs.Indexes.{IsNameIndexOf}
use Rattle.aa_decide_ready.proofs.slots.by_names.Given as goal

abbrev pub invariant-loop-profile : goal.invariant-loop-profile
invariant-loop-profile l = (slots : List (Option Loaded)) → IsNameIndexOf l.names slots → l.found.items ≡ slots_named (take l.profile-index l.profiles) slots
