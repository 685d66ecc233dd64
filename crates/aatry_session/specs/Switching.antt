-- The changes of profiles that were added, by how their file is loaded.
use Rattle.std.specs.Prelude.{ℕ, List, [], ◌∷◌, Option, None, Some}
use Rattle.aa_set_commands.specs.Command.{Complain, Disable as DisableChange, Make, PolicyChange}
use Rattle.aa_set_manager.specs.Manager.{Managed}
use Rattle.aa_set_manager.specs.Outcomes.{Outcome as Obeyed, obeyed}
use Rattle.aa_set_manager.specs.declared.reply.Reply.TheVariants.{Done}
use Rattle.aatry_folder.specs.declared.loading.Loading.{Loading}
use Rattle.aatry_folder.specs.declared.loading.Loading.TheVariants.{ByFlags, Disable, ForceComplain}
use Rattle.aatry_session.specs.Turns.{Kept, kept_after}

-- a session after a change that needs no files, as the machine obeys it
abbrev pub kept_by : Kept → PolicyChange → Kept
kept_by kept change = kept_after [] kept (Some change) (obeyed [] kept.managed (Make change))

-- a session after the change of a profile by how its file is loaded: `complain NAME`, `disable NAME`, or none
abbrev pub kept_switched : Loading → Kept → List ℕ → Kept
kept_switched ByFlags kept name = kept
kept_switched ForceComplain kept name = kept_by kept (Complain name)
kept_switched Disable kept name = kept_by kept (DisableChange name)

-- that change, if there is one
abbrev pub change_of : Loading → List ℕ → Option PolicyChange
change_of ByFlags name = None
change_of ForceComplain name = Some (Complain name)
change_of Disable name = Some (DisableChange name)

-- the machine after that change, and its reply
abbrev pub switch_obeyed : Loading → Managed → List ℕ → Obeyed
switch_obeyed ByFlags managed name = record { reply = Done; managed = managed }
switch_obeyed ForceComplain managed name = obeyed [] managed (Make (Complain name))
switch_obeyed Disable managed name = obeyed [] managed (Make (DisableChange name))

-- a session after the changes of some profiles, one after the other
abbrev pub all_switched : Loading → Kept → List (List ℕ) → Kept
all_switched loading kept [] = kept
all_switched loading kept (name ∷ names) = all_switched loading (kept_switched loading kept name) names
