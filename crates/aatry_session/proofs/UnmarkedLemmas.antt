-- That what loads files marks nothing.
use Rattle.std.proofs.Common.{◌≡◌, ℕ, Bool, true, false, cond, ◌&&◌, List, [], Result, Ok, Err, ap, length, refl}
use Rattle.aa_decide_ready.specs.Entries.{Loaded}
use Rattle.aa_history.specs.Machine.{up_to}
use Rattle.aa_set_manager.specs.Outcomes.{changed, obeyed, obeyed_flagged, refused, takes_memory}
use Rattle.aa_set_manager.specs.Manager.{Managed, after_change}
use Rattle.aa_set_manager.specs.Changes.{changed as change_of_set, parts_of}
use Rattle.aa_set_commands.specs.Command.{Add, Complain, Disable as DisableChange, Make, PolicyChange}
use Rattle.aa_set_commands.specs.Refusal.{plain}
use Rattle.aa_set_commands.specs.declared.refusal.Refusal.{Refusal}
use Rattle.aa_set_commands.specs.declared.refusal.RefusalKind.TheVariants.{Memory}
use Rattle.aa_text_files.specs.Files.{File}
use Rattle.aatry_folder.specs.declared.loading.Loading.TheVariants as loading
use Rattle.aatry_session.specs.LoadingLaws.{AddsUnmarked, BeginsUnmarked, SwitchesUnmarked}

after_unmarked : (managed : Managed) (size : ℕ) (r : Result (List Loaded) Refusal) → managed.machine.marks ≡ []
    → (changed managed (after_change managed size r)).managed.machine.marks ≡ []
after_unmarked managed size (Ok set) none = ap (up_to (length managed.machine.earlier)) none
after_unmarked managed size (Err refusal) none = none

obeyed_unmarked : (files : List File) (managed : Managed) (change : PolicyChange) → managed.machine.marks ≡ []
    → (obeyed files managed (Make change)).managed.machine.marks ≡ []
obeyed_unmarked files managed change none =
    after_unmarked managed (parts_of files managed.settings change) (change_of_set files managed.settings managed.machine.now change) none

flagged_unmarked : (files : List File) (managed : Managed) (flag : Bool) (change : PolicyChange) → managed.machine.marks ≡ []
    → (obeyed_flagged files managed flag (Make change)).managed.machine.marks ≡ []
flagged_unmarked files managed flag change none = by (flag && takes_memory managed (Make change))
  where
    by : (t : Bool) → (cond t (refused managed (plain Memory)) (obeyed files managed (Make change))).managed.machine.marks ≡ []
    by true = none
    by false = obeyed_unmarked files managed change none

pub begins : BeginsUnmarked
begins language force_complain = refl

pub adds : AddsUnmarked
adds files base kept name flag none = flagged_unmarked files kept.managed flag (Add name) none

pub switches : SwitchesUnmarked
switches loading.ByFlags kept name none = none
switches loading.ForceComplain kept name none = obeyed_unmarked [] kept.managed (Complain name) none
switches loading.Disable kept name none = obeyed_unmarked [] kept.managed (DisableChange name) none
