-- What a folder is checked by and what is found of it, as the definitions see it.
use Rattle.std.specs.Prelude.{map}
use Rattle.std.specs.Option.{option_map}
use Rattle.aatry_policy.specs.FolderParts.{seen_folder}
use Rattle.aatry_check_rules.specs.Below.{AllFound, Checked}
use Rattle.aatry_check_rules.specs.Finding.{seen_found}
use Rattle.aatry_check_rules.specs.declared.below.AllFound.{AllFound as CodeFound}
use Rattle.aatry_check_rules.specs.declared.below.Checked.{Checked as CodeChecked}

abbrev pub seen_checked : CodeChecked → Checked
seen_checked checked = record { folder = seen_folder checked.folder; slots = checked.slots.now; origins = checked.origins.now }

abbrev pub seen_all : CodeFound → AllFound
seen_all all = record { found = map seen_found all.found.items; unattached = option_map (λ places. places.items) all.unattached }
