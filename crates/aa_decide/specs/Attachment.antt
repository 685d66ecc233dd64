-- Attachment: the loaded profile that attaches to the path of a program (apparmor.d(5), "Profile Head"; docs/policy.md, "Exec and attachment").
use Rattle.std.specs.Prelude.{ℕ, if◌then◌else◌, List, map, Option, option_and_then, slice_get}
use Rattle.aa_decide_rules.specs.Ranks.{best_rank}
use Rattle.aa_decide_rules.specs.StandingOut.{standing_out}
use Rattle.aa_profile_data.specs.declared.profile.Child.{Child}
use Rattle.aa_decide_ready.specs.Entries.{Loaded, is_in_force}

-- the rank of a loaded profile on a path: the best rank among its attachments; 0 where none matches, and where it is disabled
abbrev pub entry_rank : List ℕ → Loaded → ℕ
entry_rank path entry = if is_in_force entry.state then best_rank path entry.profile.attachments else 0

-- The profile that attaches to a path: the one whose rank no other reaches.
abbrev pub attached : List ℕ → List Loaded → Option Loaded
attached path entries = option_and_then (slice_get entries) (standing_out (map (entry_rank path) entries))

-- the index of the child that attaches to a path, among some children; hats have no attachments
abbrev pub attached_child : List ℕ → List Child → Option ℕ
attached_child path children = standing_out (map (λ child. best_rank path child.attachments) children)
