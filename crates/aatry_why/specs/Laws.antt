-- Definitions for the law on the rules that `why` prints.
use Rattle.std.specs.Prelude.{◌≡◌}
use Rattle.aa_decide.specs.Exec.{Asker}
use Rattle.aa_decide_ready.specs.Ready.{audits, rules_at}
use Rattle.aatry_policy.specs.Folders.{Folder}
use Rattle.aatry_policy.specs.PlaceLaws.{AreWrittenIn}
use Rattle.aatry_why_lines.specs.Written.{Written}

-- These are the rules by which the asker decides, and its flag that audits them; and each of them is written at the place beside it.
abbrev pub AreOwnRules : Folder → Asker → Written → Type 0
AreOwnRules folder who written =
    (written.rules ≡ rules_at who.entry.profile who.child)
    × (written.audit ≡ audits who.entry.profile who.child)
    × AreWrittenIn folder.language folder.files written.name who.child written.rules written.places
