-- Definitions for the laws on parts: those that have what the profile, child or hat of their full name has.
use Rattle.std.specs.Prelude.{◌≡◌, ℕ, List, Some}
use Rattle.aa_decide.specs.Exec.{Asker}
use Rattle.aa_decide_ready.specs.Entries.{Loaded}
use Rattle.aa_decide_ready.specs.Ready.{audits, rules_at}
use Rattle.aa_decide_ready.specs.Visits.{attachments_at}
use Rattle.aa_explain.specs.AlikePolicies.{mode_in}
use Rattle.aa_set_answers.specs.Laws.{IsListed}
use Rattle.aa_set_answers.specs.ProfileNames.{full_name_at}
use Rattle.aatry_policy.specs.Parts.{Part, part_of}

-- the first part of the full name of a profile, child or hat has the rules by which it decides, and is audited as it is
abbrev pub HasOwnRules : List Part → Asker → Type 0
HasOwnRules parts who =
    (part : Part) × (part_of parts (full_name_at who.entry.profile who.child) ≡ Some part)
    × (part.section.rules ≡ rules_at who.entry.profile who.child) × (part.section.audit ≡ audits who.entry.profile who.child)

-- A part is that of a profile, child or hat: it has its full name, the mode that it is in or that it is disabled, whether it is audited, and the
-- same attachments and rules.
pub record IsPartOf (who : Asker) (part : Part) : Type 0 where
  pub name : part.name ≡ full_name_at who.entry.profile who.child
  pub mode : part.section.mode ≡ mode_in who.entry.state who.child
  pub audit : part.section.audit ≡ audits who.entry.profile who.child
  pub attachments : part.section.attachments ≡ attachments_at who.entry.profile who.child
  pub rules : part.section.rules ≡ rules_at who.entry.profile who.child

-- a part is that of a profile, child or hat of some entries
abbrev pub IsPartIn : List Loaded → Part → Type 0
IsPartIn entries part = (who : Asker) × IsListed entries who × IsPartOf who part

-- the first part of a full name is such a part, if there is one
abbrev pub IsFirstIn : List Loaded → List Part → List ℕ → Type 0
IsFirstIn entries parts name = (part : Part) → part_of parts name ≡ Some part → IsPartIn entries part × (part.name ≡ name)
