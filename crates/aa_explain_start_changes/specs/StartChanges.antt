-- Starts of programs that lead elsewhere behind a change of policy, over all paths.
use Rattle.std.specs.Prelude.{◌≡◌, ℕ, ◌≤◌, Bool, List, All, AllPairs, Contains, Option, length}
use Rattle.aa_explain_reach.specs.Starts.{MayStart}
use Rattle.aa_explain_start_changes.specs.Places.{Lead}
use Rattle.aa_explain_start_changes.specs.Starters.{IsLed, Starters, lead_at, lead_of}
use Rattle.aa_explain_start_changes.specs.declared.changes.StartChange.{StartChange}

-- what the start of a program leads to before a change, and what behind it; none where it isn't started
pub record Leads : Type 0 where
  pub before : Option Lead
  pub after : Option Lead

abbrev pub leads_of : Starters → Bool → List ℕ → Leads
leads_of starters owned path = record { before = lead_of starters.old owned path; after = lead_of starters.new owned path }

-- it leads elsewhere: to a place of another name, or to one that is scrubbed otherwise, or somewhere instead of nowhere, or
-- the other way round
abbrev pub LeadElsewhere : Leads → Type 0
LeadElsewhere leads = leads.before ≡ leads.after → ⊥

-- what is told to be led to
abbrev pub leads_told : Starters → StartChange → Leads
leads_told starters change = record { before = lead_at starters.old.slots change.old; after = lead_at starters.new.slots change.new }

-- A change is one: on a path that the kernel may ask about, what is told is what is answered in either policy set, and it
-- isn't the same.
pub record IsStartChange (starters : Starters) (change : StartChange) : Type 0 where
  pub may : MayStart change.path.items
  pub before : IsLed starters.old change.owned change.path.items change.old
  pub after : IsLed starters.new change.owned change.path.items change.new
  pub elsewhere : LeadElsewhere (leads_told starters change)

-- one of some changes tells this, and its path is no longer than this one
pub record TellsLeads (starters : Starters) (changes : List StartChange) (path : List ℕ) (leads : Leads) : Type 0 where
  pub change : StartChange
  pub among : Contains changes change
  pub same : leads_told starters change ≡ leads
  pub no_longer : length change.path.items ≤ length path

-- These are the starts that lead elsewhere, over all paths: each is one; wherever a start leads elsewhere, one of them tells
-- what it leads to in both, with a path that is no longer; and no two tell the same.
pub record AreStartChanges (starters : Starters) (changes : List StartChange) : Type 0 where
  pub each_change : All (IsStartChange starters) changes
  pub each_path : (path : List ℕ) (owned : Bool) → MayStart path → LeadElsewhere (leads_of starters owned path)
      → TellsLeads starters changes path (leads_of starters owned path)
  pub apart : AllPairs (λ one later. leads_told starters one ≡ leads_told starters later → ⊥) changes
