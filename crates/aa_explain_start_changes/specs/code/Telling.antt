-- Starts that lead elsewhere, as far as they are told.
use Rattle.std.specs.Prelude.{◌≡◌, ◌⊎◌, ℕ, Bool, true, not, List, AllPairs, Contains}
use Rattle.std.specs.List.{list_any}
use Rattle.aa_explain_reach.specs.Patterns.{every_pattern}
use Rattle.aa_explain_start_changes.specs.StartChanges.{LeadElsewhere, Leads, TellsLeads, leads_of, leads_told}
use Rattle.aa_explain_start_changes.specs.Starters.{IsLed, Starters, lead_at}
use Rattle.aa_explain_start_changes.specs.code.Same.{same_leads, same_pair}
use Rattle.aa_explain_start_changes.specs.declared.changes.Pair.{Pair}
use Rattle.aa_explain_start_changes.specs.declared.changes.StartChange.{StartChange}
use Rattle.aa_glob_syntax.specs.Matching.{matches}
use Rattle.aa_glob_syntax.specs.Reading.{items_of}

-- a path is absolute
abbrev pub is_absolute : List ℕ → Bool
is_absolute path = matches (items_of every_pattern) path

-- what a start that is told leads to, by slots
abbrev pub pair_of_change : StartChange → Pair
pair_of_change change = record { old = change.old; new = change.new }

-- and by name
abbrev pub pair_told : Starters → Pair → Leads
pair_told starters pair = record { before = lead_at starters.old.slots pair.old; after = lead_at starters.new.slots pair.new }

abbrev pub differs : Leads → Bool
differs leads = not (same_leads leads.before leads.after)

-- one of some starts is told to lead to the same
abbrev pub has_pair : Starters → Pair → List StartChange → Bool
has_pair starters pair changes =
    list_any (λ change. same_pair (pair_told starters (pair_of_change change)) (pair_told starters pair)) changes

-- no two tell the same
abbrev pub AreApart : Starters → List StartChange → Type 0
AreApart starters changes = AllPairs (λ one later. leads_told starters one ≡ leads_told starters later → ⊥) changes

-- this start was added: it leads elsewhere
pub record IsPut (starters : Starters) (pair : Pair) (owned : Bool) (path : List ℕ) (change : StartChange) : Type 0 where
  pub before : change.old ≡ pair.old
  pub after : change.new ≡ pair.new
  pub owner : change.owned ≡ owned
  pub own_path : change.path.items ≡ path
  pub elsewhere : LeadElsewhere (leads_told starters change)

-- one of some starts is told to lead to this
abbrev pub IsTold : Starters → Leads → List StartChange → Type 0
IsTold starters leads changes = (change : StartChange) × Contains changes change × (leads_told starters change ≡ leads)

-- The start of a program was added to others, if it leads elsewhere, and none of these leads to the same.
pub record PutsPair (starters : Starters) (pair : Pair) (owned : Bool) (path : List ℕ) (old new : List StartChange) : Type 0 where
  pub kept : (change : StartChange) → Contains old change → Contains new change
  pub fresh : (change : StartChange) → Contains new change → Contains old change ⊎ IsPut starters pair owned path change
  pub told : LeadElsewhere (pair_told starters pair) → IsTold starters (pair_told starters pair) new
  pub apart : AreApart starters old → AreApart starters new

-- what is told is what is answered, and it leads elsewhere
pub record IsRight (starters : Starters) (change : StartChange) : Type 0 where
  pub before : IsLed starters.old change.owned change.path.items change.old
  pub after : IsLed starters.new change.owned change.path.items change.new
  pub elsewhere : LeadElsewhere (leads_told starters change)

-- a start is told, if it leads elsewhere
abbrev pub IsToldOf : Starters → Bool → List ℕ → List StartChange → Type 0
IsToldOf starters owned path changes = LeadElsewhere (leads_of starters owned path) → IsTold starters (leads_of starters owned path) changes

-- The start of the program of a path was added to others, if it leads elsewhere and none of these leads to the same: they
-- stay, and each that is new is of this path.
pub record AddsChange (starters : Starters) (owned : Bool) (path : List ℕ) (old new : List StartChange) : Type 0 where
  pub kept : (change : StartChange) → Contains old change → Contains new change
  pub fresh : (change : StartChange) → Contains new change → Contains old change ⊎ ((change.path.items ≡ path) × IsRight starters change)
  pub told : IsToldOf starters owned path new
  pub apart : AreApart starters old → AreApart starters new

-- the same of both owners, if the path is absolute
pub record AddsChanges (starters : Starters) (path : List ℕ) (old new : List StartChange) : Type 0 where
  pub kept : (change : StartChange) → Contains old change → Contains new change
  pub fresh : (change : StartChange) → Contains new change
      → Contains old change ⊎ ((change.path.items ≡ path) × IsRight starters change × (is_absolute path ≡ true))
  pub told : is_absolute path ≡ true → (owned : Bool) → IsToldOf starters owned path new
  pub apart : AreApart starters old → AreApart starters new

-- starts by these paths: each is of one that is absolute, and right; and of each path that is absolute what its starts lead
-- to is told, if they lead elsewhere, by one whose path is no longer
pub record AreChangesBy (starters : Starters) (paths : List (List ℕ)) (changes : List StartChange) : Type 0 where
  pub each : (change : StartChange) → Contains changes change
      → Contains paths change.path.items × IsRight starters change × (is_absolute change.path.items ≡ true)
  pub told : (path : List ℕ) → Contains paths path → is_absolute path ≡ true
      → (owned : Bool) → LeadElsewhere (leads_of starters owned path) → TellsLeads starters changes path (leads_of starters owned path)
  pub apart : AreApart starters changes
