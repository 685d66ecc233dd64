-- Full names: of a profile, or of one of its children or hats (docs/policy.md, "Names").
use Rattle.std.specs.Prelude.{ℕ, Bool, ◌&&◌, if◌then◌else◌, List, [], ◌∷◌, Option, None, Some, codes, drop}
use Rattle.aa_bytes.specs.Texts.{begins_with}
use Rattle.aa_profile_data.specs.Names.{is_name, is_top_name}

-- the name of a profile and, where a child or a hat of it is named, that one's
pub record FullName : Type 0 where
  pub profile : List ℕ
  pub child : Option (List ℕ)

-- A full name is cut at its first `//`; one without is a profile's.
abbrev pub full_name : List ℕ → FullName
full_name [] = record { profile = []; child = None }
full_name (b ∷ bs) =
    let rest = full_name bs in
    if begins_with (codes "//") (b ∷ bs) then record { profile = []; child = Some (drop 2 (b ∷ bs)) } else record { profile = b ∷ rest.profile; child = rest.child }

-- a full name whose parts are names: that of a profile that isn't within another, and that of the child or hat, if it names one
abbrev pub are_names : FullName → Bool
are_names name = elim name.child [
  | None ↦ is_top_name name.profile
  | Some child ↦ is_top_name name.profile && is_name child
]

-- a text is a full name, and its parts are names
abbrev pub is_full_name : List ℕ → Bool
is_full_name text = are_names (full_name text)
