-- Joined requests: what several requests need of one path together.
use Rattle.std.specs.Prelude.{◌≡◌, true, ◌&&◌}
use Rattle.aa_profile_data.specs.Access.{common, union}
use Rattle.aa_profile_data.specs.Request.{ForFile, Request}

-- two requests joined: for one path the letters of both, for the owner alone where both are the owner's; else the first
abbrev pub joined : Request → Request → Request
joined (ForFile needs owned path) (ForFile more other_owned other) = ForFile (union needs more) (owned && other_owned) path
joined one _ = one

-- two requests are about one thing: one path, one capability, or sockets of one type in one domain
abbrev pub AreOfOneThing : Request → Request → Type 0
AreOfOneThing (ForFile needs owned path) (ForFile more other_owned other) = path ≡ other
AreOfOneThing one other = one ≡ other

-- a request has no need that another doesn't have, about the same thing, and is the owner's where the other is
abbrev pub IsWithin : Request → Request → Type 0
IsWithin (ForFile needs owned path) (ForFile all all_owned other) = (path ≡ other) × (common needs all ≡ needs) × (all_owned ≡ true → owned ≡ true)
IsWithin one other = one ≡ other
