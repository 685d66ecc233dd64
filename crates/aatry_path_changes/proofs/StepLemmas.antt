-- One number more.
use Rattle.std.proofs.Common.{◌≡◌, ℕ, ◌+◌, ◌++◌, [], add-one, ap, refl}
use Rattle.aa_explain_changes.specs.Sides.{Sides}
use Rattle.aatry_path_changes.specs.Others.{capability_changes, changed_if, socket_changes, type_changes}
use Rattle.aatry_path_changes.specs.declared.others.Other.TheVariants.{Capability, Sockets}

pub capability_none : (sides : Sides) → capability_changes sides 0 ≡ []
unfolding capability_changes
capability_none sides = refl

pub capability_step : (sides : Sides) (n : ℕ) → capability_changes sides (n + 1) ≡ capability_changes sides n ++ changed_if sides (Capability n)
unfolding capability_changes
capability_step sides n = ap (capability_changes sides) (add-one n)

pub type_none : (sides : Sides) (domain : ℕ) → type_changes sides domain 0 ≡ []
unfolding type_changes
type_none sides domain = refl

pub type_step : (sides : Sides) (domain n : ℕ) → type_changes sides domain (n + 1) ≡ type_changes sides domain n ++ changed_if sides (Sockets domain n)
unfolding type_changes
type_step sides domain n = ap (type_changes sides domain) (add-one n)

pub socket_none : (sides : Sides) → socket_changes sides 0 ≡ []
unfolding socket_changes
socket_none sides = refl

pub socket_step : (sides : Sides) (n : ℕ) → socket_changes sides (n + 1) ≡ socket_changes sides n ++ type_changes sides n 6
unfolding socket_changes
socket_step sides n = ap (socket_changes sides) (add-one n)
