-- Which of the candidates attaches to a path.
use Rattle.std.specs.Prelude.{ℕ, Bool, false, ◌==◌, if◌then◌else◌, List, Option, None, Some}
use Rattle.aa_decide_rules.specs.StandingOut.{greatest, standing_out}
use Rattle.aa_explain.specs.declared.standing.Standing.{Standing}
use Rattle.aa_explain.specs.declared.standing.Standing.TheVariants.{Attached, Lost, Tied}

-- a place is the one given, if there is one
abbrev pub is_the_one : ℕ → Option ℕ → Bool
is_the_one place None = false
is_the_one place (Some one) = place == one

-- how the candidate of a rank at a place ranks among the candidates of some ranks: the one that stands out attaches to the path
abbrev pub standing_of : List ℕ → ℕ → ℕ → Standing
standing_of ranks place rank = if is_the_one place (standing_out ranks) then Attached else if rank == greatest ranks then Tied else Lost
