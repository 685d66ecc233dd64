-- The two sides of a change of rules.
use Rattle.std.specs.Prelude.{ℕ, Bool, List}
use Rattle.aa_decide_rules.specs.declared.verdict.Verdict.{Verdict}
use Rattle.aa_decide_rules.specs.Verdict.{verdict}
use Rattle.aa_decide_rules.specs.declared.judgement.Mediation.TheVariants.{Enforcing}
use Rattle.aa_profile_data.specs.Request.{ForFile}
use Rattle.aa_profile_data.specs.declared.profile.Rule.{Rule}
use Rattle.aa_explain_changes.specs.declared.sides.Side.{Side as CodeSide}
use Rattle.aa_explain_changes.specs.declared.sides.Sides.{Sides as CodeSides}

-- a profile, a child or a hat as it decides on files: its rules, and the flag that audits each of them
pub record Side : Type 0 where
  pub audit : Bool
  pub rules : List Rule

-- the two sides of a change, and whether answers that differ in how they are logged alone count as equal
pub record Sides : Type 0 where
  pub old : Side
  pub new : Side
  pub quiet : Bool

abbrev pub seen_side : CodeSide → Side
seen_side side = record { audit = side.audit; rules = side.rules.now }

abbrev pub seen_sides : CodeSides → Sides
seen_sides sides = record { old = seen_side sides.old; new = seen_side sides.new; quiet = sides.quiet }

-- The verdict of a side on letters of a file. What isn't allowed is refused, whatever the mode: a change of the mode is a change of its own.
abbrev pub side_verdict : Side → List ℕ → Bool → ℕ → Verdict
side_verdict side path owned letters = verdict Enforcing side.audit side.rules (ForFile letters owned path)
