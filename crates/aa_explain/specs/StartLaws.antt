-- Definitions for the laws on the start of programs.
use Rattle.std.specs.Prelude.{◌≡◌}
use Rattle.aa_decide.specs.Exec.{Asker}
use Rattle.aa_decide_ready.specs.Sections.{Section}
use Rattle.aa_decide_rules.specs.declared.judgement.Mediation.{Mediation}
use Rattle.aa_decide_ready.specs.Confinement.{By, in_state}

-- the rules of the asker decide: the profile is in force, and the asker isn't in mode unconfined
abbrev pub AsksRules : Asker → Type 0
AsksRules who =
    (section : Section) × (mediation : Mediation) × (in_state who.entry.profile who.entry.state who.child ≡ By section mediation)
