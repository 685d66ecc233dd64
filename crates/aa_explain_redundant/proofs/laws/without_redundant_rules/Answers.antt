use Rattle.aa_explain_redundant.specs.Redundant.{side_left, whole_side}
use Rattle.aa_explain_redundant.proofs.laws.without_redundant_rules.Goals as goal

pub returns : goal.returns
returns c = λ rules tried told are path bytes asked.
    let same = are.sound path bytes asked in
    record {
      letters = λ mediation owned letters small.
          c.letters_decide_sets.ensures (whole_side rules) (side_left rules told) path owned (λ letter at. same.letters owned letter at) mediation letters small;
      starts = same.starts;
    }
