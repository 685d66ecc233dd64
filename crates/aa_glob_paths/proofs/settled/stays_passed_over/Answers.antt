use Rattle.std.proofs.Common.{◌∙◌, sym}
use Rattle.aa_glob_paths.proofs.SettledLemmas.{stays-double}
use Rattle.aa_glob_paths.proofs.settled.stays_passed_over.Goals as goal

pub returns-in-DoubleStar : goal.returns-in-DoubleStar
returns-in-DoubleStar c = λ is. record {
  stays = stays-double c.args.tables.now c.args.state c.requires.is_state (sym c.gate.ensures ∙ c.in-DoubleStar.is);
  ends = c.leads_to_passed_over.ensures is;
}
