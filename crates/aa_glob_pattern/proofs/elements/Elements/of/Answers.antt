use Rattle.aa_glob_pattern.proofs.BoundLemmas.{length-elements_of}
use Rattle.aa_glob_pattern.proofs.elements.Elements.of.Goals as goal

pub returns-clause-few : goal.returns-clause-few
returns-clause-few c = length-elements_of c.args.text.now
