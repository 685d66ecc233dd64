use Rattle.std.proofs.Common.{◌∙◌, ap, sym}
use Rattle.aa_bytes.specs.NameMaps.{number_of}
use Rattle.aa_profile_conflicts.proofs.ClassLemmas.{unkeyed-new}
use Rattle.aa_profile_conflicts.specs.Classes.{seen_transitions}
use Rattle.aa_profile_conflicts.proofs.classes.class_of.Goals as goal

pub returns-in-None : goal.returns-in-None
returns-in-None c =
    unkeyed-new (seen_transitions c.args.transitions.now) c.args.by_key.now c.args.transition.now c.requires.keyed
    (ap (number_of c.args.by_key.now) (sym c.requires.key) ∙ sym c.in-None.ensures)
