use Rattle.std.proofs.Common.{◌∙◌, sym}
use Rattle.aa_glob_syntax.specs.OpenGroups.{outer}
use Rattle.aa_glob_pattern.proofs.PlaceLemmas.{comma-leads}
use Rattle.aa_glob_pattern.proofs.place.Place.leading.Goals as goal

pub returns-in-Comma : goal.returns-in-Comma
returns-in-Comma c = λ past k known.
    rw c.in-Comma.is (comma-leads past k.here k.groups c.top.result (outer c.args.self.now.beginnings) (sym c.top.ensures ∙ known.1))
