use Rattle.std.proofs.Common.{◌∙◌, ◌||◌, ap, sym}
use Rattle.aa_glob_syntax.specs.OpenGroups.{outer}
use Rattle.aa_glob_pattern.proofs.PlaceLemmas.{close-leads}
use Rattle.aa_glob_pattern.proofs.place.Place.at_end.Goals as goal

pub returns-else-self : goal.returns-else-self
returns-else-self c = λ past k known.
    let top = c.top.result in
    let leads = close-leads past k.here k.groups top (outer c.args.self.now.ends) (sym c.top.ensures ∙ known.2) in
    sym (ap (λ b. b || top) (sym known.0 ∙ c.if-self.false)) ∙ leads
