use Rattle.std.proofs.Common.{◌∙◌, ap}
use Rattle.aa_decide_rules.specs.Choices.{choice_of}
use Rattle.aa_decide_rules.specs.code.SeenRules.{seen_rules}
use Rattle.aa_decide_rules.proofs.SaidLemmas.{picked-matching-said}
use Rattle.aa_decide_rules.proofs.choice.exec_choice.Goals as goal

pub returns : goal.returns
returns c path are rise =
    c.choice_of.ensures
    ∙ ap (λ said. choice_of (seen_rules said)) c.deref.ensures.value
    ∙ ap choice_of (c.in-Ok.ensures ∙ picked-matching-said c.args.flag c.args.owned path c.args.rules.now c.args.places.now
    (c.which_rules_match.ensures.places_pick_the_matching_rules c.args.rules.now path c.args.places.now are rise))
