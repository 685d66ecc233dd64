use Rattle.std.proofs.Common.{◌∙◌, ap, sym, take}
use Rattle.std.proofs.lemmas.List.{take-map}
use Rattle.aa_profile_parsing.specs.SeenTokens.{seen_tokens}
use Rattle.aa_text_tokens.specs.SeenSplicedTokens.{seen_spliced}
use Rattle.aa_profile_parsing.proofs.idle.flag_tokens.Goals as goal

pub returns : goal.returns
returns c =
    let tokens = c.args.tokens.now in
    sym (take-map seen_spliced c.flag_count-count.result tokens) ∙ ap (λ count. take count (seen_tokens tokens)) c.flag_count-count.ensures.count
