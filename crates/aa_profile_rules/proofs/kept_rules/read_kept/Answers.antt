use Rattle.std.proofs.Common.{◌∙◌, ◌+◌, ap, Ok, take, drop}
use Rattle.std.proofs.lemmas.List.{drop-map, take-map, take_rest}
use Rattle.aa_text_tokens.specs.SeenSplicedTokens.{seen_spliced}
use Rattle.aa_profile_parsing.specs.SeenTokens.{seen_tokens}
use Rattle.aa_profile_rules.proofs.kept_rules.read_kept.Goals as goal

pub returns-clause-ok : goal.returns-clause-ok
returns-clause-ok c =
    let tokens = c.args.tokens.now in
    let size = c.in_ok-size.size in
    rw (c.in_ok-size.ensures.ok, take_rest tokens (size + 1))
    (ap (λ front. Ok (front, drop (size + 1) (seen_tokens tokens))) (take-map seen_spliced size tokens)
    ∙ ap (λ rest. Ok (seen_tokens (take size tokens), rest)) (drop-map seen_spliced (size + 1) tokens))
