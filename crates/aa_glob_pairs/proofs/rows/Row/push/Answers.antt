use Rattle.std.proofs.Common.{◌≡◌, ◌∙◌, ◌++◌, ◌∷◌, [], ap, subst, sym, List, ℕ}
use Rattle.aa_glob_pairs.proofs.EncodingLemmas.{encoded_pushed, decoded_pushed}
use Rattle.aa_glob_pairs.specs.code.Encoding.{IsEncoded, decoded, last_of}
use Rattle.aa_glob_pairs.proofs.rows.Row.push.Goals as goal

pub invariant_of-self-2 : goal.invariant_of-self-2
invariant_of-self-2 c =
    let row = c.self.inside in
    subst (λ (l : List ℕ). IsEncoded l × (c.args.state ≡ last_of 0 (decoded 0 l))) (sym c.in_ok-push_state.ensures.ok)
    (encoded_pushed row.bytes.items row.last c.args.state c.self.invariant.0 c.self.invariant.1 c.ranges.state.fits)

pub returns : goal.returns
returns c =
    let row = c.self.inside in
    ap (decoded 0) c.in_ok-push_state.ensures.ok ∙ decoded_pushed row.bytes.items row.last c.args.state c.self.invariant.0 c.self.invariant.1
    ∙ ap (λ l. l ++ c.args.state ∷ []) c.self.view_is
