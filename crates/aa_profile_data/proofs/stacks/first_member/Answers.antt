use Rattle.std.proofs.Common.{◌≡◌, ℕ, ◌+◌, List, [], ◌∷◌, length, ◌≤◌, take, drop, true, false, slice_index_or, codes, sym, ap, ◌∙◌, arith}
use Rattle.std.proofs.lemmas.List.{drop_all, drop_more, take_all, take_more}
use Rattle.std.specs.List.{onto_first}
use Rattle.aa_bytes.specs.Texts.{begins_with}
use Rattle.aa_profile_data.specs.Stacks.{parts_of}
use Rattle.aa_profile_data.proofs.StackLemmas.{cut-behind, cut-here, onto, onto-cut, onto-more}
use Rattle.aa_profile_data.proofs.stacks.first_member.Goals as goal

pub returns-then-begins_with-clause-parts : goal.returns-then-begins_with-clause-parts
returns-then-begins_with-clause-parts c =
    let text : List ℕ = c.args.text.now in
    let at : ℕ = c.loop-at.at in
    let rest : List ℕ = c.behind-rest.result.now in
    let begins : begins_with (codes "//&") rest ≡ true = sym c.begins_with.ensures.value ∙ c.if-begins_with.true in
    let cut : parts_of (drop at text) ≡ [] ∷ parts_of (drop 3 rest) = ap parts_of (sym c.behind-rest.ensures) ∙ cut-here rest begins in
    sym c.loop-at.invariant
    ∙ (ap (onto (take at text)) cut
    ∙ (onto-cut (take at text) (parts_of (drop 3 rest))
    ∙ ap (λ (more : List ℕ). take at text ∷ parts_of more) (sym c.behind.ensures)))

pub loop-at-preserved : goal.loop-at-preserved
loop-at-preserved c =
    let text : List ℕ = c.args.text.now in
    let at : ℕ = c.loop-at.at in
    let next : ℕ = slice_index_or text at 0 in
    let rest : List ℕ = drop (at + 1) text in
    let whole : drop at text ≡ next ∷ rest = drop_more text at 0 c.loop-at-test.true in
    let other : begins_with (codes "//&") (next ∷ rest) ≡ false =
    ap (begins_with (codes "//&")) (sym (c.behind-rest.ensures ∙ whole)) ∙ sym c.begins_with.ensures.value ∙ c.if-begins_with.false
    in
    let cut : parts_of (drop at text) ≡ onto_first next (parts_of rest) = ap parts_of whole ∙ cut-behind next rest other in
    ap (λ (front : List ℕ). onto front (parts_of rest)) (take_more text at 0 c.loop-at-test.true)
    ∙ (onto-more (take at text) next (parts_of rest)
    ∙ (sym (ap (onto (take at text)) cut) ∙ c.loop-at.invariant))

pub returns-clause-parts : goal.returns-clause-parts
returns-clause-parts c =
    let text : List ℕ = c.args.text.now in
    let at : ℕ = c.loop-at.at in
    let past : length text ≤ at = omega (arith, c.loop-at-test.false) in
    sym c.loop-at.invariant
    ∙ (ap (λ (front : List ℕ). onto front (parts_of (drop at text))) (take_all at text past)
    ∙ (ap (λ (rest : List ℕ). onto text (parts_of rest)) (drop_all at text past) ∙ onto-cut text []))
