use Rattle.std.proofs.Common.{◌≡◌, ℕ, ◌+◌, List, [], ◌∷◌, ◌++◌, Some, take, drop, true, false, slice_index_or, codes, sym, ap, ◌∙◌, append_assoc}
use Rattle.std.proofs.lemmas.List.{drop_more, take_more}
use Rattle.aa_bytes.specs.Texts.{begins_with}
use Rattle.aa_profile_data.specs.FullNames.{FullName, full_name}
use Rattle.aa_profile_data.proofs.FullNameLemmas.{cut_behind, cut_here}
use Rattle.aa_profile_data.proofs.full_name.cut_full_name.Goals as goal

pub returns-then-begins_with-clause-child : goal.returns-then-begins_with-clause-child
returns-then-begins_with-clause-child c =
    let rest : List ℕ = c.behind-rest.result.now in
    let begins : begins_with (codes "//") rest ≡ true = sym c.begins_with.ensures.value ∙ c.if-begins_with.true in
    ap (λ (child : List ℕ). Some child) c.behind.ensures
    ∙ sym (ap (λ (name : FullName). name.child) (cut_here rest begins))
    ∙ ap (λ (text : List ℕ). (full_name text).child) c.behind-rest.ensures
    ∙ c.loop-at.invariant.child

pub loop-at-preserved : goal.loop-at-preserved
loop-at-preserved c =
    let name : List ℕ = c.args.name.now in
    let at : ℕ = c.loop-at.at in
    let next : ℕ = slice_index_or name at 0 in
    let rest : List ℕ = drop (at + 1) name in
    let whole : drop at name ≡ next ∷ rest = drop_more name at 0 c.loop-at-test.true in
    let other : begins_with (codes "//") (next ∷ rest) ≡ false = ap (begins_with (codes "//")) (sym (c.behind-rest.ensures ∙ whole)) ∙ sym c.begins_with.ensures.value ∙ c.if-begins_with.false in
    let cut : full_name (drop at name) ≡ record { profile = next ∷ (full_name rest).profile; child = (full_name rest).child } = ap full_name whole ∙ cut_behind next rest other in
    record {
      profile =
          ap (λ front. front ++ (full_name rest).profile) (take_more name at 0 c.loop-at-test.true)
          ∙ append_assoc (take at name) (next ∷ []) (full_name rest).profile
          ∙ sym (ap (λ (n : FullName). take at name ++ n.profile) cut)
          ∙ c.loop-at.invariant.profile;
      child = sym (ap (λ (n : FullName). n.child) cut) ∙ c.loop-at.invariant.child;
    }
