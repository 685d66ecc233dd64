use Rattle.std.proofs.Common.{ℕ, List, [], ◌∷◌, inl, inr, refl, sym, subst}
use Rattle.std.proofs.lemmas.List.Elements.{Contains-append_left, Contains-push, Contains-push_cases}
use Rattle.std.specs.Prelude.{Contains}
use Rattle.aa_glob_nfa.specs.OfTables.{graph_of}
use Rattle.aa_glob_paths.specs.Alike.{AreAlike}
use Rattle.aa_glob_paths.specs.code.Apart.{GetsLike}
use Rattle.aa_glob_paths.proofs.AlikeLemmas.{same-alike}
use Rattle.aa_glob_paths.proofs.bytes.put_if_new.Goals as goal

pub returns-then-has_alike : goal.returns-then-has_alike
returns-then-has_alike c =
    let g = graph_of c.args.tables.now in
    let like = subst (λ (l : List ℕ). (b : ℕ) × Contains l b × AreAlike g b c.args.byte) c.deref.ensures.value (c.has_alike.ensures c.if-has_alike.true) in
    record { keeps = λ b h. h; only = λ b h. inl h; like = like }

pub returns : goal.returns
returns c =
    let g = graph_of c.args.tables.now in
    let old = c.args.bytes.now.items in
    subst (λ new. GetsLike g old new c.args.byte) (sym c.in_ok-push.ensures.items) (record {
      keeps = λ b h. Contains-append_left old (c.args.byte ∷ []) b h;
      only = λ b h. elim (Contains-push_cases old c.args.byte b h) [ inl early ↦ inl early | inr same ↦ inr (sym same) ];
      like = (c.args.byte, Contains-push old c.args.byte, same-alike g c.args.byte c.args.byte refl);
    })
