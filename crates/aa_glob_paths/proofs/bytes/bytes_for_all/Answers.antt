use Rattle.std.proofs.Common.{List, ℕ, inl, inr, sym, subst, arith}
use Rattle.std.proofs.lemmas.Bool.{cases_eq}
use Rattle.aa_glob_nfa.specs.OfTables.{graph_of}
use Rattle.aa_glob_paths.specs.Alike.{AreAlike, printed}
use Rattle.aa_glob_paths.specs.code.Apart.{GetsLikeEach}
use Rattle.aa_glob_paths.proofs.AlikeLemmas.{stand-printed}
use Rattle.aa_glob_paths.proofs.bytes.bytes_for_all.Goals as goal

pub loop-number-init : goal.loop-number-init
loop-number-init c =
    let g = graph_of c.args.tables.now in
    let bytes = c.put_each_new.new.bytes.items in
    record {
      like = λ byte low. absurd (omega (arith, low));
      printed = stand-printed g bytes (subst (λ (old : List ℕ). GetsLikeEach g old bytes printed) c.new-bytes.ensures.items c.in_ok-put_each_new.ensures);
    }

pub loop-number-preserved : goal.loop-number-preserved
loop-number-preserved c =
    let g = graph_of c.args.tables.now in
    let put = c.in_ok-put_if_new.ensures in
    record {
      like = λ byte low. elim (cases_eq byte c.loop-number.number) [
        | inl same ↦ (put.like.0, put.like.1, subst (AreAlike g put.like.0) (sym same) put.like.2)
        | inr other ↦
            let before = c.loop-number.invariant.like byte (omega (arith, low, other)) in
            (before.0, put.keeps before.0 before.1, before.2)
      ];
      printed = λ byte among.
          let before = c.loop-number.invariant.printed byte among in
          (before.0, put.keeps before.0 before.1, before.2, before.3);
    }
