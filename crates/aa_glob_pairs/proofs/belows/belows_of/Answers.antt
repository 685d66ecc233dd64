use Rattle.std.proofs.Common.{◌≡◌, ◌∙◌, ◌-◌, ◌+◌, ◌≤◌, ◌<◌, ℕ, ap, length, List, sym, subst, arith}
use Rattle.std.proofs.lemmas.List.{length-set}
use Rattle.std.specs.Prelude.{slice_index_or}
use Rattle.aa_glob_nfa.specs.OfTables.{graph_of}
use Rattle.aa_glob_nfa.proofs.TableLemmas.{length-entries_in}
use Rattle.aa_glob_pairs.proofs.BelowLemmas.{belows_more, kept-below}
use Rattle.aa_glob_pairs.specs.Graphs.{IsBelowAt}
use Rattle.aa_glob_pairs.specs.code.Numbered.{as_kept}
use Rattle.aa_glob_pairs.specs.declared.below.Below.{Below}
use Rattle.aa_glob_pairs.specs.declared.below.Below.TheVariants.{Nothing}
use Rattle.aa_glob_pairs.proofs.belows.belows_of.Goals as goal

pub loop-left-preserved : goal.loop-left-preserved
loop-left-preserved c =
    let g = graph_of c.args.tables.now in
    let classes = c.args.classes.now in
    let states = length c.args.tables.now.states in
    let old = c.loop-left.belows in
    let left = c.loop-left.left - 1 in
    let below = as_kept c.below_at-below.result in
    let back : left + 1 ≡ c.loop-left.left = omega (arith, c.loop-left-test.true) in
    record {
      count = ap length c.put.ensures ∙ length-set old left below ∙ c.loop-left.invariant.count;
      left = omega (arith, c.loop-left.invariant.left);
      each = subst (λ (l : List Below). (q : ℕ) → left ≤ q → q < states → IsBelowAt g classes l q (slice_index_or l q Nothing)) (sym c.put.ensures)
          (belows_more g classes states left old below c.requires.later (omega (arith, c.loop-left.invariant.left, c.loop-left-test.true)) c.loop-left.invariant.count
          (kept-below g classes old left c.below_at-below.result c.below_at-below.ensures) (λ q from inside. c.loop-left.invariant.each q (omega (arith, from, back)) inside));
    }

pub returns : goal.returns
returns c =
    let t = c.args.tables.now in
    let all = length-entries_in t.classes.items 0 t.states in
    record {
      count = omega (arith, c.loop-left.invariant.count, all);
      each = λ q inside. c.loop-left.invariant.each q (omega (arith, c.loop-left-test.false)) (omega (arith, inside, all));
    }
