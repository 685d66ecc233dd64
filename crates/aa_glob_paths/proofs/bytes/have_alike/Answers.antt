use Rattle.std.proofs.Common.{◌≡◌, ◌≤◌, [], length, sym, subst, ◌∙◌, arith}
use Rattle.std.proofs.lemmas.List.{take_all}
use Rattle.std.proofs.lemmas.List.Elements.{All-more}
use Rattle.aa_bytes.specs.ByteMaps.{in_map}
use Rattle.aa_glob_nfa.specs.declared.state.ClassRow.{ClassRow}
use Rattle.aa_glob_paths.specs.code.Apart.{HaveAlike}
use Rattle.aa_glob_paths.proofs.bytes.have_alike.Goals as goal

pub loop-class-preserved : goal.loop-class-preserved
loop-class-preserved c =
    All-more (λ (row : ClassRow). in_map row.map c.args.one ≡ in_map row.map c.args.other) c.args.classes.now c.loop-class.class-index (record { state = 0; map = record { words = [] } }) c.loop-class-test.true
    c.loop-class.invariant (sym c.has.ensures ∙ c.are_same.ensures c.if-not-are_same.false ∙ c.has-in-loop-class.ensures)

pub returns : goal.returns
returns c _ =
    let end : length c.args.classes.now ≤ c.loop-class.class-index = omega arith in
    subst (λ classes. HaveAlike classes c.args.one c.args.other) (take_all c.loop-class.class-index c.args.classes.now end) c.loop-class.invariant
