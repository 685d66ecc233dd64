use Rattle.std.proofs.Common.{◌≡◌, false, drop, length, sym, ap, ◌∙◌}
use Rattle.std.specs.List.{list_any}
use Rattle.aa_text_variables.specs.code.HeldValues.{names_undefined_at}
use Rattle.aa_text_variables.specs.code.VariableWalks.{IsOrderOf}
use Rattle.aa_text_variables.proofs.HeldLemmas.{first-counts, table-grown}
use Rattle.aa_text_variables.proofs.WalkLemmas.{settled-few}
use Rattle.aa_text_variables.proofs.variables.Variables.grow.Goals as goal

pub counts-requires-clause-order : goal.counts-requires-clause-order
counts-requires-clause-order c = (c.in_ok-walk_text.ensures.fine c.if-not-branch.false).settled.ordered

pub counts-requires-clause-few : goal.counts-requires-clause-few
counts-requires-clause-few c = settled-few c.args.self.now c.walk_text.new.order.keys (c.in_ok-walk_text.ensures.fine c.if-not-branch.false).settled

pub counts-requires-clause-first : goal.counts-requires-clause-first
counts-requires-clause-first c =
    let rows = c.args.rows.now in
    first-counts c.args.self.now rows.order.keys rows.counts.items rows.numbers.items rows.lists c.requires c.args.text.now c.walk_text.new.order.keys (c.in_ok-walk_text.ensures.fine c.if-not-branch.false)

pub returns : goal.returns
returns c =
    let rows = c.args.rows.now in
    let order = c.walk_text.new.order.keys in
    let found : IsOrderOf c.args.self.now c.args.text.now rows.order.keys order = c.in_ok-walk_text.ensures.fine c.if-not-branch.false in
    let none : list_any (names_undefined_at c.args.self.now) (drop (length rows.order.keys) order) ≡ false =
    ap (λ size. list_any (names_undefined_at c.args.self.now) (drop size order)) (sym c.len-first.ensures.len) ∙ sym c.if-undefined_behind.ensures
    in
    λ there. record {
      table = table-grown c.args.self.now rows.order.keys rows.counts.items rows.numbers.items rows.lists c.requires c.args.text.now order found c.counts.new.counts.items c.in_ok-counts.ensures none;
      known = found.named;
      defined = sym c.if-undefined.ensures;
    }
