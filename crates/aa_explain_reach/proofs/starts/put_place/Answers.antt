use Rattle.std.proofs.Common.{◌≡◌, ◌∙◌, ap, false, refl, sym, true}
use Rattle.aa_explain_reach.specs.code.Telling.{has_start}
use Rattle.aa_explain_reach.proofs.PutLemmas.{puts-new, puts-told}
use Rattle.aa_explain_reach.proofs.starts.put_place.Goals as goal

pub returns-then-has_start : goal.returns-then-has_start
returns-then-has_start c =
    let some : has_start c.args.to c.args.starts.now.items ≡ true =
    ap (has_start c.args.to) (sym c.deref.ensures.value) ∙ sym c.has_start.ensures ∙ c.if-has_start.true in
    puts-told c.args.to c.args.owned c.args.path.now c.args.starts.now.items some

pub returns : goal.returns
returns c =
    let none : has_start c.args.to c.args.starts.now.items ≡ false =
    ap (has_start c.args.to) (sym c.deref.ensures.value) ∙ sym c.has_start.ensures ∙ c.if-has_start.false in
    puts-new c.args.to c.args.owned c.args.path.now c.args.starts.now.items c.push.new.self.items
    (record { to = c.args.to; owned = c.args.owned; path = c.in_ok-from_slice.field-0 })
    (record { place = refl; owner = refl; own_path = c.in_ok-from_slice.ensures.items; somewhere = sym c.if-not-leads_somewhere.ensures })
    none c.in_ok-push.ensures.items
