use Rattle.std.proofs.Common.{◌≡◌, ◌∙◌, ap, false, refl, sym, true}
use Rattle.aa_explain_start_changes.specs.Starters.{seen_starters}
use Rattle.aa_explain_start_changes.specs.code.Telling.{has_pair, pair_told}
use Rattle.aa_explain_start_changes.proofs.PutLemmas.{puts-new, puts-nothing, puts-told}
use Rattle.aa_explain_start_changes.proofs.SameLemmas.{alike, elsewhere}
use Rattle.aa_explain_start_changes.proofs.changes.put_pair.Goals as goal

pub returns-then-not-differs : goal.returns-then-not-differs
returns-then-not-differs c =
    let starters = seen_starters c.args.starters in
    puts-nothing starters c.args.pair c.args.owned c.args.path.now c.args.changes.now.items (alike (pair_told starters c.args.pair) (sym c.if-not-differs.ensures))

pub returns-then-has_pair : goal.returns-then-has_pair
returns-then-has_pair c =
    let starters = seen_starters c.args.starters in
    let some : has_pair starters c.args.pair c.args.changes.now.items ≡ true =
    ap (has_pair starters c.args.pair) (sym c.deref.ensures.value) ∙ sym c.has_pair.ensures ∙ c.if-has_pair.true in
    puts-told starters c.args.pair c.args.owned c.args.path.now c.args.changes.now.items some

pub returns : goal.returns
returns c =
    let starters = seen_starters c.args.starters in
    let none : has_pair starters c.args.pair c.args.changes.now.items ≡ false =
    ap (has_pair starters c.args.pair) (sym c.deref.ensures.value) ∙ sym c.has_pair.ensures ∙ c.if-has_pair.false in
    puts-new starters c.args.pair c.args.owned c.args.path.now c.args.changes.now.items c.push.new.self.items
    (record { old = c.args.pair.old; new = c.args.pair.new; owned = c.args.owned; path = c.in_ok-from_slice.field-0 })
    (record {
      before = refl;
      after = refl;
      owner = refl;
      own_path = c.in_ok-from_slice.ensures.items;
      elsewhere = elsewhere (pair_told starters c.args.pair) (sym c.if-not-differs.ensures);
    })
    none c.in_ok-push.ensures.items
