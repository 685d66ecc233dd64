use Rattle.std.proofs.Common.{◌++◌, ◌∙◌}
use Rattle.aa_text_expansion.specs.Expanding.{held}
use Rattle.aa_text_expansion.proofs.ExpandingLemmas.{words-cut}
use Rattle.aa_text_expansion.proofs.ListLemmas.{kept-then, words-expanded}
use Rattle.aa_text_expansion.proofs.expanding.expand_words.Goals as goal

pub returns : goal.returns
returns g c =
    let before = c.args.lists.now in
    let numbers = g.V.Values.numbers c.args.values.now in
    let none = c.in_ok-none.ensures.made in
    let one = c.in_ok-first.ensures in
    let other = c.in_ok-all.ensures in
    record {
      kept = kept-then before c.expand_behind.new.lists c.expand_behind-2.new.lists (kept-then before c.nothing.new.self c.expand_behind.new.lists none.kept one.kept) other.kept;
      within = other.within;
      value = λ whole each.
          words-expanded before c.expand_behind.new.lists c.expand_behind-2.new.lists numbers c.in_ok-none.none c.in_ok-first.first c.in_ok-all.all c.args.words.now c.args.more.now c.requires
          c.nothing.new.self none one other
          ∙ words-cut (held before numbers) whole (c.args.words.now ++ c.args.more.now) each;
    }
