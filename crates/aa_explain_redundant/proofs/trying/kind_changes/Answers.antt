use Rattle.std.proofs.Common.{◌≡◌, ◌∙◌, ap, map, refl, sym, true, false}
use Rattle.std.proofs.lemmas.Result.{IfOk-weaker}
use Rattle.aa_explain_redundant.proofs.KindLemmas.{all-copies, copies-say, left-copies, unspoken-there}
use Rattle.aa_explain_redundant.specs.Left.{left_of, speaks}
use Rattle.aa_explain_redundant.specs.Seen.{seen_numbered}
use Rattle.aa_explain_redundant.proofs.trying.kind_changes.Goals as goal

pub returns-then-not-speaks : goal.returns-then-not-speaks
returns-then-not-speaks c = λ rules is.
    let kind = c.args.kind.now in
    let numbers = ap (λ l. map seen_numbered l) c.deref.ensures.value in
    let none : speaks c.args.number (map seen_numbered kind.rules.items) ≡ false =
    sym (c.speaks.ensures ∙ ap (speaks c.args.number) numbers) ∙ c.if-not-speaks.true in
    unspoken-there rules kind is c.args.audit c.args.gone.now c.args.number none

pub answers_change-requires : goal.answers_change-requires
answers_change-requires c =
    let kind = c.args.kind.now in
    let numbers = ap (λ l. left_of c.args.gone.now (map seen_numbered l)) c.deref-2.ensures.value in
    record {
      all = all-copies c.requires.0 kind c.requires.1 c.deref-3.result.now c.deref-3.ensures.value;
      left = left-copies c.requires.0 kind c.requires.1 c.deref-3.result.now c.args.gone.now c.in_ok-left.left c.deref-3.ensures.value
          (c.in_ok-left.ensures.rules ∙ numbers) c.in_ok-left.ensures.counted;
    }

pub returns : goal.returns
returns c =
    let kind = c.args.kind.now in
    let speak = ap (λ l. speaks c.args.number (map seen_numbered l)) c.deref.ensures.value in
    let numbers = ap (λ l. left_of c.args.gone.now (map seen_numbered l)) c.deref-2.ensures.value in
    let some : speaks c.args.number (map seen_numbered kind.rules.items) ≡ true = sym (c.speaks.ensures ∙ speak) ∙ c.if-not-speaks.false in
    IfOk-weaker c.answers_change.result _ _
    (λ changes told rules is.
    copies-say rules kind is c.args.audit c.args.gone.now c.args.number kind.all.rules.items c.in_ok-left.left.rules.items c.deref-3.result.now changes some refl
    (c.in_ok-left.ensures.rules ∙ numbers) c.deref-3.ensures.value told)
    c.answers_change.ensures
