use Rattle.std.proofs.Common.{arith, sym, ◌∙◌, ap}
use Rattle.std.proofs.lemmas.Result.{err_from_is_err_and}
use Rattle.aa_text_tokens.specs.code.SplicingProgress.{fault_of, with_walked}
use Rattle.aa_text_tokens.specs.SeenTokens.{seen}
use Rattle.aa_text_tokens.proofs.SplicingLemmas.{not-include, put-include, put-token, refused-each, refused-include, with_each-end, with_each-fault, with_each-step, with_walked-end}
use Rattle.aa_text_tokens.proofs.splicer.Splicer.+entering.Goals as goal

pub enter-returns-clause-ok : goal.enter-returns-clause-ok
enter-returns-clause-ok t c =
    sym c.loop-token.invariant ∙ with_walked-end c.loop-token.self c.args.depth c.args.file c.deref-token-items.result.now c.loop-token.token-index (omega arith)

pub enter_each-returns-in_err-enter-clause-refused :
    goal.enter_each-returns-in_err-enter-clause-refused
enter_each-returns-in_err-enter-clause-refused t c =
    let p = err_from_is_err_and c.from_residual.result c.from_residual.ensures.1 in
    rw (p.1, p.2) (λ other. sym c.loop-file.invariant ∙ with_each-fault c.loop-file.self c.args.depth c.args.place c.args.found.now c.loop-file.file-index (fault_of c.in_err-enter.field-0.0) (omega arith) (c.in_err-enter.ensures.refused other))

pub enter_each-loop-file-preserved : goal.enter_each-loop-file-preserved
enter_each-loop-file-preserved t c =
    with_each-step c.loop-file.self c.enter.new.self c.args.depth c.args.place c.args.found.now c.loop-file.file-index (omega arith) c.in_ok-enter.ensures.ok ∙ c.loop-file.invariant

pub enter_each-returns-clause-ok : goal.enter_each-returns-clause-ok
enter_each-returns-clause-ok t c =
    sym c.loop-file.invariant ∙ with_each-end c.loop-file.self c.args.depth c.args.place c.args.found.now c.loop-file.file-index (omega arith)

pub put_token-returns-in_err-found-in-Include-clause-refused :
    goal.put_token-returns-in_err-found-in-Include-clause-refused
put_token-returns-in_err-found-in-Include-clause-refused t c =
    let p = err_from_is_err_and c.from_residual.result c.from_residual.ensures.1 in
    rw (p.1, p.2) (λ rest. refused-include c.args.self.now c.args.depth c.args.file (seen c.args.token) rest c.in-Include.if_exists c.in_err-found-in-Include.field-0.0 c.in-Include.is c.in_err-found-in-Include.ensures.refused)

pub put_token-returns-in_err-enter_each-in-Include-clause-refused :
    goal.put_token-returns-in_err-enter_each-in-Include-clause-refused
put_token-returns-in_err-enter_each-in-Include-clause-refused t c =
    let p = err_from_is_err_and c.from_residual-in_err-enter_each-in-Include.result c.from_residual-in_err-enter_each-in-Include.ensures.1 in
    rw (p.1, p.2) (λ rest other. refused-each c.args.self.now c.args.depth c.args.file (seen c.args.token) rest c.in-Include.if_exists c.in_ok-found-in-Include.found.items (fault_of c.in_err-enter_each-in-Include.field-0.0) c.in-Include.is c.in_ok-found-in-Include.ensures.ok
    (rw (← c.deref.ensures.value) (c.in_err-enter_each-in-Include.ensures.refused other)))

pub put_token-returns-in_ok-enter_each-in-Include-clause-ok :
    goal.put_token-returns-in_ok-enter_each-in-Include-clause-ok
put_token-returns-in_ok-enter_each-in-Include-clause-ok t c rest =
    put-include c.args.self.now c.enter_each.new.self c.args.depth c.args.file (seen c.args.token) rest c.in-Include.if_exists c.in_ok-found-in-Include.found.items c.in-Include.is c.in_ok-found-in-Include.ensures.ok
    (rw (← c.deref.ensures.value) c.in_ok-enter_each-in-Include.ensures.ok)

pub put_token-returns-in_ok-push-in_default : goal.put_token-returns-in_ok-push-in_default
put_token-returns-in_ok-push-in_default t c = record {
  ok = λ rest. ap (λ so_far. with_walked so_far c.args.depth c.args.file rest) c.in_ok-push-in_default.ensures.ok ∙ put-token c.args.self.now c.args.depth c.args.file (seen c.args.token) rest (not-include c.args.token.kind c.in_default.not-Include);
  refused = tt;
  memory = tt;
}
