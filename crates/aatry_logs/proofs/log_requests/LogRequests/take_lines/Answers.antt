use Rattle.std.proofs.Common.{◌≡◌, ◌∙◌, ◌++◌, ◌∷◌, [], ap, ap₂, arith, inl, inr, length, option_map, subst, sym}
use Rattle.std.proofs.lemmas.Result.{err_from_is_err_and}
use Rattle.aatry_logs.specs.OpenedInputs.{GivesLine}
use Rattle.aatry_log_lines.specs.Selections.{seen_selection}
use Rattle.aatry_logs.specs.Compressed.{is_compressed}
use Rattle.aatry_logs.specs.LogRequests.{seen_logs, with_line, with_lines}
use Rattle.aatry_logs.proofs.CompressedLemmas.{begins-more, first-tells, one-longer}
use Rattle.aatry_logs.proofs.InputLemmas.{no_more, one_more, one_more_adds}
use Rattle.aatry_logs.proofs.log_requests.LogRequests.take_lines.Goals as goal

pub next_line-requires : goal.next_line-requires
next_line-requires g c = omega (arith, c.loop-count.invariant.reads, c.requires.countable, c.loop-count-test.true)

-- one line more
pub loop-count-preserved : goal.loop-count-preserved
loop-count-preserved g c =
    let so_far = c.loop-count.invariant.taken in
    let first = g.S.Source.left c.args.reader.now in
    let before = g.S.Source.left c.loop-count.reader in
    let behind = g.S.Source.left c.next_line.new.reader in
    let waited = c.loop-count.lines.input in
    let waits = c.next_line.new.lines.input in
    let held = c.next_line.new.lines.line in
    let gives = subst (λ is_line. GivesLine before behind waited waits held is_line) c.if-not-branch.false c.in_ok-next_line.ensures.given in
    let step = one_more first before behind so_far.0 waited waits held so_far.1 gives in
    let selection = seen_selection c.args.selection in
    let file = option_map (λ path. path.now) c.args.file in
    let adds : seen_logs c.take_next.new.self ≡ with_line selection file (with_lines selection file (seen_logs c.args.self.now) so_far.0) held =
    c.in_ok-take_next.ensures.added ∙ ap₂ (with_line selection file) so_far.4 c.as_slice.ensures in
    record {
      taken = (
        so_far.0 ++ step.0 ∷ [],
        step.2,
        begins-more so_far.0 held step.0 c.loop-count.count so_far.3 step.1 (λ is. ap is_compressed (sym c.as_slice.ensures) ∙ c.in_ok-take_next.ensures.plain is) so_far.2,
        one-longer so_far.0 step.0 c.loop-count.count so_far.3,
        one_more_adds selection file (seen_logs c.args.self.now) (seen_logs c.take_next.new.self) so_far.0 held step.0 step.1 adds,
      );
      reads = omega (arith, c.loop-count.invariant.reads, c.next_line.ensures.bound);
    }

-- no line is left
pub returns-then-not-branch-clause-whole : goal.returns-then-not-branch-clause-whole
returns-then-not-branch-clause-whole g c =
    let so_far = c.loop-count.invariant.taken in
    let before = g.S.Source.left c.loop-count.reader in
    let behind = g.S.Source.left c.next_line.new.reader in
    let waited = c.loop-count.lines.input in
    let waits = c.next_line.new.lines.input in
    let held = c.next_line.new.lines.line in
    let gives = subst (λ is_line. GivesLine before behind waited waits held is_line) c.if-not-branch.true c.in_ok-next_line.ensures.given in
    (so_far.0, no_more (g.S.Source.left c.args.reader.now) before behind so_far.0 waited waits held so_far.1 gives, so_far.2, so_far.4)

-- the first line says that gzip wrote the log
pub returns-in_err-take_next-clause-fault : goal.returns-in_err-take_next-clause-fault
returns-in_err-take_next-clause-fault g c =
    let so_far = c.loop-count.invariant.taken in
    let first = g.S.Source.left c.args.reader.now in
    let before = g.S.Source.left c.loop-count.reader in
    let behind = g.S.Source.left c.next_line.new.reader in
    let waited = c.loop-count.lines.input in
    let waits = c.next_line.new.lines.input in
    let held = c.next_line.new.lines.line in
    let gives = subst (λ is_line. GivesLine before behind waited waits held is_line) c.if-not-branch.false c.in_ok-next_line.ensures.given in
    let p = err_from_is_err_and c.from_residual-in_err-take_next.result c.from_residual-in_err-take_next.ensures.1 in
    rw (p.1, p.2) (elim c.in_err-take_next.ensures.fault [
      | inl memory ↦ inr (inl memory)
      | inr named ↦
          inr (inr (
            named.0,
            first-tells first before behind so_far.0 waited waits held c.loop-count.count so_far.1 so_far.3 gives named.1
                (ap is_compressed (sym c.as_slice.ensures) ∙ named.2),
          ))
    ])
