use Rattle.std.proofs.Common.{false, refl, subst, sym}
use Rattle.std.proofs.lemmas.Result.{on_ok_weaker}
use Rattle.aatry_test.specs.Running.{GoesOn, IsLineOf, nothing_asserted, seen_asserted}
use Rattle.aatry_test.proofs.RunningLemmas.{and-nothing}
use Rattle.aatry_transcripts.specs.Transcripts.{is_assertion}
use Rattle.aatry_test.proofs.running.push_line.Goals as goal

pub returns-then-is_command-clause-told : goal.returns-then-is_command-clause-told
returns-then-is_command-clause-told c =
    let run = c.args.run in
    let line = c.args.line.now in
    let managed = c.args.manager.now in
    let after = c.obey.new.manager in
    on_ok_weaker c.obey.result
    (λ goes. (
      nothing_asserted,
      sym (and-nothing (seen_asserted c.args.all.now)),
      subst (λ b. IsLineOf b (is_assertion line) run.language run.files.now run.path.now c.args.number managed line after nothing_asserted) c.if-is_command.ensures
          (subst (λ command. GoesOn run.files.now managed command after) c.command_in.ensures goes, refl),
    )) c.obey.ensures

pub returns-else-is_assertion-clause-told : goal.returns-else-is_assertion-clause-told
returns-else-is_assertion-clause-told c =
    let run = c.args.run in
    let line = c.args.line.now in
    let managed = c.args.manager.now in (
      nothing_asserted,
      sym (and-nothing (seen_asserted c.args.all.now)),
      subst (λ b. IsLineOf b (is_assertion line) run.language run.files.now run.path.now c.args.number managed line managed nothing_asserted) c.if-is_command.ensures
          (subst (λ b. IsLineOf false b run.language run.files.now run.path.now c.args.number managed line managed nothing_asserted) c.if-is_assertion.ensures (refl, refl)),
    )
