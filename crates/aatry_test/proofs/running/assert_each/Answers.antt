use Rattle.std.proofs.Common.{rules, ◌≡◌, ◌∷◌, ◌+◌, ◌≤◌, ap, arith, drop, false, length, subst, sym}
use Rattle.std.proofs.lemmas.List.{drop_all}
use Rattle.aa_set_manager.specs.Manager.{new_manager_in}
use Rattle.aatry_test.specs.Running.{AreAsserted, seen_asserted}
use Rattle.aatry_transcripts.specs.Transcripts.{texts}
use Rattle.aatry_test.proofs.RunningLemmas.{asserted_all, asserted_one_more}
use Rattle.aatry_test.proofs.running.assert_each.Goals as goal

-- The line and those behind it are what is left.
pub loop-at-preserved : goal.loop-at-preserved
loop-at-preserved c =
    let run = c.args.run in
    let so_far = c.loop-at.invariant in
    let lines = c.args.lines.now in
    let at = c.loop-at.at in
    let line = c.line_at-line.result.now in
    let behind = texts (drop (at + 1) lines) in
    let next : texts (drop at lines) ≡ line ∷ behind = c.line_at-line.ensures in
    let own = c.in_ok-push_line.ensures.told in
    record {
      told = λ rest more. asserted_one_more run.language run.files.now run.path.now (new_manager_in run.language false) (texts lines) (at + 1) line behind
          c.loop-at.manager c.push_line.new.manager (seen_asserted c.loop-at.all) (seen_asserted c.push_line.new.all) own.0 rest own.1 own.2
          (λ r t. so_far.told r (subst (λ ls. AreAsserted run.language run.files.now run.path.now (at + 1) c.loop-at.manager ls r) (sym next) t)) more;
      few = omega (arith, so_far.few, c.in_ok-push_line.ensures.few);
    }

pub returns : goal.returns
returns c =
    let run = c.args.run in
    let lines = c.args.lines.now in
    let past : length lines ≤ c.loop-at.at = search rules in
    let none : length (texts (drop c.loop-at.at lines)) ≡ 0 = ap (λ ls. length (texts ls)) (drop_all c.loop-at.at lines past) in
    asserted_all run.language run.files.now run.path.now (new_manager_in run.language false) (texts lines) (c.loop-at.at + 1) c.loop-at.manager
    (texts (drop c.loop-at.at lines)) (seen_asserted c.loop-at.all) none c.loop-at.invariant.told
