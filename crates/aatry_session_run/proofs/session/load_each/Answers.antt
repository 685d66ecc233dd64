use Rattle.std.proofs.Common.{◌∙◌, ◌++◌, ap, append_assoc, map, subst, sym, take}
use Rattle.aatry_folder.specs.Loadings.{seen_top}
use Rattle.aatry_session_run.specs.Session.{LoadsEach}
use Rattle.aatry_session_run.proofs.SessionLemmas.{loads_one_more, next_taken}
use Rattle.aatry_session_run.proofs.session.load_each.Goals as goal

-- what is told of the next file stands behind what is told so far
pub loop-file-preserved : goal.loop-file-preserved
loop-file-preserved c =
    let so_far = c.loop-file.invariant in
    let language = c.args.language in
    let files = c.args.files.now in
    let base = c.args.base.now in
    let top = c.args.top.now in
    let i = c.loop-file.file-index in
    let file = c.file-item.result in
    let own = c.in_ok-load_file.ensures in (
      so_far.0 ++ own.0,
      own.1 ∙ ap (λ t. t ++ own.0) so_far.1 ∙ append_assoc c.args.out.now.items so_far.0 own.0,
      subst (λ files_so_far. LoadsEach language files base c.args.session.now files_so_far c.load_file.new.session (so_far.0 ++ own.0))
          (sym (next_taken seen_top top i file c.loop-file-test.true c.file-item.is))
          (loads_one_more language files base c.args.session.now (map seen_top (take i top)) c.loop-file.session so_far.0 (seen_top file) c.load_file.new.session own.0
          so_far.2 own.2),
    )
