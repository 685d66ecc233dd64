use Rattle.std.proofs.Common.{◌≡◌, ◌∙◌, ◌++◌, ℕ, List, ap, inl, inr, refl, subst}
use Rattle.std.specs.Io.KnownBytes.{Appends}
use Rattle.std.proofs.lemmas.Result.{IfErr-weaker, err_from_is_err_and, on_ok_weaker}
use Rattle.aa_set_commands.specs.Streams.{AppendsFront}
use Rattle.aatry_folder.specs.declared.fault.Fault.{Fault}
use Rattle.aatry_session_run.specs.Broken.{IsBrokenRun, IsBrokenSession}
use Rattle.aatry_session_run.specs.Session.{IsRun}
use Rattle.aatry_session_run.specs.code.Sessions.{seen_table, standing}
use Rattle.aatry_session_run.proofs.session.have_session.Goals as goal

-- what is loaded and told, and the run of the lines behind it
pub returns-clause-had : goal.returns-clause-had
returns-clause-had g c =
    let folders = g.F.Folders.told c.args.setting.now.folders.now in
    let known = g.D.FileSystem.known c.args.setting.now.disk.now in
    let base = c.args.setting.now.base.now in
    let state = seen_table c.in_ok-table.table in
    let got = c.in_ok-table.ensures.loaded in
    let put : c.begin.new.out.items ≡ got.0 = got.1 ∙ ap (λ t. t ++ got.0) c.new-text.ensures.items in
    let before = g.W.Sink.written c.args.writer.now in
    let mid = g.W.Sink.written c.show.new.writer in
    let left = g.S.Source.left c.args.reader.now in
    let end = standing (g.S.Source.left c.run.new.reader) c.run.new.lines.input (g.W.Sink.written c.run.new.writer) c.run.new.table in
    on_ok_weaker c.run.result (λ ran. record {
      state = state;
      text = got.0;
      loaded = got.2;
      written = mid;
      told = subst (λ t. Appends before mid t) (c.deref.ensures.value ∙ put) c.in_ok-show.ensures.ok;
      last = end;
      run = subst (λ waits. IsRun folders known base c.args.setting.now.prompt.now (record { left = left; waits = waits; written = mid; state = state }) end) c.in_ok-lines.ensures ran;
      ended = refl;
    }) c.run.ensures.ran

-- or the fault that ended it
pub returns-clause-broken : goal.returns-clause-broken
returns-clause-broken g c =
    let folders = g.F.Folders.told c.args.setting.now.folders.now in
    let known = g.D.FileSystem.known c.args.setting.now.disk.now in
    let base = c.args.setting.now.base.now in
    let state = seen_table c.in_ok-table.table in
    let got = c.in_ok-table.ensures.loaded in
    let put : c.begin.new.out.items ≡ got.0 = got.1 ∙ ap (λ t. t ++ got.0) c.new-text.ensures.items in
    let before = g.W.Sink.written c.args.writer.now in
    let mid = g.W.Sink.written c.show.new.writer in
    let after = g.W.Sink.written c.run.new.writer in
    let left = g.S.Source.left c.args.reader.now in
    let told = subst (λ t. Appends before mid t) (c.deref.ensures.value ∙ put) c.in_ok-show.ensures.ok in
    let broken : List ℕ → Fault → Type 0 = λ waits fault. IsBrokenRun folders known base c.args.setting.now.prompt.now (record { left = left; waits = waits; written = mid; state = state }) after fault in
    IfErr-weaker c.run.result (broken c.in_ok-lines.lines.input) (IsBrokenSession c.args.setting.now.language folders known base c.args.setting.now.prompt.now left before after)
    (λ fault ended. inr (state, got.0, got.2, inr (mid, told, subst (λ waits. broken waits fault) c.in_ok-lines.ensures ended))) c.run.ensures.broken

-- a front of what is told of the files was written
pub returns-in_err-show-clause-broken : goal.returns-in_err-show-clause-broken
returns-in_err-show-clause-broken g c =
    let p = err_from_is_err_and c.from_residual-in_err-show.result c.from_residual-in_err-show.ensures.1 in
    let got = c.in_ok-table.ensures.loaded in
    let put : c.begin.new.out.items ≡ got.0 = got.1 ∙ ap (λ t. t ++ got.0) c.new-text.ensures.items in
    rw (p.1, p.2, c.in_err-show.ensures.fault) (inr (
      seen_table c.in_ok-table.table,
      got.0,
      got.2,
      inl (
        refl,
        subst (AppendsFront (g.W.Sink.written c.args.writer.now) (g.W.Sink.written c.show.new.writer)) (c.deref.ensures.value ∙ put) c.in_err-show.ensures.err,
      ),
    ))
