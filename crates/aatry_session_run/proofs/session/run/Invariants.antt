use Rattle.std.proofs.Common.{◌≡◌, ◌≤◌, ◌+◌, ℕ, List, length}
use Rattle.std.specs.Prelude.{◌*◌}
use Rattle.aatry_logs.specs.OpenedInputs.{most_reads}
use Rattle.aatry_session_run.specs.Session.{Answers}
use Rattle.aatry_session_run.specs.code.Sessions.{standing}
use Rattle.aatry_session_run.proofs.session.run.Given as goal

-- as many lines as were counted were answered one behind the other, each with no more reads than a line may take
abbrev pub invariant-loop-count : goal.invariant-loop-count
invariant-loop-count g l = record {
  answers : (lines : List (List ℕ)) × Answers (g.F.Folders.told l.setting.folders.now) (g.D.FileSystem.known l.setting.disk.now) l.setting.base.now l.setting.prompt.now
      (standing (g.S.Source.left l.initial.reader) l.initial.lines.input (g.W.Sink.written l.initial.writer) l.initial.table) lines
      (standing (g.S.Source.left l.reader) l.lines.input (g.W.Sink.written l.writer) l.table)
      × (length lines ≡ l._count);
  reads : g.S.Source.reads l.reader ≤ g.S.Source.reads l.initial.reader + l._count * most_reads;
}
