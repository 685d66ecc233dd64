use Rattle.std.proofs.Common.{◌≡◌, ℕ, ◌+◌, ◌*◌, ◌≤◌, false, [], List, Option, length}
use Rattle.std.specs.Io.KnownBytes.{Consumes}
use Rattle.aa_set.specs.code.Session.{Follows}
use Rattle.aa_set.proofs.session.serve.Given as goal
use Rattle.aa_set_manager.specs.Manager.{Managed}

-- what was read so far, and that the session is the one after it
abbrev pub invariant-loop-turn : goal.invariant-loop-turn
invariant-loop-turn g l = (input : List ℕ)
    × Consumes (g.S.Source.left l.initial.reader) (g.S.Source.left l.reader) input
    × (l._turn ≤ length input)
    × ((begin : Managed) (before : Option (List ℕ))
    → Follows l.files begin before (g.W.Sink.written l.initial.writer) l.initial.session l.initial.held []
    → Follows l.files begin before (g.W.Sink.written l.writer) l.session l.held input)
    × (g.S.Source.reads l.reader ≡ g.S.Source.reads l.initial.reader + l._turn)
    × (l.session.summary.accepted + l.session.summary.refused ≤ 65536 * l._turn)
    × (g.S.Source.failed l.reader ≡ false)
    × (g.W.Sink.failed l.writer ≡ false)
    × (l.session.waiting.items ≡ [])
    × (g.S.Source.ended l.reader ≡ g.S.Source.ended l.initial.reader)
