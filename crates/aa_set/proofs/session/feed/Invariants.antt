use Rattle.std.proofs.Common.{◌≡◌, ℕ, ◌+◌, ◌≤◌, ◌++◌, List, Option, length}
use Rattle.aa_set.specs.code.Session.{Follows}
use Rattle.aa_set.proofs.session.feed.Given as goal
use Rattle.aa_set_manager.specs.Manager.{Managed}

-- what stood before the rest was fed, and each of its lines was counted at most once
abbrev pub invariant-loop-last : goal.invariant-loop-last
invariant-loop-last g l = (fed : List ℕ) × (l.piece ≡ fed ++ l.rest)
    × (l.session.summary.accepted + l.session.summary.refused + length l.rest ≤ l.initial.session.summary.accepted + l.initial.session.summary.refused + length l.piece)
    × (g.W.Sink.failed l.writer ≡ g.W.Sink.failed l.initial.writer)
    × ((begin : Managed) (before : Option (List ℕ)) (input : List ℕ)
    → Follows l.files begin before (g.W.Sink.written l.initial.writer) l.initial.session l.initial.held input
    → Follows l.files begin before (g.W.Sink.written l.writer) l.session l.held (input ++ fed))

abbrev pub decreases-loop-last : goal.decreases-loop-last
decreases-loop-last g l = length l.rest
