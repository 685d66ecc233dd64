use Rattle.std.proofs.Common.{◌≡◌, ◌+◌, ℕ, List}
use Rattle.aatry_logs.specs.OpenedInputs.{Comes, kept}
use Rattle.aatry_logs.proofs.line_input.LineInput.next.Given as goal

-- what has come so far is kept, and no line feed was in it
abbrev pub invariant-loop-count : goal.invariant-loop-count
invariant-loop-count g l =
    (text : List ℕ)
    × Comes (g.S.Source.left l.initial.reader) (g.S.Source.left l.reader) l.initial.self l.self text
    × (l.line ≡ kept text)
    × (g.S.Source.reads l.reader ≡ g.S.Source.reads l.initial.reader + l._count)
    × (g.S.Source.failed l.reader ≡ g.S.Source.failed l.initial.reader)
