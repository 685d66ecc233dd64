use Rattle.std.proofs.lemmas.List.{length-take-le}
use Rattle.std.proofs.Common.{◌≡◌, length-append, ◌≤◌, ◌++◌, ◌<◌, ℕ, length, take, [], append-nil, subst, ap, ◌∙◌, arith}
use Rattle.std.proofs.KnownBytes.{Consumes-kept, Consumes-trans}
use Rattle.std.specs.Io.KnownBytes.{Consumes}
use Rattle.aa_set.specs.Run.{IsAnswered}
use Rattle.aa_set.proofs.StreamLemmas.{Consumes-whole, still_going}
use Rattle.aa_set.proofs.BreakLemmas.{answered-so-far, front-answered}
use Rattle.aa_set.proofs.session.serve.Goals as goal

pub returns-then-count-eq0-clause-answered : goal.returns-then-count-eq0-clause-answered
returns-then-count-eq0-clause-answered g c = λ begin before follows.
    let so_far = c.loop-turn.invariant in
    let none = ap (λ (n : ℕ). take n c.read_piece.new.piece) c.if-count-eq0.true in
    let some : 0 < length c.read_piece.new.piece = omega (arith, c.read_piece.auto.piece, c.loop-turn.auto.piece, c.requires.piece) in
    let last = subst (Consumes (g.S.Source.left c.loop-turn.reader) (g.S.Source.left c.read_piece.new.reader)) none c.in-Ok.ensures.bytes.0 in
    Consumes-whole _ _ _ (IsAnswered c.args.files.now begin before (g.W.Sink.written c.finish.new.writer) c.finish.new.session.summary) so_far.0
    so_far.1 last (c.in-Ok.ensures.bytes.1 c.if-count-eq0.true some)
    (c.in-Ok-finish.ensures.ok begin before so_far.0 (so_far.3 begin before follows))

pub loop-turn-preserved : goal.loop-turn-preserved
loop-turn-preserved g c =
    let so_far = c.loop-turn.invariant in
    let count = c.in-Ok.count in
    let piece = take count c.read_piece.new.piece in
    let longer = length-append so_far.0 piece in
    let some : length piece ≡ count = length-take-le count c.read_piece.new.piece (omega (arith, c.in-Ok.ensures.within.0, c.in-Ok.ensures.within.1)) in
    let size : length piece ≤ 65536 = omega (arith, c.in-Ok.ensures.within.0, c.in-Ok.ensures.within.1, c.read_piece.auto.piece, c.loop-turn.auto.piece, c.requires.piece) in (
      so_far.0 ++ piece,
      Consumes-trans _ _ _ so_far.0 piece so_far.1 c.in-Ok.ensures.bytes.0,
      omega (arith, longer, some, so_far.2),
      λ begin before follows. c.in-Ok-turn.ensures.ok begin before so_far.0 (so_far.3 begin before follows),
      omega (arith, c.in-Ok.ensures.counted, so_far.4),
      omega (arith, c.in-Ok-turn.ensures.counted, so_far.5, size),
      c.in-Ok.ensures.ok ∙ so_far.6,
      c.in-Ok-turn.ensures.flag ∙ so_far.7,
      c.in-Ok-turn.ensures.written,
      c.in-Ok.ensures.end ∙ still_going (g.S.Source.ended c.loop-turn.reader) c.in-Ok.count (length c.loop-turn.piece) c.if-count-eq0.false ∙ so_far.9,
    )

pub returns-in_default-clause-so_far : goal.returns-in_default-clause-so_far
returns-in_default-clause-so_far g c = λ fault begin start follows.
    let so_far = c.loop-turn.invariant in
    (so_far.0, Consumes-kept _ _ _ so_far.0 so_far.1 c.in_default.ensures.bytes, answered-so-far c.args.files.now begin (so_far.3 begin start follows) so_far.8)

pub returns-in_default-finish-clause-front : goal.returns-in_default-finish-clause-front
returns-in_default-finish-clause-front g c = λ fault begin start follows.
    let so_far = c.loop-turn.invariant in
    let none = ap (λ (n : ℕ). take n c.read_piece.new.piece) c.if-count-eq0.true in
    let last = subst (Consumes (g.S.Source.left c.loop-turn.reader) (g.S.Source.left c.read_piece.new.reader)) none c.in-Ok.ensures.bytes.0 in (
      so_far.0,
      subst (Consumes (g.S.Source.left c.args.reader.now) (g.S.Source.left c.read_piece.new.reader)) (append-nil so_far.0) (Consumes-trans _ _ _ so_far.0 [] so_far.1 last),
      c.in_default-finish.ensures.err begin start so_far.0 (so_far.3 begin start follows),
    )

pub returns-in_default-turn-clause-front : goal.returns-in_default-turn-clause-front
returns-in_default-turn-clause-front g c = λ fault begin start follows.
    let so_far = c.loop-turn.invariant in
    let piece = take c.in-Ok.count c.read_piece.new.piece in (
      so_far.0 ++ piece,
      Consumes-trans _ _ _ so_far.0 piece so_far.1 c.in-Ok.ensures.bytes.0,
      front-answered c.args.files.now begin (c.in_default-turn.ensures.err begin start so_far.0 (so_far.3 begin start follows)),
    )

pub returns-clause-so_far : goal.returns-clause-so_far
returns-clause-so_far g c = λ fault begin start follows.
    let so_far = c.loop-turn.invariant in
    (so_far.0, so_far.1, answered-so-far c.args.files.now begin (so_far.3 begin start follows) so_far.8)
