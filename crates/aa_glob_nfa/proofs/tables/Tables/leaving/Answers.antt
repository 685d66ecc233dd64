use Rattle.std.proofs.lemmas.List.Elements.{All-contains, All-weaker}
use Rattle.std.specs.Prelude.{Contains, ◌≤◌}
use Rattle.aa_glob_nfa.specs.Tables.{no_byte}
use Rattle.aa_glob_nfa.proofs.LeavingLemmas.{leaving_of}
use Rattle.aa_glob_nfa.proofs.tables.Tables.leaving.Goals as goal

pub leaving_among-requires-clause-each : goal.leaving_among-requires-clause-each
leaving_among-requires-clause-each c =
    let t = c.args.self.now in
    let ways = c.ways_around.result.now in
    All-weaker (Contains t.ways.items) (λ w. w.by ≤ no_byte) (λ way h. All-contains (λ w. w.by ≤ no_byte) t.ways.items way (λ k d low. (c.requires.sound.each_way k d low).number) h)
    ways c.ways_around.ensures.only

pub returns : goal.returns
returns c =
    leaving_of c.args.self.now.ways.items c.ways_around.result.now _ _ c.args.from c.args.byte c.ways_around.ensures.only c.ways_around.ensures.each c.leaving_among.ensures
