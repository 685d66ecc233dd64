use Rattle.std.proofs.Common.{subst}
use Rattle.std.specs.Prelude.{All, Contains}
use Rattle.aa_glob_nfa.proofs.tables.Tables.ways_around.Goals as goal

pub ways_of_block-requires-clause-firsts : goal.ways_of_block-requires-clause-firsts
ways_of_block-requires-clause-firsts c = rw (c.deref.ensures.value, c.deref-2.ensures.value) c.requires.firsts

pub returns-clause-only : goal.returns-clause-only
returns-clause-only c = subst (λ ways. All (Contains ways) c.ways_of_block.result.now) c.deref.ensures.value c.ways_of_block.ensures.only
