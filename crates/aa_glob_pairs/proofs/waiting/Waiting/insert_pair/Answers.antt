use Rattle.std.proofs.lemmas.Result.{on_ok_weaker}
use Rattle.aa_glob_pairs.proofs.GainLemmas.{pair_gained, pair_turned}
use Rattle.aa_glob_pairs.proofs.waiting.Waiting.insert_pair.Goals as goal

pub returns-then-one-other : goal.returns-then-one-other
returns-then-one-other c = on_ok_weaker c.insert.result (λ gains. pair_gained c.args.self.now c.insert.new.self c.args.one c.args.other c.if-one-other.true gains) c.insert.ensures

pub returns-else-one-other : goal.returns-else-one-other
returns-else-one-other c = on_ok_weaker c.insert-else-one-other.result (λ gains. pair_turned c.args.self.now c.insert-else-one-other.new.self c.args.one c.args.other c.if-one-other.false gains) c.insert-else-one-other.ensures
