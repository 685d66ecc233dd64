use Rattle.std.proofs.Common.{◌<◌, ℕ, length, subst, sym}
use Rattle.aa_glob_nfa.specs.Graphs.{EndsAt, Graph}
use Rattle.aa_glob_run.proofs.nfa.Nfa.first_clash.Goals as goal

pub first_clash-requires-clause-classes : goal.first_clash-requires-clause-classes
first_clash-requires-clause-classes c = subst (λ (g : Graph). (q p : ℕ) → EndsAt g q p → p < length c.args.classes.now) (sym c.self.view_is) c.requires.classes
