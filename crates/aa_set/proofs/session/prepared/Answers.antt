use Rattle.std.proofs.Common.{[], List, ℕ, refl, sym, subst}
use Rattle.aa_set_commands.specs.Streams.{WritesBehind}
use Rattle.aa_set.proofs.StreamLemmas.{WritesBehind-nil}
use Rattle.aa_set.proofs.session.prepared.Goals as goal

pub returns-clause-session : goal.returns-clause-session
returns-clause-session c = λ files before. record {
  lines = [];
  after = record {
    managed = c.new_in.ensures;
    written = subst (λ (waits : List ℕ). WritesBehind before before [] waits []) (sym c.in_ok-with_capacity.ensures.items) (WritesBehind-nil before []);
    summed = record { accepted = refl; refused = refl };
  };
  cut = record { unfinished = []; cut = refl; held = c.in_ok-held.ensures };
}
