-- Patterns clash at a pair of states that is met exactly where one text reaches ends of both.
use Rattle.std.proofs.Common.{◌↔◌, ℕ}
use Rattle.aa_glob_pairs.proofs.MeetLemmas.{met-reached, reached-met, there}
use Rattle.aa_glob_pairs.proofs.ProgressLemmas.{may_clash}
use Rattle.aa_glob_pairs.specs.Graphs.{AreBelow, ClashesAt, IsLaid}
use Rattle.aa_glob_pairs.specs.Pairs.{Classed, ClashOf, MeetsAt}

pub meets_clashes : (g : Classed) → IsLaid g.graph → AreBelow g.graph g.classes g.belows → (k : ℕ) → (MeetsAt g k ↔ ClashesAt g.graph g.classes k)
meets_clashes g laid are k = (to, from)
  where
    to : MeetsAt g k → ClashesAt g.graph g.classes k
    to h =
        let clash = h.3 in
        record {
          other = clash.0;
          earlier = clash.4;
          classes_differ = clash.3;
          first = h.0;
          second = h.1;
          first_ends = clash.1;
          second_ends = clash.2;
          reached = reached-met g h.2;
        }

    from : ClashesAt g.graph g.classes k → MeetsAt g k
    from h =
        let at = h.reached in
        let clash : ClashOf g h.first h.second k = (h.other, h.first_ends, h.second_ends, h.classes_differ, h.earlier) in
        let may = may_clash g are h.first h.second k (there g.graph laid at.2) (there g.graph laid at.3) clash in
        (h.first, h.second, met-reached g are laid at.2 at.3 at.1 may, clash)
