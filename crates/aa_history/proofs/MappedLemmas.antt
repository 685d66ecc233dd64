-- Machines of what each set stands for.
use Rattle.std.proofs.Common.{◌≡◌, ℕ, ◌+◌, ◌-◌, leb, List, map, [], ◌∷◌, length, refl, sym, ap, ◌∙◌}
use Rattle.std.proofs.Math.ListN.{get_or-map}
use Rattle.std.proofs.lemmas.List.{drop-map, length-map, map-append, take-map}
use Rattle.aa_history.specs.Machine.{Machine, accepted, all_sets, gone_back, gone_on, gone_to, mapped, standing_at, up_to}
use Rattle.aa_history.specs.MachineLaws.{AcceptedIsMapped, AllSetsAreMapped, CanBackIsMapped, CanOnIsMapped, StartedIsMapped}
use Rattle.aa_history.proofs.MachineLemmas.{same_machine, same_marks}

pub started_is_mapped : {S T : Type 0} → StartedIsMapped S T
started_is_mapped f set = refl

pub accepted_is_mapped : {S T : Type 0} → AcceptedIsMapped S T
accepted_is_mapped f m set =
    same_machine (map-append f m.earlier (m.now ∷ [])) refl refl
    ∙ same_marks (accepted (mapped f m) (f set)) (ap (λ size. up_to size m.marks) (sym (length-map m.earlier f)))

pub all_sets_are_mapped : {S T : Type 0} → AllSetsAreMapped S T
all_sets_are_mapped f m = sym (map-append f m.earlier (m.now ∷ m.later))

pub can_back_is_mapped : {S T : Type 0} → CanBackIsMapped S T
can_back_is_mapped f n m = ap (leb n) (length-map m.earlier f)

pub can_on_is_mapped : {S T : Type 0} → CanOnIsMapped S T
can_on_is_mapped f n m = ap (leb n) (length-map m.later f)

-- who stands at a place among some sets stands at that place among what they stand for
standing_is_mapped : {S T : Type 0} (f : S → T) (place : ℕ) (sets : List S) (given : S) (marks : List (List ℕ × ℕ)) → mapped f (standing_at place sets given marks) ≡ standing_at place (map f sets) (f given) marks
standing_is_mapped f place sets given marks =
    same_machine (sym (take-map f place sets)) (sym (get_or-map f sets place given)) (sym (drop-map f (place + 1) sets))

-- going to a place is going to that place among what the sets stand for
pub to_is_mapped : {S T : Type 0} (f : S → T) (place : ℕ) (m : Machine S) → mapped f (gone_to place m) ≡ gone_to place (mapped f m)
to_is_mapped f place m =
    standing_is_mapped f place (all_sets m) m.now m.marks
    ∙ ap (λ sets. standing_at place sets (f m.now) m.marks) (sym (all_sets_are_mapped f m))

pub back_is_mapped : {S T : Type 0} (f : S → T) (n : ℕ) (m : Machine S) → mapped f (gone_back n m) ≡ gone_back n (mapped f m)
back_is_mapped f n m =
    to_is_mapped f (length m.earlier - n) m
    ∙ ap (λ size. gone_to (size - n) (mapped f m)) (sym (length-map m.earlier f))

pub on_is_mapped : {S T : Type 0} (f : S → T) (n : ℕ) (m : Machine S) → mapped f (gone_on n m) ≡ gone_on n (mapped f m)
on_is_mapped f n m =
    to_is_mapped f (length m.earlier + n) m
    ∙ ap (λ size. gone_to (size + n) (mapped f m)) (sym (length-map m.earlier f))
