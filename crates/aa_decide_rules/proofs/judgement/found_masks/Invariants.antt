use Rattle.std.proofs.Common.{◌≡◌, length}
use Rattle.aa_decide_rules.specs.Verdict.{allows, allows_aloud, denies, denies_aloud}
use Rattle.aa_decide_rules.specs.Found.{found_mask}
use Rattle.aa_profile_data.specs.Picked.{picked}
use Rattle.aa_decide_rules.proofs.judgement.found_masks.Given as goal

-- what the rules so far cover and what the others do is what all do
abbrev pub invariant-loop-rest : goal.invariant-loop-rest
invariant-loop-rest l = record {
  denied : found_mask l.needs.0 l.owned denies l.masks.denied.0 (picked l.rules l.rest) ≡ found_mask l.needs.0 l.owned denies 0 (picked l.rules l.places);
  loud : found_mask l.needs.0 l.owned (denies_aloud l.audit) l.masks.loud.0 (picked l.rules l.rest) ≡ found_mask l.needs.0 l.owned (denies_aloud l.audit) 0 (picked l.rules l.places);
  granted : found_mask l.needs.0 l.owned allows l.masks.granted.0 (picked l.rules l.rest) ≡ found_mask l.needs.0 l.owned allows 0 (picked l.rules l.places);
  audited : found_mask l.needs.0 l.owned (allows_aloud l.audit) l.masks.audited.0 (picked l.rules l.rest) ≡ found_mask l.needs.0 l.owned (allows_aloud l.audit) 0 (picked l.rules l.places);
}

abbrev pub decreases-loop-rest : goal.decreases-loop-rest
decreases-loop-rest l = length l.rest
