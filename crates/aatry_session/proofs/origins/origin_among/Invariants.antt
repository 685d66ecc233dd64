use Rattle.std.proofs.Common.{◌≡◌, fold, length, option_map}
use Rattle.aatry_session.specs.Origins.{newer_origin, origin_among}
use Rattle.aatry_session.proofs.origins.origin_among.Given as goal

-- the newest so far, and behind it what the changes that are left tell, is what all tell
abbrev pub invariant-loop-rest : goal.invariant-loop-rest
invariant-loop-rest l = fold (newer_origin l.name) (option_map (λ origin. origin.now) l.newest) l.rest ≡ origin_among l.name l.done l.origins

abbrev pub decreases-loop-rest : goal.decreases-loop-rest
decreases-loop-rest l = length l.rest
