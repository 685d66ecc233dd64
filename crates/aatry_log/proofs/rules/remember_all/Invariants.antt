use Rattle.std.proofs.Common.{◌≡◌}
use Rattle.aatry_log.proofs.rules.remember_all.Given as goal

-- the folder is loaded as it was
abbrev pub invariant-loop-tally : goal.invariant-loop-tally
invariant-loop-tally l = record {
  folder : l.loaded.folder.now ≡ l.initial.loaded.folder.now;
  manager : l.loaded.policy.manager ≡ l.initial.loaded.policy.manager;
  places : l.loaded.policy.origins.items ≡ l.initial.loaded.policy.origins.items;
}
