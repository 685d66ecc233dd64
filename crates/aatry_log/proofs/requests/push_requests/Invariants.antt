use Rattle.std.proofs.Common.{◌≡◌, ◌≤◌, ◌+◌, ◌++◌, length}
use Rattle.aatry_log.specs.Requests.{nobody_count, requests_text}
use Rattle.aatry_policy.specs.Folders.{seen_folder}
use Rattle.aatry_requests.specs.SeenTallies.{seen_all}
use Rattle.aatry_log.proofs.requests.push_requests.Given as goal

-- what was told and the requests that are left make all, and the folder is loaded as it was
abbrev pub invariant-loop-tally : goal.invariant-loop-tally
invariant-loop-tally l =
    let folder = seen_folder l.initial.loaded.folder.now in
    let left = l.tally-iterator.rest.items in
    let all = l.initial.tally-iterator.rest.items in
    record {
      told : l.out.items ++ requests_text l.fn.teller.form folder (seen_all left) ≡ l.initial.out.items ++ requests_text l.fn.teller.form folder (seen_all all);
      nobody : l.nobody + nobody_count folder (seen_all left) ≡ nobody_count folder (seen_all all);
      few : l.nobody + length left ≤ length all;
      folder : l.loaded.folder.now ≡ l.initial.loaded.folder.now;
      manager : l.loaded.policy.manager ≡ l.initial.loaded.policy.manager;
      places : l.loaded.policy.origins.items ≡ l.initial.loaded.policy.origins.items;
    }
