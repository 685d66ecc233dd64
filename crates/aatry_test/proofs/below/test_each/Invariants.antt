use Rattle.std.proofs.Common.{◌≡◌, ◌++◌, ◌≤◌, ◌+◌, ℕ, List, length, map, string_bytes, vec_len}
use Rattle.std.specs.Vec.Iter.{into_iter_items}
use Rattle.aa_start.specs.Gathering.{texts_of}
use Rattle.aatry_test.specs.Below.{Came, TestsEach, and_then}
use Rattle.aatry_test.specs.SeenTests.{seen_tests}
use Rattle.aatry_test.proofs.below.test_each.Given as goal

-- whatever the paths that are left come to, all come to, behind what was so far
abbrev pub invariant-loop-path : goal.invariant-loop-path
invariant-loop-path g l = record {
  stands : (done : List (List ℕ)) × (texts_of l.fn.paths ≡ done ++ map string_bytes (into_iter_items l.path-iterator));
  told : (rest : Came) → TestsEach l.language (g.D.FileSystem.known l.disk) l.files l.fn.accept (map string_bytes (into_iter_items l.path-iterator)) rest
      → TestsEach l.language (g.D.FileSystem.known l.disk) l.files l.fn.accept (texts_of l.fn.paths) (and_then (seen_tests l.tests) rest);
  few : l.tests.failed + length (into_iter_items l.path-iterator) ≤ vec_len l.fn.paths;
  accept : l.tests.accept ≡ l.fn.accept;
}
