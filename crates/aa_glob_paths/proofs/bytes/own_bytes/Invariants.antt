use Rattle.aa_glob_paths.specs.code.Apart.{HasOwnBytes}
use Rattle.aa_glob_paths.proofs.bytes.own_bytes.Given as goal

abbrev pub invariant-loop-number : goal.invariant-loop-number
invariant-loop-number l = HasOwnBytes l.states l.number l.own
