use Rattle.std.proofs.Common.{◌≡◌, ◌++◌, drop, map, string_bytes}
use Rattle.aatry_arguments.proofs.languages.push_words.Given as goal

-- the words so far stand behind what was there, with those that are left
abbrev pub invariant-loop-word : goal.invariant-loop-word
invariant-loop-word l =
    map string_bytes l.out.items ++ map string_bytes (drop l.word-index l.words) ≡ map string_bytes l.initial.out.items ++ map string_bytes l.words
