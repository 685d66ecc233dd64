use Rattle.std.proofs.Common.{◌≡◌, ◌++◌, map, string_bytes, take}
use Rattle.aatry_requests.proofs.asked_words.push_words.Given as goal

-- the words so far stand behind what was there
abbrev pub invariant-loop-word : goal.invariant-loop-word
invariant-loop-word l = map (λ word. word.now) l.out.items ≡ map (λ word. word.now) l.initial.out.items ++ map string_bytes (take l.word-index l.words)
