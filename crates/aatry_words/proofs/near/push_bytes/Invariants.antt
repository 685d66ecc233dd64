use Rattle.std.proofs.Common.{◌≡◌, ◌++◌, map, take}
use Rattle.aatry_words.proofs.near.push_bytes.Given as goal

-- the texts so far stand behind what was there
abbrev pub invariant-loop-text : goal.invariant-loop-text
invariant-loop-text l = map (λ text. text.now) l.out.items ≡ map (λ text. text.now) l.initial.out.items ++ map (λ text. text.now) (take l.text-index l.texts)
