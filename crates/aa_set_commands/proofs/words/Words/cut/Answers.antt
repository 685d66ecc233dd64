use Rattle.std.proofs.Common.{◌≡◌, ◌≤◌, ◌<◌, ◌++◌, length, map, take, sym, ap, ◌∙◌, arith}
use Rattle.std.proofs.lemmas.List.{length-map, length-take-le, map-append, take_more_set, length-set}
use Rattle.std.specs.Option.{option_map}
use Rattle.aa_set_commands.specs.Words.{words_of}
use Rattle.aa_set_commands.specs.Limits.{most_words}
use Rattle.aa_set_commands.proofs.WordLemmas.{words_more, words_many}
use Rattle.aa_set_commands.proofs.words.Words.cut.Goals as goal

pub returns-then-count-eq-MOST_WORDS-clause-refused : goal.returns-then-count-eq-MOST_WORDS-clause-refused
returns-then-count-eq-MOST_WORDS-clause-refused c =
    let used = take c.loop-word.count c.loop-word.words in
    let front = map (λ word. word.now) used in
    let word = c.in-Some.word.now in
    let more = words_of c.in-Some.after.now in
    let found = rw c.in-Some.is at c.in_ok-word.ensures.word in
    let within : c.loop-word.count ≤ length c.loop-word.words = omega arith in
    let size : length front ≡ most_words = rw (length-map, length-take-le) (omega arith) in
    let whole = ap (option_map (λ more. front ++ more)) (sym found) ∙ c.loop-word.invariant.words in
    words_many most_words front word more (words_of c.args.line.now) size whole

pub loop-word-preserved : goal.loop-word-preserved
loop-word-preserved c =
    let at = c.loop-word.count in
    let front = map (λ word. word.now) (take at c.loop-word.words) in
    let found = rw c.in-Some.is at c.in_ok-word.ensures.word in
    let room : at < length c.loop-word.words = omega arith in
    let more = words_more front c.in-Some.word.now (words_of c.in-Some.after.now) in
    record {
      words = rw (take_more_set c.loop-word.words at c.in-Some.word room, map-append) (sym more ∙ ap (option_map (λ more. front ++ more)) (sym found) ∙ c.loop-word.invariant.words);
      few = omega arith;
      room = length-set c.loop-word.words at c.in-Some.word ∙ c.loop-word.invariant.room;
    }
