use Rattle.std.specs.List.{list_any}
use Rattle.aa_bytes.specs.Texts.{begins}
use Rattle.std.proofs.Common.{◌≡◌, not, take, drop, true, false, sym, ap, ◌∙◌, arith}
use Rattle.std.proofs.lemmas.List.{length-drop}
use Rattle.aa_set_commands.specs.Words.{is_quote, is_word_end}
use Rattle.aa_set_commands.proofs.WordLemmas.{before-none, behind-first, others, quote-of, words_in_quotes-closed, words_in_quotes-followed, words_in_quotes-open}
use Rattle.aa_set_commands.proofs.words.quoted_word.Goals as goal

pub returns-in_default-clause-refused : goal.returns-in_default-clause-refused
returns-in_default-clause-refused c =
    let size = c.split_at.ensures.back_len in
    words_in_quotes-open c.args.text.now c.quoted_length.result (omega arith) (ap (λ n. list_any is_quote (take n c.args.text.now)) c.quoted_length.ensures.value ∙ before-none is_quote c.args.text.now)

pub returns-then-not-is_word_end-clause-refused : goal.returns-then-not-is_word_end-clause-refused
returns-then-not-is_word_end-clause-refused c =
    let text = c.args.text.now in
    let at = c.quoted_length.result in
    let size = c.split_at.ensures.back_len in
    let length = length-drop at text in
    let closes = quote-of (drop at text) (omega arith) (ap (λ n. begins (λ b. not (is_quote b)) (drop n text)) c.quoted_length.ensures.value ∙ behind-first is_quote text) in
    let plain = ap (λ n. list_any is_quote (take n text)) c.quoted_length.ensures.value ∙ before-none is_quote text in
    let ends : is_word_end (others (drop at text)) ≡ false = ap (λ rest. is_word_end (others rest)) (sym c.split_at.ensures.back) ∙ sym c.if-not-is_word_end.ensures in
    words_in_quotes-followed text at plain closes ends

pub returns-clause-word : goal.returns-clause-word
returns-clause-word c =
    let text = c.args.text.now in
    let at = c.quoted_length.result in
    let size = c.split_at.ensures.back_len in
    let length = length-drop at text in
    let closes = quote-of (drop at text) (omega arith) (ap (λ n. begins (λ b. not (is_quote b)) (drop n text)) c.quoted_length.ensures.value ∙ behind-first is_quote text) in
    let plain = ap (λ n. list_any is_quote (take n text)) c.quoted_length.ensures.value ∙ before-none is_quote text in
    let ends : is_word_end (others (drop at text)) ≡ true = ap (λ rest. is_word_end (others rest)) (sym c.split_at.ensures.back) ∙ sym c.if-not-is_word_end.ensures in
    rw (c.split_at.ensures.front, c.split_at.ensures.back) (words_in_quotes-closed text at plain closes ends)
