use Rattle.std.proofs.Common.{◌≡◌, ◌++◌, sym, ap, ◌∙◌, subst}
use Rattle.aa_set_commands.specs.Question.{seen_question}
use Rattle.aatry_log_lines.specs.LoggedQuestions.{seen_logged}
use Rattle.aatry_requests.specs.SeenTallies.{AreUnderTexts, seen_entries}
use Rattle.aatry_requests.specs.Tallies.{counted_with}
use Rattle.aatry_requests.specs.Texts.{question_text}
use Rattle.aatry_requests.specs.code.Entries.{count_under}
use Rattle.aatry_requests.proofs.TallyLemmas.{put, put-counts, put-under}
use Rattle.aatry_requests.proofs.tallies.Tallies.count.Goals as goal

pub invariant_of-self-2 : goal.invariant_of-self-2
invariant_of-self-2 c =
    let entries = c.self.inside.by_text.entries in
    let text = c.push_question.new.out in
    let own : text.items ≡ question_text (seen_logged c.args.question) =
    c.in_ok-push_question.ensures
    ∙ ap (λ front. front ++ question_text (seen_question c.question.result)) c.new-text.ensures.items
    ∙ ap question_text c.question.ensures.value in
    subst AreUnderTexts (sym c.in_ok-insert.ensures.entries) (put-under entries text c.args.question c.count_with-count.result c.self.invariant own)

pub returns-clause-counted : goal.returns-clause-counted
returns-clause-counted c =
    let entries = c.self.inside.by_text.entries in
    let text = c.push_question.new.out in
    let own : text.items ≡ question_text (seen_logged c.args.question) =
    c.in_ok-push_question.ensures
    ∙ ap (λ front. front ++ question_text (seen_question c.question.result)) c.new-text.ensures.items
    ∙ ap question_text c.question.ensures.value in
    let count = c.count_with-count.ensures ∙ ap (λ bytes. count_under c.args.time bytes entries) c.deref.ensures.value in
    ap seen_entries c.in_ok-insert.ensures.entries
    ∙ ap (λ count. seen_entries (put entries text c.args.question count)) count
    ∙ put-counts entries text c.args.question c.args.time c.self.invariant own
    ∙ ap (counted_with (seen_logged c.args.question) c.args.time) c.self.view_is
