use Rattle.std.proofs.Common.{◌≡◌, ◌++◌, sym, ap, ◌∙◌, subst}
use Rattle.std.specs.Prelude.{option_map}
use Rattle.std.specs.Map.{lookup}
use Rattle.std.specs.Str.{bytes_eq}
use Rattle.aa_set_commands.specs.Question.{seen_question}
use Rattle.aatry_log_rules.specs.SeenWanted.{AreUnderTexts, seen_entries, seen_wanted}
use Rattle.aatry_log_rules.specs.Wanted.{subject, wanted_with}
use Rattle.aatry_log_rules.specs.code.Entries.{wanted_under}
use Rattle.aatry_log_rules.proofs.WantedLemmas.{put-under, put-wants, subject-known}
use Rattle.aatry_log_rules.proofs.wanted.WantedRules.want.Goals as goal
use Rattle.aatry_requests.specs.Texts.{question_text}

pub invariant_of-self-2 : goal.invariant_of-self-2
invariant_of-self-2 c =
    let entries = c.self.inside.by_text.entries in
    let text = c.push_question.new.out in
    let asked = seen_wanted c.args.asked in
    let own : text.items ≡ question_text (subject asked) =
    c.in_ok-push_question.ensures
    ∙ ap (λ front. front ++ question_text (seen_question c.subject.result)) c.new-text.ensures.items
    ∙ ap question_text c.subject.ensures in
    let is = c.wanted_under-wanted.ensures ∙ ap (λ bytes. wanted_under asked bytes entries) c.deref.ensures.value in
    let same : subject (seen_wanted c.wanted_under-wanted.result) ≡ subject asked =
    ap subject is ∙ subject-known asked (option_map seen_wanted (lookup (λ other. bytes_eq text.items other.items) entries)) in
    subst AreUnderTexts (sym c.in_ok-insert.ensures.entries)
    (put-under entries text c.wanted_under-wanted.result c.self.invariant (own ∙ sym (ap question_text same)))

pub returns-clause-wanted : goal.returns-clause-wanted
returns-clause-wanted c =
    let entries = c.self.inside.by_text.entries in
    let text = c.push_question.new.out in
    let asked = seen_wanted c.args.asked in
    let own : text.items ≡ question_text (subject asked) =
    c.in_ok-push_question.ensures
    ∙ ap (λ front. front ++ question_text (seen_question c.subject.result)) c.new-text.ensures.items
    ∙ ap question_text c.subject.ensures in
    let is = c.wanted_under-wanted.ensures ∙ ap (λ bytes. wanted_under asked bytes entries) c.deref.ensures.value in
    ap seen_entries c.in_ok-insert.ensures.entries
    ∙ put-wants entries text asked c.wanted_under-wanted.result c.self.invariant own is
    ∙ ap (wanted_with asked) c.self.view_is
