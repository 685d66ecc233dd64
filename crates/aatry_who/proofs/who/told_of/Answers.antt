use Rattle.std.proofs.Common.{◌≡◌, ◌++◌, ◌∙◌, Ok, ap, map, string_bytes}
use Rattle.aa_set_commands.specs.Question.{seen_question}
use Rattle.aatry_policy.specs.Folders.{left_out_in, seen_folder}
use Rattle.aatry_requests.specs.AskedWords.{letting_question}
use Rattle.aatry_who.specs.Unsure.{unsure_in}
use Rattle.aatry_who.specs.Who.{is_let, let_by}
use Rattle.aatry_who.proofs.who.told_of.Goals as goal

-- what is told by the folder that is loaded is told by the one that was read
pub returns-clause-told : goal.returns-clause-told
returns-clause-told c =
    let form = c.args.teller.form in
    let folder = seen_folder c.args.folder.now in
    let question = seen_question c.in-Some.question in
    let asked : letting_question (map string_bytes c.args.words.now) ≡ Ok question = rw c.in-Some.is at c.in_ok-question.ensures.some in
    let left_out = left_out_in form c.args.teller.verbose folder in
    let before : c.load_folder.new.report.text.items ≡ left_out =
    c.in_ok-loaded.ensures.told ∙ ap (λ text. text ++ left_out) c.new-report.ensures.text in
    let text : c.push_let_by.new.out.items ≡ left_out ++ let_by form folder question ++ unsure_in form folder =
    c.in_ok-found.ensures.told
    ∙ ap (λ f. c.load_folder.new.report.text.items ++ let_by form (seen_folder f) question ++ unsure_in form (seen_folder f)) c.in_ok-loaded.ensures.folder
    ∙ ap (λ text. text ++ let_by form folder question ++ unsure_in form folder) before in
    let found : c.in_ok-found.found ≡ is_let (let_by form folder question) =
    c.in_ok-found.ensures.found ∙ ap (λ f. is_let (let_by form (seen_folder f) question)) c.in_ok-loaded.ensures.folder in
    (c.in_ok-found.found, (question, asked, text, found), c.failed_by.ensures.value)
