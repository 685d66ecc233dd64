use Rattle.std.proofs.Common.{◌≡◌, Some, sym, subst}
use Rattle.std.specs.Prelude.{IfOk}
use Rattle.aa_profile_data.specs.Stacks.{parts_of}
use Rattle.aa_set_answers.specs.code.SeenTexts.{seen_stack_text}
use Rattle.aa_set_answers.specs.Answers.{stack_text}
use Rattle.aa_set_answers.proofs.answers.based_text.Goals as goal

pub returns-in-Unconfined : goal.returns-in-Unconfined
returns-in-Unconfined c =
    let members = parts_of c.args.members.now in
    let told = c.stack_text.result in
    subst (λ base. IfOk told (λ text. text.items ≡ seen_stack_text c.args.slots.now (Some base) members c.args.scrub)) (sym c.in-Unconfined.is)
    (subst (λ name. IfOk told (λ text. text.items ≡ stack_text (Some name) members c.args.scrub)) c.as_slice.ensures c.stack_text.ensures)
