use Rattle.std.proofs.Common.{◌≡◌, rules, true}
use Rattle.aa_decide.specs.Exec.{are_in_force, base_of}
use Rattle.aa_decide.specs.SeenExec.{seen_asker}
use Rattle.aa_decide_ready.specs.Slots.{filled}
use Rattle.aa_profile_data.specs.ExecWords.{row}
use Rattle.aa_profile_data.specs.SeenStacks.{seen_stack}
use Rattle.aa_profile_data.specs.Stacks.{parts_of}
use Rattle.aa_decide.proofs.SeenLemmas.{seen_on_base}
use Rattle.aa_decide.proofs.stacks.to_stack.Goals as goal

pub returns : goal.returns
returns c =
    let path = c.args.path.now in
    let entries = filled c.args.slots.now in
    let asker = seen_asker c.args.asker in
    let word = c.args.word in
    let force : are_in_force (parts_of c.args.stack.members.now) entries ≡ true = search rules in
    let on : c.args.stack.on_base ≡ true = search rules in
    seen_on_base path entries asker word (seen_stack c.args.stack) c.args.slots.now c.stacked_on.result force on
    (c.stacked_on.ensures c.args.slots.now (base_of path entries asker (row word).destination (row word).fallback) c.in_ok-base.ensures)
