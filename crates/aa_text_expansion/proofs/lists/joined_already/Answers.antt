use Rattle.std.proofs.Common.{sym, ◌∙◌}
use Rattle.aa_text_expansion.proofs.MadeLemmas.{already-first, already-full, already-second}
use Rattle.aa_text_expansion.proofs.lists.joined_already.Goals as goal

pub returns-then-is_empty_text : goal.returns-then-is_empty_text
returns-then-is_empty_text c =
    already-second c.args.nodes.now c.requires c.args.first c.args.second c.in_ok-a.a.now c.in_ok-b.b.now (sym c.in_ok-a.ensures) (sym c.in_ok-b.ensures) (sym c.is_empty_text.ensures ∙ c.if-is_empty_text.true)

pub returns-then-is_empty_text-2 : goal.returns-then-is_empty_text-2
returns-then-is_empty_text-2 c =
    already-first c.args.nodes.now c.requires c.args.first c.args.second c.in_ok-a.a.now c.in_ok-b.b.now (sym c.in_ok-a.ensures) (sym c.in_ok-b.ensures) (sym c.is_empty_text-2.ensures ∙ c.if-is_empty_text-2.true)

pub returns-then-has_no_room : goal.returns-then-has_no_room
returns-then-has_no_room c =
    let both = c.has_no_room.ensures c.if-has_no_room.true in
    already-full c.args.nodes.now c.requires c.args.first c.args.second c.in_ok-a.a.now c.in_ok-b.b.now (sym c.in_ok-a.ensures) (sym c.in_ok-b.ensures) both.0 both.1
