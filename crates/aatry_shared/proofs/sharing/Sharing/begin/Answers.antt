use Rattle.std.proofs.Common.{◌≡◌, ◌++◌, ◌∷◌, [], false, ◌∙◌, ap}
use Rattle.aatry_shared.proofs.EntryLemmas.{put-new}
use Rattle.aatry_shared.proofs.sharing.Sharing.begin.Goals as goal
use Rattle.aatry_shared.specs.SeenSharing.{seen_change, seen_entries, seen_names}
use Rattle.aatry_shared.specs.Sharing.{has_change, with_having}

pub returns : goal.returns
returns c =
    let entries = c.self.inside.groups.entries in
    let name = c.args.name.now in
    let change = c.args.change in
    let names = c.push.new.self in
    let none : has_change (seen_entries entries) (seen_change change) ≡ false =
    ap (λ groups. has_change groups (seen_change change)) c.self.view_is ∙ c.requires in
    let one : seen_names names.items ≡ name ∷ [] =
    ap seen_names (c.in_ok-push.ensures.items ∙ ap (λ front. front ++ c.args.name ∷ []) c.new-names.ensures.items) in
    ap seen_entries c.in_ok-insert.ensures.entries ∙ put-new entries name change names none one
    ∙ ap (with_having (record { name = name; change = seen_change change })) c.self.view_is
