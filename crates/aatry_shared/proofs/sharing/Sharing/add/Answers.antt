use Rattle.std.proofs.Common.{◌≡◌, ◌∙◌, List, None, Some, ap, subst, sym}
use Rattle.std.proofs.lemmas.Result.{on_ok_weaker}
use Rattle.std.specs.Map.{lookup}
use Rattle.std.specs.Option.{option_copied_mut}
use Rattle.aatry_shared.proofs.EntryLemmas.{none-has, set-names}
use Rattle.aatry_shared.proofs.sharing.Sharing.add.Goals as goal
use Rattle.aatry_shared.specs.SeenSharing.{seen_change, seen_entries}
use Rattle.aatry_shared.specs.Sharing.{Group, with_having}
use Rattle.aatry_shared.specs.code.Keys.{same_key}

pub returns-in-Some : goal.returns-in-Some
returns-in-Some c =
    let old = c.self.inside.groups.entries in
    let change = c.args.change in
    let name = c.args.name.now in
    let had = c.in-Some.names.now in
    let names = c.push_name.new.names in
    let new = c.get_mut.follows.lender names in
    let found : lookup (same_key change) old ≡ Some had = sym c.get_mut.ensures.value ∙ ap option_copied_mut c.in-Some.is in
    on_ok_weaker c.push_name.result (λ pushed.
    subst (λ (groups : List Group). seen_entries new.entries ≡ with_having (record { name = name; change = seen_change change }) groups) c.self.view_is
    (ap seen_entries (c.get_mut.follows.holds names).0 ∙ set-names old name change had names found pushed))
    c.push_name.ensures

pub begin-requires : goal.begin-requires
begin-requires c =
    let old = c.self.inside.groups.entries in
    let change = c.args.change in
    let none : lookup (same_key change) old ≡ None = sym c.get_mut.ensures.value ∙ ap option_copied_mut c.in-None.is in
    rw c.get_mut.follows.holds-at-none (none-has old change none)
