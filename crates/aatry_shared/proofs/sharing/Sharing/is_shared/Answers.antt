use Rattle.std.proofs.Common.{◌≡◌, ◌∙◌, None, Some, ap, sym}
use Rattle.std.specs.Map.{lookup}
use Rattle.std.specs.Option.{option_copied}
use Rattle.aatry_shared.proofs.EntryLemmas.{found_names, names-found}
use Rattle.aatry_shared.proofs.sharing.Sharing.is_shared.Goals as goal
use Rattle.aatry_shared.specs.SeenSharing.{seen_change, seen_names}
use Rattle.aatry_shared.specs.Sharing.{are_several, is_shared}
use Rattle.aatry_shared.specs.code.Keys.{same_key}

pub returns-in-Some : goal.returns-in-Some
returns-in-Some c =
    let entries = c.self.inside.groups.entries in
    let change = c.args.change.now in
    let found : lookup (same_key change) entries ≡ Some c.in-Some.names.now = sym c.get.ensures.value ∙ ap option_copied c.in-Some.is in
    c.are_several.ensures ∙ ap (λ names. are_several (seen_names names)) c.deref.ensures.value
    ∙ ap are_several (sym (names-found entries change ∙ ap found_names found))
    ∙ ap (λ groups. is_shared groups (seen_change change)) c.self.view_is

pub returns-in-None : goal.returns-in-None
returns-in-None c =
    let entries = c.self.inside.groups.entries in
    let change = c.args.change.now in
    let found : lookup (same_key change) entries ≡ None = sym c.get.ensures.value ∙ ap option_copied c.in-None.is in
    ap are_several (sym (names-found entries change ∙ ap found_names found))
    ∙ ap (λ groups. is_shared groups (seen_change change)) c.self.view_is
