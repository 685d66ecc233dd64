use Rattle.std.proofs.Common.{◌≡◌, ◌-◌, None, Some, ap, sym, ◌∙◌}
use Rattle.std.specs.Option.{option_copied}
use Rattle.std.specs.Prelude.{length, slice_get}
use Rattle.aatry_shared.proofs.EntryLemmas.{ends-in-last, is_last}
use Rattle.aatry_shared.proofs.sharing.ends_in.Goals as goal

pub returns-in-None : goal.returns-in-None
returns-in-None c =
    let names = c.args.names.now in
    let none : slice_get names (length names - 1) ≡ None = sym c.last.ensures.value ∙ ap option_copied c.in-None.is in
    sym (ends-in-last names c.args.name.now ∙ ap (λ last. is_last last c.args.name.now) none)

pub returns-in-Some : goal.returns-in-Some
returns-in-Some c =
    let names = c.args.names.now in
    let found : slice_get names (length names - 1) ≡ Some c.in-Some.last.now = sym c.last.ensures.value ∙ ap option_copied c.in-Some.is in
    c.eq.ensures ∙ sym (ends-in-last names c.args.name.now ∙ ap (λ last. is_last last c.args.name.now) found)
