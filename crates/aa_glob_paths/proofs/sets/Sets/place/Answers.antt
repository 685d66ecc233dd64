use Rattle.std.proofs.Common.{◌≡◌, false, sym, subst, ◌∙◌}
use Rattle.std.specs.Option.{is_some}
use Rattle.indexmap.proofs.CallerLemmas.{insert_entry-new}
use Rattle.aa_glob_paths.specs.Found.{FoundSet}
use Rattle.aa_glob_paths.specs.code.Closing.{HasPlaced}
use Rattle.aa_glob_paths.specs.code.Views.{all_found}
use Rattle.aa_glob_paths.proofs.PlaceLemmas.{kept_at, not_some, placed-kept, placed-new}
use Rattle.aa_glob_paths.proofs.sets.Sets.place.Goals as goal

pub returns-then-contains_key : goal.returns-then-contains_key
returns-then-contains_key c =
    let entries = c.self.inside.sets.entries in
    let one : FoundSet = record { set = c.args.set.now; origin = c.args.origin } in
    subst (λ found. HasPlaced found found one) c.self.view_is (placed-kept entries one (sym c.contains_key.ensures ∙ c.if-contains_key.true))

pub returns : goal.returns
returns c =
    let entries = c.self.inside.sets.entries in
    let own = c.in_ok-own.own in
    let same = c.in_ok-own.ensures.items in
    let none = subst (λ set. is_some (kept_at set entries) ≡ false) (sym same) (sym c.contains_key.ensures ∙ c.if-contains_key.false) in
    let last = insert_entry-new _ c.self.inside.sets own c.args.origin (not_some (kept_at own.items entries) none) in
    let placed = placed-new entries c.insert.new.self.entries own c.args.origin none (c.in_ok-insert.ensures.entries ∙ last) in
    rw (← c.self.view_is)
    (subst (λ items. HasPlaced (all_found entries) (all_found c.insert.new.self.entries) (record { set = items; origin = c.args.origin })) same placed)
