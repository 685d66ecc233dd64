use Rattle.std.proofs.Common.{◌≡◌, ℕ, List, cond, None, Some, not, sym, ap, subst, ◌∙◌}
use Rattle.aa_bytes.specs.NameMaps.{GivesNumber, number_of}
use Rattle.aa_profile_data.specs.declared.profile.Profile.{Profile}
use Rattle.aa_decide_ready.specs.SlotNames.{holds}
use Rattle.aa_decide_ready.specs.Indexes.{first_of}
use Rattle.aa_decide_ready.proofs.NameLemmas.{not_some, noted-new}
use Rattle.aa_decide_ready.proofs.names.NameIndex.note.Goals as goal

pub returns-in_ok-insert : goal.returns-in_ok-insert
returns-in_ok-insert c =
    let old = c.args.self.now.slots in
    let entry = c.in-Some.entry in
    let own : c.as_slice-name.result.now ≡ entry.profile.name = c.as_slice-name.ensures ∙ ap (λ (profile : Profile). profile.name) c.profile.ensures in
    let none : number_of old entry.profile.name ≡ None = ap (number_of old) (sym own) ∙ sym c.get.ensures ∙ not_some c.get.result (c.is_none.ensures ∙ ap not c.if-is_none.true) in
    let gives = subst (λ (name : List ℕ). GivesNumber old name c.args.place c.insert.new.self) own c.in_ok-insert.ensures.ok in
    λ name.
    noted-new old c.insert.new.self entry c.args.place none gives name
    ∙ ap (λ slot. first_of (number_of old name) (cond (holds name slot) (Some c.args.place) None)) (sym c.in-Some.is)
