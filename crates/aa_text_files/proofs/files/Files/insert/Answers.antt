use Rattle.std.proofs.Common.{◌≡◌, ℕ, false, length, sym, ◌∙◌, subst}
use Rattle.std.proofs.lemmas.List.{length-map}
use Rattle.aa_bytes.specs.NameMaps.{GivesNumber}
use Rattle.aa_text_files.specs.Files.{AreTaken, as_files, has_file, is_bad_file}
use Rattle.aa_text_files.specs.code.Places.{ArePlaces}
use Rattle.aa_text_files.proofs.FilesLemmas.{either-way, places-push, taken-push}
use Rattle.aa_text_files.proofs.files.Files.insert.Goals as goal

pub invariant_of-self : goal.invariant_of-self
invariant_of-self c =
    let files = as_files c.self.inside.entries.items in
    let old = c.self.inside.places in
    let name = c.args.name.items in
    let none : has_file files name ≡ false = rw (c.self.view_is, ← c.as_slice-3.ensures.value) (sym c.if-has.ensures) in
    let good : is_bad_file name c.args.bytes.items ≡ false = rw (← c.as_slice.ensures.value, ← c.as_slice-2.ensures.value) (sym c.if-is_bad.ensures) in
    either-way c.put.result c.put.ensures.entries c.put.ensures.places c.put.ensures.same_entries c.put.ensures.same_places
    (λ more noted.
    let noted : GivesNumber old name (length files) c.put.new.places = subst (λ (place : ℕ). GivesNumber old name place c.put.new.places) (sym (length-map c.self.inside.entries.items _)) noted in
    subst (λ files. AreTaken files × ArePlaces c.put.new.places files) (sym more)
    (taken-push files name c.args.bytes.items c.self.invariant.0 good none, places-push old c.put.new.places files name c.args.bytes.items c.self.invariant.1 none noted))
    (λ same places. rw same (c.self.invariant.0, λ name. places name ∙ c.self.invariant.1 name))
