use Rattle.std.proofs.Common.{◌≡◌, ◌+◌, ◌<◌, [], ◌∷◌, refl, subst, sym, length, take, arith, length-append}
use Rattle.std.specs.Prelude.{string_bytes}
use Rattle.std.proofs.lemmas.List.{append-nil, length-map, take_all}
use Rattle.std.proofs.lemmas.Result.{err_from_is_err_and}
use Rattle.aatry_folder.specs.Members.{texts_of}
use Rattle.aatry_folder.specs.code.Step.{IsListing, name_at}
use Rattle.aatry_folder.proofs.FoundLemmas.{AreFound-step, Contains-base, Contains-name_at, IsFault-behind}
use Rattle.aatry_folder.proofs.ListingLemmas.{IsListing-answers, IsListing-step}
use Rattle.aatry_folder.proofs.below.names_below.Goals as goal

-- The base is found before all names.
pub returns-in_err-names-clause-err : goal.returns-in_err-names-clause-err
returns-in_err-names-clause-err g c =
    let p = err_from_is_err_and c.from_residual.result c.from_residual.ensures.1 in
    rw (p.1, p.2) (IsFault-behind (g.F.Folders.told c.args.folders.now) c.args.base.now [] [] c.in_err-names.field-0.0
    (Contains-base []) tt c.in_err-names.ensures.err)

-- The name at the next place is among those that are found.
pub returns-in_err-put_names_of-clause-err : goal.returns-in_err-put_names_of-clause-err
returns-in_err-put_names_of-clause-err g c =
    let p = err_from_is_err_and c.from_residual-in_err-put_names_of.result c.from_residual-in_err-put_names_of.ensures.1 in
    let names = texts_of c.loop-next.names in
    let behind : c.loop-next.next < length names = omega (arith, length-map c.loop-next.names.items string_bytes) in
    rw (p.1, p.2) (IsFault-behind (g.F.Folders.told c.args.folders.now) c.args.base.now names (name_at names c.loop-next.next)
    c.in_err-put_names_of.field-0.0
    (Contains-name_at names c.loop-next.next behind) c.loop-next.invariant.found c.in_err-put_names_of.ensures.err)

-- The base's members come first.
pub loop-next-init : goal.loop-next-init
loop-next-init g c =
    let told = g.F.Folders.told c.args.folders.now in
    let names = texts_of c.in_ok-names.names in
    let come = c.in_ok-names.ensures.ok in
    record {
      listed = (names, [], come, sym (append-nil names), refl);
      found = AreFound-step told c.args.base.now [] names [] (Contains-base []) (names, come, refl) tt;
      within = c.in_ok-names.ensures.within;
      behind = omega arith;
    }

-- What comes of the next name stands behind the others.
pub loop-next-preserved : goal.loop-next-preserved
loop-next-preserved g c =
    let told = g.F.Folders.told c.args.folders.now in
    let base = c.args.base.now in
    let next = c.loop-next.next in
    let names = texts_of c.loop-next.names in
    let after = texts_of c.put_names_of.new.names in
    let come = c.in_ok-put_names_of.ensures.ok in
    let behind : next < length names = omega (arith, length-map c.loop-next.names.items string_bytes) in
    let longer : length after ≡ length names + length come.0 =
    subst (λ all. length all ≡ length names + length come.0) (sym come.2) (length-append names come.0) in
    record {
      listed = IsListing-step told base names after come.0 next behind come.1 come.2 c.loop-next.invariant.listed;
      found = AreFound-step told base names after (name_at names next) (Contains-name_at names next behind) come c.loop-next.invariant.found;
      within = c.in_ok-put_names_of.ensures.within;
      behind = omega (arith, longer, length-map c.put_names_of.new.names.items string_bytes);
    }

-- All names were gone through.
pub returns-clause-walked : goal.returns-clause-walked
returns-clause-walked g c =
    let told = g.F.Folders.told c.args.folders.now in
    let base = c.args.base.now in
    let names = texts_of c.loop-next.names in
    let all : take c.loop-next.next names ≡ names =
    take_all c.loop-next.next names (omega (arith, length-map c.loop-next.names.items string_bytes)) in
    let (answers, answered, listed) = IsListing-answers told base ([] ∷ names) names
    (subst (λ read. IsListing told base ([] ∷ read) names) all c.loop-next.invariant.listed) in
    (answers, record { answered = answered; listed = listed })
