use Rattle.std.proofs.Common.{◌∷◌, [], arith, map, string_bytes, subst, sym}
use Rattle.std.proofs.lemmas.Grind.{common_steps}
use Rattle.std.proofs.lemmas.List.Elements.{All-append, All-cons, All-nil}
use Rattle.std.specs.List.{All}
use Rattle.aatry_folder.specs.Loadings.{IsAsked, TopFile, seen_top}
use Rattle.aatry_folder.proofs.loading.asked.Goals as goal

pub loop-name-preserved : goal.loop-name-preserved
loop-name-preserved g c =
    let (loading, is, put) = c.in_ok-push_top.ensures in
    let name = string_bytes c.in-Some.name in
    let file : TopFile = record { name = name; loading = loading } in
    let P = IsAsked (g.F.Folders.told c.args.folders.now) c.args.base.now in
    record {
      named = grind (arith, common_steps, put);
      each =
          subst (All P) (sym put)
          (All-append P (map seen_top c.loop-name.top.items) (file ∷ []) c.loop-name.invariant.each (All-cons P file [] is (All-nil P)));
    }
