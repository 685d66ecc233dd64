use Rattle.std.proofs.Common.{◌≡◌, ◌∙◌, ◌++◌, ◌∷◌, [], ap, map, subst, sym}
use Rattle.std.specs.List.{All}
use Rattle.std.proofs.lemmas.List.Elements.{All-push}
use Rattle.std.proofs.lemmas.List.{map-append}
use Rattle.aatry_path_changes.specs.Finding.{Found, IsFound, seen_found}
use Rattle.aatry_path_changes.specs.Starts.{seen_policies}
use Rattle.aatry_policy.specs.FolderParts.{seen_folder}
use Rattle.aatry_path_changes.proofs.finding.push_found.Goals as goal

pub returns-clause-found : goal.returns-clause-found
returns-clause-found c = λ all.
    let found = λ (f : Found). IsFound c.args.question.quiet c.args.question.limit (seen_policies c.args.question.policies) (seen_folder c.args.question.old.now) (seen_folder c.args.question.new.now) f in
    let old = c.args.out.now.items in
    let more : map seen_found c.push.new.self.items ≡ map seen_found old ++ seen_found c.in_ok-found.found ∷ [] =
    ap (map seen_found) c.in_ok-push.ensures.items ∙ map-append seen_found old (c.in_ok-found.found ∷ []) in
    subst (All found) (sym more) (All-push found (map seen_found old) (seen_found c.in_ok-found.found) all c.in_ok-found.ensures.found)
