use Rattle.std.proofs.Common.{◌≡◌, ◌∙◌, ◌++◌, ◌∷◌, [], ap, map, subst, sym}
use Rattle.std.specs.List.{All}
use Rattle.std.proofs.lemmas.List.Elements.{All-push}
use Rattle.std.proofs.lemmas.List.{map-append}
use Rattle.aatry_check_rules.specs.Finding.{IsFound, seen_found}
use Rattle.aatry_check_rules.specs.SeenWhich.{seen_which}
use Rattle.aatry_check_rules.proofs.finding.push_found.Goals as goal

pub returns-clause-found : goal.returns-clause-found
returns-clause-found c = λ all.
    let found = IsFound (seen_which c.args.question.which) c.args.question.limit in
    let old = c.args.out.now.items in
    let more : map seen_found c.push.new.self.items ≡ map seen_found old ++ seen_found c.in_ok-found.found ∷ [] =
    ap (map seen_found) c.in_ok-push.ensures.items ∙ map-append seen_found old (c.in_ok-found.found ∷ []) in
    subst (All found) (sym more) (All-push found (map seen_found old) (seen_found c.in_ok-found.found) all c.in_ok-found.ensures.found)
