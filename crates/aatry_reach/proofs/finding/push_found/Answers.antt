use Rattle.std.proofs.Common.{◌≡◌, ◌∙◌, ◌++◌, ◌∷◌, [], ap, map, subst, sym}
use Rattle.std.specs.List.{All}
use Rattle.std.proofs.lemmas.List.Elements.{All-push}
use Rattle.std.proofs.lemmas.List.{map-append}
use Rattle.aatry_reach.specs.Finding.{Found, IsFound, seen_found}
use Rattle.aatry_reach.specs.declared.finding.Found.{Found as CodeFound}
use Rattle.aatry_reach.proofs.finding.push_found.Goals as goal

pub returns-clause-found : goal.returns-clause-found
returns-clause-found c = λ all.
    let right = λ (f : Found). IsFound c.args.slots.now c.args.limit f in
    let old = c.args.out.now.items in
    let one : CodeFound = record { name = c.args.name; finding = c.in_ok-finding.finding } in
    let more : map seen_found c.push.new.self.items ≡ map seen_found old ++ seen_found one ∷ [] =
    ap (map seen_found) c.in_ok-push.ensures.items ∙ map-append seen_found old (one ∷ []) in
    subst (All right) (sym more) (All-push right (map seen_found old) (seen_found one) all c.in_ok-finding.ensures)
