use Rattle.std.proofs.Common.{◌≡◌, ap, sym, ◌∙◌, ◌==◌, ◌<◌, length, arith}
use Rattle.aa_text_tokens.specs.code.SplicingProgress.{target_of}
use Rattle.aa_text_tokens.proofs.SplicingLemmas.{included-absent, included-deep, included-each, none-there, some-there}
use Rattle.aa_text_tokens.proofs.splicer.Splicer.included.Goals.{else-depth-eq0-via-then-depth-eq0+else-not-is_empty, else-depth-eq0-via-else-depth-eq0}
use Rattle.aa_text_tokens.proofs.splicer.Splicer.included.Goals as goal

pub returns-in_default-clause-refused : goal.returns-in_default-clause-refused
returns-in_default-clause-refused c =
    rw (← c.self.view_is) (included-absent c.self.inside.files.now c.args.depth c.args.place c.args.name.now c.args.if_exists c.include_fault.result (sym (ap target_of c.in_default.is) ∙ c.in_ok-found.ensures) c.include_fault.ensures.refusal c.include_fault.ensures.place)

pub returns-then-not-is_empty-clause-refused : goal.returns-then-not-is_empty-clause-refused
returns-then-not-is_empty-clause-refused c =
    let found = c.in-Some.found in
    let fault = c.include_fault-then-not-is_empty in
    rw (← c.self.view_is) (included-deep c.self.inside.files.now c.args.depth c.args.place c.args.name.now c.args.if_exists found.items fault.result (sym (ap target_of c.in-Some.is) ∙ c.in_ok-found.ensures) (some-there found.items (c.if-not-is_empty.ensures ∙ ap (λ n. n == 0) found.ok.0)) c.if-depth-eq0.true fault.ensures.refusal fault.ensures.place)

pub returns-clause-ok : goal.returns-clause-ok
returns-clause-ok c =
    let found = c.in-Some.found in
    let deep : 0 < length found.items → 0 < c.args.depth = λ some. elim c.else-depth-eq0.branch [
      | else-depth-eq0-via-then-depth-eq0+else-not-is_empty w ↦ (let none : length found.items ≡ 0 = none-there found.items (w.if-not-is_empty.ensures ∙ ap (λ n. n == 0) found.ok.0) in omega arith)
      | else-depth-eq0-via-else-depth-eq0 w ↦ omega arith
    ] in
    rw (← c.self.view_is) (included-each c.self.inside.files.now c.args.depth c.args.place c.args.name.now c.args.if_exists found.items (sym (ap target_of c.in-Some.is) ∙ c.in_ok-found.ensures) deep)
