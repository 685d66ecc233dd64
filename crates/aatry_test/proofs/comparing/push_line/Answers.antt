use Rattle.std.proofs.Common.{rules, ◌≡◌, ◌++◌, ◌∙◌, List, ap, count_by, subst}
use Rattle.std.specs.Prelude.{IfOk, OnOk, flat_map}
use Rattle.aatry_test.specs.Differences.{Part, differs, part_text}
use Rattle.aatry_transcripts.specs.Transcripts.{texts}
use Rattle.aatry_test.proofs.CompareLemmas.{part_is}
use Rattle.aatry_test.proofs.comparing.push_line.Goals as goal

pub returns-clause-told : goal.returns-clause-told
returns-clause-told c =
    subst (λ (ps : List Part). OnOk c.push_reply.result (c.push_reply.new.out.items ≡ c.args.out.now.items ++ flat_map (part_text c.args.path.now) ps))
    (part_is c.args.number c.args.line.now (texts c.args.behind.now) (texts c.args.told.now) (texts c.deref.result.now) (search rules)
    (ap texts c.deref.ensures.value ∙ c.in_ok-wanted.ensures))
    c.push_reply.ensures.told

pub returns-clause-counted : goal.returns-clause-counted
returns-clause-counted c =
    subst (λ (ps : List Part). IfOk c.push_reply.result (λ count. count ≡ count_by differs ps))
    (part_is c.args.number c.args.line.now (texts c.args.behind.now) (texts c.args.told.now) (texts c.deref.result.now) (search rules)
    (ap texts c.deref.ensures.value ∙ c.in_ok-wanted.ensures))
    c.push_reply.ensures.counted
