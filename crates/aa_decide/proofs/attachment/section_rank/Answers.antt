use Rattle.aa_glob_syntax.specs.Patterns.{AreMatching}
use Rattle.aa_decide.proofs.attachment.section_rank.Goals as goal

pub returns : goal.returns
returns c =
    let path = c.args.path.now in
    let are : AreMatching c.args.section.attachments.now path c.as_slice.result.now = rw c.as_slice.ensures.value c.in_ok-places.ensures.found in
    c.best_rank.ensures path are
