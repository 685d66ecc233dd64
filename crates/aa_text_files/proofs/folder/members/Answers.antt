use Rattle.std.proofs.Common.{◌≡◌, arith}
use Rattle.aa_text_files.proofs.FolderLemmas.{AreGathered-before, AreGathered-none, AreGathered-sorted}
use Rattle.aa_text_files.proofs.folder.members.Goals as goal

pub loop-at-init : goal.loop-at-init
loop-at-init c = record {
  found = rw (c.len-at.ensures, c.new-found.ensures.items) (AreGathered-none c.args.files.now c.args.folder.now);
  within = omega (arith, c.len-at.ensures);
}

pub loop-at-preserved : goal.loop-at-preserved
loop-at-preserved c = record {
  found = AreGathered-before c.args.files.now c.loop-at.at c.args.folder.now c.loop-at.found.items c.push_member.new.found.items c.loop-at-test.true c.loop-at.invariant.within c.loop-at.invariant.found c.in_ok-push_member.ensures;
  within = omega arith;
}

pub returns : goal.returns
returns c =
    let all : c.loop-at.at ≡ 0 = omega arith in
    AreGathered-sorted c.args.files.now c.args.folder.now c.loop-at.found.items c.sort_by_name.new.found.items (rw all at c.loop-at.invariant.found) c.in_ok-sort_by_name.ensures.sorted c.in_ok-sort_by_name.ensures.stable
