use Rattle.aatry_session_run.proofs.UndoingLemmas.{undoes}
use Rattle.aatry_session_run.proofs.laws.what_undoing_leads_to.Goals as goal

pub returns : goal.returns
returns g c = undoes (record {
  begins = c.the_history_is_in_step.ensures.begins;
  stays = c.the_history_is_in_step.ensures.stays;
  adds = c.the_history_is_in_step.ensures.adds;
  switches = c.the_history_is_in_step.ensures.switches;
  forgets = c.the_history_is_in_step.ensures.forgets;
  unmarked = c.how_far_sessions_go_back.ensures.unmarked;
  adds_unmarked = c.how_far_sessions_go_back.ensures.adds_unmarked;
  switches_unmarked = c.how_far_sessions_go_back.ensures.switches_unmarked;
  begins_behind = c.how_far_sessions_go_back.ensures.begins;
  stays_behind = c.how_far_sessions_go_back.ensures.stays;
  forgets_behind = c.how_far_sessions_go_back.ensures.forgets;
  undoes = c.how_far_sessions_go_back.ensures.undoes;
}) (g.F.Folders.told c.args.folders.now) (g.D.FileSystem.known c.args.disk.now)
