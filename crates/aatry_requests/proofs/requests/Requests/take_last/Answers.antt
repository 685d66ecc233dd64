use Rattle.std.proofs.Common.{sym, ◌∙◌}
use Rattle.aatry_log_lines.proofs.LineLemmas.{lines-last}
use Rattle.aatry_requests.proofs.requests.Requests.take_last.Goals as goal

pub returns : goal.returns
returns c = rw (lines-last c.args.rest.now c.requires (sym c.is_empty.ensures ∙ c.if-is_empty.false)) c.take.ensures
