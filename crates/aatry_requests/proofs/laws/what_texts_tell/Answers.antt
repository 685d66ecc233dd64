use Rattle.aatry_requests.proofs.TextLemmas.{told-apart}
use Rattle.aatry_requests.proofs.laws.what_texts_tell.Goals as goal

pub returns : goal.returns
returns c = told-apart c.how_names_read_back.ensures.escaped
