use Rattle.aatry_requests.proofs.LettingLemmas.{access-first, any-name, kind-first}
use Rattle.aatry_requests.proofs.laws.what_words_ask_without_who_asks.Goals as goal

pub returns-clause-any_name : goal.returns-clause-any_name
returns-clause-any_name c = any-name

pub returns-clause-kinds : goal.returns-clause-kinds
returns-clause-kinds c = kind-first

pub returns-clause-files : goal.returns-clause-files
returns-clause-files c = access-first
