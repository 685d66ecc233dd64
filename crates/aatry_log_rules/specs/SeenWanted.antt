-- The wanted requests of the code, as the definitions see them: each has the text by which it is printed as its key.
use Rattle.std.specs.Prelude.{◌≡◌, ℕ, List, map, Vec}
use Rattle.std.specs.List.{All}
use Rattle.std.specs.declared.alloc.Global.{Global}
use Rattle.aa_profile_data.specs.SeenRequests.{request_of}
use Rattle.aatry_log_rules.specs.Wanted.{Wanted, subject}
use Rattle.aatry_log_rules.specs.declared.wanted.Wanted.{Wanted as CodeWanted}
use Rattle.aatry_requests.specs.Texts.{question_text}

abbrev pub seen_wanted : CodeWanted → Wanted
seen_wanted wanted = record { who = wanted.who.now; request = request_of wanted.request; times = wanted.times }

-- an entry: the text and the wanted request
abbrev pub Entry : Type 0
Entry = Vec ℕ Global × CodeWanted

abbrev pub seen_entries : List Entry → List Wanted
seen_entries entries = map (λ entry. seen_wanted entry.1) entries

-- the text of an entry is that of what it is about
abbrev pub IsUnderText : Entry → Type 0
IsUnderText entry = entry.0.items ≡ question_text (subject (seen_wanted entry.1))

abbrev pub AreUnderTexts : List Entry → Type 0
AreUnderTexts entries = All IsUnderText entries
