-- What contracts see of the code's changes, and of the names that have them.
use Rattle.std.specs.Prelude.{ℕ, List, map, Vec}
use Rattle.std.specs.Borrow.{Bor}
use Rattle.std.specs.declared.alloc.Global.{Global}
use Rattle.aatry_shared.specs.Sharing.{Change, Group}
use Rattle.aatry_shared.specs.declared.change.Change.{Change as CodeChange}
use Rattle.aatry_shared.specs.declared.sharing.Group.{Group as CodeGroup}

abbrev pub seen_change : CodeChange → Change
seen_change change = record { side = change.side; place = change.place; text = change.text.items }

-- names that are borrowed
abbrev pub seen_names : List (Bor (List ℕ)) → List (List ℕ)
seen_names names = map (λ name. name.now) names

-- an entry of the table: a change, and the names that have it
abbrev pub Entry : Type 0
Entry = CodeChange × Vec (Bor (List ℕ)) Global

abbrev pub seen_entry : Entry → Group
seen_entry entry = record { change = seen_change entry.0; names = seen_names entry.1.items }

abbrev pub seen_entries : List Entry → List Group
seen_entries entries = map seen_entry entries

-- a group that is borrowed
abbrev pub seen_group : CodeGroup → Group
seen_group group = record { change = seen_change group.change.now; names = seen_names group.names.now }
