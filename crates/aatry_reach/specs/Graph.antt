-- What is told of the places that are reached as a graph, in the language of graphviz.
use Rattle.std.specs.Prelude.{ℕ, ◌==◌, ◌||◌, if◌then◌else◌, List, [], ◌∷◌, ◌++◌, codes, flat_map, Option}
use Rattle.aa_bytes.specs.Bytes.{line_feed}
use Rattle.aa_decide_ready.specs.Entries.{Loaded}
use Rattle.aa_explain_reach.specs.declared.reach.Reach.{Reach}
use Rattle.aa_explain_reach.specs.declared.reached.Reached.{Reached as Node}
use Rattle.aatry_reach.specs.Finding.{Found}
use Rattle.aatry_reach.specs.Telling.{from_text, place_text}
use Rattle.aatry_reach.specs.declared.finding.Finding.{Finding}
use Rattle.aatry_reach.specs.declared.finding.Finding.TheVariants.{Absent, Reached}
use Rattle.aatry_report.specs.Shown.{shown}

-- a byte between quotes: a quote and a backslash have a backslash before them
abbrev pub quoted_byte : ℕ → List ℕ
quoted_byte byte = if byte == 34 || byte == 92 then 92 ∷ byte ∷ [] else byte ∷ []

-- a text between quotes, as it is shown
abbrev pub quoted : List ℕ → List ℕ
quoted text = codes "\"" ++ flat_map quoted_byte (shown text) ++ codes "\""

-- an edge: a program of a path is started by one, and runs under the other
unfoldable pub edge_line : (from place path : List ℕ) → List ℕ
edge_line from place path = codes "  " ++ quoted from ++ codes " -> " ++ quoted place ++ codes " [label=" ++ quoted path ++ codes "];\n"

abbrev pub edge : List (Option Loaded) → List ℕ → List Node → Node → List ℕ
edge slots name nodes node = edge_line (from_text slots name nodes node.from) (place_text slots node.start.to) node.start.path.items

-- a comment: words, and a text as it is shown
unfoldable pub comment : List ℕ → List ℕ → List ℕ
comment words text = codes "  // " ++ words ++ shown text ++ line_feed ∷ []

-- who starts programs whose paths are too many
abbrev pub many : List (Option Loaded) → List ℕ → List Node → Option ℕ → List ℕ
many slots name nodes from = comment (codes "too many paths: ") (from_text slots name nodes from)

-- who is asked about, and the edges of all that are reached from there
unfoldable pub node_line : List ℕ → List ℕ
node_line name = codes "  " ++ quoted name ++ codes ";\n"

abbrev pub reach_drawn : List (Option Loaded) → List ℕ → Reach → List ℕ
reach_drawn slots name reach =
    node_line name ++ flat_map (edge slots name reach.nodes.items) reach.nodes.items ++ flat_map (many slots name reach.nodes.items) reach.unknown.items

abbrev pub finding_drawn : List (Option Loaded) → List ℕ → Finding → List ℕ
finding_drawn slots name Absent = comment (codes "absent: nobody has the name ") name
finding_drawn slots name (Reached reach) = reach_drawn slots name reach

abbrev pub found_drawn : List (Option Loaded) → Found → List ℕ
found_drawn slots found = finding_drawn slots found.name found.finding

-- all of it, as one graph
abbrev pub graph : List (Option Loaded) → List Found → List ℕ
graph slots found = codes "digraph reach {\n" ++ flat_map (found_drawn slots) found ++ codes "}\n"
