-- A text reaches the same states in graphs with the same entries and ways.
use Rattle.std.proofs.Common.{◌≡◌, ℕ, List, sym, ap, ◌∙◌}
use Rattle.aa_glob_nfa.specs.Entries.{is_free, takes_byte, stays_at}
use Rattle.aa_glob_nfa.specs.Graphs.{Graph, entry_of, Reaches, SameGraph, SameRuns}
use Rattle.aa_glob_nfa.specs.Graphs.Reaches.{begins, comes, takes, stays}
use Rattle.std.specs.Prelude.{slice_index_or}
use Rattle.aa_glob_nfa.specs.declared.entry.Entry.TheVariants.{Free}

same_entry : (g h : Graph) (r : ℕ) → SameGraph g h → entry_of h r ≡ entry_of g r
same_entry g h r same = ap (λ l. slice_index_or l r Free) (sym same.entries)

reached_also : (g h : Graph) (past : List ℕ) (r : ℕ) → SameGraph g h → Reaches g past r → Reaches h past r
reached_also g h _ _ same begins = begins
reached_also g h past r same (comes {q = q} at leads free) =
    comes (reached_also g h past q same at) ((same.ways q r).0 leads) (ap is_free (same_entry g h r same) ∙ free)
reached_also g h _ r same (takes {past = past} {q = q} {c = c} at leads taken) =
    takes (reached_also g h past q same at) ((same.ways q r).0 leads) (ap (λ entry. takes_byte entry c) (same_entry g h r same) ∙ taken)
reached_also g h _ r same (stays {past = past} {c = c} at stay) =
    stays (reached_also g h past r same at) (ap (λ entry. stays_at entry c) (same_entry g h r same) ∙ stay)

turned : (g h : Graph) → SameGraph g h → SameGraph h g
turned g h same = record {
  entries = sym same.entries;
  ways = λ q r. ((same.ways q r).1, (same.ways q r).0);
  ends = λ r p. ((same.ends r p).1, (same.ends r p).0);
}

pub same_runs : (g h : Graph) → SameGraph g h → SameRuns g h
same_runs g h same = λ past r. (reached_also g h past r same, reached_also h g past r (turned g h same))
