-- Which texts read a trail: those of which the beginning of the pattern can be read. A text is written with its last byte first.
use Rattle.std.specs.Prelude.{ℕ, Bool, true, false, ◌==◌, ◌||◌, ◌&&◌, not, List, [], ◌∷◌}
use Rattle.aa_bytes.specs.ByteSets.{has, is_inside}
use Rattle.aa_glob_syntax.specs.Elements.{Element, Single, Open, Comma, Close, Fault}
use Rattle.aa_glob_syntax.specs.Items.{Item, Byte, Set, Star, DoubleStar, Group, Pattern, End, Next, Patterns, NoMore, More}
use Rattle.aa_glob_syntax.specs.OpenGroups.{leading_to, open_behind, OpenGroup, with_end}
use Rattle.aa_glob_pattern.specs.Trails.{Trail}

-- a test of texts, each with its last byte first
abbrev pub Texts : Type 0
Texts = List ℕ → Bool

-- the empty text alone
abbrev pub empty_text : Texts
empty_text [] = true
empty_text (b ∷ past) = false

-- no text
abbrev pub no_text : Texts
no_text past = false

-- the texts of either test
abbrev pub either : Texts → Texts → Texts
either first second past = first past || second past

-- a text followed by one byte that passes a test
abbrev pub one_behind : (ℕ → Bool) → Texts → Texts
one_behind test before [] = false
one_behind test before (c ∷ past) = test c && before past

-- a text followed by any number of bytes that pass a test
abbrev pub run_behind : (ℕ → Bool) → Texts → Texts
run_behind test before [] = before []
run_behind test before (c ∷ past) = before (c ∷ past) || test c && run_behind test before past

abbrev mutual
  -- a text followed by one that an item matches
  pub item_behind : Item → Texts → Texts
  item_behind (Byte b) before = one_behind (λ c. c == b) before
  item_behind (Set set) before = one_behind (has set) before
  item_behind Star before = run_behind is_inside before
  item_behind DoubleStar before = run_behind (λ c. not (c == 0)) before
  item_behind (Group first second others) before = either (pattern_behind first before) (either (pattern_behind second before) (patterns_behind others before))

  -- a text followed by one that a pattern matches
  pub pattern_behind : Pattern → Texts → Texts
  pattern_behind End before = before
  pattern_behind (Next item items) before = pattern_behind items (item_behind item before)

  -- a text followed by one that one of the patterns matches
  pub patterns_behind : Patterns → Texts → Texts
  patterns_behind NoMore before = no_text
  patterns_behind (More pattern patterns) before = either (pattern_behind pattern before) (patterns_behind patterns before)

-- the texts that read an element, after those that read one of the beginnings that lead to it
abbrev pub element_behind : Element → Texts → Texts
element_behind (Single item) before = item_behind item before
element_behind Open before = before
element_behind Comma before = before
element_behind Close before = before
element_behind (Fault error) before = no_text

-- what is known of an open group: which texts read the beginning of its alternatives, and which read the ends of those so far
abbrev pub KnownGroup : Type 0
KnownGroup = OpenGroup Texts Texts

-- what is known after a trail: which texts read it, and the groups that are open, the innermost first
pub record Known : Type 0 where
  pub here : Texts
  pub groups : List KnownGroup

-- the groups after an element: what reads the trail before a brace reads it after the brace too
abbrev pub known_groups : Element → Texts → List KnownGroup → List KnownGroup
known_groups e here gs = open_behind (record { beginning = here; ends = no_text }) (with_end (either here)) e gs

-- The texts that lead to an element: to a comma those that lead to its group's alternatives, to a closing brace those that read one of these to its
-- end, to any other element those that read what comes before it.
abbrev pub leading : Element → Texts → List KnownGroup → Texts
leading e here gs = leading_to (λ texts. texts) either e here gs

-- what is known when one more element is read
abbrev pub known_behind : Element → Known → Known
known_behind e k = record { here = element_behind e (leading e k.here k.groups); groups = known_groups e k.here k.groups }

-- what is known after a trail: the empty one is read by the empty text alone
abbrev pub known : Trail → Known
known [] = record { here = empty_text; groups = [] }
known (e ∷ trail) = known_behind e (known trail)

-- this text, which is written with its last byte first, reads the beginning
abbrev pub reads : Trail → List ℕ → Bool
reads trail past = (known trail).here past

-- this text reads one of the beginnings
abbrev pub some_reads : List Trail → List ℕ → Bool
some_reads [] past = false
some_reads (trail ∷ trails) past = reads trail past || some_reads trails past
