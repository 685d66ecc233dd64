-- How lists of texts are made of earlier ones, and how many steps it takes to write them out.
use Rattle.std.specs.Prelude.{ℕ, suc, ◌+◌, ◌*◌, ◌≡◌, ◌<◌, ◌≤◌, Bool, true, false, List, [], ◌∷◌, ◌++◌, length, map, slice_index_or}
use Rattle.std.specs.List.{AllByRecursion}
use Rattle.aa_bytes.specs.Texts.{is_empty}
use Rattle.aa_text_expansion.specs.Joining.{cut_off, joined}
use Rattle.aa_text_expansion.specs.Lists.{list_at}
use Rattle.aa_text_expansion.specs.declared.lists.Made.{Made}
use Rattle.aa_text_expansion.specs.declared.lists.Made.TheVariants.{Nothing, Text, Joined, Both}
use Rattle.aa_text_expansion.specs.declared.lists.Node.{Node}

-- the texts of a list, and how many steps it takes to write them out
pub record Listed : Type 0 where
  pub texts : List (List ℕ)
  pub steps : ℕ

-- no texts
abbrev pub no_texts : Listed
no_texts = record { texts = []; steps = 1 }

-- the list of a number
abbrev pub listed_at : List Listed → ℕ → Listed
listed_at lists number = slice_index_or lists number no_texts

-- each text of a list followed by each of another: the second list is gone over once for each text of the first
abbrev pub with_ends : Listed → Listed → Listed
with_ends first second = record {
  texts = joined first.texts second.texts;
  steps = first.steps + length first.texts * second.steps;
}

-- the texts of a list and those of another
abbrev pub with_more : Listed → Listed → Listed
with_more first second = record {
  texts = first.texts ++ second.texts;
  steps = first.steps + second.steps;
}

-- the list, with one more step
abbrev pub one_step_more : Listed → Listed
one_step_more list = record { texts = list.texts; steps = suc list.steps }

-- a list by how it is made of those before it
abbrev pub made : List Listed → Made → Listed
made before Nothing = no_texts
made before (Text bytes) = record { texts = bytes ∷ []; steps = 1 }
made before (Joined first second) = one_step_more (with_ends (listed_at before first) (listed_at before second))
made before (Both first second) = one_step_more (with_more (listed_at before first) (listed_at before second))

-- Lists that grow by one for each of some things, each by those before it.
abbrev pub grown : {A B : Type 0} → (List A → B → A) → List A → List B → List A
grown next before [] = before
grown next before (thing ∷ things) = grown next (before ++ next before thing ∷ []) things

-- the list of a node
abbrev pub of_node : List Listed → Node → Listed
of_node before node = made before node.made

-- the lists of nodes
abbrev pub listed : List Node → List Listed
listed nodes = grown of_node [] nodes

-- the texts of each list
abbrev pub lists_of : List Node → List (List (List ℕ))
lists_of nodes = map (λ list. list.texts) (listed nodes)

-- a list is made of lists with lower numbers than this
abbrev pub IsMadeBefore : ℕ → Made → Type 0
IsMadeBefore number Nothing = Unit {0}
IsMadeBefore number (Text bytes) = Unit {0}
IsMadeBefore number (Joined first second) = (first < number) × (second < number)
IsMadeBefore number (Both first second) = (first < number) × (second < number)

-- each text has at least so many bytes
abbrev pub AreAtLeast : ℕ → List (List ℕ) → Type 0
AreAtLeast least texts = AllByRecursion (λ text. least ≤ length text) texts

-- What a node says of its list holds: that it is one text, and how many bytes each has at least.
pub record IsRight (before : List Listed) (node : Node) : Type 0 where
  pub earlier : IsMadeBefore (length before) node.made
  pub single : node.single ≡ true → length (made before node.made).texts ≡ 1
  pub least : AreAtLeast node.least (made before node.made).texts

-- each of some nodes, after others, is right
abbrev pub AreRightBehind : List Listed → List Node → Type 0
AreRightBehind before [] = Unit {0}
AreRightBehind before (node ∷ nodes) = IsRight before node × AreRightBehind (before ++ of_node before node ∷ []) nodes

abbrev pub AreRight : List Node → Type 0
AreRight nodes = AreRightBehind [] nodes

-- a list is made as the empty text
abbrev pub is_empty_text : Made → Bool
is_empty_text (Text bytes) = is_empty bytes
is_empty_text _ = false

-- a list has the texts that two others have when they are joined
pub record IsJoined (lists : List (List (List ℕ))) (first second number : ℕ) : Type 0 where
  pub within : number < length lists
  pub value : cut_off (list_at lists number) ≡ cut_off (joined (list_at lists first) (list_at lists second))

-- a list is made as no text
abbrev pub is_nothing : Made → Bool
is_nothing Nothing = true
is_nothing _ = false
