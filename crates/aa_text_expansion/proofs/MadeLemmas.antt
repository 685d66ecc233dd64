-- Lists of texts that are made of earlier ones.
use Rattle.std.proofs.Common.{◌≡◌, ℕ, zero, suc, ◌+◌, ◌*◌, ◌<◌, ◌≤◌, Bool, true, ◌&&◌, inl, inr, List, [], ◌∷◌, ◌++◌, map, length, length-append, take, arith, refl, sym, ap, subst, ◌∙◌}
use Rattle.std.specs.Prelude.{None, Some, slice_get}
use Rattle.std.proofs.lemmas.List.{get_or_past, length-map, take-append-le}
use Rattle.std.proofs.lemmas.Bool.{and_parts}
use Rattle.std.proofs.lemmas.Option.{slice_get_cases, slice_get_within}
use Rattle.aa_text_expansion.specs.Joining.{cut_off, joined, most_kept}
use Rattle.aa_text_expansion.specs.Lists.{IsMade, list_at}
use Rattle.aa_text_expansion.specs.code.Made.{AreAtLeast, AreRight, AreRightBehind, IsJoined, IsMadeBefore, IsRight, Listed, grown, is_empty_text, is_nothing, listed, listed_at, lists_of, made, of_node}
use Rattle.aa_text_expansion.specs.declared.lists.Made.{Made}
use Rattle.aa_text_expansion.specs.declared.lists.Made.TheVariants.{Nothing, Text, Joined, Both}
use Rattle.aa_text_expansion.specs.declared.lists.Node.{Node}
use Rattle.aa_text_expansion.proofs.JoiningLemmas.{joined-nil, joined-start}
use Rattle.aa_text_expansion.proofs.GrownLemmas.{grown-append, grown-at, grown-first, grown-front, grown-length, grown-seam}

-- the texts of a list, by its number
pub list-listed : (lists : List Listed) (number : ℕ) → list_at (map (λ list. list.texts) lists) number ≡ (listed_at lists number).texts
list-listed [] number = refl
list-listed (list ∷ lists) zero = refl
list-listed (list ∷ lists) (suc number) = list-listed lists number

-- a list that is made of lower ones is so among more
pub made-more : (before after : List Listed) (list : Made) → ((number : ℕ) → number < length before → listed_at after number ≡ listed_at before number)
    → IsMadeBefore (length before) list → made after list ≡ made before list
made-more before after Nothing same lower = refl
made-more before after (Text bytes) same lower = refl
made-more before after (Joined first second) same lower = rw (same first lower.0, same second lower.1) refl
made-more before after (Both first second) same lower = rw (same first lower.0, same second lower.1) refl

-- what is known of one of the nodes
pub right-at : (before : List Listed) (nodes : List Node) (number : ℕ) (node : Node) → AreRightBehind before nodes → slice_get nodes number ≡ Some node
    → IsRight (grown of_node before (take number nodes)) node
right-at before [] number node right there = absurd (cc)
right-at before (first ∷ nodes) zero node right there = let same : first ≡ node = cc in subst (IsRight before) same right.0
right-at before (first ∷ nodes) (suc number) node right there = right-at (before ++ of_node before first ∷ []) nodes number node right.1 there

-- one more node
pub right-pushed : (before : List Listed) (nodes : List Node) (node : Node) → AreRightBehind before nodes → IsRight (grown of_node before nodes) node → AreRightBehind before (nodes ++ node ∷ [])
right-pushed before [] node right more = (more, tt)
right-pushed before (first ∷ nodes) node right more = (right.0, right-pushed (before ++ of_node before first ∷ []) nodes node right.1 more)

-- as many lists as nodes
pub listed-length : (nodes : List Node) → length (listed nodes) ≡ length nodes
listed-length nodes = grown-length of_node [] nodes ∙ omega arith

pub lists-length : (nodes : List Node) → length (lists_of nodes) ≡ length nodes
lists-length nodes = length-map (listed nodes) (λ list. list.texts) ∙ listed-length nodes

-- the first lists stay
first-same : (nodes : List Node) (size number : ℕ) → number < length (listed (take size nodes)) → listed_at (listed nodes) number ≡ listed_at (listed (take size nodes)) number
first-same nodes size number within = grown-first of_node [] nodes size number (record { texts = []; steps = 1 }) within

module _ (nodes : List Node) (right : AreRight nodes) (number : ℕ) (node : Node) (there : slice_get nodes number ≡ Some node) where
  known : IsRight (listed (take number nodes)) node
  known = right-at [] nodes number node right there

  -- its list, as it was made
  here : listed_at (listed nodes) number ≡ made (listed (take number nodes)) node.made
  here =
      let same : number ≡ 0 + number = omega arith in
      ap (listed_at (listed nodes)) same ∙ grown-at of_node [] nodes number node (record { texts = []; steps = 1 }) there

  -- by the lists of all nodes
  pub node-listed : listed_at (listed nodes) number ≡ made (listed nodes) node.made
  node-listed = here ∙ sym (made-more (listed (take number nodes)) (listed nodes) node.made (first-same nodes number) known.earlier)

  -- where it says so, it is one text
  pub node-single : node.single ≡ true → length (listed_at (listed nodes) number).texts ≡ 1
  node-single h = ap (λ list. length list.texts) here ∙ known.single h

  -- each has as many bytes as it says
  pub node-least : AreAtLeast node.least (listed_at (listed nodes) number).texts
  node-least = subst (λ list. AreAtLeast node.least list.texts) (sym here) known.least

-- one more list
pub made-pushed : (nodes : List Node) (node : Node) → IsMade (lists_of nodes) (length nodes) (of_node (listed nodes) node).texts (lists_of (nodes ++ node ∷ []))
made-pushed nodes node = record {
  kept = record {
    as_many = rw (length-map (listed nodes) (λ list. list.texts), length-map (listed (nodes ++ node ∷ [])) (λ list. list.texts), listed-length nodes, listed-length (nodes ++ node ∷ []), length-append nodes (node ∷ [])) (omega arith);
    same = λ number within.
        let lower : number < length (listed nodes) = rw (length-map (listed nodes) (λ list. list.texts)) at within in
        list-listed (listed (nodes ++ node ∷ [])) number
        ∙ ap (λ all. (listed_at all number).texts) grows
        ∙ ap (λ list. list.texts) (grown-front of_node (listed nodes) (node ∷ []) number (record { texts = []; steps = 1 }) lower)
        ∙ sym (list-listed (listed nodes) number);
  };
  within = rw (length-map (listed (nodes ++ node ∷ [])) (λ list. list.texts), listed-length (nodes ++ node ∷ []), length-append nodes (node ∷ [])) (omega arith);
  value = ap cut_off (
      list-listed (listed (nodes ++ node ∷ [])) (length nodes) ∙ ap (λ n. (listed_at (listed (nodes ++ node ∷ [])) n).texts) (sym (listed-length nodes))
      ∙ ap (λ all. (listed_at all (length (listed nodes))).texts) grows ∙ ap (λ list. list.texts) (grown-seam of_node (listed nodes) node [] (record { texts = []; steps = 1 }))
      );
}
  where
    grows : listed (nodes ++ node ∷ []) ≡ grown of_node (listed nodes) (node ∷ [])
    grows = grown-append of_node [] nodes (node ∷ [])

-- no list has a number that no node has
pub none-listed : (nodes : List Node) (number : ℕ) → length nodes ≤ number → listed_at (listed nodes) number ≡ record { texts = []; steps = 1 }
none-listed nodes number past = get_or_past (listed nodes) number (record { texts = []; steps = 1 }) (rw (listed-length nodes) past)

-- a node that is the empty text
pub empty-made : (before : List Listed) (list : Made) → is_empty_text list ≡ true → (made before list).texts ≡ [] ∷ []
empty-made before Nothing h = absurd (cc)
empty-made before (Text []) h = refl
empty-made before (Text (b ∷ bs)) h = absurd (cc)
empty-made before (Joined first second) h = absurd (cc)
empty-made before (Both first second) h = absurd (cc)

-- as many texts as come of joining
pub joined-length : (texts ends : List (List ℕ)) → length (joined texts ends) ≡ length texts * length ends
joined-length [] ends = omega arith
joined-length (text ∷ texts) ends =
    rw (length-append (map (λ end. text ++ end) ends) (joined texts ends), length-map ends (λ end. text ++ end), joined-length texts ends) (omega arith)

-- bytes of each
pub least-append : (least : ℕ) (texts more : List (List ℕ)) → AreAtLeast least texts → AreAtLeast least more → AreAtLeast least (texts ++ more)
least-append least [] more all others = others
least-append least (text ∷ texts) more all others = (all.0, least-append least texts more all.1 others)

pub least-less : (least fewer : ℕ) (texts : List (List ℕ)) → fewer ≤ least → AreAtLeast least texts → AreAtLeast fewer texts
least-less least fewer [] h all = tt
least-less least fewer (text ∷ texts) h all = let here = all.0 in (omega arith, least-less least fewer texts h all.1)

least-ends : (text : List ℕ) (first second : ℕ) (ends : List (List ℕ)) → first ≤ length text → AreAtLeast second ends → AreAtLeast (first + second) (map (λ end. text ++ end) ends)
least-ends text first second [] h all = tt
least-ends text first second (end ∷ ends) h all = let here = all.0 in (rw (length-append text end) (omega arith), least-ends text first second ends h all.1)

pub least-joined : (first second : ℕ) (texts ends : List (List ℕ)) → AreAtLeast first texts → AreAtLeast second ends → AreAtLeast (first + second) (joined texts ends)
least-joined first second [] ends all others = tt
least-joined first second (text ∷ texts) ends all others =
    least-append (first + second) (map (λ end. text ++ end) ends) (joined texts ends) (least-ends text first second ends all.0 others) (least-joined first second texts ends all.1 others)

-- one text behind texts that are full
pub full-joined : (texts ends : List (List ℕ)) → AreAtLeast most_kept texts → length ends ≡ 1 → cut_off (joined texts ends) ≡ cut_off texts
full-joined [] ends all one = refl
full-joined (text ∷ texts) [] all one = absurd (omega arith)
full-joined (text ∷ texts) (end ∷ []) all one = rw (take-append-le most_kept text end all.0, full-joined texts (end ∷ []) all.1 one) refl
full-joined (text ∷ texts) (end ∷ other ∷ ends) all one = absurd (omega arith)

-- each takes a step
pub some-steps : (before : List Listed) (list : Made) → 1 ≤ (made before list).steps
some-steps before Nothing = omega arith
some-steps before (Text bytes) = omega arith
some-steps before (Joined first second) = omega arith
some-steps before (Both first second) = omega arith

-- no list where there is no node
pub none-at : (nodes : List Node) (number : ℕ) → slice_get nodes number ≡ None → listed_at (listed nodes) number ≡ record { texts = []; steps = 1 }
none-at nodes number none = elim (slice_get_cases nodes number).1 [
  | inl found ↦ absurd (cc)
  | inr past ↦ none-listed nodes number past.0
]

-- by the texts of the lists
pub no-texts-at : (nodes : List Node) (number : ℕ) → slice_get nodes number ≡ None → list_at (lists_of nodes) number ≡ []
no-texts-at nodes number none = list-listed (listed nodes) number ∙ ap (λ list. list.texts) (none-at nodes number none)

-- lists that are joined, of which one is there already
module _ (nodes : List Node) (right : AreRight nodes) (first second : ℕ) (a b : Node) (one : slice_get nodes first ≡ Some a) (other : slice_get nodes second ≡ Some b) where
  empty-at : (number : ℕ) (node : Node) → slice_get nodes number ≡ Some node → is_empty_text node.made ≡ true → list_at (lists_of nodes) number ≡ [] ∷ []
  empty-at number node there empty =
      list-listed (listed nodes) number ∙ ap (λ list. list.texts) (node-listed nodes right number node there) ∙ empty-made (listed nodes) node.made empty

  -- behind the empty text
  pub already-second : is_empty_text a.made ≡ true → IsJoined (lists_of nodes) first second second
  already-second empty = record {
    within = rw (lists-length nodes) (slice_get_within nodes second b other);
    value = ap cut_off (sym (ap (λ texts. joined texts (list_at (lists_of nodes) second)) (empty-at first a one empty) ∙ joined-start (list_at (lists_of nodes) second)));
  }

  -- before the empty text
  pub already-first : is_empty_text b.made ≡ true → IsJoined (lists_of nodes) first second first
  already-first empty = record {
    within = rw (lists-length nodes) (slice_get_within nodes first a one);
    value = ap cut_off (sym (ap (joined (list_at (lists_of nodes) first)) (empty-at second b other empty) ∙ joined-nil (list_at (lists_of nodes) first)));
  }

  -- before a text of which nothing is kept
  pub already-full : most_kept ≤ a.least → b.single ≡ true → IsJoined (lists_of nodes) first second first
  already-full full single = record {
    within = rw (lists-length nodes) (slice_get_within nodes first a one);
    value = rw (list-listed (listed nodes) first, list-listed (listed nodes) second) (sym (full-joined (listed_at (listed nodes) first).texts (listed_at (listed nodes) second).texts
        (least-less a.least most_kept (listed_at (listed nodes) first).texts full (node-least nodes right first a one)) (node-single nodes right second b other single)));
  }

  -- what is known of two lists that are joined
  pub joined-right : (single : Bool) (least : ℕ) → single ≡ (a.single && b.single) → least ≤ a.least + b.least → IsRight (listed nodes) (record { made = Joined first second; single = single; least = least })
  joined-right single least both most = record {
    earlier = rw (listed-length nodes) (slice_get_within nodes first a one, slice_get_within nodes second b other);
    single = λ h.
        let parts = and_parts a.single b.single (sym both ∙ h) in
        joined-length (listed_at (listed nodes) first).texts (listed_at (listed nodes) second).texts
        ∙ rw (node-single nodes right first a one parts.0, node-single nodes right second b other parts.1) refl;
    least = least-less (a.least + b.least) least _ most
        (least-joined a.least b.least (listed_at (listed nodes) first).texts (listed_at (listed nodes) second).texts (node-least nodes right first a one) (node-least nodes right second b other));
  }

-- a node that is no text
pub nothing-at : (nodes : List Node) → AreRight nodes → (number : ℕ) (node : Node) → slice_get nodes number ≡ Some node → is_nothing node.made ≡ true → list_at (lists_of nodes) number ≡ []
nothing-at nodes right number node there none =
    list-listed (listed nodes) number ∙ ap (λ list. list.texts) (node-listed nodes right number node there) ∙ empty node.made none
  where
    empty : (list : Made) → is_nothing list ≡ true → (made (listed nodes) list).texts ≡ []
    empty Nothing h = refl
    empty (Text bytes) h = absurd (cc)
    empty (Joined first second) h = absurd (cc)
    empty (Both first second) h = absurd (cc)
