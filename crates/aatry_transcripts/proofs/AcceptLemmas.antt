-- What becomes of lines whose replies are accepted, one after the other.
use Rattle.std.proofs.Common.{◌≡◌, ◌∙◌, ◌≤◌, ℕ, Bool, true, false, List, [], ◌∷◌, ◌++◌, ap, append_assoc, drop, length, map, refl, sym, take}
use Rattle.std.specs.List.{drop-map}
use Rattle.std.specs.Str.Lines.{strip_carriage_return}
use Rattle.std.proofs.lemmas.Grind.{flat_map-append}
use Rattle.std.proofs.lemmas.List.{length-take-le}
use Rattle.aatry_transcripts.specs.Accepting.{accepted_from, accepted_line, ended, is_answered, shortened, stay_behind, told_to, wanted_behind}
use Rattle.aatry_transcripts.specs.Meeting.{left_out}

-- what becomes of the lines from one on is what becomes of it, and of the lines behind it
from-step : (stays : Bool) (raw : List ℕ) (behind told : List (List ℕ)) (size : ℕ) → size ≤ length told → take size told ≡ told_to raw behind told
    → accepted_from stays (raw ∷ behind) told
    ≡ accepted_line stays raw (wanted_behind behind) (take size told) ++ accepted_from (stay_behind stays raw (wanted_behind behind) (take size told)) behind (drop size told)
from-step stays raw behind told size within is =
    ap (λ own. accepted_line stays raw (wanted_behind behind) own ++ accepted_from (stay_behind stays raw (wanted_behind behind) own) behind (drop (length own) told)) (sym is)
    ∙ ap (λ n. accepted_line stays raw (wanted_behind behind) (take size told)
    ++ accepted_from (stay_behind stays raw (wanted_behind behind) (take size told)) behind (drop n told)) (length-take-le size told within)

-- what is written so far, with what is written from a line on, is all: so it is with what is written of this line
pub accepted-step : (stays next : Bool) (raw : List ℕ) (behind told : List (List ℕ)) (size : ℕ) (before after whole : List ℕ)
    → size ≤ length told → take size told ≡ told_to raw behind told
    → next ≡ stay_behind stays raw (wanted_behind behind) (take size told)
    → after ≡ before ++ ended (accepted_line stays raw (wanted_behind behind) (take size told))
    → before ++ ended (accepted_from stays (raw ∷ behind) told) ≡ whole
    → after ++ ended (accepted_from next behind (drop size told)) ≡ whole
accepted-step stays next raw behind told size before after whole within is follows put all =
    let own = accepted_line stays raw (wanted_behind behind) (take size told) in
    let left = accepted_from next behind (drop size told) in
    ap (λ t. t ++ ended left) put
    ∙ append_assoc before (ended own) (ended left)
    ∙ ap (λ t. before ++ t) (sym (flat_map-append _ own left))
    ∙ ap (λ n. before ++ ended (own ++ accepted_from n behind (drop size told))) follows
    ∙ ap (λ ls. before ++ ended ls) (sym (from-step stays raw behind told size within is)) ∙ all

-- lines without their carriage returns, from one on
pub lined : {X Y : Type 0} (f : X → List ℕ) (g : Y → List ℕ) (lines : List X) (raw : List Y) (n : ℕ) → map f lines ≡ map strip_carriage_return (map g raw)
    → map f (drop n lines) ≡ map strip_carriage_return (map g (drop n raw))
lined f g lines raw n is =
    sym (drop-map f n lines) ∙ ap (drop n) is ∙ drop-map strip_carriage_return n (map g raw) ∙ ap (map strip_carriage_return) (drop-map g n raw)

pub first_is : (line whole : List ℕ) (rest after lines raw : List (List ℕ)) → lines ≡ line ∷ rest → raw ≡ whole ∷ after → lines ≡ map strip_carriage_return raw
    → line ≡ strip_carriage_return whole
first_is line whole rest after lines raw first second is =
    let both : line ∷ rest ≡ strip_carriage_return whole ∷ map strip_carriage_return after = sym first ∙ is ∙ ap (map strip_carriage_return) second in cc

-- an answer whose audit line is left out
pub answered-first : (line : List ℕ) (behind : List (List ℕ)) → is_answered (line ∷ behind) ≡ true → shortened (line ∷ behind) ≡ (line ++ left_out) ∷ shortened (drop 1 behind)
answered-first line [] is = cc
answered-first line (next ∷ behind) is = rw is refl

-- and a line with none
pub plain-first : (line : List ℕ) (behind : List (List ℕ)) → is_answered (line ∷ behind) ≡ false → shortened (line ∷ behind) ≡ line ∷ shortened behind
plain-first line [] is = refl
plain-first line (next ∷ behind) is = rw is refl
