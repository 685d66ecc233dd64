-- Parts in a row, one by one.
use Rattle.std.proofs.Common.{◌≡◌, ℕ, zero, suc, ◌<◌, List, [], ◌∷◌, ◌++◌, length, Ok, Err, refl, sym, arith}
use Rattle.std.proofs.lemmas.List.{length-map}
use Rattle.aa_text_tokens.specs.Splicing.{Placed}
use Rattle.aa_text_tokens.specs.SeenSplicedTokens.{seen_spliced}
use Rattle.aa_text_tokens.specs.declared.spliced_token.Spliced.{Spliced}
use Rattle.aa_profile_parsing.specs.Parts.{Part}
use Rattle.aa_profile_parsing.specs.SeenTokens.{seen_tokens}
use Rattle.aa_profile_parsing.specs.declared.fault.Fault.{Fault}
use Rattle.aa_profile_grammar.specs.Sequences.{row, rows}
use Rattle.aa_profile_grammar.specs.declared.sequence.Next.{Next}
use Rattle.aa_profile_grammar.specs.declared.sequence.Next.TheVariants.{Item, Nothing, End}

-- What comes of a row is known by what was read of it and the rest, which has fewer tokens than there may still be parts.
abbrev pub IsSoFar : {A : Type 0} → (List A → List Placed → Part (Next A)) → List A → List Spliced → List Spliced → Type 0
IsSoFar next read rest tokens = (most : ℕ) × (length rest < most) × (row next most read (seen_tokens rest) ≡ rows next (seen_tokens tokens))

pub so_far-start : {A : Type 0} (next : List A → List Placed → Part (Next A)) (tokens : List Spliced) → IsSoFar next [] tokens tokens
so_far-start next tokens = let size : length (seen_tokens tokens) ≡ length tokens = length-map tokens seen_spliced in (suc (length (seen_tokens tokens)), omega arith, refl)

pub so_far-item : {A : Type 0} (next : List A → List Placed → Part (Next A)) (read : List A) (rest tokens more : List Spliced) (item : A)
    → IsSoFar next read rest tokens → next read (seen_tokens rest) ≡ Ok (Item item, seen_tokens more) → length more < length rest
    → IsSoFar next (read ++ item ∷ []) more tokens
so_far-item next read rest tokens more item (zero, few, all) found shorter = absurd (omega arith)
so_far-item next read rest tokens more item (suc most, few, all) found shorter = (most, omega arith, rw (row, found) at all)

pub so_far-nothing : {A : Type 0} (next : List A → List Placed → Part (Next A)) (read : List A) (rest tokens more : List Spliced)
    → IsSoFar next read rest tokens → next read (seen_tokens rest) ≡ Ok (Nothing, seen_tokens more) → length more < length rest → IsSoFar next read more tokens
so_far-nothing next read rest tokens more (zero, few, all) found shorter = absurd (omega arith)
so_far-nothing next read rest tokens more (suc most, few, all) found shorter = (most, omega arith, rw (row, found) at all)

pub so_far-end : {A : Type 0} (next : List A → List Placed → Part (Next A)) (read : List A) (rest tokens : List Spliced) (more : List Placed)
    → IsSoFar next read rest tokens → next read (seen_tokens rest) ≡ Ok (End, more) → rows next (seen_tokens tokens) ≡ Ok (read, more)
so_far-end next read rest tokens more (zero, few, all) found = absurd (omega arith)
so_far-end next read rest tokens more (suc most, few, all) found = sym (rw (row, found) at all)

pub so_far-fault : {A : Type 0} (next : List A → List Placed → Part (Next A)) (read : List A) (rest tokens : List Spliced) (fault : Fault)
    → IsSoFar next read rest tokens → next read (seen_tokens rest) ≡ Err fault → rows next (seen_tokens tokens) ≡ Err fault
so_far-fault next read rest tokens fault (zero, few, all) found = absurd (omega arith)
so_far-fault next read rest tokens fault (suc most, few, all) found = sym (rw (row, found) at all)
