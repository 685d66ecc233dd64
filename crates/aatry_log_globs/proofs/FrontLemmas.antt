-- What stands at the beginning of paths: its texts, and its bytes.
use Rattle.std.proofs.Common.{◌≡◌, ℕ, ◌+◌, ◌-◌, ◌≤◌, Bool, true, false, ◌==◌, List, [], ◌∷◌, ◌++◌, codes, drop, length, take, refl, sym, ap, subst, ◌∙◌, arith, inl, inr, if◌then◌else◌, append_assoc, length-append, length-take, length-drop}
use Rattle.std.proofs.lemmas.Bool.{cases_Bool, false≢true}
use Rattle.std.proofs.lemmas.List.{drop-drop, take-append-drop}
use Rattle.std.proofs.lemmas.Slice.Eq.{bytes_eq-Decides}
use Rattle.std.proofs.Math.Seq.{take-append_seam}
use Rattle.aa_bytes.specs.Bytes.{is_digit}
use Rattle.aa_bytes.specs.Texts.{begins_with}
use Rattle.aatry_log_globs.specs.Variables.{bytes_of, front_parts, home_size, process_parts, process_size, size_behind, size_before_slash, task_parts, task_size, texts_of}

-- what a pattern has for the folder of a process
pub process-texts : (path : List ℕ) (n : ℕ) → n ≡ process_size path → (n == 0) ≡ false → texts_of (process_parts path) ≡ codes "@{PROC}/@{pid}" ++ texts_of (task_parts (drop (6 + n) path))
process-texts path n same some =
    let some' : (process_size path == 0) ≡ false = ap (λ k. k == 0) (sym same) ∙ some in
    rw some' (ap (λ k. codes "@{PROC}/@{pid}" ++ texts_of (task_parts (drop (6 + k) path))) (sym same))

-- how many bytes of the path that stands for
pub process-bytes : (path : List ℕ) (n : ℕ) → n ≡ process_size path → (n == 0) ≡ false → n ≤ length path - 6 → length (bytes_of (process_parts path)) ≡ 6 + n + length (bytes_of (task_parts (drop (6 + n) path)))
process-bytes path n same some within =
    let some' : (process_size path == 0) ≡ false = ap (λ k. k == 0) (sym same) ∙ some in
    let rest = bytes_of (task_parts (drop (6 + n) path)) in
    let first : bytes_of (process_parts path) ≡ codes "/proc/" ++ take n (drop 6 path) ++ rest =
    rw some' (ap (λ k. codes "/proc/" ++ take k (drop 6 path) ++ bytes_of (task_parts (drop (6 + k) path))) (sym same)) in
    let taken : length (take n (drop 6 path)) ≡ n = grind (arith, length-take, length-drop) in
    ap length first ∙ length-append (codes "/proc/") (take n (drop 6 path) ++ rest)
    ∙ ap (λ k. 6 + k) (length-append (take n (drop 6 path)) rest ∙ ap (λ k. k + length rest) taken) ∙ omega arith

-- what a test of beginnings says
begins-with : (front text : List ℕ) → begins_with front text ≡ true → take (length front) text ≡ front
begins-with front text holds = (bytes_eq-Decides (take (length front) text) front).0 holds

-- The bytes of parts are what the path begins with.
abbrev Begins : List ℕ → List ℕ → Type 0
Begins front path = (rest : List ℕ) × (path ≡ front ++ rest)

begins-behind : (text : List ℕ) (size : ℕ) (front : List ℕ) → Begins front (drop size text) → Begins (take size text ++ front) text
begins-behind text size front begins =
    (begins.0, sym (take-append-drop size text) ∙ ap (λ rest. take size text ++ rest) begins.1 ∙ sym (append_assoc (take size text) front begins.0))

-- behind a front of six bytes, and a number or a name
size-some : (front : List ℕ) (kind : ℕ → Bool) (text : List ℕ) → (size_behind front kind text == 0) ≡ false → begins_with front text ≡ true
size-some front kind text some = elim (cases_Bool (begins_with front text)) [
  | inl begins ↦ begins
  | inr other ↦ absurd (false≢true (sym some ∙ ap (λ t. (if t then size_before_slash kind (drop 6 text) else 0) == 0) other))
]

begins-folder : (front : List ℕ) (kind : ℕ → Bool) (text : List ℕ) (behind : List ℕ) → length front ≡ 6 → (size_behind front kind text == 0) ≡ false
    → Begins behind (drop (size_behind front kind text) (drop 6 text)) → Begins (front ++ (take (size_behind front kind text) (drop 6 text) ++ behind)) text
begins-folder front kind text behind six some begins =
    let size = size_behind front kind text in
    let first : take 6 text ≡ front = ap (λ n. take n text) (sym six) ∙ begins-with front text (size-some front kind text some) in
    subst (λ f. Begins (f ++ (take size (drop 6 text) ++ behind)) text) first (begins-behind text 6 (take size (drop 6 text) ++ behind) (begins-behind (drop 6 text) size behind begins))

begins-task : (text : List ℕ) → Begins (bytes_of (task_parts text)) text
begins-task text = elim (cases_Bool (task_size text == 0)) [
  | inl none ↦ rw none (text, refl)
  | inr some ↦ rw some (begins-folder (codes "/task/") is_digit text [] refl some (drop (task_size text) (drop 6 text), refl))
]

begins-process : (path : List ℕ) → Begins (bytes_of (process_parts path)) path
begins-process path = elim (cases_Bool (process_size path == 0)) [
  | inl none ↦ rw none (path, refl)
  | inr some ↦
      let task : Begins (bytes_of (task_parts (drop (6 + process_size path) path))) (drop (process_size path) (drop 6 path)) =
      subst (λ rest. Begins (bytes_of (task_parts (drop (6 + process_size path) path))) rest) (sym (drop-drop (process_size path) 6 path)) (begins-task (drop (6 + process_size path) path)) in
      rw some (begins-folder (codes "/proc/") is_digit path (bytes_of (task_parts (drop (6 + process_size path) path))) refl some task)
]

begins-home : (path : List ℕ) → Begins (take (home_size path) path ++ []) path
begins-home path = begins-behind path (home_size path) [] (drop (home_size path) path, refl)

begins-front : (path : List ℕ) → Begins (bytes_of (front_parts path)) path
begins-front path = elim (cases_Bool (home_size path == 0)) [
  | inl none ↦ rw none (begins-process path)
  | inr some ↦ rw some (begins-home path)
]

pub front-taken : (path : List ℕ) → take (length (bytes_of (front_parts path))) path ≡ bytes_of (front_parts path)
front-taken path =
    let begins = begins-front path in
    let front = bytes_of (front_parts path) in
    ap (take (length front)) begins.1 ∙ take-append_seam front begins.0
