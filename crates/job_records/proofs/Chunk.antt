-- Proves that the bytes of the first chunk of an input from a position on are the input's from there on (01, Job).
use Rattle.std.proofs.Common.{ℕ, ◌+◌, ◌-◌, ◌<◌, ◌≤◌, ◌≡◌, ◌∙◌, List, length, get_or, take, drop, arith, get_or-drop}
use Rattle.std.proofs.lemmas.List.{get_or-take}
use Rattle.std.specs.Array.{IsFirstChunk}
use Rattle.job_records.specs.Bytes.{byte_at}

pub byte_in : (s : List ℕ) (at n : ℕ) (ys : List ℕ) → at + n ≤ length s → IsFirstChunk (take (length s - at) (drop at s)) ys n → (i : ℕ) → i < n → get_or ys i 0 ≡ byte_at s (at + i)
byte_in s at n ys l h i m =
    rw h.same (get_or-take n (take (length s - at) (drop at s)) i 0 m ∙ get_or-take (length s - at) (drop at s) i 0 (omega arith) ∙ get_or-drop at s i 0)
