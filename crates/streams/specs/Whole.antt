-- States what became of a buffer that was to be filled, and of a text that was to be written: no byte is counted that it does not have, and a write has failed
-- just where some are left.
use Rattle.std.specs.Prelude.{ℕ, ◌≤◌, ◌<◌, ◌≡◌, List, Result, Ok, Err, MatchResult, length, take}
use Rattle.streams.specs.declared.Broken.{Broken}

-- how many bytes came, whether or not a read failed
abbrev pub moved_in : Result ℕ Broken → ℕ
moved_in (Ok count) = count
moved_in (Err b) = b.moved

-- `&xs[..n]` is in bounds and has n bytes. The second part follows from the first, and spares a caller's `&buf[..n]` a proof file
abbrev pub IsPrefixLen : ℕ → List ℕ → Type 0
IsPrefixLen n xs = (n ≤ length xs) × (n ≡ length (take n xs))

-- all of a text of so many bytes was taken, or a write failed with some left
abbrev pub Carried : ℕ → Result ℕ Broken → Type 0
Carried size r = MatchResult r (λ (count : ℕ). count ≡ size) (λ (b : Broken). b.moved < size)
