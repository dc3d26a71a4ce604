-- Proves the laws of bytes that are moved down to the front of a buffer: what `copy_within` does there, and what then stands first.
use Prim.Native.Nat.{ℕ, ◌+◌, ◌-◌, ◌≤◌}
use native.Mathlib.Omega.{arith}
use mathlib.Core.List.{List, ◌++◌}
use mathlib.Core.Path.{◌≡◌, sym, ap, ◌∙◌}
use lib.ListN.{length, take, drop, length-drop}
use lib.Seq.{length-take-le, take_at, drop_at, take-add, paste, length-paste}
use Rattle.std.specs.List.{copy_within}
use Rattle.input_window.specs.Window.{moved}

module _ (from : ℕ) (xs : List ℕ) where
  pasted : (n : ℕ) → paste xs 0 (drop from xs) n ≡ moved from xs n
  pasted n = let e : 0 + n ≡ n = omega arith in ap (λ (k : ℕ). take n (drop from xs) ++ drop k xs) e

  pub moved_within : (end : ℕ) → copy_within xs from end 0 ≡ moved from xs (end - from)
  moved_within end = pasted (end - from)

  pub moved_length : (n : ℕ) → from + n ≤ length xs → length (moved from xs n) ≡ length xs
  moved_length n l = ap length (sym (pasted n)) ∙ length-paste xs 0 (drop from xs) n (omega arith) (rw (length-drop from xs) (omega arith))

  -- what was moved is the part of the buffer that lay there
  pub moved_first : (n : ℕ) → from + n ≤ length xs → take n (moved from xs n) ≡ drop from (take (from + n) xs)
  moved_first n l =
      take_at (take n (drop from xs)) (drop n xs) n (length-take-le n (drop from xs) (rw (length-drop from xs) (omega arith)))
      ∙ sym (ap (drop from) (take-add from n xs) ∙ drop_at (take from xs) (take n (drop from xs)) from (length-take-le from xs (omega arith)))
