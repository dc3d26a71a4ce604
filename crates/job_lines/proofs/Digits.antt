-- Proves what the loops cite that put digits (01, Job): digits written from the last one to the first are the number's digits, and as many as asked for.
use Prim.Native.Nat.{ℕ, zero, suc, ◌+◌, ◌≤◌, ◌/◌, ◌%◌}
use native.Mathlib.Omega.{arith}
use mathlib.Core.Path.{◌≡◌, refl, sym, ap, ◌∙◌}
use mathlib.Core.List.{List, [], ◌∷◌}
use lib.ListN.{length, set, length-append}
use lib.Seq.{sets, set_comm}
use Rattle.job_lines.specs.Put.{sets_append}
use Rattle.job_lines.specs.Text.{digit_of, digits}

pub digits_length : (base count n : ℕ) → length (digits base count n) ≡ count
unfolding digits
digits_length base zero n = refl
digits_length base (suc k) n =
    let e = digits_length base k (n / base) in
    length-append (digits base k (n / base)) (digit_of (n % base) ∷ []) ∙ omega arith

-- a place past a text may be stored before it or after it
sets_past : (b : List ℕ) (at : ℕ) (t : List ℕ) (j x : ℕ) → at + length t ≤ j → sets (set b j x) at t ≡ set (sets b at t) j x
sets_past b at [] j x h = refl
sets_past b at (a ∷ t) j x h =
    rw (set_comm b j at x a (λ e. omega arith)) (sets_past (set b at a) (suc at) t j x (omega arith))

pub digits_next : (b : List ℕ) (at base k n : ℕ) → sets (set b (at + k) (digit_of (n % base))) at (digits base k (n / base)) ≡ sets b at (digits base (suc k) n)
unfolding digits
digits_next b at base k n =
    let ds = digits base k (n / base) in
    let l : length ds ≡ k = digits_length base k (n / base) in
    sets_past b at ds (at + k) (digit_of (n % base)) (omega arith)
    ∙ (ap (λ (j : ℕ). set (sets b at ds) (at + j) (digit_of (n % base))) (sym l)
    ∙ sym (sets_append b at ds (digit_of (n % base) ∷ [])))
