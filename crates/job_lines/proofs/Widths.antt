-- Proves that a number has one decimal digit more than the power of ten that it reaches (01, Job).
use Rattle.std.proofs.Common.{◌≡◌, refl, ◌∙◌, ℕ, zero, suc, ◌+◌, ◌*◌, ◌/◌, ◌^◌, ◌<◌, ◌≤◌, arith}
use Rattle.std.proofs.Math.Nat.{pow-suc, div-eq_of_lt}
use borrow.Author.Tests.{ne_eqb}
use Rattle.job_lines.specs.Text.{width_from, width_of}

counted : (k n fuel j : ℕ) → k ≤ fuel → 10 ^ k ≤ n → n < 10 * 10 ^ k → width_from fuel j (n / 10) ≡ j + k
unfolding width_from
counted zero n zero j l a b = omega arith
counted zero n (suc fuel) j l a b = let e : n / 10 ≡ 0 = div-eq_of_lt b in rw e (omega arith)
counted (suc k) n zero j l a b = absurd (omega arith)
counted (suc k) n (suc fuel) j l a b =
    let p : 10 ^ k * 10 ≤ n = rw (pow-suc 10 k) at a in
    let q : n < 10 * (10 ^ k * 10) = rw (pow-suc 10 k) at b in
    let low : 10 ^ k ≤ n / 10 = omega arith in
    let high : n / 10 < 10 * 10 ^ k = omega arith in
    let more : 1 ≤ 10 ^ k = positive k in
    rw (ne_eqb (n / 10) 0 (λ e. omega arith)) (counted k (n / 10) fuel (j + 1) (omega arith) low high ∙ omega arith)
  where
    positive : (i : ℕ) → 1 ≤ 10 ^ i
    positive zero = omega arith
    positive (suc i) = let h = positive i in rw (pow-suc 10 i) (omega arith)

pub width_counted : (n k : ℕ) → k < 20 → 10 ^ k ≤ n → n < 10 * 10 ^ k → k + 1 ≡ width_of n
unfolding width_of
width_counted n k l a b = let e = counted k n 19 1 (omega arith) a b in omega (arith, e)

pub width_of_none : 1 ≡ width_of 0
unfolding width_of width_from
width_of_none = refl
