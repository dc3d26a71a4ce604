-- Proves that the library's least of two numbers and its number of a flag are those that the lines state (01, Job).
use Rattle.std.proofs.Common.{ℕ, ◌≡◌, Bool, true, false, cond, arith, leb, min}
use Rattle.std.proofs.lemmas.Bool.Decides.{nat_tests}
use Rattle.std.specs.Int.{from_bool}
use Rattle.job_lines.specs.Lines.{CutTo, at_most}

min_cond : (n m : ℕ) → min n m ≡ cond (leb n m) n m
min_cond n m = grind (arith, nat_tests)

pub cut_by_min : (n most r : ℕ) → r ≡ min n most → CutTo most n r
unfolding at_most
cut_by_min n most r e = record { is = rw (← min_cond n most) e; within = omega arith }

pub flag_number : (b : Bool) (n : ℕ) → n ≡ from_bool b → n ≡ cond b 1 0
flag_number true n e = e
flag_number false n e = e
