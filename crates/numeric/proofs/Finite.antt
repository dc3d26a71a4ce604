-- Proves that a sum or a product is finite only where both its parts are (01, Arithmetic underneath): so one finite sum answers for every term in it.
use mathlib.Core.Bool.{Bool, true, false, cond, beq}
use lib.Dec.{T, eqb}
use lib.Ieee.{Float, nan, inf, fin, unlike, add, mul}
use lib.Ieee.Scale.{finite}
use Rattle.numeric.specs.Double.{◌⊕◌, ◌⊛◌}

neither_finite : (b : Bool) (x y : Float) → (T (finite x) → ⊥) → (T (finite y) → ⊥) → T (finite (cond b x y)) → ⊥
neither_finite true x y p q h = p h
neither_finite false x y p q h = q h

pub sum_parts_finite : (x y : Float) → T (finite (x ⊕ y)) → T (finite x) × T (finite y)
unfolding add
sum_parts_finite nan y h = absurd h
sum_parts_finite (inf s) nan h = absurd h
sum_parts_finite (inf s) (inf t) h = absurd (neither_finite (beq s t) (inf s) nan (λ z. z) (λ z. z) h)
sum_parts_finite (inf s) (fin t n g) h = absurd h
sum_parts_finite (fin s m e) nan h = absurd h
sum_parts_finite (fin s m e) (inf t) h = absurd h
sum_parts_finite (fin s m e) (fin t n g) h = (tt, tt)

pub product_parts_finite : (x y : Float) → T (finite (x ⊛ y)) → T (finite x) × T (finite y)
unfolding mul
product_parts_finite nan y h = absurd h
product_parts_finite (inf s) nan h = absurd h
product_parts_finite (inf s) (inf t) h = absurd h
product_parts_finite (inf s) (fin t n g) h = absurd (neither_finite (eqb n 0) nan (inf (unlike s t)) (λ z. z) (λ z. z) h)
product_parts_finite (fin s m e) nan h = absurd h
product_parts_finite (fin s m e) (inf t) h = absurd (neither_finite (eqb m 0) nan (inf (unlike s t)) (λ z. z) (λ z. z) h)
product_parts_finite (fin s m e) (fin t n g) h = (tt, tt)
