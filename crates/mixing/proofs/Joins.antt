-- Proves when a pair of finite temperatures joins (01, Mix): where the lower is at least the upper, or within the narrow tolerance of it.
use mathlib.Core.Path.{◌≡◌, refl, sym, ◌∙◌}
use mathlib.Core.Bool.{Bool, true, false, not, ◌&&◌, ◌||◌, true≢false}
use lib.Dec.{T}
use lib.Ieee.{Float, nan, inf, fin, lt, le, eq}
use lib.Ieee.Scale.{finite}
use Rattle.numeric.specs.Double.{narrow_tolerance}
use Rattle.numeric.specs.Close.{infinite, within, close, narrow_close}
use Rattle.numeric.proofs.SameValue.{equal_swap}
use Rattle.mixing.specs.Round.{joins}

finite_not_infinite : (x : Float) → T (finite x) → infinite x ≡ false
unfolding infinite
finite_not_infinite nan h = absurd h
finite_not_infinite (inf s) h = absurd h
finite_not_infinite (fin s m e) h = refl

-- the two tests that `>=` makes at once
or_first : (a b c : Bool) → (a || b) ≡ true → (a || (b || c)) ≡ true
or_first true b c h = refl
or_first false true c h = refl
or_first false false c h = absurd (true≢false (sym h))

or_neither : (a b c : Bool) → (a || b) ≡ false → (a || (b || c)) ≡ c
or_neither true b c h = absurd (true≢false h)
or_neither false true c h = absurd (true≢false h)
or_neither false false c h = refl

module _ (lower upper : Float) where
  at_least : le upper lower ≡ (lt upper lower || eq lower upper)
  unfolding le
  at_least = rw (equal_swap lower upper) refl

  pub joins_not_below : le upper lower ≡ true → joins lower upper ≡ true
  unfolding joins narrow_close close
  joins_not_below h = or_first (lt upper lower) (eq lower upper) (not (infinite lower) && not (infinite upper) && within lower upper narrow_tolerance) (sym at_least ∙ h)

  pub joins_below : T (finite lower) → T (finite upper) → le upper lower ≡ false → joins lower upper ≡ within lower upper narrow_tolerance
  unfolding joins narrow_close close
  joins_below f g h =
      rw (finite_not_infinite lower f, finite_not_infinite upper g)
      (or_neither (lt upper lower) (eq lower upper) (within lower upper narrow_tolerance) (sym at_least ∙ h))
