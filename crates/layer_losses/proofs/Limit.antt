-- Proves what it tells of a layer that there is a set point which limits it, or none (01, Losses and limit).
use Rattle.std.specs.Prelude.{◌≡◌, refl, Bool, true, false, cond, ◌&&◌, Some, None, Float}
use Rattle.std.proofs.Common.{arith}
use Rattle.set_points.specs.declared.SetPoints.{SetPoints}
use Rattle.set_points.specs.SetPoints.{has_upper, upper_of}
use Rattle.layer_losses.specs.Loss.{limit_of}

given : (w h : Bool) (x y : Float) → Some y ≡ cond w (cond h (Some x) None) None → (w ≡ true) × (h ≡ true) × (x ≡ y)
given true true x y e = grind arith
given true false x y e = grind arith
given false h x y e = grind arith

missing : (w h : Bool) (x : Float) → None ≡ cond w (cond h (Some x) None) None → ((h && w) ≡ false) × ((c : Bool) → (w && (h && c)) ≡ false)
missing true true x e = grind arith
missing true false x e = (refl, λ c. refl)
missing false true x e = (refl, λ c. refl)
missing false false x e = (refl, λ c. refl)

pub limit_given : (p : SetPoints) (warm : Bool) (u : Float) → Some u ≡ limit_of p warm → (warm ≡ true) × (has_upper p ≡ true) × (upper_of p ≡ u)
limit_given p warm u e = given warm (has_upper p) (upper_of p) u e

pub limit_missing : (p : SetPoints) (warm : Bool) → None ≡ limit_of p warm → ((has_upper p && warm) ≡ false) × ((c : Bool) → (warm && (has_upper p && c)) ≡ false)
limit_missing p warm e = missing warm (has_upper p) (upper_of p) e

-- what is known where a match looked
pub ruleset limit_cases = (limit_given, limit_missing)
