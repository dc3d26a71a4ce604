-- Proves what the checks say of a tank that passes them (01, The four calls): its counts, its step length, its temperatures, its heaters' rated powers and
-- their positions.
use mathlib.Core.Path.{◌≡◌, subst}
use mathlib.Core.List.{List, [], ◌++◌}
use mathlib.Core.Bool.{Bool, true, false, ◌&&◌}
use Prim.Native.Nat.{ℕ, ◌<◌, ◌≤◌}
use native.Mathlib.Omega.{arith}
use lib.Dec.{T, leb, leb→le, lit<}
use lib.ListN.{length}
use lib.Ieee.Scale.{finite}
use lib.Ieee.Fits.{and_l, and_r}
use Rattle.mixing.specs.Limits.{max_layers}
use Rattle.working_order.specs.Order.{max_heaters}
use Rattle.tank_model.specs.declared.TankDesign.{TankDesign}
use Rattle.tank_model.specs.Fixed.{Placed, Fixed, heater_of, fixed_of}
use Rattle.tank_model.specs.FirstRefusal.{first_refusal, each_passes, among_passes}
use Rattle.tank_model.specs.Checks.{unless, is_positive, not_negative, is_position, heater_check, tank_checks, make_refusal}
use Rattle.tank_model.proofs.Order.{heaters_many}

pub unless_passes : (b : Bool) (n : ℕ) → 0 < n → unless b n ≡ 0 → T b
unless_passes true n l e = tt
unless_passes false n l e = absurd (omega arith)

heater_passes : (x : Placed) → heater_check x ≡ 0 → T (not_negative x.rated && is_position x.position)
heater_passes x e =
    let both = not_negative x.rated && is_position x.position in
    and_l both (is_position x.thermostat) (unless_passes (both && is_position x.thermostat) 5 (lit< tt) e)

heater_rated : (x : Placed) → heater_check x ≡ 0 → T (not_negative x.rated)
heater_rated x e = and_l (not_negative x.rated) (is_position x.position) (heater_passes x e)

heater_position : (x : Placed) → heater_check x ≡ 0 → T (is_position x.position)
heater_position x e = and_r (not_negative x.rated) (is_position x.position) (heater_passes x e)

pub record Passes (f : Fixed) (temps : Bool) : Type 0 where
  pub layers : T (leb 1 f.cylinder.layers && leb f.cylinder.layers max_layers)
  pub heaters : T (leb (length f.heaters) max_heaters)
  pub timestep : T (is_positive f.cylinder.timestep)
  pub temperatures : T temps
  pub rated : (h : ℕ) → h < length f.heaters → T (not_negative (heater_of f h).rated)
  pub position : (h : ℕ) → h < length f.heaters → T (is_position (heater_of f h).position)

pub tank_passes : (f : Fixed) (temps : Bool) (ns : List ℕ) → first_refusal (tank_checks f temps ++ ns) ≡ 0 → Passes f temps
tank_passes f temps ns e =
    let c = f.cylinder in
    let numbers = is_positive c.volume && is_positive c.rho && is_positive c.cp in
    let standing = not_negative c.standby && finite c.ambient in
    let c1 = each_passes _ _ e in
    let c2 = each_passes _ _ c1.1 in
    let c3 = each_passes _ _ c2.1 in
    let c4 = each_passes _ _ c3.1 in
    let c5 = each_passes _ ns c4.1 in
    let each = among_passes (λ (k : ℕ). heater_check (heater_of f k)) (length f.heaters) c5.0 in
    record {
      layers = unless_passes (leb 1 c.layers && leb c.layers max_layers) 1 (lit< tt) c1.0;
      heaters = unless_passes (leb (length f.heaters) max_heaters) 2 (lit< tt) c2.0;
      timestep = and_r numbers (is_positive c.timestep) (unless_passes (numbers && is_positive c.timestep) 3 (lit< tt) c3.0);
      temperatures = and_r standing temps (unless_passes (standing && temps) 4 (lit< tt) c4.0);
      rated = λ h l. heater_rated (heater_of f h) (each h l);
      position = λ h l. heater_position (heater_of f h) (each h l);
    }

pub made_heaters : (m : TankDesign) → make_refusal (fixed_of m) m.initial ≡ 0 → m.heaters ≤ max_heaters
unfolding make_refusal
made_heaters m e = subst (λ (k : ℕ). k ≤ max_heaters) (heaters_many m) (leb→le _ max_heaters (tank_passes (fixed_of m) (finite m.initial) [] e).heaters)
