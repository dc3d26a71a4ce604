-- Proves what the calls' callers may rely on (01, The four calls): a refused step hands back the tank and the report it was given, and a tank that make accepts
-- passes a step's checks 1 to 5.
use mathlib.Core.Path.{◌≡◌, refl, sym, ap, ◌∙◌, subst}
use mathlib.Core.List.{List, [], ◌++◌}
use mathlib.Core.Bool.{Bool, true}
use Prim.Native.Nat.{ℕ, zero, suc, ◌<◌}
use native.Mathlib.Nat.{le_of_suc-le-suc, not-suc-le-zero}
use native.Mathlib.Omega.{arith}
use lib.Ieee.Bits.{is_true}
use lib.ListN.{get_or, drop, replicate}
use lib.Ieee.{Float, nan}
use lib.Ieee.Scale.{finite}
use Rattle.refusals.specs.Refusals.{number_in}
use Rattle.numeric.specs.Double.{zero_f}
use Rattle.numeric.specs.Holds.{at_holds}
use Rattle.mixing.specs.Limits.{max_layers}
use Rattle.cylinder.specs.Layers.{all_finite}
use Rattle.tank_model.specs.declared.TankDesign.{TankDesign}
use Rattle.tank_model.specs.declared.Step.{Step}
use Rattle.tank_model.specs.Fixed.{Fixed, fixed_of}
use Rattle.tank_model.specs.FirstRefusal.{first_refusal}
use Rattle.tank_model.specs.Checks.{tank_checks, make_refusal}
use Rattle.tank_model.specs.Run.{End, refused, done}
use Rattle.tank_model.specs.Work.{Outcome, work}
use Rattle.tank_model.specs.History.{design_refusal, start}
use Rattle.tank_model.proofs.Passes.{made_heaters, tank_passes}
use Rattle.storage_tank.specs.declared.StorageTank.{StorageTank}
use Rattle.storage_tank.specs.declared.Report.{Report}
use Rattle.storage_tank.specs.Tank.{fixed_in, state_in}
use Rattle.storage_tank.specs.Calls.{made, answer, stepped}
use Rattle.storage_tank.specs.Demand.{tank_of, holding}
use Rattle.storage_tank.proofs.Demand.{fixed_is, made_is}

-- ---- a refused step

pub refused_step : (t : StorageTank) (r : Report) (a : Step) → 0 < number_in (stepped t r a).outcome → ((stepped t r a).tank ≡ t) × ((stepped t r a).report ≡ r)
unfolding stepped
refused_step t r a l = go (work (fixed_in t) (state_in t) a).end l
  where
    go : (e : End Outcome) → 0 < number_in (answer t r e).outcome → ((answer t r e).tank ≡ t) × ((answer t r e).report ≡ r)
    go (refused n) l = unfold answer in (refl, refl)
    go (done s) l = absurd (unfold answer in (omega (arith, l)))

-- ---- what make accepts, a step's checks 1 to 5 pass

filled_at : (n k : ℕ) (x : Float) (ys : List Float) (d : Float) → k < n → get_or (replicate n x ++ ys) k d ≡ x
filled_at zero k x ys d l = absurd (not-suc-le-zero l)
filled_at (suc n) zero x ys d l = refl
filled_at (suc n) (suc k) x ys d l = filled_at n k x ys d (le_of_suc-le-suc l)

filled_finite : (n : ℕ) (x : Float) (ys : List Float) → finite x ≡ true → all_finite n (replicate n x ++ ys) ≡ true
unfolding all_finite
filled_finite n x ys h = at_holds (λ (k : ℕ). finite (get_or (replicate n x ++ ys) k nan)) n 0 (λ j l u. ap finite (filled_at n j x ys nan (omega arith)) ∙ h)

-- the first refusal of two lists, the one check apart that looks at temperatures
same_checks : (m : TankDesign) (b : Bool) → b ≡ finite m.initial → first_refusal (tank_checks (fixed_of m) b) ≡ make_refusal (fixed_of m) m.initial
unfolding make_refusal
same_checks m b e = rw e

initial_finite : (m : TankDesign) → make_refusal (fixed_of m) m.initial ≡ 0 → finite m.initial ≡ true
unfolding make_refusal
initial_finite m e = is_true (finite m.initial) (tank_passes (fixed_of m) (finite m.initial) [] e).temperatures

pub made_passes : (m : TankDesign) → number_in (made m).outcome ≡ 0 → first_refusal (tank_checks (fixed_in (made m).tank) (all_finite (made m).tank.layers (made m).tank.temps)) ≡ 0
made_passes m e =
    let z : design_refusal m ≡ 0 = sym (made_is m).0 ∙ e in
    let held : (made m).tank ≡ tank_of m (start m).state = (made_is m).1 ∙ ap (λ (n : ℕ). holding n (start m)) z in
    let finite-layers = filled_finite m.layers m.initial (drop m.layers (replicate max_layers zero_f)) (initial_finite m z) in
    subst (λ (t : StorageTank). first_refusal (tank_checks (fixed_in t) (all_finite t.layers t.temps)) ≡ 0) (sym held)
    (ap (λ (f : Fixed). first_refusal (tank_checks f (all_finite m.layers (start m).state.temps))) (fixed_is m (start m).state (made_heaters m z))
    ∙ same_checks m (all_finite m.layers (start m).state.temps) (finite-layers ∙ sym (initial_finite m z))
    ∙ z)
