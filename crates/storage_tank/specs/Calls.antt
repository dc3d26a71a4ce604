-- States what the calls make and step answer (01, The four calls).
use Rattle.std.specs.Prelude.{ℕ, zero, suc, false, cond, List, [], ◌∷◌, ◌++◌, ltb, get_or, drop, replicate, Ok, Err}
use Rattle.refusals.specs.Refusals.{refusal_with}
use Rattle.numeric.specs.Double.{zero_f}
use Rattle.numeric.specs.Tabulate.{tabulate}
use Rattle.mixing.specs.Limits.{max_layers}
use Rattle.working_order.specs.Order.{max_heaters}
use Rattle.tank_model.specs.declared.Heater.{Heater}
use Rattle.tank_model.specs.declared.TankDesign.{TankDesign}
use Rattle.tank_model.specs.declared.Step.{Step}
use Rattle.tank_model.specs.declared.HeaterLine.{HeaterLine}
use Rattle.tank_model.specs.Fixed.{no_heater, zero_heater, fixed_of}
use Rattle.tank_model.specs.Checks.{make_refusal}
use Rattle.tank_model.specs.Run.{End, refused, done}
use Rattle.tank_model.specs.Work.{Outcome, recoverable, work}
use Rattle.tank_model.specs.History.{Call, step}
use Rattle.step_work.specs.declared.work.StepFigures.{StepFigures}
use Rattle.storage_tank.specs.declared.StorageTank.{StorageTank}
use Rattle.storage_tank.specs.declared.Report.{Report}
use Rattle.storage_tank.specs.declared.Made.{Made}
use Rattle.storage_tank.specs.declared.Stepped.{Stepped}
use Rattle.storage_tank.specs.Tank.{fixed_in, state_in}

-- ---- make

-- the first n heaters as given, and zeros
unfoldable pub fitted_heaters : ℕ → List Heater → List Heater
fitted_heaters n fitted = tabulate (λ (h : ℕ). cond (ltb h n) (get_or fitted h no_heater) zero_heater) max_heaters 0

-- a tank of no layers, no heaters and zeros
abbrev pub zero_tank : StorageTank
zero_tank = record {
  layers = 0;
  volume = zero_f;
  standby = zero_f;
  rho = zero_f;
  cp = zero_f;
  ambient = zero_f;
  timestep = zero_f;
  temps = replicate max_layers zero_f;
  heaters = 0;
  fitted = replicate max_heaters zero_heater;
  flags = replicate max_heaters false;
}

abbrev pub new_tank : TankDesign → StorageTank
new_tank m = record {
  layers = m.layers;
  volume = m.volume;
  standby = m.standby;
  rho = m.rho;
  cp = m.cp;
  ambient = m.ambient;
  timestep = m.timestep;
  temps = replicate m.layers m.initial ++ drop m.layers (replicate max_layers zero_f);
  heaters = m.heaters;
  fitted = fitted_heaters m.heaters m.fitted;
  flags = replicate max_heaters false;
}

unfoldable pub made_of : TankDesign → ℕ → Made
made_of m zero = record { outcome = Ok tt; tank = new_tank m }
made_of m (suc n) = record { outcome = Err (refusal_with (suc n)); tank = zero_tank }

unfoldable pub made : TankDesign → Made
made m = made_of m (make_refusal (fixed_of m) m.initial)

-- ---- step

-- the tank with the layers and the flags that the work left
abbrev pub stepped_tank : StorageTank → Outcome → StorageTank
stepped_tank t s = record {
  layers = t.layers;
  volume = t.volume;
  standby = t.standby;
  rho = t.rho;
  cp = t.cp;
  ambient = t.ambient;
  timestep = t.timestep;
  temps = s.heated.temps;
  heaters = t.heaters;
  fitted = t.fitted;
  flags = s.heated.flags;
}

-- the report of what an accepted step came to and its heaters' lines
abbrev pub report_by : StepFigures → List HeaterLine → Report
report_by w lines = record { energy = w.totals.energy; used = w.totals.used; average = w.average; recoverable = w.recoverable; lines = lines }

abbrev pub report_of : Outcome → Report
report_of s = record {
  energy = s.drawn.totals.energy;
  used = s.drawn.totals.used;
  average = s.average;
  recoverable = recoverable s.heated;
  lines = s.heated.lines;
}

-- a refused step gives the refusal and the tank and the report handed in
unfoldable pub answer : StorageTank → Report → End Outcome → Stepped
answer t r (refused n) = record { outcome = Err (refusal_with n); tank = t; report = r }
answer t r (done s) = record { outcome = Ok tt; tank = stepped_tank t s; report = report_of s }

unfoldable pub stepped : StorageTank → Report → Step → Stepped
stepped t r a = answer t r (work (fixed_in t) (state_in t) a).end

-- ---- a list of calls

unfoldable pub answered : StorageTank → Report → Call → Stepped
answered t r (step a) = stepped t r a

-- what each call answers, each getting the tank and the report that the one before returned
unfoldable pub answers : StorageTank → Report → List Call → List Stepped
answers t r [] = []
answers t r (x ∷ xs) = let y = answered t r x in y ∷ answers y.tank y.report xs
