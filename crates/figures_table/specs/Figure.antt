-- States what a figure is (01, Figures to hold it against): arguments as a caller passes them, whole arrays with something in their unused places, and the
-- whole of what the calls answer. It holds if that is what the calls' contracts say of these arguments.
use Rattle.std.specs.Prelude.{ℕ, zero, suc, ◌≡◌, Bool, true, false, ◌&&◌, T, eqb, Float}
use Rattle.std.specs.Prelude.{List, [], ◌∷◌, map, length, Some, None, Result, Ok, Err}
use Rattle.std.specs.Float.{binary64, nan}
use Rattle.std.specs.Float.Ieee.{round, neg}
use Rattle.refusals.specs.declared.Refusal.{Refusal}
use Rattle.refusals.specs.Refusals.{number_in, refusal_with}
use Rattle.numeric.specs.Double.{whole, zero_f}
use Rattle.numeric.specs.Whole.{layer_of}
use Rattle.mixing.specs.Limits.{max_layers}
use Rattle.mixing.specs.Mix.{rounds_of, mix_answer, mix_layers}
use Rattle.cylinder.specs.declared.Cylinder.{Cylinder}
use Rattle.draw_events.specs.Lent.{max_events}
use Rattle.set_points.specs.declared.SetPoints.{SetPoints}
use Rattle.set_points.specs.declared.SetPoints.TheVariants.{Lower}
use Rattle.working_order.specs.Order.{max_heaters}
use Rattle.tank_model.specs.declared.Heater.{Heater}
use Rattle.tank_model.specs.declared.TankDesign.{TankDesign}
use Rattle.tank_model.specs.declared.Step.{Step}
use Rattle.tank_model.specs.declared.HeaterLine.{HeaterLine}
use Rattle.tank_model.specs.History.{step}
use Rattle.storage_tank.specs.declared.StorageTank.{StorageTank}
use Rattle.storage_tank.specs.declared.Report.{Report}
use Rattle.storage_tank.specs.declared.Made.{Made}
use Rattle.storage_tank.specs.declared.Stepped.{Stepped}
use Rattle.storage_tank.specs.Calls.{made, answers}

-- ---- figures

pub data Figure : Type 0 where
  -- steps: what make is given, the tank it makes, the steps on it one after another, and what each answers
  steps : TankDesign → StorageTank → List Step → List Stepped → Figure
  -- steps on a tank as it is lent, whatever its unused places hold
  lent : StorageTank → List Step → List Stepped → Figure
  -- make alone: what it is given, and what it answers
  make : TankDesign → Made → Figure
  -- a position, the number of layers, and the position's layer
  layer : Float → ℕ → ℕ → Figure
  -- a mixing: the layers, their volume, the refusal's number or 0, the rounds, and the layers after it
  mix : List Float → Float → ℕ → ℕ → List Float → Figure

-- the arrays have the lengths that the calls take
-- Kept: counts beside arrays of all places, as the calls take them: nothing is on a heap. A list in a figure is a tank's own, and `padded` fills its array.
abbrev pub fits : List Step → Bool
fits [] = true
fits (a ∷ asked) = eqb (length a.volumes) max_events && eqb (length a.settings) max_heaters && fits asked

abbrev pub fits_design : TankDesign → Bool
fits_design m = eqb (length m.fitted) max_heaters

abbrev pub fits_tank : StorageTank → Bool
fits_tank t = eqb (length t.temps) max_layers && eqb (length t.fitted) max_heaters && eqb (length t.flags) max_heaters

-- what the steps answer, whatever report is handed to the first
abbrev pub Answers : StorageTank → List Step → List Stepped → Type 0
Answers t asked after = (r : Report) → answers t r (map step asked) ≡ after

-- accepted for 0, and else the refusal of that number
abbrev pub outcome : ℕ → Result (Unit {0}) Refusal
outcome zero = Ok tt
outcome (suc n) = Err (refusal_with (suc n))

abbrev pub Holds : Figure → Type 0
Holds (steps m t asked after) = T (fits_design m && fits asked) × (made m ≡ record { outcome = outcome 0; tank = t }) × Answers (made m).tank asked after
Holds (lent t asked after) = T (fits_tank t && fits asked) × Answers t asked after
Holds (make m answer) = T (fits_design m) × (made m ≡ answer)
Holds (layer position layers k) = layer_of position layers ≡ k
Holds (mix layers volume number rounds after) =
    (number_in (mix_answer layers volume) ≡ number) × (rounds_of (mix_answer layers volume) ≡ rounds) × (mix_layers layers volume ≡ after)

-- a tuple of two: a list of figures is proved one after another
abbrev pub ◌and◌ : {A B : Type 0} → A → B → A × B
◌and◌ a b = (a, b)

infixr 30 ◌and◌
-- ---- numbers

-- the double nearest to a / b, and to - a
abbrev pub nearest : ℕ → ℕ → Float
nearest a b = round binary64 false a b

abbrev pub minus : ℕ → Float
minus a = neg (whole a)

-- ---- arguments: unused places hold what no call may look at

-- n places: those of the list, and then x
abbrev pub padded : {A : Type 0} → ℕ → List A → A → List A
padded zero xs x = []
padded (suc n) [] x = x ∷ padded n [] x
padded (suc n) (y ∷ ys) x = y ∷ padded n ys x

-- a heater whose thermostat sits with it; and one whose thermostat sits elsewhere
abbrev pub heater : Float → Float → Heater
heater rated position = record { rated = rated; position = position; thermostat = None }

abbrev pub heater_with : Float → Float → Float → Heater
heater_with rated position thermostat = record { rated = rated; position = position; thermostat = Some thermostat }

abbrev pub design : Cylinder → ℕ → List Heater → TankDesign
design c initial fitted = record {
  layers = c.layers;
  volume = c.volume;
  standby = c.standby;
  initial = whole initial;
  rho = c.rho;
  cp = c.cp;
  ambient = c.ambient;
  timestep = c.timestep;
  heaters = length fitted;
  fitted = padded max_heaters fitted (record { rated = nan; position = whole 7; thermostat = Some nan });
}

abbrev pub settings : List SetPoints → List SetPoints
settings ps = padded max_heaters ps (Lower nan)

-- a step of these events, and set points for each heater
abbrev pub asks : Float → List Float → List SetPoints → Step
asks feed volumes ps = record {
  feed = feed;
  events = length volumes;
  volumes = padded max_events volumes nan;
  entries = length ps;
  settings = settings ps;
}

-- ---- answers: unused places are zero, or what they were in the tank lent

abbrev pub tank_with : Cylinder → ℕ → List Heater → List Float → List Bool → StorageTank
tank_with c n fitted temps flags = record {
  layers = c.layers;
  volume = c.volume;
  standby = c.standby;
  rho = c.rho;
  cp = c.cp;
  ambient = c.ambient;
  timestep = c.timestep;
  temps = temps;
  heaters = n;
  fitted = fitted;
  flags = flags;
}

abbrev pub tank : Cylinder → List Heater → List Float → List Bool → StorageTank
tank c fitted temps flags =
    tank_with c (length fitted) (padded max_heaters fitted (heater zero_f zero_f)) (padded max_layers temps zero_f) (padded max_heaters flags false)

-- the tank of a refused make
abbrev pub no_tank : StorageTank
no_tank =
    tank
    (record { layers = 0; volume = zero_f; standby = zero_f; rho = zero_f; cp = zero_f; ambient = zero_f; timestep = zero_f }) [] [] []

-- a heater's line: its flag, adjusted input, energy supplied, losses and rounds
abbrev pub line : Bool → Float → Float → Float → ℕ → HeaterLine
line flag adjusted supplied losses rounds = record { flag = flag; adjusted = adjusted; supplied = supplied; losses = losses; rounds = rounds }

abbrev pub report : Float → Float → Float → Float → List HeaterLine → Report
report energy used average recoverable lines = record {
  energy = energy;
  used = used;
  average = average;
  recoverable = recoverable;
  lines = padded max_heaters lines (line false zero_f zero_f zero_f 0);
}

abbrev pub answer : ℕ → StorageTank → Report → Stepped
answer n t r = record { outcome = outcome n; tank = t; report = r }
