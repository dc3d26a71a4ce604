-- States demand 3: what the arguments of make and of a list of calls say of what was answered. It cites the history that 01 works on a tank of its own
-- (tank_model/specs/HistoryDemand.antt), and neither make's nor step's answer; `Promises`, at the end, says what the calls promise. proofs/Demand.antt proves
-- it of every list.
use Rattle.std.specs.Prelude.{◌≡◌, ◌↔◌, List, [], ◌∷◌, length, get_or, replicate}
use Rattle.std.specs.Prelude.{false, cond, T, ℕ, zero, suc, ◌≤◌, ◌<◌, None, Ok, Float}
use Rattle.refusals.specs.Refusals.{number_in}
use Rattle.numeric.specs.Double.{zero_f}
use Rattle.mixing.specs.Limits.{max_layers}
use Rattle.working_order.specs.Order.{max_heaters}
use Rattle.tank_model.specs.declared.Heater.{Heater}
use Rattle.tank_model.specs.declared.TankDesign.{TankDesign}
use Rattle.tank_model.specs.Fixed.{State, no_heater, zero_heater}
use Rattle.tank_model.specs.Run.{done}
use Rattle.tank_model.specs.Work.{Turn, Outcome, Work, zero_line}
use Rattle.tank_model.specs.History.{Call, design_refusal, Held, history}
use Rattle.tank_model.specs.Members.{All}
use Rattle.tank_model.specs.Course.{accepted, number_of, passed, LineTells, recoverable_of}
use Rattle.tank_model.specs.HistoryDemand.{RightlySupplied, OnSince, work_at, held_at, design_at, HistoryDemand}
use Rattle.storage_tank.specs.declared.StorageTank.{StorageTank}
use Rattle.storage_tank.specs.declared.Report.{Report}
use Rattle.storage_tank.specs.declared.Made.{Made}
use Rattle.storage_tank.specs.declared.Stepped.{Stepped}
use Rattle.storage_tank.specs.Calls.{fitted_heaters, zero_tank, answered}

-- ---- of one call's work and what it answered

-- what a turn supplied: read in the report of an accepted step, and else as worked
abbrev pub supplied_in : Work → Stepped → Turn → Float
supplied_in w x u = cond (accepted w.end) (get_or x.report.lines u.heater zero_line).supplied u.turned.supplied

-- every turn that got past its mixing supplied zero if it ran off, and never more than its rated power × step length
abbrev pub AnswersSupplies : TankDesign → Work → Stepped → Type 0
AnswersSupplies m w x = All (λ (u : Turn). T (passed u.turned.mixing) → RightlySupplied m u (supplied_in w x u)) w.turns

-- the report has at the heater's given place the line of its turn
abbrev pub AnswersLines : Work → Stepped → Type 0
AnswersLines w x = All (λ (u : Turn). LineTells u (get_or x.report.lines u.heater zero_line)) w.turns

-- the report has the totals that the work came to: energy, volume used, average, and the heaters' losses × 0.75
pub record AnswersTotals (s : Outcome) (r : Report) : Type 0 where
  pub energy : r.energy ≡ s.drawn.totals.energy
  pub used : r.used ≡ s.drawn.totals.used
  pub average : r.average ≡ s.average
  pub recoverable : r.recoverable ≡ recoverable_of s.heated

-- the number answered is that of the work's end, and 0 exactly when the step is accepted
abbrev pub AnswersNumber : Work → Stepped → Type 0
AnswersNumber w x = (number_in x.outcome ≡ number_of w.end) × (T (accepted w.end) ↔ (number_in x.outcome ≡ 0))

-- ---- of a list of calls

abbrev pub no_answer : Stepped
no_answer = record { outcome = Ok tt; tank = zero_tank; report = record { energy = zero_f; used = zero_f; average = zero_f; recoverable = zero_f; lines = [] } }

abbrev pub last_tank : StorageTank → List Stepped → StorageTank
last_tank t [] = t
last_tank t (x ∷ xs) = last_tank x.tank xs

-- the tank with the numbers of the design m, and the state st
abbrev pub tank_of : TankDesign → State → StorageTank
tank_of m st = record {
  layers = m.layers;
  volume = m.volume;
  standby = m.standby;
  rho = m.rho;
  cp = m.cp;
  ambient = m.ambient;
  timestep = m.timestep;
  temps = st.temps;
  heaters = m.heaters;
  fitted = fitted_heaters m.heaters m.fitted;
  flags = st.flags;
}

-- a tank of no layers, no heaters and zeros
pub record NoTank (t : StorageTank) : Type 0 where
  pub layers : t.layers ≡ 0
  pub heaters : t.heaters ≡ 0
  pub volume : t.volume ≡ zero_f
  pub standby : t.standby ≡ zero_f
  pub rho : t.rho ≡ zero_f
  pub cp : t.cp ≡ zero_f
  pub ambient : t.ambient ≡ zero_f
  pub timestep : t.timestep ≡ zero_f
  pub temps : t.temps ≡ replicate max_layers zero_f
  pub fitted : t.fitted ≡ replicate max_heaters (record { rated = zero_f; position = zero_f; thermostat = None })
  pub flags : t.flags ≡ replicate max_heaters false

-- n: what make is refused for, or 0. A refused make gives a tank of zeros
abbrev pub holding : ℕ → Held → StorageTank
holding zero x = tank_of x.design x.state
holding (suc n) x = zero_tank

-- the heater y is x as given
pub record AsGiven (x y : Heater) : Type 0 where
  pub rated : y.rated ≡ x.rated
  pub position : y.position ≡ x.position
  pub thermostat : y.thermostat ≡ x.thermostat

-- an accepted make's tank has at each heater's place what it was given, and zeros past them
pub record FittedAsGiven (m : TankDesign) (t : StorageTank) : Type 0 where
  pub given : (h : ℕ) → h < m.heaters → AsGiven (get_or m.fitted h no_heater) (get_or t.fitted h no_heater)
  pub unused : (h : ℕ) → m.heaters ≤ h → get_or t.fitted h zero_heater ≡ zero_heater

-- m: make's arguments; calls: the calls' arguments; made: what make answered; xs: what each call answered
pub record Demand3 (m : TankDesign) (calls : List Call) (made : Made) (xs : List Stepped) : Type 0 where
  -- what 01 works on a tank of its own: flags, supplies, mixings, and what the turns, the mixings and the accepted steps are
  pub worked : HistoryDemand m calls
  -- after the list, in the tank that was handed back, a flag is on exactly when 01 says
  pub flags : (h : ℕ) → T (get_or (last_tank made.tank xs).flags h false) ↔ OnSince h (history m calls)
  -- every turn, in refused steps too as far as it got, supplied zero if it ran off and never more than its rated power × step length
  pub supplies : (i : ℕ) → i < length calls → AnswersSupplies (design_at m calls i) (work_at m calls i) (get_or xs i no_answer)
  -- an accepted step's report has at the heater's given place the line of its turn, and the totals of its work
  pub reported : (i : ℕ) → i < length calls → T (accepted (work_at m calls i).end) → AnswersLines (work_at m calls i) (get_or xs i no_answer)
  pub totals : (i : ℕ) → i < length calls → (s : Outcome) → (work_at m calls i).end ≡ done s → AnswersTotals s (get_or xs i no_answer).report
  -- the number answered is that of the work's end, and 0 exactly when the step is accepted
  pub numbers : (i : ℕ) → i < length calls → AnswersNumber (work_at m calls i) (get_or xs i no_answer)
  -- the tanks handed back hold the design, which stays make's, and the state that was worked
  pub makes : (number_in made.outcome ≡ design_refusal m) × (made.tank ≡ holding (design_refusal m) (held_at m calls 0))
  pub fitted : design_refusal m ≡ 0 → FittedAsGiven m made.tank
  pub refused_make : 0 < design_refusal m → NoTank made.tank
  pub carries : (i : ℕ) → i < length calls → (get_or xs i no_answer).tank ≡ holding (design_refusal m) (held_at m calls (suc i))
  pub answers_all : length xs ≡ length calls

-- what the calls promise of the answers xs, from a tank t and a report r on: each is what its call answers, given what the one before returned
abbrev pub Promises : StorageTank → Report → List Call → List Stepped → Type 0
Promises t r [] [] = Unit {0}
Promises t r [] (x ∷ xs) = ⊥
Promises t r (c ∷ cs) [] = ⊥
Promises t r (c ∷ cs) (x ∷ xs) = (x ≡ answered t r c) × Promises x.tank x.report cs xs
