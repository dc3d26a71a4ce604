-- States for each case of the reader's answer its number, its kind and every value (01, The four calls; refusal 11). What a case does not use is zero.
use Rattle.std.specs.Prelude.{ℕ, Bool, true, false, cond, eqb, List, map, replicate, Float, Result, Ok, Err}
use Rattle.numeric.specs.Double.{zero_f}
use Rattle.refusals.specs.declared.Refusal.{Refusal}
use Rattle.refusals.specs.Refusals.{number_of, refusal_with}
use Rattle.set_points.specs.declared.SetPoints.{SetPoints}
use Rattle.set_points.specs.declared.SetPoints.TheVariants.{Neither, Lower, Upper, Both}
use Rattle.working_order.specs.Order.{max_heaters}
use Rattle.tank_model.specs.declared.Heater.{Heater}
use Rattle.tank_model.specs.declared.Step.{Step}
use Rattle.tank_model.specs.Fixed.{zero_heater}
use Rattle.job_records.specs.declared.TankRecord.{TankRecord}
use Rattle.job_records.specs.declared.Record.{Record}
use Rattle.job_records.specs.declared.Record.TheVariants.{Tank, Heater as HeaterCase, Step as StepCase}
use Rattle.job_records.specs.declared.Reading.{Reading}
use Rattle.job_records.specs.Fields.{no_volumes, no_settings}

-- ---- set points

-- a heater's entry in a step: its presence byte, bit 0 lower and bit 1 upper, and the two doubles, zero where absent
pub record Entry : Type 0 where
  pub presence : ℕ
  pub lower : Float
  pub upper : Float

abbrev pub zero_entry : Entry
zero_entry = record { presence = 0; lower = zero_f; upper = zero_f }

abbrev pub no_entries : List Entry
no_entries = replicate max_heaters zero_entry

-- the entry of each case of a heater's set points
unfoldable pub entry_of : SetPoints → Entry
entry_of Neither = record { presence = 0; lower = zero_f; upper = zero_f }
entry_of (Lower l) = record { presence = 1; lower = l; upper = zero_f }
entry_of (Upper u) = record { presence = 2; lower = zero_f; upper = u }
entry_of (Both l u) = record { presence = 3; lower = l; upper = u }

abbrev pub entries_of : List SetPoints → List Entry
entries_of settings = map entry_of settings

-- ---- a record

abbrev pub is_refused : Result Record Refusal → Bool
is_refused (Ok x) = false
is_refused (Err e) = true

-- a step's feed temperature, and how many draw events and set-point entries it holds
pub record StepNumbers : Type 0 where
  pub feed : Float
  pub events : ℕ
  pub entries : ℕ

-- the number is 0 or 11, the kind 1, 2 or 3, and 0 where refused
pub record Values : Type 0 where
  pub number : ℕ
  pub kind : ℕ
  pub tank : TankRecord
  pub heater : Heater
  pub step : StepNumbers
  pub volumes : List Float
  pub settings : List SetPoints
  pub entries : List Entry

abbrev pub zero_tank_record : TankRecord
zero_tank_record = record {
  layers = 0;
  volume = zero_f;
  standby = zero_f;
  initial = zero_f;
  rho = zero_f;
  cp = zero_f;
  ambient = zero_f;
  timestep = zero_f;
}

abbrev pub zero_step : StepNumbers
zero_step = record { feed = zero_f; events = 0; entries = 0 }

abbrev pub step_numbers : Step → StepNumbers
step_numbers p = record { feed = p.feed; events = p.events; entries = p.entries }

unfoldable pub values_of : Result Record Refusal → Values
values_of (Ok (Tank t)) = record {
  number = 0;
  kind = 1;
  tank = t;
  heater = zero_heater;
  step = zero_step;
  volumes = no_volumes;
  settings = no_settings;
  entries = no_entries;
}
values_of (Ok (HeaterCase h)) = record {
  number = 0;
  kind = 2;
  tank = zero_tank_record;
  heater = h;
  step = zero_step;
  volumes = no_volumes;
  settings = no_settings;
  entries = no_entries;
}
values_of (Ok (StepCase p)) = record {
  number = 0;
  kind = 3;
  tank = zero_tank_record;
  heater = zero_heater;
  step = step_numbers p;
  volumes = p.volumes;
  settings = p.settings;
  entries = entries_of p.settings;
}
values_of (Err e) = record {
  number = number_of e;
  kind = 0;
  tank = zero_tank_record;
  heater = zero_heater;
  step = zero_step;
  volumes = no_volumes;
  settings = no_settings;
  entries = no_entries;
}

abbrev pub values_in : Reading → Values
values_in r = values_of r.content

-- the answer with these values
abbrev pub content_with : Values → Result Record Refusal
content_with v =
    cond (eqb v.kind 1)
    (Ok (Tank v.tank))
    (cond (eqb v.kind 2)
    (Ok (HeaterCase v.heater))
    (cond (eqb v.kind 3)
    (Ok (StepCase (record { feed = v.step.feed; events = v.step.events; volumes = v.volumes; entries = v.step.entries; settings = v.settings })))
    (Err (refusal_with v.number))))
