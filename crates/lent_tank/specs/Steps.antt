-- States how a step's arguments stand in lent arrays (01, The four calls).
use Rattle.std.specs.Prelude.{ℕ, List, get_or, Float}
use Rattle.tank_model.specs.declared.Step.{Step}
use Rattle.lent_tank.specs.Layout.{settings_in}
use Rattle.lent_tank.specs.Flags.{flags_in}

-- asked: how many events, how many set-point entries; present: bytes
abbrev pub step_in : Float → List ℕ → List Float → List ℕ → List Float → Step
step_in feed asked volumes present points = record {
  feed = feed;
  events = get_or asked 0 0;
  volumes = volumes;
  entries = get_or asked 1 0;
  settings = settings_in (flags_in present) points;
}
