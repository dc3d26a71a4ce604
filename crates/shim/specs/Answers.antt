-- States what an exported make and an exported step answer and leave in the lent arrays (01, The four calls): the number, and the tank and the report of the
-- call's own answer, in the layout that its arguments have. No step changes a heater: a step leaves the numbers of the heaters as they were lent.
use Rattle.std.specs.Prelude.{ℕ, zero, suc, ◌≡◌, Bool, List, Float}
use Rattle.refusals.specs.Refusals.{number_in}
use Rattle.storage_tank.specs.declared.Made.{Made}
use Rattle.storage_tank.specs.declared.Stepped.{Stepped}
use Rattle.lent_tank.specs.Layout.{heaters_of}
use Rattle.lent_tank.specs.Flags.{bytes_of}
use Rattle.lent_tank.specs.Tanks.{TankHeld, TankWritten}
use Rattle.lent_tank.specs.Reports.{line_flags_of, ReportHeld, ReportWritten}

-- ---- all that the call hands back stands there: a step leaves the heaters' numbers, and all else is written, so every byte after it is 0 or 1

pub record MakeAnswered (a : Made) (number : ℕ) (counts : List ℕ) (numbers temps heaters : List Float) (thermostats flags : List ℕ) : Type 0 where
  pub number_is : number ≡ number_in a.outcome
  pub tank_written : TankWritten a.tank counts numbers temps thermostats flags
  pub heaters_written : heaters ≡ heaters_of a.tank.fitted

pub record StepAnswered
    (s : Stepped) (heaters : List Float) (number : ℕ)
    (counts' : List ℕ) (numbers' temps' heaters' : List Float) (thermostats' flags' : List ℕ)
    (totals' figures' : List Float) (lineFlags' rounds' : List ℕ)
    : Type 0 where
  pub number_is : number ≡ number_in s.outcome
  pub tank_written : TankWritten s.tank counts' numbers' temps' thermostats' flags'
  pub heaters_kept : heaters' ≡ heaters
  pub report_written : ReportWritten s.report totals' figures' lineFlags' rounds'

-- ---- a step in place

-- the bytes that a step of this number leaves: those lent where it is refused, and those of its answer's flags where it is accepted
unfoldable pub bytes_left : ℕ → List ℕ → List Bool → List ℕ
bytes_left zero lent flags = bytes_of flags
bytes_left (suc number) lent flags = lent

-- the numbers are those of the answer's tank and report; of the bytes lent the thermostats' stay whatever they are, and the flags' where the step is refused
pub record StepLeft
    (s : Stepped) (heaters : List Float) (thermostats flags lineFlags : List ℕ) (number : ℕ)
    (counts' : List ℕ) (numbers' temps' heaters' : List Float) (thermostats' flags' : List ℕ)
    (totals' figures' : List Float) (lineFlags' rounds' : List ℕ)
    : Type 0 where
  pub number_is : number ≡ number_in s.outcome
  pub tank_held : TankHeld s.tank counts' numbers' temps'
  pub heaters_kept : heaters' ≡ heaters
  pub thermostats_kept : thermostats' ≡ thermostats
  pub flags_left : flags' ≡ bytes_left (number_in s.outcome) flags s.tank.flags
  pub report_held : ReportHeld s.report totals' figures' rounds'
  pub line_flags_left : lineFlags' ≡ bytes_left (number_in s.outcome) lineFlags (line_flags_of s.report.lines)
