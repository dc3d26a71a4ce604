-- States what the heater supplies (01, Supply and switch-off): `ImmersionHeater::demand_energy`, its control on.
use Rattle.std.specs.Prelude.{cond, Float}
use Rattle.numeric.specs.Double.{zero_f}
use Rattle.numeric.specs.Compare.{min_of2}
use Rattle.numeric.specs.Close.{wide_close}

-- a figure wide-close to 0 is 0
unfoldable pub demand : Float → Float
demand adjusted = cond (wide_close adjusted zero_f) zero_f adjusted

-- `min_of_2` of it and the cap, rated power × step length, whatever was offered
unfoldable pub supply : Float → Float → Float
supply adjusted cap = min_of2 (demand adjusted) cap
