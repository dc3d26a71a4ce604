-- States the parts of a step's record that repeat (01, Job): the volumes, and for each heater a presence byte and two doubles, lower then upper.
use Rattle.std.specs.Prelude.{ℕ, ◌+◌, ◌*◌, Bool, cond, List, ◌++◌, leb, eqb, drop, replicate, Float}
use Rattle.numeric.specs.Double.{zero_f}
use Rattle.numeric.specs.Tabulate.{tabulate}
use Rattle.draw_events.specs.Lent.{max_events}
use Rattle.set_points.specs.declared.SetPoints.{SetPoints}
use Rattle.set_points.specs.declared.SetPoints.TheVariants.{Neither, Lower, Upper, Both}
use Rattle.working_order.specs.Order.{max_heaters}
use Rattle.job_records.specs.Bytes.{byte_at, double_at}

abbrev pub no_volumes : List Float
no_volumes = replicate max_events zero_f

abbrev pub no_settings : List SetPoints
no_settings = replicate max_heaters Neither

-- the first n places of a list as g gives them, the others as they are
abbrev pub filled : {A : Type 0} → (ℕ → A) → ℕ → List A → List A
filled g n xs = tabulate g n 0 ++ drop n xs

-- n volumes from a position on, and zeros
unfoldable pub volumes_at : List ℕ → ℕ → ℕ → List Float
volumes_at s at n = filled (λ (i : ℕ). double_at s (at + 8 * i)) n no_volumes

-- past 64 volumes only their count is kept
unfoldable pub step_volumes_at : List ℕ → ℕ → ℕ → List Float
step_volumes_at s at n = cond (leb n max_events) (volumes_at s at n) no_volumes

-- a presence byte: 0 to 3
abbrev pub is_presence_at : List ℕ → ℕ → ℕ → Bool
is_presence_at s at k = leb (byte_at s (at + 17 * k)) 3

-- by the presence byte, bit 0 lower, bit 1 upper; absent doubles are ignored
unfoldable pub points_of : ℕ → Float → Float → SetPoints
points_of presence lower upper =
    cond (eqb presence 0) Neither (cond (eqb presence 1) (Lower lower) (cond (eqb presence 2) (Upper upper) (Both lower upper)))

unfoldable pub points_at : List ℕ → ℕ → SetPoints
points_at s at = points_of (byte_at s at) (double_at s (at + 1)) (double_at s (at + 9))

abbrev pub setting_at : List ℕ → ℕ → ℕ → SetPoints
setting_at s at k = points_at s (at + 17 * k)

-- the settings of n heaters from a position on, and no set points
unfoldable pub settings_at : List ℕ → ℕ → ℕ → List SetPoints
settings_at s at n = filled (setting_at s at) n no_settings
