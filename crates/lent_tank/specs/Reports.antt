-- States how a report stands in lent arrays, both ways (01, The four calls: what a step takes and answers).
use Rattle.std.specs.Prelude.{ℕ, ◌≡◌, Bool, false, List, [], ◌∷◌, ◌++◌, get_or, Float}
use Rattle.std.specs.Float.{nan}
use Rattle.numeric.specs.Tabulate.{tabulate}
use Rattle.working_order.specs.Order.{max_heaters}
use Rattle.tank_model.specs.declared.HeaterLine.{HeaterLine}
use Rattle.lent_tank.specs.Layout.{lines_in}
use Rattle.storage_tank.specs.declared.Report.{Report}
use Rattle.lent_tank.specs.Flags.{flags_in, bytes_of}

-- what stands past the end of a list of lines
abbrev pub no_line : HeaterLine
no_line = record { flag = false; adjusted = nan; supplied = nan; losses = nan; rounds = 0 }

-- ---- from arrays

-- totals: energy withdrawn, volume used, average draw-off temperature, recoverable losses; flags are bytes
unfoldable pub report_in : List Float → List Float → List ℕ → List ℕ → Report
report_in totals figures flags rounds = record {
  energy = get_or totals 0 nan;
  used = get_or totals 1 nan;
  average = get_or totals 2 nan;
  recoverable = get_or totals 3 nan;
  lines = lines_in figures (flags_in flags) rounds;
}

-- ---- to arrays: adjusted inputs, then energies supplied, then losses

abbrev pub totals_of : Report → List Float
totals_of r = r.energy ∷ r.used ∷ r.average ∷ r.recoverable ∷ []

unfoldable pub figures_of : List HeaterLine → List Float
figures_of xs =
    tabulate (λ (h : ℕ). (get_or xs h no_line).adjusted) max_heaters 0
    ++ (tabulate (λ (h : ℕ). (get_or xs h no_line).supplied) max_heaters 0
    ++ tabulate (λ (h : ℕ). (get_or xs h no_line).losses) max_heaters 0)

unfoldable pub line_flags_of : List HeaterLine → List Bool
line_flags_of xs = tabulate (λ (h : ℕ). (get_or xs h no_line).flag) max_heaters 0

unfoldable pub rounds_of : List HeaterLine → List ℕ
rounds_of xs = tabulate (λ (h : ℕ). (get_or xs h no_line).rounds) max_heaters 0

-- the arrays of numbers hold the report
pub record ReportHeld (r : Report) (totals figures : List Float) (rounds : List ℕ) : Type 0 where
  pub totals_held : totals ≡ totals_of r
  pub figures_held : figures ≡ figures_of r.lines
  pub rounds_held : rounds ≡ rounds_of r.lines

-- and the bytes are those of its flags
pub record ReportWritten (r : Report) (totals figures : List Float) (flags rounds : List ℕ) : Type 0 where
  pub held : ReportHeld r totals figures rounds
  pub flags_written : flags ≡ bytes_of (line_flags_of r.lines)
