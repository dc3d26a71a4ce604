-- `final_temps::calc_final_temps` meets its contract: by the answer of the mixing, what follows it, or refusal 9 with the lent arrays as they were.
use mathlib.Core.Path.{refl, ap}
use Rattle.std.specs.Prelude.{Err}
use Rattle.heating.specs.FinalTemps.{adjusted_input, after_mixing}
use Rattle.heating.proofs.Mixed.{refused_nine, final_sorted, final_unsorted}
use Rattle.heating.proofs.final_temps.calc_final_temps.Goals as goal

pub returns-in-Ok : goal.returns-in-Ok
unfolding after_mixing adjusted_input
returns-in-Ok c =
    let done = c.calc_temps_after_thermal_losses-figures.ensures in
    rw (final_sorted _ _ _ _ _ _ _ _ c.calc_temps_with_energy_input.ensures _ _ _ c.rearrange_temperatures.ensures c.in-Ok.is)
    (record {
      answers = rw (done.adjusts, done.lost.loses, c.energy_input-input.ensures);
      leaves = done.lost.leaves;
      charges = done.lost.charged_with;
    })

pub returns-in-Err : goal.returns-in-Err
unfolding after_mixing
returns-in-Err c =
    let answer = c.rearrange_temperatures.ensures.answers in
    let refused = c.in-Err.is in
    rw (final_unsorted _ _ _ _ _ _ _ _ c.calc_temps_with_energy_input.ensures _ _ answer refused)
    (record { answers = ap Err (refused_nine _ _ _ _ _ answer refused); leaves = refl; charges = refl })
