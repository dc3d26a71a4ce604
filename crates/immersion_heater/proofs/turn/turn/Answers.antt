-- `turn::turn` meets its contract: by what `calc_final_temps` answered, supply and switch-off, or refusal 9.
use lib.Ieee.{of_bits}
use Rattle.immersion_heater.proofs.Shell.{turn_is, refused_worked, passed_worked}
use Rattle.immersion_heater.proofs.turn.turn.Goals as goal

pub returns-in-Ok : goal.returns-in-Ok
returns-in-Ok c =
    let tank = c.args.tank.now in
    rw (turn_is tank.numbers _ c.args.h _ _ _ _ _ _ c.determine_heat_source_switch_on-on.ensures c.potential_energy_input.ensures, c.finite_outcome.ensures, c.determine_heat_source_switch_off-off.ensures, c.demand_energy-supplied.ensures)
    (passed_worked tank.numbers tank.vol c.args.h _ _ _ _ _ _ _ _ c.calc_final_temps.ensures _ c.in-Ok.is)

pub returns-in-Err : goal.returns-in-Err
unfolding of_bits
returns-in-Err c =
    let tank = c.args.tank.now in
    rw (turn_is tank.numbers _ c.args.h _ _ _ _ _ _ c.determine_heat_source_switch_on-on.ensures c.potential_energy_input.ensures)
    (refused_worked tank.numbers tank.vol c.args.h _ _ _ _ _ _ _ _ c.calc_final_temps.ensures _ c.in-Err.is)
