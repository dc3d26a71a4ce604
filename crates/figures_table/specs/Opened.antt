-- One name that opens every definition of a mixing, a make and a step (01, Arithmetic underneath to Step): under it a figure is proved by computing both
-- sides.
use Rattle.std.specs.Float.Ieee as I
use Rattle.numeric.specs.Compare as Compare
use Rattle.numeric.specs.Close as Close
use Rattle.numeric.specs.Iterate as Iterate
use Rattle.numeric.specs.Holds as Holds
use Rattle.numeric.specs.Tabulate as Tabulate
use Rattle.numeric.specs.Sum2 as Sum2
use Rattle.numeric.specs.Whole as Whole
use Rattle.mixing.specs.Round as Round
use Rattle.mixing.specs.Rearrange as Rearrange
use Rattle.mixing.specs.Mix as Mix
use Rattle.cylinder.specs.Layers as Layers
use Rattle.draw_off.specs.Cold as Cold
use Rattle.draw_off.specs.Draw as Draw
use Rattle.layer_filling.specs.Filling as Filling
use Rattle.refill.specs.Refill as Refill
use Rattle.draw_events.specs.Event as Event
use Rattle.set_points.specs.SetPoints as SetPoints
use Rattle.layer_losses.specs.Loss as Loss
use Rattle.thermal_losses.specs.Losses as Losses
use Rattle.heating.specs.Heat as Heat
use Rattle.heating.specs.FinalTemps as FinalTemps
use Rattle.heater_switches.specs.Switch as Switch
use Rattle.immersion_heater.specs.Offer as Offer
use Rattle.immersion_heater.specs.Supply as Supply
use Rattle.immersion_heater.specs.Turn as Turn
use Rattle.working_order.specs.Order as Sorting
use Rattle.tank_model.specs.Fixed as Fixed
use Rattle.tank_model.specs.Order as Order
use Rattle.tank_model.specs.FirstRefusal as FirstRefusal
use Rattle.tank_model.specs.Checks as Checks
use Rattle.tank_model.specs.Run as Run
use Rattle.tank_model.specs.Work as Work
use Rattle.storage_tank.specs.Calls as Calls

unfoldable pub opened : Unit {0}
unfolding I.round I.of_int I.of_bits I.add I.sub I.mul I.div I.neg I.lt I.le I.eq Compare.min_of2 Compare.max_of2 Close.magnitude Close.infinite Close.within
    Close.close Close.narrow_close Close.wide_close
    Iterate.iterate Holds.holds Tabulate.tabulate Sum2.accumulate Sum2.accumulate_all Sum2.sum2 Whole.whole_below Whole.layer_of Layers.layer_volume
    Layers.layer_volumes Layers.no_volume Layers.all_finite
    Round.joins Round.member Round.group_temp Round.pair Round.one_round Rearrange.is_sorted Rearrange.rounds Rearrange.rearrange Mix.mix_refusal
    Cold.cold Draw.gives_all Draw.share Draw.rest_after Draw.draw_share Draw.draw_layer Draw.draw_layers Draw.draw_feed Draw.extract Draw.volume_used
    Filling.take_share Filling.take_from Filling.take_below Filling.from_feed Filling.enters_warmer Refill.filling_of Refill.refill_layer Refill.refill_layers
    Refill.refill
    Event.event_mixing Event.event_of Event.temps_after_event Event.totals_after_event Event.event_finite Event.event_number
    SetPoints.has_upper SetPoints.upper_of Switch.at_or_under_lower Switch.upper_missing_or_reached Switch.switch_on Switch.switch_off
    Heat.offers_to Heat.heated
    Loss.clearly_above Loss.over_upper Loss.standby_coefficient Loss.counted_temp Loss.standing_loss Loss.loss Loss.limited_temp Loss.surplus_term
    Losses.warmed Losses.loss_at Losses.losses Losses.temps_after Losses.charged_after Losses.surplus Losses.adjusted
    FinalTemps.heat_and_mix FinalTemps.adjusted_input FinalTemps.after_mixing FinalTemps.calc_final_temps Offer.offer
    Supply.demand Supply.supply Turn.after_heat Turn.turn Turn.turn_finite Turn.turn_number
    Fixed.placed_heaters Sorting.insert Sorting.insertion_sort Sorting.rising_order Order.working_order FirstRefusal.first_refusal Checks.points_check
    Checks.make_refusal Checks.step_refusal
    Run.end_by Run.first Run.run
    Work.work_event Work.events Work.average_of Work.turn_of Work.work_turn Work.turns Work.recoverable Work.close Work.then_turns Work.begin Work.work
    Calls.fitted_heaters Calls.made_of Calls.made Calls.answer Calls.stepped Calls.answered Calls.answers
opened = tt
