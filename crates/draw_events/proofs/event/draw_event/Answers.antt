-- `event::draw_event` meets its contract (01, Draw; Refill; refusals 9 and 10): the draw, the refill, the mixing and the event's number, in the order of the
-- work.
use native.Mathlib.Omega.{arith}
use mathlib.Core.Path.{◌≡◌, refl, sym, ap}
use Rattle.std.specs.Prelude.{Ok}
use Rattle.std.proofs.lemmas.Result.{err_from_is_err_and}
use Rattle.refusals.specs.Refusals.{number_of, number_in}
use Rattle.draw_off.proofs.Untouched.{untouched_within}
use Rattle.draw_events.proofs.KeptSums.{sum_untouched}
use Rattle.draw_events.proofs.Numbers.{number_refused, number_finite}
use Rattle.draw_events.proofs.Worked.{mixed_worked, unmixed_worked, event_worked}
use Rattle.draw_events.proofs.event.draw_event.Goals as goal
use Rattle.draw_events.proofs.event.draw_event.Goals.{then-mixes+in_ok-rearrange_temperatures, else-mixes}

pub keep-requires : goal.keep-requires
keep-requires c =
    let a = c.args in
    let within = untouched_within a.tank.now.numbers a.feed a.temps.now a.wanted a.tank.now.vol a.totals.now.weighted a.totals.now.drawn in
    (omega (arith, c.extract_hot_water-d.ensures.left, within, a.tank.now.few_layers), c.requires.1)

pub volume_used-requires : goal.volume_used-requires
volume_used-requires c =
    let a = c.args in
    sum_untouched a.tank.now.numbers a.feed a.temps.now a.wanted a.tank.now.vol a.totals.now.weighted a.totals.now.drawn _ c.extract_hot_water-d.result c.keep.new.self (c.extract_hot_water-d.ensures.drawn, c.extract_hot_water-d.ensures.left) (c.keep.ensures.layers, c.keep.ensures.sum)

pub returns-in_err-rearrange_temperatures-clause-event : goal.returns-in_err-rearrange_temperatures-clause-event
returns-in_err-rearrange_temperatures-clause-event c =
    let w = err_from_is_err_and c.from_residual.result c.from_residual.ensures.1 in
    let same : number_in c.from_residual.result ≡ number_in c.rearrange_temperatures.result = rw (w.1, c.in_err-rearrange_temperatures.was) (ap number_of w.2) in
    event_worked c.extract_hot_water-d.result _ record {
      draws = c.extract_hot_water-d.ensures.drawn;
      uses = c.volume_used.ensures;
      fills = c.calc_temps_after_extraction-mixes.ensures;
      mixing = mixed_worked _ _ _ _ c.if-mixes.true _ _ c.rearrange_temperatures.ensures _ same _ refl;
      told = number_refused _ _ _ w.1 _ w.1 refl _;
    }

pub returns-clause-event : goal.returns-clause-event
returns-clause-event c =
    let told = rw c.is_event_finite.ensures at c.unless.ensures.number in
    elim c.if-mixes.branch [
      | then-mixes+in_ok-rearrange_temperatures w ↦ event_worked c.extract_hot_water-d.result _ record {
        draws = c.extract_hot_water-d.ensures.drawn;
        uses = c.volume_used.ensures;
        fills = c.calc_temps_after_extraction-mixes.ensures;
        mixing = mixed_worked _ _ _ _ w.if-mixes.true _ _ w.rearrange_temperatures.ensures 0 (sym (ap number_in w.in_ok-rearrange_temperatures.was)) _ w.temps-is;
        told = number_finite (Ok tt) _ tt refl _ _ refl told;
      }
      | else-mixes w ↦ event_worked c.extract_hot_water-d.result _ record {
        draws = c.extract_hot_water-d.ensures.drawn;
        uses = c.volume_used.ensures;
        fills = c.calc_temps_after_extraction-mixes.ensures;
        mixing = unmixed_worked _ _ _ _ w.if-mixes.false _ w.temps-is;
        told = number_finite (Ok tt) _ tt refl _ _ refl told;
      }
    ]
