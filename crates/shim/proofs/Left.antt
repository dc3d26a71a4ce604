-- Proves what the bytes that the exported calls leave say (01, The four calls). Whatever bytes are lent, the tank that is read in the arrays after a call is its
-- answer's. Where every byte lent is 0 or 1, every byte that the step leaves is that of the answer's flag, as if the answer were written in all arrays; so a
-- refused call through the method leaves them as they were.
use Prim.Native.Nat.{ℕ, zero, suc, ◌<◌}
use native.Mathlib.Omega.{arith}
use mathlib.Core.Path.{◌≡◌, refl, sym, ap, ◌∙◌, subst}
use mathlib.Core.Bool.{Bool, false}
use mathlib.Core.List.{List}
use lib.ListN.{length, length-map}
use lib.Ieee.{Float}
use Rattle.numeric.specs.Tabulate.{tabulate, length_tabulate}
use Rattle.working_order.specs.Order.{max_heaters}
use Rattle.tank_model.specs.declared.Step.{Step}
use Rattle.tank_model.specs.declared.TankDesign.{TankDesign}
use Rattle.tank_model.specs.Fixed.{fixed_of}
use Rattle.tank_model.specs.Checks.{make_refusal}
use Rattle.tank_model.specs.Run.{End, refused, done}
use Rattle.tank_model.specs.Work.{Outcome, work}
use Rattle.refusals.specs.Refusals.{number_in}
use Rattle.lent_tank.specs.Layout.{fitted_in, heaters_of, thermostats_of, lines_in}
use Rattle.lent_tank.proofs.Places.{places, heaters_back, thermostats_back}
use Rattle.storage_tank.specs.declared.StorageTank.{StorageTank}
use Rattle.storage_tank.specs.declared.Report.{Report}
use Rattle.storage_tank.specs.Tank.{fixed_in, state_in}
use Rattle.storage_tank.specs.Calls.{fitted_heaters, made_of, made, answer, stepped}
use Rattle.storage_tank.proofs.Calls.{refused_step}
use Rattle.lent_tank.specs.Flags.{flag_in, flags_in, bytes_of, ZeroOrOne}
use Rattle.lent_tank.specs.Tanks.{tank_in, TankHeld, TankWritten}
use Rattle.lent_tank.specs.Reports.{report_in, line_flags_of, ReportHeld}
use Rattle.shim.specs.Answers.{bytes_left, MakeAnswered, StepLeft, StepAnswered}
use Rattle.lent_tank.proofs.Bytes.{flags_back, bytes_back}
use Rattle.shim.proofs.Kept.{LentLengths, tank_held_as_lent, report_held_as_lent, Kept}

-- ---- 8 flags read in their array, and the heaters with them

module _ (bytes : List ℕ) (long : length bytes ≡ 8) where
  flags_long : length (flags_in bytes) ≡ 8
  flags_long = length-map bytes flag_in ∙ long

  thermostats_read : (heaters : List Float) → thermostats_of (fitted_in heaters (flags_in bytes)) ≡ flags_in bytes
  thermostats_read heaters = thermostats_back heaters (flags_in bytes) flags_long

  line_flags_read : (figures : List Float) (rounds : List ℕ) → line_flags_of (lines_in figures (flags_in bytes) rounds) ≡ flags_in bytes
  unfolding lines_in line_flags_of tabulate
  line_flags_read figures rounds = places false 8 (flags_in bytes) flags_long

-- a tank that was written is read as it is
pub written_read : (t : StorageTank) (counts : List ℕ) (numbers temps heaters : List Float) (thermostats flags : List ℕ) → TankWritten t counts numbers temps thermostats flags → heaters ≡ heaters_of t.fitted → length t.fitted ≡ max_heaters → tank_in counts numbers temps heaters thermostats flags ≡ t
written_read t counts numbers temps heaters thermostats flags w h long = rw (w.held.counts_held, w.held.numbers_held, w.held.temps_held, h, w.thermostats_written, w.flags_written, flags_back (thermostats_of t.fitted), flags_back t.flags, heaters_back t.fitted long)

-- ---- make

made_long : (m : TankDesign) (number : ℕ) → length (made_of m number).tank.fitted ≡ max_heaters
unfolding made_of fitted_heaters
made_long m zero = length_tabulate _ max_heaters 0
made_long m (suc number) = refl

-- what is read after make is the tank that it made
pub made_read : (m : TankDesign) (number : ℕ) (counts : List ℕ) (numbers temps heaters : List Float) (thermostats flags : List ℕ) → MakeAnswered (made m) number counts numbers temps heaters thermostats flags → tank_in counts numbers temps heaters thermostats flags ≡ (made m).tank
unfolding made
made_read m number counts numbers temps heaters thermostats flags s = written_read (made m).tank counts numbers temps heaters thermostats flags s.tank_written s.heaters_written (made_long m (make_refusal (fixed_of m) m.initial))

-- ---- a step keeps its heaters

fitted_kept : (t : StorageTank) (r : Report) (a : Step) → (stepped t r a).tank.fitted ≡ t.fitted
unfolding stepped answer
fitted_kept t r a = go (work (fixed_in t) (state_in t) a).end
  where
    go : (e : End Outcome) → (answer t r e).tank.fitted ≡ t.fitted
    go (refused n) = refl
    go (done s) = refl

-- ---- the bytes left, by the step's number

left_read : (number : ℕ) (lent : List ℕ) (flags : List Bool) → (0 < number → flags ≡ flags_in lent) → flags_in (bytes_left number lent flags) ≡ flags
unfolding bytes_left
left_read zero lent flags h = flags_back flags
left_read (suc number) lent flags h = sym (h (omega arith))

left_written : (number : ℕ) (lent : List ℕ) (flags : List Bool) → ZeroOrOne lent → (0 < number → flags ≡ flags_in lent) → bytes_left number lent flags ≡ bytes_of flags
unfolding bytes_left
left_written zero lent flags z h = refl
left_written (suc number) lent flags z h = sym (bytes_back lent z) ∙ ap bytes_of (sym (h (omega arith)))

-- ---- the exported step

module _ (counts : List ℕ) (numbers temps heaters : List Float) (thermostats flags : List ℕ) (totals figures : List Float) (lineFlags rounds : List ℕ) (thermostats-long : length thermostats ≡ 8) (line-flags-long : length lineFlags ≡ 8) (a : Step) where
  abbrev lent_tank : StorageTank
  lent_tank = tank_in counts numbers temps heaters thermostats flags

  abbrev lent_report : Report
  lent_report = report_in totals figures lineFlags rounds

  flags_of_refused : 0 < number_in (stepped lent_tank lent_report a).outcome → (stepped lent_tank lent_report a).tank.flags ≡ flags_in flags
  flags_of_refused l = ap (λ (t : StorageTank). t.flags) (refused_step lent_tank lent_report a l).0

  line_flags_of_refused : 0 < number_in (stepped lent_tank lent_report a).outcome → line_flags_of (stepped lent_tank lent_report a).report.lines ≡ flags_in lineFlags
  unfolding report_in
  line_flags_of_refused l = ap (λ (r : Report). line_flags_of r.lines) (refused_step lent_tank lent_report a l).1 ∙ line_flags_read lineFlags line-flags-long figures rounds

  module _ (number : ℕ) (counts' : List ℕ) (numbers' temps' heaters' : List Float) (thermostats' flags' : List ℕ) (totals' figures' : List Float) (lineFlags' rounds' : List ℕ) (s : StepLeft (stepped lent_tank lent_report a) heaters thermostats flags lineFlags number counts' numbers' temps' heaters' thermostats' flags' totals' figures' lineFlags' rounds') where
    heaters_read : fitted_in heaters' (flags_in thermostats') ≡ (stepped lent_tank lent_report a).tank.fitted
    heaters_read = rw (s.heaters_kept, s.thermostats_kept) (sym (fitted_kept lent_tank lent_report a))

    -- what is read after the step is the answer's tank, for any bytes lent
    pub tank_read : tank_in counts' numbers' temps' heaters' thermostats' flags' ≡ (stepped lent_tank lent_report a).tank
    tank_read =
        let on : flags_in flags' ≡ (stepped lent_tank lent_report a).tank.flags = ap flags_in s.flags_left ∙ left_read _ _ _ flags_of_refused in
        rw (s.tank_held.counts_held, s.tank_held.numbers_held, s.tank_held.temps_held, heaters_read, on)

    -- bytes of 0 and 1 hold all that the answer is written as
    pub zeros_and_ones : ZeroOrOne thermostats → ZeroOrOne flags → ZeroOrOne lineFlags → StepAnswered (stepped lent_tank lent_report a) heaters number counts' numbers' temps' heaters' thermostats' flags' totals' figures' lineFlags' rounds'
    zeros_and_ones bt bf bl =
        record {
          number_is = s.number_is;
          tank_written = record {
            held = s.tank_held;
            thermostats_written = s.thermostats_kept ∙ sym (bytes_back thermostats bt) ∙ ap bytes_of (sym (ap thermostats_of (fitted_kept lent_tank lent_report a) ∙ thermostats_read thermostats thermostats-long heaters));
            flags_written = s.flags_left ∙ left_written _ _ _ bf flags_of_refused;
          };
          heaters_kept = s.heaters_kept;
          report_written = record { held = s.report_held; flags_written = s.line_flags_left ∙ left_written _ _ _ bl line_flags_of_refused };
        }

  -- the same of the method: what is read after it is the tank that it hands back
  pub method_read : (number : ℕ) (counts' : List ℕ) (numbers' temps' heaters' : List Float) (thermostats' flags' : List ℕ) (totals' figures' : List Float) (lineFlags' rounds' : List ℕ) → StepAnswered (stepped lent_tank lent_report a) heaters number counts' numbers' temps' heaters' thermostats' flags' totals' figures' lineFlags' rounds' → tank_in counts' numbers' temps' heaters' thermostats' flags' ≡ (stepped lent_tank lent_report a).tank
  method_read number counts' numbers' temps' heaters' thermostats' flags' totals' figures' lineFlags' rounds' s =
      let kept = fitted_kept lent_tank lent_report a in
      let w = s.tank_written in
      let own : flags_in thermostats' ≡ flags_in thermostats =
      ap flags_in w.thermostats_written ∙ flags_back _ ∙ ap thermostats_of kept ∙ thermostats_read thermostats thermostats-long heaters in
      let on : flags_in flags' ≡ (stepped lent_tank lent_report a).tank.flags = ap flags_in w.flags_written ∙ flags_back _ in
      let fitted : fitted_in heaters' (flags_in thermostats') ≡ (stepped lent_tank lent_report a).tank.fitted = rw (s.heaters_kept, own) (sym kept) in
      rw (w.held.counts_held, w.held.numbers_held, w.held.temps_held, fitted, on)

  -- through the method, a refused step leaves the numbers as they were, and the bytes that are written of what was read in those lent
  module _ (long : LentLengths counts numbers totals figures rounds) where
    pub method_refused_keeps : (number : ℕ) (counts' : List ℕ) (numbers' temps' heaters' : List Float) (thermostats' flags' : List ℕ) (totals' figures' : List Float) (lineFlags' rounds' : List ℕ) → StepAnswered (stepped lent_tank lent_report a) heaters number counts' numbers' temps' heaters' thermostats' flags' totals' figures' lineFlags' rounds' → 0 < number → Kept counts numbers temps heaters (bytes_of (flags_in thermostats)) (bytes_of (flags_in flags)) totals figures (bytes_of (flags_in lineFlags)) rounds counts' numbers' temps' heaters' thermostats' flags' totals' figures' lineFlags' rounds'
    method_refused_keeps number counts' numbers' temps' heaters' thermostats' flags' totals' figures' lineFlags' rounds' s l =
        let above = subst (λ (n : ℕ). 0 < n) s.number_is l in
        let same = refused_step lent_tank lent_report a above in
        let t₀ = tank_held_as_lent counts numbers temps heaters thermostats flags long.counts_long long.numbers_long in
        let r₀ = report_held_as_lent totals figures lineFlags rounds long.totals_long long.figures_long long.rounds_long in
        let t = subst (λ (x : StorageTank). TankHeld x counts' numbers' temps') same.0 s.tank_written.held in
        let r = subst (λ (x : Report). ReportHeld x totals' figures' rounds') same.1 s.report_written.held in
        record {
          counts_kept = t.counts_held ∙ sym t₀.counts_held;
          numbers_kept = t.numbers_held ∙ sym t₀.numbers_held;
          temps_kept = t.temps_held ∙ sym t₀.temps_held;
          heaters_kept = s.heaters_kept;
          thermostats_kept = s.tank_written.thermostats_written ∙ ap bytes_of (ap thermostats_of (fitted_kept lent_tank lent_report a) ∙ thermostats_read thermostats thermostats-long heaters);
          flags_kept = s.tank_written.flags_written ∙ ap bytes_of (flags_of_refused above);
          totals_kept = r.totals_held ∙ sym r₀.totals_held;
          figures_kept = r.figures_held ∙ sym r₀.figures_held;
          line_flags_kept = s.report_written.flags_written ∙ ap bytes_of (line_flags_of_refused above);
          rounds_kept = r.rounds_held ∙ sym r₀.rounds_held;
        }
