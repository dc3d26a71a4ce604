-- Proves that an exported step that is refused leaves every lent array as it was (01, The four calls), as far as the logic tells one not-a-number from another,
-- and that what an accepted one need not write holds its answer already.
use Rattle.std.proofs.Common.{◌≡◌, refl, sym, ◌∙◌, subst, ℕ, zero, suc, ◌<◌, arith, Bool, List, length, Float}
use Rattle.std.specs.Prelude.{Ok, Err}
use Rattle.std.specs.Float.{nan}
use Rattle.refusals.specs.declared.Refusal.{Refusal}
use Rattle.refusals.specs.Refusals.{number_of}
use Rattle.refusals.proofs.Numbers.{number-not_0}
use Rattle.numeric.specs.Tabulate.{tabulate}
use Rattle.tank_model.specs.declared.Step.{Step}
use Rattle.tank_model.specs.declared.TurnNotes.{TurnNotes}
use Rattle.tank_model.specs.Fixed.{Fixed, State}
use Rattle.heater_turns.specs.Notes.{no_notes}
use Rattle.step_work.specs.declared.work.StepFigures.{StepFigures}
use Rattle.step_work.specs.Lent.{StepWorked}
use Rattle.storage_tank.specs.declared.StorageTank.{StorageTank}
use Rattle.storage_tank.specs.declared.Report.{Report}
use Rattle.storage_tank.specs.declared.Stepped.{Stepped}
use Rattle.storage_tank.specs.Tank.{fixed_in, state_in}
use Rattle.storage_tank.specs.Calls.{report_by, stepped}
use Rattle.storage_tank.proofs.Answers.{step_refused, step_accepted}
use Rattle.storage_tank.proofs.Calls.{refused_step}
use Rattle.lent_tank.specs.Layout.{lines_in}
use Rattle.lent_tank.specs.Flags.{bytes_of}
use Rattle.lent_tank.specs.Tanks.{tank_in, TankHeld}
use Rattle.lent_tank.specs.Reports.{report_in, figures_of, rounds_of, ReportHeld, ReportWritten}
use Rattle.lent_tank.proofs.Places.{places}
use Rattle.shim.specs.Answers.{bytes_left, StepLeft}

-- ---- arrays of the lent lengths hold the tank and the report that are read from them

pub record LentLengths (counts : List ℕ) (numbers totals figures : List Float) (rounds : List ℕ) : Type 0 where
  pub counts_long : length counts ≡ 2
  pub numbers_long : length numbers ≡ 6
  pub totals_long : length totals ≡ 4
  pub figures_long : length figures ≡ 24
  pub rounds_long : length rounds ≡ 8

module _ (counts : List ℕ) (numbers temps heaters : List Float) (thermostats flags : List ℕ) (counts_long : length counts ≡ 2) (numbers_long : length numbers ≡ 6) where
  pub tank_held_as_lent : TankHeld (tank_in counts numbers temps heaters thermostats flags) counts numbers temps
  unfolding tabulate
  tank_held_as_lent = record {
    counts_held = sym (places 0 2 counts counts_long);
    numbers_held = sym (places nan 6 numbers numbers_long);
    temps_held = refl;
  }

module _ (totals figures : List Float) (flags rounds : List ℕ) (totals_long : length totals ≡ 4) (figures_long : length figures ≡ 24) (rounds_long : length rounds ≡ 8) where
  pub report_held_as_lent : ReportHeld (report_in totals figures flags rounds) totals figures rounds
  unfolding report_in lines_in figures_of rounds_of tabulate
  report_held_as_lent = record {
    totals_held = sym (places nan 4 totals totals_long);
    figures_held = sym (places nan 24 figures figures_long);
    rounds_held = sym (places 0 8 rounds rounds_long);
  }

-- ---- the bytes that a step leaves

bytes_kept : (number : ℕ) (lent : List ℕ) (flags : List Bool) → (number ≡ 0 → ⊥) → bytes_left number lent flags ≡ lent
unfolding bytes_left
bytes_kept zero lent flags n = absurd (n refl)
bytes_kept (suc number) lent flags n = refl

above_not_zero : (n : ℕ) → 0 < n → n ≡ 0 → ⊥
above_not_zero n l e = omega arith

-- ---- the exported step

-- the ten arrays after a call are those before it, place by place and byte by byte
pub record Kept (counts : List ℕ) (numbers temps heaters : List Float) (thermostats flags : List ℕ) (totals figures : List Float) (lineFlags rounds : List ℕ)
    (counts' : List ℕ) (numbers' temps' heaters' : List Float) (thermostats' flags' : List ℕ) (totals' figures' : List Float) (lineFlags' rounds' : List ℕ) : Type 0 where
  pub counts_kept : counts' ≡ counts
  pub numbers_kept : numbers' ≡ numbers
  pub temps_kept : temps' ≡ temps
  pub heaters_kept : heaters' ≡ heaters
  pub thermostats_kept : thermostats' ≡ thermostats
  pub flags_kept : flags' ≡ flags
  pub totals_kept : totals' ≡ totals
  pub figures_kept : figures' ≡ figures
  pub line_flags_kept : lineFlags' ≡ lineFlags
  pub rounds_kept : rounds' ≡ rounds

module _ (counts : List ℕ) (numbers temps heaters : List Float) (thermostats flags : List ℕ) (totals figures : List Float) (lineFlags rounds : List ℕ)
    (long : LentLengths counts numbers totals figures rounds) (a : Step) where
  abbrev lent_tank : StorageTank
  lent_tank = tank_in counts numbers temps heaters thermostats flags

  abbrev lent_report : Report
  lent_report = report_in totals figures lineFlags rounds

  abbrev tank₀ : TankHeld lent_tank counts numbers temps
  tank₀ = tank_held_as_lent counts numbers temps heaters thermostats flags long.counts_long long.numbers_long

  abbrev report₀ : ReportHeld lent_report totals figures rounds
  report₀ = report_held_as_lent totals figures lineFlags rounds long.totals_long long.figures_long long.rounds_long

  pub refused_keeps : (number : ℕ) (counts' : List ℕ) (numbers' temps' heaters' : List Float) (thermostats' flags' : List ℕ) (totals' figures' : List Float) (lineFlags' rounds' : List ℕ)
      → StepLeft (stepped lent_tank lent_report a) heaters thermostats flags lineFlags number counts' numbers' temps' heaters' thermostats' flags' totals' figures' lineFlags' rounds'
      → 0 < number
      → Kept counts numbers temps heaters thermostats flags totals figures lineFlags rounds counts' numbers' temps' heaters' thermostats' flags' totals' figures' lineFlags' rounds'
  refused_keeps number counts' numbers' temps' heaters' thermostats' flags' totals' figures' lineFlags' rounds' s l =
      let above = subst (λ (n : ℕ). 0 < n) s.number_is l in
      let n = above_not_zero _ above in
      let same = refused_step lent_tank lent_report a above in
      let t = subst (λ (x : StorageTank). TankHeld x counts' numbers' temps') same.0 s.tank_held in
      let r = subst (λ (x : Report). ReportHeld x totals' figures' rounds') same.1 s.report_held in
      record {
        counts_kept = t.counts_held ∙ sym tank₀.counts_held;
        numbers_kept = t.numbers_held ∙ sym tank₀.numbers_held;
        temps_kept = t.temps_held ∙ sym tank₀.temps_held;
        heaters_kept = s.heaters_kept;
        thermostats_kept = s.thermostats_kept;
        flags_kept = s.flags_left ∙ bytes_kept _ _ _ n;
        totals_kept = r.totals_held ∙ sym report₀.totals_held;
        figures_kept = r.figures_held ∙ sym report₀.figures_held;
        line_flags_kept = s.line_flags_left ∙ bytes_kept _ _ _ n;
        rounds_kept = r.rounds_held ∙ sym report₀.rounds_held;
      }

  -- the step in place: its work, and what the call writes
  module _ (f : Fixed) (f-is : f ≡ fixed_in lent_tank) (st : State) (x0 x : TurnNotes) (none : x0 ≡ no_notes) where
    -- what the call leaves undone is done already: the arrays as lent are what a refused step leaves
    pub refused_in_place : (e : Refusal) → StepWorked f (state_in lent_tank) a (Err e) st x0 x
        → StepLeft (stepped lent_tank lent_report a) heaters thermostats flags lineFlags (number_of e) counts numbers st.temps heaters thermostats flags totals figures lineFlags rounds
    refused_in_place e w =
        let n = number-not_0 e in
        subst (λ (s : Stepped). StepLeft s heaters thermostats flags lineFlags (number_of e) counts numbers st.temps heaters thermostats flags totals figures lineFlags rounds)
        (step_refused lent_tank lent_report a f f-is st x0 x none e w).answers
        (record {
          number_is = refl;
          tank_held = record { counts_held = tank₀.counts_held; numbers_held = tank₀.numbers_held; temps_held = refl };
          heaters_kept = refl;
          thermostats_kept = refl;
          flags_left = sym (bytes_kept _ _ _ n);
          report_held = report₀;
          line_flags_left = sym (bytes_kept _ _ _ n);
        })

    -- an accepted step, from what its work answers and leaves; the arrays that it does not write hold the rest of its tank
    pub accepted_in_place : (y : StepFigures) → StepWorked f (state_in lent_tank) a (Ok y) st x0 x
        → (flags' : List ℕ) → flags' ≡ bytes_of st.flags → (totals' figures' : List Float) (lineFlags' rounds' : List ℕ)
        → ReportWritten (report_by y x.lines) totals' figures' lineFlags' rounds'
        → StepLeft (stepped lent_tank lent_report a) heaters thermostats flags lineFlags 0 counts numbers st.temps heaters thermostats flags' totals' figures' lineFlags' rounds'
    unfolding bytes_left
    accepted_in_place y w flags' d totals' figures' lineFlags' rounds' r =
        subst (λ (s : Stepped). StepLeft s heaters thermostats flags lineFlags 0 counts numbers st.temps heaters thermostats flags' totals' figures' lineFlags' rounds')
        (step_accepted lent_tank lent_report a f f-is st x0 x none y w).answers
        (record {
          number_is = refl;
          tank_held = record { counts_held = tank₀.counts_held; numbers_held = tank₀.numbers_held; temps_held = refl };
          heaters_kept = refl;
          thermostats_kept = refl;
          flags_left = d;
          report_held = r.held;
          line_flags_left = r.flags_written;
        })
