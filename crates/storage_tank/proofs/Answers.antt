-- Proves what make and step answer (01, The four calls) from what their parts decide: what make is refused for, and how a step's work ended.
use Rattle.std.proofs.Common.{◌≡◌, refl, sym, ap, ◌∙◌, ℕ, zero, suc, ◌≤◌, [], arith}
use Rattle.std.specs.Prelude.{Ok, Err}
use lib.Dec.{leb, leb→le}
use lib.Ieee.Scale.{finite}
use lib.Ieee.Fits.{and_r}
use Rattle.refusals.specs.declared.Refusal.{Refusal}
use Rattle.refusals.specs.Refusals.{number_of, refusal_with}
use Rattle.refusals.proofs.Numbers.{refusal_with-number, number-not_0}
use Rattle.mixing.specs.Limits.{max_layers}
use Rattle.tank_model.specs.declared.TankDesign.{TankDesign}
use Rattle.tank_model.specs.declared.Step.{Step}
use Rattle.tank_model.specs.declared.TurnNotes.{TurnNotes}
use Rattle.tank_model.specs.Fixed.{Fixed, State, fixed_of}
use Rattle.tank_model.specs.Checks.{make_refusal}
use Rattle.tank_model.specs.Run.{done}
use Rattle.tank_model.specs.Work.{Outcome, work}
use Rattle.tank_model.proofs.Passes.{tank_passes}
use Rattle.heater_turns.specs.Notes.{no_notes, with_turns}
use Rattle.heater_turns.specs.Lent.{uncounted}
use Rattle.heater_turns.proofs.TurnLoop.{turns_counted}
use Rattle.step_work.specs.declared.work.StepFigures.{StepFigures}
use Rattle.step_work.specs.Lent.{Left, StepWorked}
use Rattle.storage_tank.specs.declared.StorageTank.{StorageTank}
use Rattle.storage_tank.specs.declared.Report.{Report}
use Rattle.storage_tank.specs.declared.Stepped.{Stepped}
use Rattle.storage_tank.specs.Tank.{fixed_in, state_in}
use Rattle.storage_tank.specs.Calls.{zero_tank, new_tank, made, made_of, report_by, answer, stepped}
use Rattle.storage_tank.specs.Answers.{work_of, StepNoted}

-- ---- make

module _ (m : TankDesign) where
  pub made_refused : (r : Refusal) → number_of r ≡ make_refusal (fixed_of m) m.initial → record { outcome = Err r; tank = zero_tank } ≡ made m
  unfolding made
  made_refused r e = ap (λ (s : Refusal). record { outcome = Err s; tank = zero_tank }) (sym (refusal_with-number r)) ∙ go (number_of r) (number-not_0 r) ∙ ap (made_of m) e
    where
      go : (n : ℕ) → (n ≡ 0 → ⊥) → record { outcome = Err (refusal_with n); tank = zero_tank } ≡ made_of m n
      go zero h = absurd (h refl)
      go (suc n) h = unfold made_of in refl

  pub made_accepted : 0 ≡ make_refusal (fixed_of m) m.initial → record { outcome = Ok tt; tank = new_tank m } ≡ made m
  unfolding made made_of
  made_accepted e = rw (← e)

  pub made_layers : 0 ≡ make_refusal (fixed_of m) m.initial → m.layers ≤ max_layers
  unfolding make_refusal
  made_layers e = leb→le m.layers max_layers (and_r (leb 1 m.layers) (leb m.layers max_layers) (tank_passes (fixed_of m) (finite m.initial) [] (sym e)).layers)

-- ---- step

-- the tank with the layers and the flags of st
abbrev pub with_state : StorageTank → State → StorageTank
with_state t st = record {
  layers = t.layers;
  volume = t.volume;
  standby = t.standby;
  rho = t.rho;
  cp = t.cp;
  ambient = t.ambient;
  timestep = t.timestep;
  temps = st.temps;
  heaters = t.heaters;
  fitted = t.fitted;
  flags = st.flags;
}

-- the code works the step for f, leaves the state st and has noted x: what it answers, whatever was noted before
module _ (t : StorageTank) (r : Report) (a : Step) (f : Fixed) (f-is : f ≡ fixed_in t) (st : State) (x0 x : TurnNotes) where
  pub step_refuses : (e : Refusal) → StepWorked f (state_in t) a (Err e) st x0 x → record { outcome = Err e; tank = t; report = r } ≡ stepped t r a
  step_refuses e w = unfold stepped answer in (rw (sym (ap (λ (g : Fixed). (work g (state_in t) a).end) f-is) ∙ w.ends.0, refusal_with-number e))

  pub step_accepts : (w : StepFigures) → StepWorked f (state_in t) a (Ok w) st x0 x
      → record { outcome = Ok tt; tank = with_state t st; report = report_by w x.lines } ≡ stepped t r a
  step_accepts w y = go y.ends.0 y.ends.1 y.ends.2
    where
      go : (s : Outcome) → (work f (state_in t) a).end ≡ done s → Left s w st x → record { outcome = Ok tt; tank = with_state t st; report = report_by w x.lines } ≡ stepped t r a
      go s e l =
          unfold stepped answer in
          (rw (sym (ap (λ (g : Fixed). (work g (state_in t) a).end) f-is) ∙ e, ← l.recoverable_is, l.temps_are, l.totals_are, l.average_is, l.flags_are, l.lines_are))

-- the same with what is noted, where nothing was before
module _ (t : StorageTank) (r : Report) (a : Step) (f : Fixed) (f-is : f ≡ fixed_in t) (st : State) (x0 x : TurnNotes) (none : x0 ≡ no_notes) where
  noted : (s : Stepped) → s ≡ stepped t r a → x ≡ with_turns (work f (state_in t) a).turns (uncounted x0) → StepNoted t r a (record { stepped = s; notes = x })
  noted s e n =
      let n' = rw (f-is, none) at n in
      record { answers = e; worked = ap (λ (y : TurnNotes). y.worked) n' ∙ (turns_counted (work_of t a).turns no_notes ∙ omega arith); notes = n' }

  pub step_refused : (e : Refusal) → StepWorked f (state_in t) a (Err e) st x0 x
      → StepNoted t r a (record { stepped = record { outcome = Err e; tank = with_state t st; report = r }; notes = x })
  step_refused e w = noted (record { outcome = Err e; tank = with_state t st; report = r }) answers w.noted
    where
      answers : record { outcome = Err e; tank = with_state t st; report = r } ≡ stepped t r a
      answers = rw w.ends.1 (step_refuses t r a f f-is st x0 x e w)

  pub step_accepted : (w : StepFigures) → StepWorked f (state_in t) a (Ok w) st x0 x
      → StepNoted t r a (record {
        stepped = record {
          outcome = Ok tt;
          tank = with_state t st;
          report = report_by w x.lines;
        };
        notes = x;
      })
  step_accepted w y =
      noted (record { outcome = Ok tt; tank = with_state t st; report = report_by w x.lines }) (step_accepts t r a f f-is st x0 x w y) y.noted
