-- States what a list of calls works on a tank of its own (01, Turn), from the arguments of make and of the calls alone. Nothing here speaks of a tank, of a
-- report, or of what a call answers.
use Rattle.std.specs.Prelude.{ℕ, zero, suc, false, List, ◌++◌, drop, replicate}
use Rattle.numeric.specs.Double.{zero_f}
use Rattle.mixing.specs.Limits.{max_layers}
use Rattle.working_order.specs.Order.{max_heaters}
use Rattle.tank_model.specs.declared.TankDesign.{TankDesign}
use Rattle.tank_model.specs.declared.Step.{Step}
use Rattle.tank_model.specs.Fixed.{State, fixed_of}
use Rattle.tank_model.specs.Checks.{make_refusal}
use Rattle.tank_model.specs.Run.{End, refused, done, ended_at, Worked, Run, run}
use Rattle.tank_model.specs.Work.{Outcome, Work, stop, work}

-- a call on a living tank
pub data Call : Type 0 where
  step : Step → Call

-- what make's arguments are refused for, and 0
abbrev pub design_refusal : TankDesign → ℕ
design_refusal m = make_refusal (fixed_of m) m.initial

-- what the calls carry on: the design that the tank has, and its state
pub record Held : Type 0 where
  pub design : TankDesign
  pub state : State

-- each layer at the initial temperature, and every flag off
abbrev pub start : TankDesign → Held
start m = record {
  design = m;
  state = record {
    temps = replicate m.layers m.initial ++ drop m.layers (replicate max_layers zero_f);
    flags = replicate max_heaters false;
  };
}

-- a refused call changes nothing, and no step the design
abbrev pub carry : Held → End Outcome → Held
carry x (refused n) = x
carry x (done s) = record { design = x.design; state = record { temps = s.heated.temps; flags = s.heated.flags } }

-- Where make is refused there are no layers: each step is refused for that, and nothing is worked. `n` is what make is refused for, or 0.
unfoldable pub call_work : ℕ → Call → Held → Work
call_work zero (step a) x = work (fixed_of x.design) x.state a
call_work (suc n) (step a) x = stop 1

-- a call's refusal is its own: it ends no list
unfoldable pub work_call : ℕ → Call → Held → Worked Work Held
work_call n call x = let w = call_work n call x in record { part = w; number = 0; leaves = carry x w.end }

-- each call from what the one before left
abbrev pub call_run : TankDesign → List Call → Run Work Held
call_run m xs = run (work_call (design_refusal m)) xs (start m)

unfoldable pub history : TankDesign → List Call → List Work
history m xs = (call_run m xs).parts

-- what the calls xs leave
unfoldable pub held_after : TankDesign → List Call → Held
held_after m xs = ended_at (start m) (call_run m xs).end
