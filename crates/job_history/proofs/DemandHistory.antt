-- Proves that what is told of a made tank's steps are the turns of the history that demand 3 speaks of (01, Turn; demand 3).
use mathlib.Core.Path.{◌≡◌, refl, sym, ap, ◌∙◌, subst}
use mathlib.Core.List.{List, [], ◌∷◌}
use Prim.Native.Nat.{ℕ}
use Rattle.tank_model.specs.declared.TankDesign.{TankDesign}
use Rattle.tank_model.specs.declared.Step.{Step}
use Rattle.tank_model.specs.Fixed.{Fixed}
use Rattle.tank_model.specs.Run.{run}
use Rattle.tank_model.specs.Work.{work}
use Rattle.tank_model.specs.History.{Held, step, design_refusal, start, call_work, work_call, history}
use Rattle.tank_model.proofs.Passes.{made_heaters}
use Rattle.storage_tank.specs.declared.StorageTank.{StorageTank}
use Rattle.storage_tank.specs.declared.Report.{Report}
use Rattle.storage_tank.specs.Calls.{made_of, made, stepped, answered}
use Rattle.storage_tank.specs.Demand.{holding}
use Rattle.storage_tank.proofs.Demand.{fixed_is, Fits, answered_tank, fits_next, next, more_works}
use Rattle.job_history.specs.Facts.{facts_of, step_turns, told_from, work_facts, calls}

-- from a tank that holds x
told_from_lem : (x : Held) (t : StorageTank) (r : Report) (steps : List Step) → Fits 0 x → t ≡ holding 0 x → told_from t r steps ≡ work_facts (run (work_call 0) (calls steps) x).parts
unfolding told_from calls
told_from_lem x t r [] f e = unfold run work_facts in refl
told_from_lem x t r (a ∷ steps) f e =
    let turns : step_turns t a ≡ facts_of (call_work 0 (step a) x).turns =
    unfold step_turns call_work in (rw e (ap (λ (y : Fixed). facts_of (work y x.state a).turns) (fixed_is x.design x.state (f refl)))) in
    let after = next 0 (step a) x in
    let tank : (stepped (holding 0 x) r a).tank ≡ holding 0 after = unfold answered in (answered_tank 0 x r (step a) f) in
    let more = told_from_lem after (stepped t r a).tank (stepped t r a).report steps (fits_next 0 x (call_work 0 (step a) x).end f) (ap (λ (y : StorageTank). (stepped y r a).tank) e ∙ tank) in
    rw (turns, more, more_works 0 (step a) (calls steps) x) (unfold work_facts in refl)

-- the law: after an accepted make, what is told of the steps is the history's
pub told_history : (m : TankDesign) (r : Report) (steps : List Step) → design_refusal m ≡ 0 → told_from (made m).tank r steps ≡ work_facts (history m (calls steps))
unfolding made made_of history
told_history m r steps e =
    subst (λ (n : ℕ). told_from (made_of m n).tank r steps ≡ work_facts (run (work_call n) (calls steps) (start m)).parts) (sym e)
    (told_from_lem (start m) (made_of m 0).tank r steps (λ z. made_heaters m e) refl)
