-- Proves that the course of a list of calls leaves no choice (00, demand 3; 01, Turn): two families of works and states that take one list's course have the same states,
-- and works that are alike, call by call. So a history that met demand 3 and was another one could not be told apart by any answer.
use mathlib.Core.Path.{◌≡◌, sym, ◌∙◌, subst}
use mathlib.Core.List.{List}
use mathlib.Core.Bool.{Bool, true, false, not}
use Prim.Native.Nat.{ℕ, zero, suc, ◌<◌, ◌≤◌}
use native.Mathlib.Omega.{arith}
use lib.Dec.{T, ltb, ltb→lt, nltb→le}
use lib.ListN.{length, get_or}
use lib.Seq.{ext_get_or}
use lib.Ieee.{nan}
use Rattle.tank_model.specs.declared.TankDesign.{TankDesign}
use Rattle.tank_model.specs.Fixed.{State}
use Rattle.tank_model.specs.Run.{End, refused, done}
use Rattle.tank_model.specs.Work.{Outcome, Work}
use Rattle.tank_model.specs.History.{Call, step, Held}
use Rattle.tank_model.specs.HistoryDemand.{no_call, Starts, CarriesState, Carries, CourseOf, ListCourse}
use Rattle.tank_model.proofs.SameFields.{state_eq, held_eq}
use Rattle.tank_model.proofs.Once.{AlikeWorks, course_once}

starts_once : (m : TankDesign) (s t : State) → Starts m s → Starts m t → s ≡ t
starts_once m s t p q = state_eq s t (ext_get_or nan s.temps t.temps (p.places ∙ sym q.places) (λ k l. go k (omega (arith, p.places)) (ltb k m.layers) (ltb→lt k m.layers) (nltb→le k m.layers))) (p.flags ∙ sym q.flags)
  where
    go : (k : ℕ) → k < 32 → (b : Bool) → (T b → k < m.layers) → (T (not b) → m.layers ≤ k) → get_or s.temps k nan ≡ get_or t.temps k nan
    go k u true f g = p.layers k (f tt) ∙ sym (q.layers k (f tt))
    go k u false f g = p.unused k (g tt) u ∙ sym (q.unused k (g tt) u)

carries_once : (x : Held) (e : End Outcome) (y z : Held) → Carries x e y → Carries x e z → y ≡ z
carries_once x e y z p q = held_eq y z (p.0 ∙ sym q.0) (go e p.1 q.1)
  where
    go : (d : End Outcome) → CarriesState x.state d y.state → CarriesState x.state d z.state → y.state ≡ z.state
    go (refused n) f g = f ∙ sym g
    go (done s) f g = state_eq y.state z.state (f.0 ∙ sym g.0) (f.1 ∙ sym g.1)

module _ (m : TankDesign) (calls : List Call) (ws : ℕ → Work) (xs : ℕ → Held) (vs : ℕ → Work) (ys : ℕ → Held) (p : ListCourse m calls ws xs) (q : ListCourse m calls vs ys) where
  call_once : (x : Held) (c : Call) (w v : Work) → CourseOf x c w → CourseOf x c v → AlikeWorks w v
  call_once x (step a) w v f g = course_once x.design a x.state w v f g

  works_from : (i : ℕ) → i < length calls → xs i ≡ ys i → AlikeWorks (ws i) (vs i)
  works_from i l e = call_once (xs i) (get_or calls i no_call) (ws i) (vs i) (p.course i l) (subst (λ (x : Held). CourseOf x (get_or calls i no_call) (vs i)) (sym e) (q.course i l))

  pub states_once : (i : ℕ) → i ≤ length calls → xs i ≡ ys i
  states_once zero l = held_eq (xs 0) (ys 0) (p.made ∙ sym q.made) (starts_once m (xs 0).state (ys 0).state p.starts q.starts)
  states_once (suc i) l =
      let k : i < length calls = omega arith in
      let e = states_once i (omega arith) in
      carries_once (xs i) (ws i).end (xs (suc i)) (ys (suc i)) (p.carries i k)
      (rw (e, (works_from i k e).end) (q.carries i k))

  pub works_once : (i : ℕ) → i < length calls → AlikeWorks (ws i) (vs i)
  works_once i l = works_from i l (states_once i (omega arith))
