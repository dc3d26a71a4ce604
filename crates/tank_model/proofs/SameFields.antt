-- Proves that records with equal fields are equal: what drawing and heating carry, a step's events, turns and lines, and the state (01, Step; Turn).
use mathlib.Core.Path.{◌≡◌}
use mathlib.Core.List.{List}
use mathlib.Core.Bool.{Bool}
use Prim.Native.Nat.{ℕ}
use lib.Ieee.{Float}
use Rattle.mixing.specs.Rearrange.{Mixing}
use Rattle.draw_events.specs.declared.Totals.{Totals}
use Rattle.draw_off.specs.Draw.{Draw}
use Rattle.refill.specs.Refill.{Refill}
use Rattle.draw_events.specs.Event.{Event, EventMixing}
use Rattle.set_points.specs.declared.SetPoints.{SetPoints}
use Rattle.immersion_heater.specs.Turn.{Turned}
use Rattle.tank_model.specs.declared.HeaterLine.{HeaterLine}
use Rattle.tank_model.specs.declared.TankDesign.{TankDesign}
use Rattle.tank_model.specs.Fixed.{State}
use Rattle.tank_model.specs.Work.{DrawOff, Heating, Turn}
use Rattle.tank_model.specs.History.{Held}

pub totals_eq : (e u w d e' u' w' d' : Float) → e ≡ e' → u ≡ u' → w ≡ w' → d ≡ d' → ◌≡◌ {A = Totals} (record { energy = e; used = u; weighted = w; drawn = d }) (record { energy = e'; used = u'; weighted = w'; drawn = d' })
totals_eq e u w d e' u' w' d' p q r s = rw (p, q, r, s)

pub heating_eq : (s t : Heating) → s.temps ≡ t.temps → s.charged ≡ t.charged → s.flags ≡ t.flags → s.losses ≡ t.losses → s.lines ≡ t.lines → s ≡ t
heating_eq s t p1 p2 p3 p4 p5 = go s.temps s.charged s.flags s.losses s.lines p1 p2 p3 p4 p5
  where
    go : (a b : List Float) (c : List Bool) (d : Float) (e : List HeaterLine) → a ≡ t.temps → b ≡ t.charged → c ≡ t.flags → d ≡ t.losses → e ≡ t.lines
        → ◌≡◌ {A = Heating} (record { temps = a; charged = b; flags = c; losses = d; lines = e }) t
    go a b c d e q1 q2 q3 q4 q5 = rw (q1, q2, q3, q4, q5)

pub draw_off_eq : (s t : DrawOff) → s.temps ≡ t.temps → s.totals ≡ t.totals → s ≡ t
draw_off_eq s t p1 p2 = go s.temps s.totals p1 p2
  where
    go : (a : List Float) (b : Totals) → a ≡ t.temps → b ≡ t.totals → ◌≡◌ {A = DrawOff} (record { temps = a; totals = b }) t
    go a b q1 q2 = rw (q1, q2)

pub event_eq : (d e : Event) → d.wanted ≡ e.wanted → d.before ≡ e.before → d.draw ≡ e.draw → d.refill ≡ e.refill → d.mixing ≡ e.mixing → d ≡ e
event_eq d e p1 p2 p3 p4 p5 = go d.wanted d.before d.draw d.refill d.mixing p1 p2 p3 p4 p5
  where
    go : (a : Float) (b : List Float) (c : Draw) (f : Refill) (g : EventMixing) → a ≡ e.wanted → b ≡ e.before → c ≡ e.draw → f ≡ e.refill → g ≡ e.mixing
        → ◌≡◌ {A = Event} (record { wanted = a; before = b; draw = c; refill = f; mixing = g }) e
    go a b c f g q1 q2 q3 q4 q5 = rw (q1, q2, q3, q4, q5)

pub turned_eq : (u v : Turned) → u.ran ≡ v.ran → u.mixing ≡ v.mixing → u.temps ≡ v.temps → u.charged ≡ v.charged → u.flag ≡ v.flag → u.adjusted ≡ v.adjusted → u.supplied ≡ v.supplied → u.losses ≡ v.losses → u.rounds ≡ v.rounds → u ≡ v
turned_eq u v p1 p2 p3 p4 p5 p6 p7 p8 p9 = go u.ran u.mixing u.temps u.charged u.flag u.adjusted u.supplied u.losses u.rounds p1 p2 p3 p4 p5 p6 p7 p8 p9
  where
    go : (a : Bool) (b : Mixing) (c d : List Float) (e : Bool) (f g h : Float) (k : ℕ)
        → a ≡ v.ran → b ≡ v.mixing → c ≡ v.temps → d ≡ v.charged → e ≡ v.flag → f ≡ v.adjusted → g ≡ v.supplied → h ≡ v.losses → k ≡ v.rounds
        → ◌≡◌ {A = Turned} (record { ran = a; mixing = b; temps = c; charged = d; flag = e; adjusted = f; supplied = g; losses = h; rounds = k }) v
    go a b c d e f g h k q1 q2 q3 q4 q5 q6 q7 q8 q9 = rw (q1, q2, q3, q4, q5, q6, q7, q8, q9)

pub turn_eq : (u v : Turn) → u.heater ≡ v.heater → u.points ≡ v.points → u.before ≡ v.before → u.start ≡ v.start → u.turned ≡ v.turned → u.finish ≡ v.finish → u ≡ v
turn_eq u v p1 p2 p3 p4 p5 p6 = go u.heater u.points u.before u.start u.turned u.finish p1 p2 p3 p4 p5 p6
  where
    go : (a : ℕ) (b : SetPoints) (c : List Float) (d : Float) (e : Turned) (f : Float) → a ≡ v.heater → b ≡ v.points → c ≡ v.before → d ≡ v.start → e ≡ v.turned → f ≡ v.finish
        → ◌≡◌ {A = Turn} (record { heater = a; points = b; before = c; start = d; turned = e; finish = f }) v
    go a b c d e f q1 q2 q3 q4 q5 q6 = rw (q1, q2, q3, q4, q5, q6)

pub line_eq : (x y : HeaterLine) → x.flag ≡ y.flag → x.adjusted ≡ y.adjusted → x.supplied ≡ y.supplied → x.losses ≡ y.losses → x.rounds ≡ y.rounds → x ≡ y
line_eq x y p1 p2 p3 p4 p5 = go x.flag x.adjusted x.supplied x.losses x.rounds p1 p2 p3 p4 p5
  where
    go : (a : Bool) (b c d : Float) (e : ℕ) → a ≡ y.flag → b ≡ y.adjusted → c ≡ y.supplied → d ≡ y.losses → e ≡ y.rounds
        → ◌≡◌ {A = HeaterLine} (record { flag = a; adjusted = b; supplied = c; losses = d; rounds = e }) y
    go a b c d e q1 q2 q3 q4 q5 = rw (q1, q2, q3, q4, q5)

pub state_eq : (s t : State) → s.temps ≡ t.temps → s.flags ≡ t.flags → s ≡ t
state_eq s t p1 p2 = go s.temps s.flags p1 p2
  where
    go : (a : List Float) (b : List Bool) → a ≡ t.temps → b ≡ t.flags → ◌≡◌ {A = State} (record { temps = a; flags = b }) t
    go a b q1 q2 = rw (q1, q2)

pub held_eq : (x y : Held) → x.design ≡ y.design → x.state ≡ y.state → x ≡ y
held_eq x y p1 p2 = go x.design x.state p1 p2
  where
    go : (a : TankDesign) (b : State) → a ≡ y.design → b ≡ y.state → ◌≡◌ {A = Held} (record { design = a; state = b }) y
    go a b q1 q2 = rw (q1, q2)
