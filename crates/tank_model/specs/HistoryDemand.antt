-- States what demand 3 says of a list's history (00, demand 3; 01, Turn), which 01 works on a tank of its own: nothing here speaks of a tank, of a report, or
-- of what a call answers. proofs/HistoryDemand.antt proves it of every list; the crate storage_tank ties what the calls answer to it.
use Rattle.std.specs.Prelude.{◌≡◌, ◌↔◌, List, [], false, not, ℕ, suc, ◌≤◌, ◌<◌, T, length, get_or, take, replicate, Float}
use Rattle.std.specs.Float.{nan}
use Rattle.std.specs.Float.Ieee.{le, eq}
use Rattle.numeric.specs.Double.{zero_f}
use Rattle.mixing.specs.Rearrange.{Mixing, sorted, unsorted}
use Rattle.mixing.specs.Limits.{max_layers}
use Rattle.draw_events.specs.Event.{EventMixing, unmixed, mixed, Event}
use Rattle.working_order.specs.Order.{max_heaters}
use Rattle.tank_model.specs.declared.TankDesign.{TankDesign}
use Rattle.tank_model.specs.Fixed.{State, fixed_of}
use Rattle.tank_model.specs.Order.{working_order}
use Rattle.tank_model.specs.Run.{End, refused, done}
use Rattle.tank_model.specs.Work.{Turn, Outcome, Work, zero_line}
use Rattle.tank_model.specs.History.{Call, step, design_refusal, Held, history, held_after}
use Rattle.tank_model.specs.Members.{All, Some}
use Rattle.tank_model.specs.Arguments.{max_energy, InWorkingOrder, AtOrUnderLower, UpperMissingOrReached}
use Rattle.tank_model.specs.Refusals.{MakeRefusal}
use Rattle.tank_model.specs.Course.{accepted, Nondecreasing, passed, LineTells, Course}

-- ---- of one step's work

-- the turn began with its thermostat layer at or under a lower set point
abbrev pub Began : Turn → Type 0
Began u = AtOrUnderLower u.points u.start

-- the turn ended with the upper set point missing or reached
abbrev pub Ended : Turn → Type 0
Ended u = UpperMissingOrReached u.points u.finish

-- the step is accepted, and in it the turn of the heater h is as P says
abbrev pub InTurn : (Turn → Type 0) → ℕ → Work → Type 0
InTurn P h w = T (accepted w.end) × Some (λ (u : Turn). (u.heater ≡ h) × P u) w.turns

-- a mixing in a step that came to the end e handed on n layers in nondecreasing order, or drew refusal 9
abbrev pub OrderedOrNine : ℕ → End Outcome → Mixing → Type 0
OrderedOrNine n e (sorted temps k) = Nondecreasing n temps
OrderedOrNine n e unsorted = e ≡ refused 9

abbrev pub EventOrderedOrNine : ℕ → End Outcome → EventMixing → Type 0
EventOrderedOrNine n e unmixed = Unit {0}
EventOrderedOrNine n e (mixed x) = OrderedOrNine n e x

abbrev pub MixedOrNine : ℕ → Work → Type 0
MixedOrNine n w =
    All (λ (e : Event). EventOrderedOrNine n w.end e.mixing) w.events
    × All (λ (u : Turn). OrderedOrNine n w.end u.turned.mixing) w.turns

-- zero, of either sign, if the heater ran off, and never more than rated power × step length
abbrev pub RightlySupplied : TankDesign → Turn → Float → Type 0
RightlySupplied m u supplied =
    (T (not u.turned.ran) → T (eq supplied zero_f)) × T (le supplied (max_energy m u.heater))

-- every turn that got past its mixing supplied so
abbrev pub AllRightlySupplied : TankDesign → Work → Type 0
AllRightlySupplied m w = All (λ (u : Turn). T (passed u.turned.mixing) → RightlySupplied m u u.turned.supplied) w.turns

-- each turn has its line, at its heater's given place
abbrev pub AllTold : Work → Outcome → Type 0
AllTold w s = All (λ (u : Turn). LineTells u (get_or s.heated.lines u.heater zero_line)) w.turns

-- nothing was worked, and the number is 1
abbrev pub RefusedWithOne : Work → Type 0
RefusedWithOne w = (w.end ≡ refused 1) × (w.events ≡ []) × (w.turns ≡ [])

-- ---- of a list of calls

-- past the list's end: nothing accepted, nothing worked
abbrev pub no_work : Work
no_work = record { events = []; turns = []; end = refused 0 }

abbrev pub no_call : Call
no_call = step (record { feed = nan; events = 0; volumes = []; entries = 0; settings = [] })

-- in some accepted step the turn of h began at or under a lower set point, and in no accepted step from that one on it ended with the upper one missing or
-- reached
abbrev pub OnSince : ℕ → List Work → Type 0
OnSince h ws = (i : ℕ) × InTurn Began h (get_or ws i no_work) × ((j : ℕ) → i ≤ j → ¬ (InTurn Ended h (get_or ws j no_work)))

-- the list begins with each layer at make's initial temperature, unused places zero, and every flag off
pub record Starts (m : TankDesign) (st : State) : Type 0 where
  pub layers : (k : ℕ) → k < m.layers → get_or st.temps k nan ≡ m.initial
  pub unused : (k : ℕ) → m.layers ≤ k → k < max_layers → get_or st.temps k nan ≡ zero_f
  pub places : length st.temps ≡ max_layers
  pub flags : st.flags ≡ replicate max_heaters false

-- a call that came to this end leaves y: an accepted one exactly its layers and flags, a refused one the state as it was; and no step changes the design
abbrev pub CarriesState : State → End Outcome → State → Type 0
CarriesState st (refused n) st' = st' ≡ st
CarriesState st (done s) st' = (st'.temps ≡ s.heated.temps) × (st'.flags ≡ s.heated.flags)

abbrev pub Carries : Held → End Outcome → Held → Type 0
Carries x e y = (y.design ≡ x.design) × CarriesState x.state e y.state

-- the course of a call on what the tank holds
abbrev pub CourseOf : Held → Call → Work → Type 0
CourseOf x (step a) w = Course x.design x.state a w

-- works of a list of calls on a made tank, and what it holds: the call i is worked from held i, and leaves held (i + 1)
pub record ListCourse (m : TankDesign) (calls : List Call) (works : ℕ → Work) (held : ℕ → Held) : Type 0 where
  pub made : (held 0).design ≡ m
  pub starts : Starts m (held 0).state
  pub course : (i : ℕ) → i < length calls → CourseOf (held i) (get_or calls i no_call) (works i)
  pub carries : (i : ℕ) → i < length calls → Carries (held i) (works i).end (held (suc i))

-- the work of the call i, and what the first i calls left
abbrev pub work_at : TankDesign → List Call → ℕ → Work
work_at m calls i = get_or (history m calls) i no_work

abbrev pub held_at : TankDesign → List Call → ℕ → Held
held_at m calls i = held_after m (take i calls)

abbrev pub design_at : TankDesign → List Call → ℕ → TankDesign
design_at m calls i = (held_at m calls i).design

-- m: make's arguments; calls: the calls' arguments
pub record HistoryDemand (m : TankDesign) (calls : List Call) : Type 0 where
  -- the design stays make's
  pub design : (i : ℕ) → design_at m calls i ≡ m
  -- after the list a flag is on exactly when 01 says
  pub flags : (h : ℕ) → T (get_or (held_after m calls).state.flags h false) ↔ OnSince h (history m calls)
  -- every turn, in refused steps too as far as it got, supplied zero if it ran off and never more than its rated power × step length
  pub supplies : (i : ℕ) → i < length calls → AllRightlySupplied (design_at m calls i) (work_at m calls i)
  -- an accepted step ends with the line of each turn at its heater's given place
  pub reported : (i : ℕ) → i < length calls → (s : Outcome) → (work_at m calls i).end ≡ done s → AllTold (work_at m calls i) s
  -- every mixing, of events and of turns, in refused steps too, handed on ordered layers or drew refusal 9
  pub mixings : (i : ℕ) → i < length calls → MixedOrNine (design_at m calls i).layers (work_at m calls i)
  -- a refused step has a number, which is not 0
  pub refusals : (i : ℕ) → i < length calls → (k : ℕ) → (work_at m calls i).end ≡ refused k → 0 < k
  -- each call is worked, and no more
  pub works_all : length (history m calls) ≡ length calls
  -- the order in which the turns are worked
  pub order : (i : ℕ) → InWorkingOrder (design_at m calls i) (working_order (fixed_of (design_at m calls i)))
  -- what make is refused for, by 01's sentences
  pub refusal_of_make : MakeRefusal m (design_refusal m)
  -- a refused make gives a tank of no layers: every step is refused for that
  pub refused_make : (i : ℕ) → i < length calls → 0 < design_refusal m → RefusedWithOne (work_at m calls i)
  -- what the turns, the mixings and the accepted steps are
  pub course : design_refusal m ≡ 0 → ListCourse m calls (work_at m calls) (held_at m calls)
