-- States the course of one step in demand 3's own words, by make's and the step's arguments (01, Draw; Mix; Switch-on to Step; Turn; refusals 9 and 10):
-- what it begins on, which events and turns there are, on what each begins, what each is and hands on, the average, and what ended the step with which
-- number. It is a statement about a `Work` and takes only the records of Work.antt and the sequence of Run.antt: it cites nothing that works, chains or
-- checks a step.
use Rattle.std.specs.Prelude.{◌≡◌, ◌⊎◌, ◌↔◌, List, [], ◌∷◌, length, get_or, set, replicate}
use Rattle.std.specs.Prelude.{Bool, true, false, T, ℕ, ◌+◌, ◌-◌, ◌<◌, ◌≤◌, Float}
use Rattle.std.specs.Float.{nan}
use Rattle.std.specs.Float.Ieee.{lt, le}
use Rattle.numeric.specs.Double.{◌⊕◌, ◌⊖◌, ◌⊛◌, ◌⊘◌, zero_f, three_quarters}
use Rattle.numeric.specs.Compare.{min_of2, max_of2}
use Rattle.numeric.specs.Close.{wide_close}
use Rattle.numeric.specs.Tabulate.{tabulate}
use Rattle.numeric.specs.Sum2.{sum2}
use Rattle.mixing.specs.Rearrange.{Mixing, sorted, unsorted, after_rounds}
use Rattle.mixing.specs.Limits.{max_layers}
use Rattle.draw_off.specs.declared.cold.Feed.{Feed}
use Rattle.draw_off.specs.Draw.{extract, volume_used}
use Rattle.refill.specs.Refill.{refill}
use Rattle.draw_events.specs.Event.{Event, unmixed, mixed}
use Rattle.heating.specs.Heat.{offers_to, heated}
use Rattle.thermal_losses.specs.Losses.{temps_after, charged_after, surplus, losses}
use Rattle.immersion_heater.specs.Offer.{offer}
use Rattle.working_order.specs.Order.{max_heaters}
use Rattle.tank_model.specs.declared.TankDesign.{TankDesign}
use Rattle.tank_model.specs.declared.Step.{Step}
use Rattle.tank_model.specs.declared.HeaterLine.{HeaterLine}
use Rattle.tank_model.specs.Fixed.{State, fixed_of}
use Rattle.tank_model.specs.Order.{working_order}
use Rattle.tank_model.specs.Run.{End, refused, done, InSequence}
use Rattle.tank_model.specs.Work.{DrawOff, Turn, Heating, Outcome, Work}
use Rattle.tank_model.specs.Arguments.{cylinder_of, volumes_of, heater_layer, thermostat_layer, max_energy, feed_of, set_points_of, event_volume}
use Rattle.tank_model.specs.Arguments.{HasUpper, AtOrUnderLower, UpperMissingOrReached}
use Rattle.tank_model.specs.Refusals.{NotFinite, LayerNotFinite, FirstOf, StepRefusal}

abbrev pub accepted : {S : Type 0} → End S → Bool
accepted (refused n) = false
accepted (done s) = true

abbrev pub number_of : {S : Type 0} → End S → ℕ
number_of (refused n) = n
number_of (done s) = 0

-- ---- a mixing

-- each of n layers is at most the one above it
abbrev pub Nondecreasing : ℕ → List Float → Type 0
Nondecreasing n temps = (i : ℕ) → i + 1 < n → T (le (get_or temps i nan) (get_or temps (i + 1) nan))

-- rounds repeat until order is nondecreasing, and the first always runs: k is the first round after which it is, and leaves `after`
pub record InOrderAfter (n : ℕ) (vol temps after : List Float) (k : ℕ) : Type 0 where
  pub some : 1 ≤ k
  pub within : k ≤ 64
  pub layers : after ≡ after_rounds k n vol temps
  pub order : Nondecreasing n after
  pub first : (j : ℕ) → 1 ≤ j → j < k → ¬ (Nondecreasing n (after_rounds j n vol temps))

-- the mixing of these layers came to x; `unsorted`: it is not in nondecreasing order after 64 rounds, nor after any before
abbrev pub MixingOf : ℕ → List Float → List Float → Mixing → Type 0
MixingOf n vol temps (sorted after k) = InOrderAfter n vol temps after k
MixingOf n vol temps unsorted = (j : ℕ) → 1 ≤ j → j ≤ 64 → ¬ (Nondecreasing n (after_rounds j n vol temps))

-- it handed on layers
abbrev pub passed : Mixing → Bool
passed (sorted temps k) = true
passed unsorted = false

-- ---- one event

-- the event of the volume v in a step with this feed, which began where drawing had come to s: if its refill says so it has its one mixing, else none
pub record EventOf (m : TankDesign) (feed : Feed) (v : Float) (s : DrawOff) (e : Event) : Type 0 where
  pub wanted : e.wanted ≡ v
  pub before : e.before ≡ s.temps
  pub draw : e.draw ≡ extract (cylinder_of m) (volumes_of m) feed s.temps v s.totals.weighted s.totals.drawn
  pub refill : e.refill ≡ refill m.layers (volumes_of m) feed s.temps e.draw.held
  pub mixing : T e.refill.mixes → (x : Mixing) × (e.mixing ≡ mixed x) × MixingOf m.layers (volumes_of m) e.refill.temps x
  pub no_mixing : ¬ (T e.refill.mixes) → e.mixing ≡ unmixed

-- it hands on s': the layers of its mixing, or of its refill if it has none; its energy and its volume used are added to the step's, and its draw ran on
-- from the step's weighted sum and volume drawn
pub record EventLeaves (m : TankDesign) (s : DrawOff) (e : Event) (s' : DrawOff) : Type 0 where
  pub temps_mixed : (after : List Float) (rounds : ℕ) → e.mixing ≡ mixed (sorted after rounds) → s'.temps ≡ after
  pub temps_unmixed : e.mixing ≡ unmixed → s'.temps ≡ e.refill.temps
  pub energy : s'.totals.energy ≡ s.totals.energy ⊕ e.draw.energy
  pub used : s'.totals.used ≡ s.totals.used ⊕ volume_used (cylinder_of m) e.draw.held
  pub weighted : s'.totals.weighted ≡ e.draw.weighted
  pub drawn : s'.totals.drawn ≡ e.draw.drawn

-- 10. Not finite: a layer, or energy or volume used so far, after an event
abbrev pub EventNotFinite : TankDesign → DrawOff → Type 0
EventNotFinite m s' = LayerNotFinite m s'.temps ⊎ NotFinite s'.totals.energy ⊎ NotFinite s'.totals.used

-- n is the number that it draws, or 0
abbrev pub EventDraws : TankDesign → Event → DrawOff → ℕ → Type 0
EventDraws m e s' n = FirstOf ((9, e.mixing ≡ mixed unsorted) ∷ (10, EventNotFinite m s') ∷ []) n

-- ---- one turn

-- what each layer is offered
abbrev pub offers_of : TankDesign → ℕ → Turn → ℕ → Float
offers_of m h u = offers_to (heater_layer m h) (offer u.turned.ran (max_energy m h))

-- Sum2 of all offers
abbrev pub input_of : TankDesign → ℕ → Turn → Float
input_of m h u = sum2 (tabulate (offers_of m h u) m.layers 0)

-- what a turn came to after a mixing that left `after`. Its flag is on if the heater ran and the upper set point is neither missing nor reached on the layers
-- that it left
pub record FiguresOf (m : TankDesign) (h : ℕ) (s : Heating) (u : Turn) (after : List Float) : Type 0 where
  pub temps : u.turned.temps ≡ temps_after (cylinder_of m) (volumes_of m) u.points s.temps after s.charged
  pub charged : u.turned.charged ≡ charged_after (cylinder_of m) (volumes_of m) u.points s.temps after s.charged
  pub losses : u.turned.losses ≡ losses (cylinder_of m) (volumes_of m) u.points s.temps after s.charged
  pub no_input : ¬ (T (lt zero_f (input_of m h u))) → u.turned.adjusted ≡ zero_f
  pub some_input : T (lt zero_f (input_of m h u))
      → let over = surplus (cylinder_of m) (volumes_of m) u.points s.temps after s.charged (heater_layer m h) in
      u.turned.adjusted ≡ max_of2 zero_f (min_of2 (input_of m h u ⊖ over) (input_of m h u))
  pub none_asked : T (wide_close u.turned.adjusted zero_f) → u.turned.supplied ≡ min_of2 zero_f (max_energy m h)
  pub some_asked : ¬ (T (wide_close u.turned.adjusted zero_f)) → u.turned.supplied ≡ min_of2 u.turned.adjusted (max_energy m h)
  pub flag : T u.turned.flag ↔ (T u.turned.ran × ¬ (UpperMissingOrReached u.points u.finish))

abbrev pub AfterMixing : TankDesign → ℕ → Heating → Turn → Mixing → Type 0
AfterMixing m h s u (sorted after k) = FiguresOf m h s u after × (u.turned.rounds ≡ k)
AfterMixing m h s u unsorted = Unit {0}

-- the turn of the heater given as h, in a step with the arguments a that began with the flags fs, which began where heating had come to s. The heater ran if
-- it has an upper set point, and its thermostat layer is at or under a lower one or its flag was on
pub record TurnOf (m : TankDesign) (a : Step) (fs : List Bool) (h : ℕ) (s : Heating) (u : Turn) : Type 0 where
  pub heater : u.heater ≡ h
  pub points : u.points ≡ set_points_of a h
  pub before : u.before ≡ s.temps
  pub start : u.start ≡ get_or s.temps (thermostat_layer m h) nan
  pub ran : T u.turned.ran ↔ (HasUpper u.points × (AtOrUnderLower u.points u.start ⊎ T (get_or fs h false)))
  pub mixing : MixingOf m.layers (volumes_of m)
      (heated (cylinder_of m) (volumes_of m) (offers_of m h u) s.temps)
      u.turned.mixing
  pub after_mixing : AfterMixing m h s u u.turned.mixing
  pub finish : u.finish ≡ get_or u.turned.temps (thermostat_layer m h) nan

-- each field of a heater's line is its turn's figure of that name
pub record LineTells (u : Turn) (line : HeaterLine) : Type 0 where
  pub flag : line.flag ≡ u.turned.flag
  pub adjusted : line.adjusted ≡ u.turned.adjusted
  pub supplied : line.supplied ≡ u.turned.supplied
  pub losses : line.losses ≡ u.turned.losses
  pub rounds : line.rounds ≡ u.turned.rounds

-- it hands on s': its layers and charges; its flag and its line in its heater's own place, the other places kept; its losses added
pub record TurnLeaves (s : Heating) (u : Turn) (s' : Heating) : Type 0 where
  pub temps : s'.temps ≡ u.turned.temps
  pub charged : s'.charged ≡ u.turned.charged
  pub flag_place : u.heater < length s.flags
  pub flags : s'.flags ≡ set s.flags u.heater u.turned.flag
  pub line_place : u.heater < length s.lines
  pub lines : (line : HeaterLine) × LineTells u line × (s'.lines ≡ set s.lines u.heater line)
  pub losses : s'.losses ≡ s.losses ⊕ u.turned.losses

-- 10. Not finite: a layer or its figures after a heater's turn
abbrev pub TurnNotFinite : TankDesign → Turn → Type 0
TurnNotFinite m u =
    LayerNotFinite m u.turned.temps ⊎ NotFinite u.turned.adjusted ⊎ NotFinite u.turned.supplied ⊎ NotFinite u.turned.losses

-- n is the number that it draws, or 0
abbrev pub TurnDraws : TankDesign → Turn → ℕ → Type 0
TurnDraws m u n = FirstOf ((9, u.turned.mixing ≡ unsorted) ∷ (10, TurnNotFinite m u) ∷ []) n

-- ---- the course of a step

-- the events begin on the layers of the state st, with nothing drawn
pub record EventsOpen (st : State) (s : DrawOff) : Type 0 where
  pub temps : s.temps ≡ st.temps
  pub totals : s.totals ≡ record { energy = zero_f; used = zero_f; weighted = zero_f; drawn = zero_f }

-- x is the average, taken where the events ended: weighted sum / volume drawn, or the top layer if that volume is wide-close to 0
pub record Averages (m : TankDesign) (s : DrawOff) (x : Float) : Type 0 where
  pub some_drawn : ¬ (T (wide_close s.totals.drawn zero_f)) → x ≡ s.totals.weighted ⊘ s.totals.drawn
  pub none_drawn : T (wide_close s.totals.drawn zero_f) → x ≡ get_or s.temps (m.layers - 1) nan

-- the turns begin on the layers where the events ended and on the flags of the state st, with nothing charged
pub record TurnsOpen (st : State) (d : DrawOff) (s : Heating) : Type 0 where
  pub temps : s.temps ≡ d.temps
  pub flags : s.flags ≡ st.flags
  pub charged : s.charged ≡ replicate max_layers zero_f
  pub losses : s.losses ≡ zero_f
  pub lines : s.lines ≡ replicate max_heaters (record { flag = false; adjusted = zero_f; supplied = zero_f; losses = zero_f; rounds = 0 })

-- the heaters' losses × 0.75
abbrev pub recoverable_of : Heating → Float
recoverable_of s = s.losses ⊛ three_quarters

-- 10. Not finite: average or recoverable at the end
abbrev pub EndNotFinite : Float → Heating → Type 0
EndNotFinite x s = NotFinite x ⊎ NotFinite (recoverable_of s)

-- a step that all turns have passed ends there, or with 10
abbrev pub Closes : End Outcome → DrawOff → Float → Heating → Type 0
Closes end d x s =
    (EndNotFinite x s × (end ≡ refused 10))
    ⊎ (¬ (EndNotFinite x s) × (end ≡ done (record { drawn = d; average = x; heated = s })))

-- an event of the step, and a turn
abbrev pub EventPart : TankDesign → Step → Float → DrawOff → Event → DrawOff → Type 0
EventPart m a v s e s' = EventOf m (feed_of a) v s e × EventLeaves m s e s'

abbrev pub TurnPart : TankDesign → Step → List Bool → ℕ → Heating → Turn → Heating → Type 0
TurnPart m a fs h s u s' = TurnOf m a fs h s u × TurnLeaves s u s'

-- the turns us, in working order, from s to the step's end, where the events ended at d with the average x
abbrev pub Turns : TankDesign → Step → List Bool → DrawOff → Float → Heating → List Turn → End Outcome → Type 0
Turns m a fs d x s us end =
    InSequence (TurnPart m a fs) (λ (u : Turn) (s' : Heating). TurnDraws m u) (Closes end d x) (λ (n : ℕ). end ≡ refused n)
    s (working_order (fixed_of m)) us

-- the average and the turns of the work w, whose events ended at d
abbrev pub ThenTurns : TankDesign → State → Step → Work → DrawOff → Type 0
ThenTurns m st a w d =
    (x : Float) × Averages m d x × ((s : Heating) × TurnsOpen st d s × Turns m a st.flags d x s w.turns w.end)

-- the events of the work w, from s, and then the average and the turns; or none of these, where an event ended the step
abbrev pub EventsThenTurns : TankDesign → State → Step → Work → DrawOff → Type 0
EventsThenTurns m st a w s =
    InSequence (EventPart m a) (EventDraws m) (ThenTurns m st a w) (λ (n : ℕ). (w.end ≡ refused n) × (w.turns ≡ []))
    s (tabulate (event_volume a) a.events 0) w.events

-- A step from the state st is refused for the first sentence that holds, with nothing worked; or none holds and it is worked, from its opening on
abbrev pub Course : TankDesign → State → Step → Work → Type 0
Course m st a w =
    ((n : ℕ) × (0 < n) × StepRefusal m st a n × (w.end ≡ refused n) × (w.events ≡ []) × (w.turns ≡ []))
    ⊎ (StepRefusal m st a 0 × ((s : DrawOff) × EventsOpen st s × EventsThenTurns m st a w s))
