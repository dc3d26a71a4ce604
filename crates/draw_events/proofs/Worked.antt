-- Proves an event from its parts in the order of the work (01, Draw; Refill; refusals 9 and 10), and the events of a step one at a time.
use Prim.Native.Nat.{ℕ, ◌+◌, ◌≤◌, ◌<◌}
use mathlib.Core.Path.{◌≡◌, refl, sym, subst, ◌∙◌}
use mathlib.Core.Bool.{Bool, true, false}
use mathlib.Core.List.{List, [], ◌∷◌}
use lib.ListN.{length, drop, get_or}
use lib.Ieee.{Float, nan}
use Rattle.std.specs.Prelude.{Result, Ok, Err, zero, suc}
use Rattle.std.proofs.lemmas.List.{drop_more, drop_all}
use Rattle.numeric.specs.Double.{◌⊕◌}
use Rattle.refusals.specs.declared.Refusal.{Refusal}
use Rattle.refusals.specs.Refusals.{number_of, number_in}
use Rattle.refusals.proofs.Numbers.{number-not_0}
use Rattle.mixing.specs.Mix.{Rearranged}
use Rattle.cylinder.specs.declared.Cylinder.{Cylinder}
use Rattle.draw_off.specs.declared.cold.Feed.{Feed}
use Rattle.draw_events.specs.declared.Totals.{Totals}
use Rattle.draw_off.specs.declared.draw.Drawn.{Drawn}
use Rattle.draw_off.specs.Draw.{extract, volume_used}
use Rattle.refill.specs.Refill.{refill}
use Rattle.draw_events.specs.Event.{EventMixing, Drawing, event_mixing, event_finite, number_after, event_of, temps_after_event, totals_after_event, event_number, draw_all}
use Rattle.draw_off.specs.Lent.{draw_of}
use Rattle.refill.specs.Lent.{refill_of}
use Rattle.draw_events.proofs.Numbers.{mixing_told}
use Rattle.draw_events.specs.Lent.{MixingWorked, drawing_of, drawing_after}

-- what the step has drawn after an event that drew d and used so much
abbrev totals_with : Totals → Drawn → Float → Totals
totals_with t d used = record { energy = t.energy ⊕ d.energy; used = t.used ⊕ used; weighted = d.weighted; drawn = d.drawn }

-- what the code finds in turn: the draw leaves `held` and d, the refill leaves `filled`, the mixing leaves `after`
pub record EventParts (c : Cylinder) (feed : Feed) (wanted : Float) (temps : List Float) (t : Totals) (vol held : List Float) (d : Drawn) (used : Float) (given filled : List Float) (mixes : Bool) (after : List Float) (first : ℕ) (answer : Result (Unit {0}) Refusal) : Type 0 where
  pub draws : draw_of held d ≡ extract c vol feed temps wanted t.weighted t.drawn
  pub uses : used ≡ volume_used c held
  pub fills : refill_of given filled mixes ≡ refill c.layers vol feed temps held
  pub mixing : MixingWorked (event_mixing mixes c.layers vol filled) filled first after
  pub told : (m : EventMixing) → first ≡ number_after m true → number_in answer ≡ number_after m (event_finite c after (totals_with t d used))

pub event_worked : {c : Cylinder} {feed : Feed} {wanted : Float} {temps : List Float} {t : Totals} {vol held : List Float} (d : Drawn) {used : Float} {given filled : List Float} {mixes : Bool} {after : List Float} {first : ℕ} (answer : Result (Unit {0}) Refusal) → EventParts c feed wanted temps t vol held d used given filled mixes after first answer → drawing_of after answer (totals_with t d used) ≡ drawing_after c (event_of c vol feed wanted temps t) t
unfolding event_of temps_after_event totals_after_event event_number
event_worked {c} {feed} {wanted} {temps} {t} {vol} {held} d {used} {given} {filled} {mixes} {after} {first} answer w =
    rw (← w.draws, ← w.fills, w.told (event_mixing mixes c.layers vol filled) w.mixing.draws, w.mixing.leaves, w.uses)

-- the mixing that ends an event, where one does: it draws what it answers, and leaves what it left; the event hands that on
module _ (mixes : Bool) (n : ℕ) (vol temps : List Float) where
  pub mixed_worked : mixes ≡ true → (answer : Result ℕ Refusal) (left : List Float) → Rearranged n vol temps answer left → (first : ℕ) → first ≡ number_in answer → (after : List Float) → after ≡ left → MixingWorked (event_mixing mixes n vol temps) temps first after
  unfolding event_mixing
  mixed_worked m answer left r first f after a = rw (m, f, a) record { draws = mixing_told answer _ r.answers; leaves = r.leaves }

  -- no mixing draws no number
  pub unmixed_worked : mixes ≡ false → (after : List Float) → after ≡ temps → MixingWorked (event_mixing mixes n vol temps) temps 0 after
  unfolding event_mixing
  unmixed_worked m after a = rw m record { draws = refl; leaves = a }

module _ (c : Cylinder) (vol : List Float) (feed : Feed) where
  -- with no event left, the events have come to what they have come to
  pub events_end : (volumes : List Float) (k : ℕ) (temps : List Float) (t : Totals) (R : Drawing) → length volumes ≤ k → draw_all c vol feed (drop k volumes) 0 temps t ≡ R → record { number = 0; temps = temps; totals = t } ≡ R
  unfolding draw_all
  events_end volumes k temps t R h left = rw (drop_all k volumes h) at left

  ended : (vs : List Float) (n : ℕ) (temps : List Float) (t : Totals) → (n ≡ 0 → ⊥) → draw_all c vol feed vs n temps t ≡ record { number = n; temps = temps; totals = t }
  unfolding draw_all
  ended [] n temps t h = refl
  ended (v ∷ vs) zero temps t h = absurd (h refl)
  ended (v ∷ vs) (suc n) temps t h = refl

  -- the event of the volume at k, which answers so, and leaves the layers `after` and what the step has drawn u
  module _ (volumes : List Float) (k : ℕ) (temps after : List Float) (t u : Totals) (answer : Result (Unit {0}) Refusal) (R : Drawing) (h : k < length volumes) (left : draw_all c vol feed (drop k volumes) 0 temps t ≡ R) (e : drawing_of after answer u ≡ drawing_after c (event_of c vol feed (get_or volumes k nan) temps t) t) where
    next : draw_all c vol feed (drop (k + 1) volumes) (number_in answer) after u ≡ R
    unfolding draw_all
    next = subst (λ (d : Drawing). draw_all c vol feed (drop (k + 1) volumes) d.number d.temps d.totals ≡ R) (sym e) (rw (drop_more volumes k nan h) at left)

    pub events_next : (v : Unit {0}) → answer ≡ Ok v → draw_all c vol feed (drop (k + 1) volumes) 0 after u ≡ R
    events_next v z = rw z at next

    -- a refused event ends them, with its refusal
    pub events_refused : (r : Refusal) → answer ≡ Err r → (final : Result (Unit {0}) Refusal) (y : Refusal) → final ≡ Err y → y ≡ r → drawing_of after final u ≡ R
    events_refused r z final y f s = rw (f, s) (sym (ended (drop (k + 1) volumes) (number_of r) after u (number-not_0 r)) ∙ (rw z at next))
