-- Proves what demand 3 says of one step, from the step's course alone (01, Step; Turn): every mixing is in order or drew refusal 9, every turn supplied rightly, a
-- refusal has a number, and what an accepted step leaves of flags and lines is what its turns say.
use mathlib.Core.Path.{◌≡◌, refl, sym, ap, ◌∙◌, subst}
use mathlib.Core.Logic.{◌⊎◌, inl, inr, ◌≢◌, ◌↔◌, ⊎_elim}
use mathlib.Core.List.{List, [], ◌∷◌}
use mathlib.Core.Bool.{Bool, true, false, ◌&&◌, or-false}
use Prim.Native.Nat.{ℕ, ◌<◌, ◌≤◌}
use native.Mathlib.Omega.{arith}
use native.Mathlib.Decide.{ℕ_discrete}
use lib.Dec.{T, eqb, eqb→eq, eqb_refl, leb→le, lit<}
use lib.ListN.{length, get_or, set, length-set}
use lib.Seq.{get_or-set_same, get_or-set_other}
use lib.Ieee.{Float}
use lib.Ieee.Bits.{is_true}
use Rattle.numeric.specs.Tabulate.{tabulate}
use Rattle.mixing.specs.Rearrange.{Mixing, sorted, unsorted}
use Rattle.cylinder.specs.Layers.{all_finite}
use Rattle.draw_off.specs.declared.cold.Feed.{Feed}
use Rattle.draw_events.specs.Event.{Event, mixed}
use Rattle.set_points.specs.declared.SetPoints.{SetPoints}
use Rattle.set_points.specs.declared.SetPoints.TheVariants.{Neither, Lower, Upper, Both}
use Rattle.heater_switches.specs.Switch.{at_or_under_lower, upper_missing_or_reached}
use Rattle.heater_switches.specs.SwitchLaws.{latched}
use Rattle.working_order.specs.Order.{max_heaters}
use Rattle.tank_model.specs.declared.TankDesign.{TankDesign}
use Rattle.tank_model.specs.declared.Step.{Step}
use Rattle.tank_model.specs.Fixed.{Placed, State, heater_of, fixed_of}
use Rattle.tank_model.specs.Order.{working_order}
use Rattle.tank_model.specs.Checks.{is_positive, not_negative, step_checks, step_refusal}
use Rattle.tank_model.specs.Run.{End, refused, done}
use Rattle.tank_model.specs.Work.{DrawOff, Heating, Turn, zero_line, Outcome, Work}
use Rattle.tank_model.specs.Members.{All, Distinct}
use Rattle.tank_model.specs.Arguments.{volumes_of, feed_of, HasUpper, AtOrUnderLower, UpperMissingOrReached, event_volume}
use Rattle.tank_model.specs.Refusals.{FirstOf}
use Rattle.tank_model.specs.Course.{number_of, passed, MixingOf, EventOf, EventDraws, EventPart, AfterMixing, TurnOf, LineTells, TurnLeaves, TurnDraws, TurnPart, Closes, Turns, ThenTurns, EventsThenTurns, Course}
use Rattle.tank_model.specs.HistoryDemand.{OrderedOrNine, EventOrderedOrNine, MixedOrNine, RightlySupplied, AllRightlySupplied, AllTold}
use Rattle.tank_model.proofs.Run.{not_done, done_inj, sequence_holds, sequence_then, sequence_all}
use Rattle.tank_model.proofs.Members.{any, all_any, all_map, In, NotIn, in_all}
use Rattle.tank_model.proofs.Order.{heater_is, heaters_many, order_below, order_once}
use Rattle.tank_model.proofs.Sentences.{same_test}
use Rattle.tank_model.proofs.Refusals.{step_refused_as}
use Rattle.tank_model.proofs.Parts.{nine_drawn, Same, all_same, same_after}
use Rattle.tank_model.proofs.TurnFacts.{lower_says, reached_says, Fair, turn_supplies}
use Rattle.tank_model.proofs.Passes.{tank_passes}

-- ---- a mixing out of order draws 9, and that ends the step

module _ (m : TankDesign) (end : End Outcome) where
  nine_ends : {Nine Ten : Type 0} (n : ℕ) → FirstOf ((9, Nine) ∷ (10, Ten) ∷ []) n → (0 < n → end ≡ refused n) → Nine → end ≡ refused 9
  nine_ends n d stops x = let z = nine_drawn n x d in subst (λ (k : ℕ). end ≡ refused k) z (stops (omega (arith, z)))

  in_order : (temps : List Float) (x : Mixing) → MixingOf m.layers (volumes_of m) temps x → (x ≡ unsorted → end ≡ refused 9) → OrderedOrNine m.layers end x
  in_order temps (sorted after k) o f = o.order
  in_order temps unsorted o f = f refl

  event_in_order : (feed : Feed) (v : Float) (s : DrawOff) (e : Event) (s' : DrawOff) (n : ℕ) → EventOf m feed v s e → EventDraws m e s' n → (0 < n → end ≡ refused n) → EventOrderedOrNine m.layers end e.mixing
  event_in_order feed v s e s' n o d stops = go e.refill.mixes refl
    where
      go : (b : Bool) → e.refill.mixes ≡ b → EventOrderedOrNine m.layers end e.mixing
      go true z =
          let x = o.mixing (rw z tt) in
          rw x.1 (in_order e.refill.temps x.0 x.2 (λ u. nine_ends n d stops (x.1 ∙ ap mixed u)))
      go false z = rw (o.no_mixing (λ c. rw z at c)) tt

-- ---- what the turns of the heaters hs do to flags and lines

-- does a turn of the heater h pass the test q?
abbrev pub of_heater : ℕ → (Turn → Bool) → Turn → Bool
of_heater h q u = eqb u.heater h && q u

abbrev pub began : Turn → Bool
began u = at_or_under_lower u.points u.start

abbrev pub ended : Turn → Bool
ended u = upper_missing_or_reached u.points u.finish

record Law (hs : List ℕ) (s : Heating) (us : List Turn) (s' : Heating) : Type 0 where
  flags_length : length s'.flags ≡ length s.flags
  flag : (h : ℕ) → get_or s'.flags h false ≡ latched (any (of_heater h began) us) (any (of_heater h ended) us) (get_or s.flags h false)
  others : (h : ℕ) → NotIn h hs → get_or s'.lines h zero_line ≡ get_or s.lines h zero_line
  told : All (λ (u : Turn). LineTells u (get_or s'.lines u.heater zero_line)) us
  own : All (λ (u : Turn). In u.heater hs) us

pub nothing_latched : (f : Bool) → latched false false f ≡ f
nothing_latched true = refl
nothing_latched false = refl

law_none : (s : Heating) → Law [] s [] s
law_none s = record { flags_length = refl; flag = λ h. sym (nothing_latched (get_or s.flags h false)); others = λ h o. refl; told = tt; own = tt }

eqb_not : (a b : ℕ) → a ≢ b → eqb a b ≡ false
eqb_not a b n = go (eqb a b) (eqb→eq a b)
  where
    go : (c : Bool) → (T c → a ≡ b) → c ≡ false
    go true h = absurd (n (h tt))
    go false h = refl

none_of : (h : ℕ) (q : Turn → Bool) (us : List Turn) → All (λ (u : Turn). h ≢ u.heater) us → any (of_heater h q) us ≡ false
none_of h q [] a = refl
none_of h q (u ∷ us) a = rw (eqb_not u.heater h (λ e. a.0 (sym e))) (none_of h q us a.1)

-- one turn more, of a heater that the others are not
module _ (hs : List ℕ) (s : Heating) (u : Turn) (s1 : Heating) (us : List Turn) (s2 : Heating) (l : TurnLeaves s u s1) (b : Law hs s1 us s2)
    (apart : NotIn u.heater hs) (latches : u.turned.flag ≡ latched (began u) (ended u) (get_or s.flags u.heater false)) where
  not_again : All (λ (v : Turn). u.heater ≢ v.heater) us
  not_again = all_map (λ (v : Turn). In v.heater hs) (λ (v : Turn). u.heater ≢ v.heater) (λ v i. in_all (λ (y : ℕ). u.heater ≢ y) v.heater hs i apart) us b.own

  more_flag : (h : ℕ) → get_or s2.flags h false ≡ latched (any (of_heater h began) (u ∷ us)) (any (of_heater h ended) (u ∷ us)) (get_or s.flags h false)
  more_flag h = b.flag h ∙ rw l.flags (go (ℕ_discrete h u.heater))
    where
      go : Dec (h ≡ u.heater)
          → latched (any (of_heater h began) us) (any (of_heater h ended) us) (get_or (set s.flags u.heater u.turned.flag) h false)
          ≡ latched (any (of_heater h began) (u ∷ us)) (any (of_heater h ended) (u ∷ us)) (get_or s.flags h false)
      go (yes e) =
          let others : All (λ (v : Turn). h ≢ v.heater) us = rw e not_again in
          let own : eqb u.heater h ≡ true = rw e (is_true (eqb u.heater u.heater) (eqb_refl u.heater)) in
          rw (none_of h began us others, none_of h ended us others, nothing_latched, own, or-false (began u), or-false (ended u))
          (rw e (get_or-set_same s.flags u.heater u.turned.flag false l.flag_place ∙ latches))
      go (no n) = rw (eqb_not u.heater h (λ e. n (sym e)), get_or-set_other s.flags u.heater h u.turned.flag false n)

  law_more : Law (u.heater ∷ hs) s (u ∷ us) s2
  law_more = record {
    flags_length = b.flags_length ∙ ap length l.flags ∙ length-set s.flags u.heater _;
    flag = more_flag;
    others = λ h o. b.others h o.1 ∙ rw l.lines.2 (get_or-set_other s.lines u.heater h l.lines.0 zero_line o.0);
    told = (
      subst (LineTells u) (sym (b.others u.heater apart ∙ rw l.lines.2 (get_or-set_same s.lines u.heater l.lines.0 zero_line l.line_place))) l.lines.1,
      b.told,
    );
    own = (inl refl, all_map (λ (v : Turn). In v.heater hs) (λ (v : Turn). In v.heater (u.heater ∷ hs)) (λ v i. inr i) us b.own);
  }

-- ---- a turn latches its heater's flag

not_reached_upper : (p : SetPoints) (t : Float) → ¬ (UpperMissingOrReached p t) → HasUpper p
not_reached_upper Neither t n = n tt
not_reached_upper (Lower l) t n = n tt
not_reached_upper (Upper u) t n = tt
not_reached_upper (Both l u) t n = tt

latched_says : (b e f : Bool) {B E : Type 0} → T b ↔ B → T e ↔ E → T (latched b e f) ↔ ((B ⊎ T f) × ¬ E)
latched_says true true f p q = (λ t. absurd t, λ x. x.1 (q.0 tt))
latched_says true false f p q = (λ t. (inl (p.0 tt), λ x. q.1 x), λ x. tt)
latched_says false true true p q = (λ t. absurd t, λ x. x.1 (q.0 tt))
latched_says false false true p q = (λ t. (inr tt, λ x. q.1 x), λ x. tt)
latched_says false true false p q = (λ t. absurd t, λ x. x.1 (q.0 tt))
latched_says false false false p q = (λ t. absurd t, λ x. ⊎_elim (λ y. p.1 y) (λ y. y) x.0)

module _ (m : TankDesign) (a : Step) (fs : List Bool) where
  turn_latches : (h : ℕ) (s : Heating) (u : Turn) → TurnOf m a fs h s u → TurnDraws m u 0 → get_or s.flags h false ≡ get_or fs h false
      → u.turned.flag ≡ latched (began u) (ended u) (get_or s.flags h false)
  turn_latches h s u o d q = go u.turned.mixing refl o.after_mixing
    where
      ran_by : T u.turned.ran ↔ (HasUpper u.points × (AtOrUnderLower u.points u.start ⊎ T (get_or s.flags h false)))
      ran_by = rw q o.ran

      go : (x : Mixing) → u.turned.mixing ≡ x → AfterMixing m h s u x → u.turned.flag ≡ latched (began u) (ended u) (get_or s.flags h false)
      go unsorted e k = let z = nine_drawn 0 e d in absurd (omega (arith, z))
      go (sorted after r) e k =
          same_test u.turned.flag (latched (began u) (ended u) (get_or s.flags h false))
          {P = (AtOrUnderLower u.points u.start ⊎ T (get_or s.flags h false)) × ¬ (UpperMissingOrReached u.points u.finish)}
          (λ t. let x = k.0.flag.0 t in ((ran_by.0 x.0).1, x.1), λ x. k.0.flag.1 (ran_by.1 (not_reached_upper u.points u.finish x.1, x.0), x.1))
          (latched_says (began u) (ended u) (get_or s.flags h false) (lower_says u.points u.start) (reached_says u.points u.finish))

-- ---- the step

-- what is said of a step's turns and of its end
pub record Says (m : TankDesign) (st : State) (w : Work) : Type 0 where
  pub mixings : All (λ (u : Turn). OrderedOrNine m.layers w.end u.turned.mixing) w.turns
  pub supplies : AllRightlySupplied m w
  pub number : (k : ℕ) → w.end ≡ refused k → 0 < k
  pub flags_length : (o : Outcome) → w.end ≡ done o → length o.heated.flags ≡ length st.flags
  pub flag : (o : Outcome) → w.end ≡ done o → (h : ℕ)
      → get_or o.heated.flags h false ≡ latched (any (of_heater h began) w.turns) (any (of_heater h ended) w.turns) (get_or st.flags h false)
  pub told : (o : Outcome) → w.end ≡ done o → AllTold w o

-- of a step that is refused with no turn
pub no_turns_say : (m : TankDesign) (st : State) (w : Work) (n : ℕ) → 0 < n → w.end ≡ refused n → w.turns ≡ [] → Says m st w
no_turns_say m st w n l e z = record {
  mixings = rw z tt;
  supplies = rw z tt;
  number = λ k q. subst (λ (j : ℕ). 0 < j) (ap number_of (sym e ∙ q)) l;
  flags_length = λ o q. absurd (not_done n o (sym e ∙ q));
  flag = λ o q. absurd (not_done n o (sym e ∙ q));
  told = λ o q. absurd (not_done n o (sym e ∙ q));
}

module _ (m : TankDesign) (a : Step) (st : State) (w : Work) where
  abbrev order : List ℕ
  order = working_order (fixed_of m)

  abbrev draws_of : Turn → Heating → ℕ → Type 0
  draws_of u s = TurnDraws m u

  abbrev stops_with : ℕ → Type 0
  stops_with n = w.end ≡ refused n

  -- the turns from s, whose events ended at d with the average x
  module _ (d : DrawOff) (x : Float) (s : Heating) (seq : Turns m a st.flags d x s w.turns w.end) where
    turn_number_lem : (k : ℕ) → w.end ≡ refused k → 0 < k
    turn_number_lem =
        sequence_then (TurnPart m a st.flags) draws_of (Closes w.end d x) stops_with ((k : ℕ) → w.end ≡ refused k → 0 < k)
        (λ s' c k q. ⊎_elim (λ y. subst (λ (j : ℕ). 0 < j) (ap number_of (sym y.1 ∙ q)) (lit< tt)) (λ y. absurd (not_done k _ (sym q ∙ y.1))) c)
        (λ n l e k q. subst (λ (j : ℕ). 0 < j) (ap number_of (sym e ∙ q)) l) order s w.turns seq

    turns_law : s.flags ≡ st.flags → (o : Outcome) → w.end ≡ done o → Law order s w.turns o.heated
    turns_law f o e =
        sequence_holds (TurnPart m a st.flags) draws_of (Closes w.end d x) stops_with
        (λ (hs : List ℕ) (t : Heating) (us : List Turn). Distinct hs → Same st.flags t hs → Law hs t us o.heated)
        (λ t c p q. ⊎_elim (λ y. absurd (not_done 10 o (sym y.1 ∙ e))) (λ y. subst (Law [] t []) (ap (λ (z : Outcome). z.heated) (done_inj _ o (sym y.1 ∙ e))) (law_none t)) c)
        (λ h hs t u t' us p n r k q. more h hs t u t' us p n (r k.1) k q)
        (λ h hs t u t' n p l z y k q. absurd (not_done n o (sym y ∙ e)))
        order s w.turns seq (order_once (fixed_of m)) (all_same st.flags s order f)
      where
        more : (h : ℕ) (hs : List ℕ) (t : Heating) (u : Turn) (t' : Heating) (us : List Turn) → TurnPart m a st.flags h t u t' → TurnDraws m u 0
            → (Same st.flags t' hs → Law hs t' us o.heated) → Distinct (h ∷ hs) → Same st.flags t (h ∷ hs) → Law (h ∷ hs) t (u ∷ us) o.heated
        more h hs t u t' us p n rest k q =
            let i = p.0.heater in
            subst (λ (j : ℕ). Law (j ∷ hs) t (u ∷ us) o.heated) i
            (law_more hs t u t' us o.heated p.1 (rest (same_after st.flags h hs t t' _ (subst (λ (j : ℕ). t'.flags ≡ set t.flags j u.turned.flag) i p.1.flags) k.0 q.1))
            (subst (λ (j : ℕ). NotIn j hs) (sym i) k.0)
            (subst (λ (j : ℕ). u.turned.flag ≡ latched (began u) (ended u) (get_or t.flags j false)) (sym i) (turn_latches m a st.flags h t u p.0 n q.0)))

  module _ (timestep : T (is_positive m.timestep)) (fair : All (Fair m a) order) where
    turns_say : (d : DrawOff) → ThenTurns m st a w d → Says m st w
    turns_say d t =
        let x = t.0 in
        let s = t.2.0 in
        let f = t.2.1.flags in
        let seq = t.2.2 in
        record {
          mixings = sequence_all (TurnPart m a st.flags) draws_of (Closes w.end d x) stops_with (Fair m a) (λ (u : Turn). OrderedOrNine m.layers w.end u.turned.mixing)
              (λ h y u y' n z p q stops. in_order m w.end _ u.turned.mixing p.0.mixing (nine_ends m w.end n q stops)) order s w.turns fair seq;
          supplies = sequence_all (TurnPart m a st.flags) draws_of (Closes w.end d x) stops_with (Fair m a) (λ (u : Turn). T (passed u.turned.mixing) → RightlySupplied m u u.turned.supplied)
              (λ h y u y' n z p q stops. turn_supplies m a timestep st.flags h y u z p.0) order s w.turns fair seq;
          number = turn_number_lem d x s seq;
          flags_length = λ o e. (turns_law d x s seq f o e).flags_length ∙ ap length f;
          flag = λ o e h. rw (← f) ((turns_law d x s seq f o e).flag h);
          told = λ o e. (turns_law d x s seq f o e).told;
        }

  events_in_order : (s : DrawOff) → EventsThenTurns m st a w s → All (λ (e : Event). EventOrderedOrNine m.layers w.end e.mixing) w.events
  events_in_order s seq =
      sequence_all (EventPart m a) (EventDraws m) (ThenTurns m st a w) (λ (n : ℕ). (w.end ≡ refused n) × (w.turns ≡ [])) (λ (v : Float). Unit {0}) (λ (e : Event). EventOrderedOrNine m.layers w.end e.mixing)
      (λ v y e y' n z p q stops. event_in_order m w.end (feed_of a) v y e y' n p.0 q (λ l. (stops l).0)) (tabulate (event_volume a) a.events 0) s w.events (all_any (tabulate (event_volume a) a.events 0)) seq

  -- what the checks say of the heaters
  order_fair : length (fixed_of m).heaters ≤ max_heaters → ((h : ℕ) → h < length (fixed_of m).heaters → T (not_negative (heater_of (fixed_of m) h).rated)) → All (Fair m a) order
  order_fair l e = all_map (λ (h : ℕ). h < length (fixed_of m).heaters) (Fair m a) fair order (order_below (fixed_of m))
    where
      fair : (h : ℕ) → h < length (fixed_of m).heaters → Fair m a h
      fair h k =
          let j : h < m.heaters = subst (λ (n : ℕ). h < n) (heaters_many m) k in
          (subst (λ (x : Placed). T (not_negative x.rated)) (heater_is m h j) (e h k), j)

  pub course_says : Course m st a w → Says m st w
  unfolding step_refusal
  course_says (inl p) = no_turns_say m st w p.0 p.1 p.3 p.5
  course_says (inr p) =
      let c = tank_passes (fixed_of m) (all_finite m.layers st.temps) (step_checks (fixed_of m) a) ((step_refused_as m st a 0).1 p.0) in
      sequence_then (EventPart m a) (EventDraws m) (ThenTurns m st a w) (λ (n : ℕ). (w.end ≡ refused n) × (w.turns ≡ [])) (Says m st w)
      (turns_say c.timestep (order_fair (leb→le (length (fixed_of m).heaters) max_heaters c.heaters) c.rated))
      (λ n l e. no_turns_say m st w n l e.0 e.1) (tabulate (event_volume a) a.events 0) p.1.0 w.events p.1.2

  pub course_mixes : Course m st a w → MixedOrNine m.layers w
  course_mixes (inl p) = (rw p.4 tt, rw p.5 tt)
  course_mixes (inr p) = (events_in_order p.1.0 p.1.2, (course_says (inr p)).mixings)
