-- States the checks of make and of a step: 1 to 7 (01, The four calls), of which 5 begins above 1 (02, R-2), and in 8's place 12, 8 and 13 (02, R-1). Each
-- answers its number, and 0 where it passes; a check of several places answers the number of the first that does not pass; and the lists `tank_checks` and
-- `step_checks` are their order: the first that does not pass decides.
use Rattle.std.specs.Prelude.{ℕ, Bool, cond, not, ◌&&◌, List, [], ◌∷◌, ◌++◌, leb, eqb, length, get_or, Float}
use Rattle.std.specs.Float.{nan}
use Rattle.std.specs.Float.Ieee.{lt, le}
use Rattle.std.specs.Float.Ieee.Scale.{finite}
use Rattle.numeric.specs.Double.{zero_f, one_f}
use Rattle.mixing.specs.Limits.{max_layers}
use Rattle.cylinder.specs.declared.Cylinder.{Cylinder}
use Rattle.cylinder.specs.Layers.{all_finite}
use Rattle.draw_events.specs.Lent.{max_events}
use Rattle.set_points.specs.declared.SetPoints.{SetPoints}
use Rattle.set_points.specs.declared.SetPoints.TheVariants.{Neither, Lower, Upper, Both}
use Rattle.working_order.specs.Order.{max_heaters}
use Rattle.tank_model.specs.declared.Step.{Step}
use Rattle.tank_model.specs.Fixed.{Placed, not_placed, Fixed, State}
use Rattle.tank_model.specs.FirstRefusal.{first_refusal, first_among}

-- n, and 0 where the check passes
abbrev pub unless : Bool → ℕ → ℕ
unless passes n = cond passes 0 n

-- finite and above zero; finite and not below zero
abbrev pub is_positive : Float → Bool
is_positive x = finite x && lt zero_f x

abbrev pub not_negative : Float → Bool
not_negative x = finite x && not (lt x zero_f)

-- at least 0 and at most 1: exactly 1 is the top layer
abbrev pub is_position : Float → Bool
is_position x = le zero_f x && le x one_f

-- ---- the checks of a tank, or of what one is made from

abbrev pub layers_check : Cylinder → ℕ
layers_check c = unless (leb 1 c.layers && leb c.layers max_layers) 1

-- of a count of heaters
abbrev pub heaters_check : ℕ → ℕ
heaters_check n = unless (leb n max_heaters) 2

abbrev pub numbers_check : Cylinder → ℕ
numbers_check c = unless (is_positive c.volume && is_positive c.rho && is_positive c.cp && is_positive c.timestep) 3

-- `temps`: whether the initial temperature, or each stored layer, is finite
abbrev pub temperatures_check : Cylinder → Bool → ℕ
temperatures_check c temps = unless (not_negative c.standby && finite c.ambient && temps) 4

-- of one heater, and of each as given
abbrev pub heater_check : Placed → ℕ
heater_check x = unless (not_negative x.rated && is_position x.position && is_position x.thermostat) 5

abbrev pub places_check : List Placed → ℕ
places_check heaters = first_among (λ (h : ℕ). heater_check (get_or heaters h not_placed)) (length heaters)

-- 1 to 5
abbrev pub tank_checks : Fixed → Bool → List ℕ
tank_checks f temps =
    layers_check f.cylinder
    ∷ heaters_check (length f.heaters)
    ∷ numbers_check f.cylinder
    ∷ temperatures_check f.cylinder temps
    ∷ places_check f.heaters
    ∷ []

-- ---- the checks of a step's arguments

-- the set points of the heater given as h
abbrev pub points_of : Step → ℕ → SetPoints
points_of a h = get_or a.settings h Neither

-- of a tank of n heaters
abbrev pub counts_check : ℕ → ℕ → ℕ → ℕ
counts_check n events entries = unless (leb events max_events && eqb entries n) 6

-- of the feed temperature, of one volume, and of the feed and each of n volumes
abbrev pub feed_check : Float → ℕ
feed_check feed = unless (finite feed) 7

abbrev pub volume_check : Float → ℕ
volume_check v = unless (not_negative v) 7

abbrev pub volumes_check : ℕ → List Float → ℕ
volumes_check n volumes = first_among (λ (i : ℕ). volume_check (get_or volumes i nan)) n

abbrev pub draws_check : Float → ℕ → List Float → ℕ
draws_check feed n volumes = first_refusal (feed_check feed ∷ volumes_check n volumes ∷ [])

-- of one heater's set points: 12 where a present one is not finite; else 8 where the lower one comes alone, and 13 where it is greater than the upper.
-- And of n heaters', in the given order
unfoldable pub points_check : SetPoints → ℕ
points_check Neither = 0
points_check (Lower l) = cond (finite l) 8 12
points_check (Upper u) = unless (finite u) 12
points_check (Both l u) = cond (finite l && finite u) (unless (not (lt u l)) 13) 12

abbrev pub settings_check : ℕ → List SetPoints → ℕ
settings_check n settings = first_among (λ (h : ℕ). points_check (get_or settings h Neither)) n

-- 6 and 7
abbrev pub argument_checks : Fixed → Step → List ℕ
argument_checks f a =
    counts_check (length f.heaters) a.events a.entries
    ∷ draws_check a.feed a.events a.volumes
    ∷ []

-- 6, 7, and then 12, 8 or 13
abbrev pub step_checks : Fixed → Step → List ℕ
step_checks f a = argument_checks f a ++ settings_check a.entries a.settings ∷ []

-- what make's arguments are refused for, and what a step is refused for before it works; 0 for nothing
unfoldable pub make_refusal : Fixed → Float → ℕ
make_refusal f initial = first_refusal (tank_checks f (finite initial))

unfoldable pub step_refusal : Fixed → State → Step → ℕ
step_refusal f st a = first_refusal (tank_checks f (all_finite f.cylinder.layers st.temps) ++ step_checks f a)
