-- Proves that a mixing comes to what demand 3 says of it in words (01, Mix and refusal 9), and to nothing else.
use mathlib.Core.Path.{◌≡◌, refl, sym, ◌∙◌, subst}
use mathlib.Core.Logic.{◌↔◌}
use mathlib.Core.List.{List}
use mathlib.Core.Bool.{Bool, true, false, true≢false}
use Prim.Native.Nat.{ℕ, ◌-◌}
use native.Mathlib.Omega.{arith}
use lib.Dec.{T}
use lib.Ieee.{Float}
use lib.Ieee.Bits.{is_true}
use Rattle.mixing.specs.Rearrange.{Mixing, sorted, unsorted, rises, is_sorted, after_rounds, rearrange}
use Rattle.mixing.proofs.Order.{accepted_iff, refused_iff}
use Rattle.tank_model.specs.Course.{Nondecreasing, MixingOf}
use Rattle.tank_model.proofs.Sentences.{itself, each_says}

order_says : (n : ℕ) (temps : List Float) → T (is_sorted n temps) ↔ Nondecreasing n temps
unfolding is_sorted
order_says n temps =
    let e = each_says (rises temps) (n - 1) {P = λ (i : ℕ). T (rises temps i)} (λ k l. itself) in
    (λ t i l. e.0 t i (omega arith), λ f. e.1 (λ i l. f i (omega arith)))

-- no order where the test says so, and the other way
no_order : (n : ℕ) (temps : List Float) → is_sorted n temps ≡ false → ¬ (Nondecreasing n temps)
no_order n temps e o = absurd (true≢false (sym (is_true (is_sorted n temps) ((order_says n temps).1 o)) ∙ e))

is_no_order : (n : ℕ) (temps : List Float) → ¬ (Nondecreasing n temps) → is_sorted n temps ≡ false
is_no_order n temps f = go (is_sorted n temps) (order_says n temps).0
  where
    go : (b : Bool) → (T b → Nondecreasing n temps) → b ≡ false
    go true g = absurd (f (g tt))
    go false g = refl

module _ (n : ℕ) (vol temps : List Float) where
  pub mixing_of_lem : MixingOf n vol temps (rearrange n vol temps)
  mixing_of_lem = go (rearrange n vol temps) refl
    where
      go : (x : Mixing) → rearrange n vol temps ≡ x → MixingOf n vol temps x
      go (sorted after k) e =
          let r = (accepted_iff n vol temps after k).0 e in
          record {
            some = r.one;
            within = r.limit;
            layers = r.layers;
            order = (order_says n after).0 (subst T (sym r.order) tt);
            first = λ j l u. no_order n (after_rounds j n vol temps) (r.least j l u);
          }
      go unsorted e = λ j l u. no_order n (after_rounds j n vol temps) ((refused_iff n vol temps).0 e j l u)

  pub mixing_only : (x : Mixing) → MixingOf n vol temps x → x ≡ rearrange n vol temps
  mixing_only (sorted after k) r =
      sym ((accepted_iff n vol temps after k).1 (record {
        one = r.some;
        limit = r.within;
        layers = r.layers;
        order = is_true (is_sorted n after) ((order_says n after).1 r.order);
        least = λ j l u. is_no_order n (after_rounds j n vol temps) (r.first j l u);
      }))
  mixing_only unsorted r = sym ((refused_iff n vol temps).1 (λ j l u. is_no_order n (after_rounds j n vol temps) (r j l u)))

  pub mixing_once : (x y : Mixing) → MixingOf n vol temps x → MixingOf n vol temps y → x ≡ y
  mixing_once x y p q = mixing_only x p ∙ sym (mixing_only y q)
