-- States a change of the first n places of an array, each from its index and what it holds, and proves that it keeps the others and the length.
use Rattle.std.specs.Prelude.{ℕ, ◌+◌, ◌≤◌, ◌<◌, ◌≡◌, refl, List, length, get_or, set, Float}
use Rattle.std.proofs.Common.{arith, ◌∙◌, length-set, get_or-set_other}
use Rattle.std.specs.Float.{nan}
use Rattle.numeric.specs.Iterate.{iterate, iterate_keep}

-- the pass at k: the place k takes f k of what it holds
abbrev pub update_at : (ℕ → Float → Float) → ℕ → List Float → List Float
update_at f k xs = set xs k (f k (get_or xs k nan))

abbrev pub update_first : (ℕ → Float → Float) → ℕ → List Float → List Float
update_first f n xs = iterate (update_at f) n 0 xs

-- ys has the length of xs, and what xs has from place n on
pub record Keeps (n : ℕ) (xs ys : List Float) : Type 0 where
  pub long : length ys ≡ length xs
  pub past : (j : ℕ) (d : Float) → n ≤ j → get_or ys j d ≡ get_or xs j d

pub keeps_self : (n : ℕ) (xs : List Float) → Keeps n xs xs
keeps_self n xs = record { long = refl; past = λ j d l. refl }

pub keeps_trans : (n : ℕ) (xs ys zs : List Float) → Keeps n xs ys → Keeps n ys zs → Keeps n xs zs
keeps_trans n xs ys zs a b = record { long = b.long ∙ a.long; past = λ j d l. b.past j d l ∙ a.past j d l }

pub keeps_set : (n : ℕ) (xs : List Float) (k : ℕ) (x : Float) → k < n → Keeps n xs (set xs k x)
keeps_set n xs k x h = record { long = length-set xs k x; past = λ j d l. get_or-set_other xs k j x d (λ e. omega arith) }

-- what each pass below n keeps of the places past n, the whole keeps
pub iterate_keeps : (f : ℕ → List Float → List Float) (n : ℕ) → ((i : ℕ) (xs : List Float) → i < n → Keeps n xs (f i xs))
    → (k i : ℕ) (xs : List Float) → i + k ≤ n → Keeps n xs (iterate f k i xs)
iterate_keeps f n h k i xs l =
    iterate_keep f (λ (ys : List Float). Keeps n xs ys) n (λ j ys m p. keeps_trans n xs ys (f j ys) p (h j ys m)) k i xs l (keeps_self n xs)

pub update_keeps : (f : ℕ → Float → Float) (n : ℕ) (xs : List Float) → Keeps n xs (update_first f n xs)
update_keeps f n xs = iterate_keeps (update_at f) n (λ i ys m. keeps_set n ys i (f i (get_or ys i nan)) m) n 0 xs (omega arith)
