-- Proves what the default of an array is, whose elements are each their type's default: that one, so many times.
use Rattle.std.proofs.Common.{◌≡◌, refl, ℕ, zero, suc, ◌<◌, arith, List, [], ◌∷◌, get_or, length, replicate}
use Rattle.std.specs.Array.{AllOfLen}

all_same : {A : Type 0} (x : A) (xs : List A) (n : ℕ) → length xs ≡ n → ((i : ℕ) → i < n → get_or xs i x ≡ x) → xs ≡ replicate n x
all_same x [] zero l h = refl
all_same x [] (suc n) l h = absurd (omega arith)
all_same x (y ∷ ys) zero l h = absurd (omega arith)
all_same x (y ∷ ys) (suc n) l h =
    rw (h 0 (omega arith), all_same x ys n (omega arith) (λ i k. h (suc i) (omega arith)))

pub all_default : {A : Type 0} (P : A → Type 0) (x : A) → ((y : A) → P y → y ≡ x) → (xs : List A) (n : ℕ) → AllOfLen P xs n → xs ≡ replicate n x
all_default P x is xs n a = all_same x xs n a.long (λ i l. is (get_or xs i x) (a.at i x l))
