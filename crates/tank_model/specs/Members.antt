-- States what is said of the members of a list: of each, of some, that they are distinct, and that each stands in a relation to the next.
use Rattle.std.specs.Prelude.{◌⊎◌, ◌≢◌, List, [], ◌∷◌, ℕ}

abbrev pub All : {A : Type 0} → (A → Type 0) → List A → Type 0
All P [] = Unit {0}
All P (x ∷ xs) = P x × All P xs

abbrev pub Some : {A : Type 0} → (A → Type 0) → List A → Type 0
Some P [] = ⊥
Some P (x ∷ xs) = P x ⊎ Some P xs

abbrev pub Distinct : List ℕ → Type 0
Distinct [] = Unit {0}
Distinct (x ∷ xs) = All (λ (y : ℕ). x ≢ y) xs × Distinct xs

-- each member and the next, from x on
abbrev pub ChainFrom : (ℕ → ℕ → Type 0) → ℕ → List ℕ → Type 0
ChainFrom R x [] = Unit {0}
ChainFrom R x (y ∷ ys) = R x y × ChainFrom R y ys

abbrev pub Chain : (ℕ → ℕ → Type 0) → List ℕ → Type 0
Chain R [] = Unit {0}
Chain R (x ∷ xs) = ChainFrom R x xs
