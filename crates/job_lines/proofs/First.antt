-- Proves that the line of an array's first layers is that of so many of the array's, and that the heaters' lines look at no more of an order than there are
-- heaters (01, Job).
use Rattle.std.proofs.Common.{ℕ, zero, suc, ◌<◌, ◌≤◌, ◌≡◌, refl, sym, ap, ◌∙◌, List, length, take, arith}
use Rattle.std.specs.Prelude.{Float, get_or}
use Rattle.std.specs.Float.{nan}
use Rattle.std.proofs.lemmas.List.{get_or-take, length-take-le}
use Rattle.tank_model.specs.declared.HeaterLine.{HeaterLine}
use Rattle.storage_tank.specs.declared.Report.{Report}
use Rattle.job_lines.specs.Text.{double_text}
use Rattle.job_lines.specs.Lines.{joined, layer_text, layers_text, layers_line, no_line, heater_line, ordered_line, heater_lines, accepted_lines}

joined_same : (f g : ℕ → List ℕ) (n : ℕ) → ((k : ℕ) → k < n → f k ≡ g k) → joined f n ≡ joined g n
unfolding joined
joined_same f g zero e = refl
joined_same f g (suc n) e = rw (e n (omega arith), joined_same f g n (λ k l. e k (omega arith)))

pub first_layers : (n : ℕ) (temps : List Float) → n ≤ length temps → layers_line (length (take n temps)) (take n temps) ≡ layers_line n temps
unfolding layers_line layers_text
first_layers n temps l =
    rw (length-take-le n temps l, joined_same (layer_text (take n temps)) (layer_text temps) n (λ k m. ap double_text (get_or-take n temps k nan m)))

first_of_order : (n : ℕ) (order shown : List ℕ) (lines : List HeaterLine) → take n order ≡ shown → heater_lines n order lines ≡ heater_lines n shown lines
unfolding heater_lines
first_of_order n order shown lines e =
    joined_same (ordered_line order lines) (ordered_line shown lines) n
    (λ k l. ap (λ (h : ℕ). heater_line (get_or lines h no_line)) (sym (get_or-take n order k 0 l) ∙ ap (λ (xs : List ℕ). get_or xs k 0) e))

pub accepted_order : (index : ℕ) (r : Report) (layers : ℕ) (temps : List Float) (n : ℕ) (order shown : List ℕ) → take n order ≡ shown
    → accepted_lines index r layers temps n order ≡ accepted_lines index r layers temps n shown
unfolding accepted_lines
accepted_order index r layers temps n order shown e = rw (first_of_order n order shown r.lines e)
