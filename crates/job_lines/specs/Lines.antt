-- States the lines that a job prints (01, Job): S, L and H of a step, and E of a refusal outside a step.
use Rattle.std.specs.Prelude.{ℕ, zero, suc, ◌+◌, ◌≤◌, ◌≡◌, false, cond, List, [], ◌∷◌, ◌++◌, leb, get_or, Float}
use Rattle.std.proofs.Common.{add-one}
use Rattle.std.specs.Float.{nan}
use Rattle.mixing.specs.Limits.{max_layers}
use Rattle.tank_model.specs.declared.HeaterLine.{HeaterLine}
use Rattle.storage_tank.specs.declared.Report.{Report}
use Rattle.job_lines.specs.Text.{newline, number_text, double_text}

-- a count of places, of which there are no more than `most`
unfoldable pub at_most : ℕ → ℕ → ℕ
at_most n most = cond (leb n most) n most

-- r is that count
pub record CutTo (most n r : ℕ) : Type 0 where
  pub is : r ≡ at_most n most
  pub within : r ≤ most

-- the first n texts, one after the other
unfoldable pub joined : (ℕ → List ℕ) → ℕ → List ℕ
joined text zero = []
joined text (suc n) = joined text n ++ text n

pub joined_more : (text : ℕ → List ℕ) (n : ℕ) → joined text (n + 1) ≡ joined text n ++ text n
unfolding joined
joined_more text n = rw add-one

-- S, the step's index and its number
unfoldable pub head_text : ℕ → ℕ → List ℕ
head_text index number = 83 ∷ number_text index ++ number_text number

-- the four totals, and the line's end
unfoldable pub totals_text : Report → List ℕ
totals_text r = double_text r.energy ++ double_text r.used ++ double_text r.average ++ double_text r.recoverable ++ (newline ∷ [])

abbrev pub layer_text : List Float → ℕ → List ℕ
layer_text temps k = double_text (get_or temps k nan)

unfoldable pub layers_text : ℕ → List Float → List ℕ
layers_text n temps = joined (layer_text temps) n

-- L, and the layers, bottom first
unfoldable pub layers_line : ℕ → List Float → List ℕ
layers_line n temps = 76 ∷ layers_text n temps ++ (newline ∷ [])

-- H, flag 0 or 1, adjusted, supplied, losses, rounds
unfoldable pub heater_line : HeaterLine → List ℕ
heater_line x =
    72 ∷ number_text (cond x.flag 1 0)
    ++ double_text x.adjusted
    ++ double_text x.supplied
    ++ double_text x.losses
    ++ number_text x.rounds
    ++ (newline ∷ [])

-- what is read past the end of an array of lines
abbrev pub no_line : HeaterLine
no_line = record { flag = false; adjusted = nan; supplied = nan; losses = nan; rounds = 0 }

-- a line for each heater, in an order
abbrev pub ordered_line : List ℕ → List HeaterLine → ℕ → List ℕ
ordered_line order lines k = heater_line (get_or lines (get_or order k 0) no_line)

unfoldable pub heater_lines : ℕ → List ℕ → List HeaterLine → List ℕ
heater_lines n order lines = joined (ordered_line order lines) n

-- E, a number and the record's start
unfoldable pub refusal_line : ℕ → ℕ → List ℕ
refusal_line number offset = 69 ∷ number_text number ++ number_text offset ++ (newline ∷ [])

-- a refused step prints only its S and L lines
unfoldable pub refused_lines : ℕ → ℕ → ℕ → List Float → List ℕ
refused_lines index number layers temps = head_text index number ++ (newline ∷ []) ++ layers_line (at_most layers max_layers) temps

-- an accepted step prints its totals too, and the line of each heater, in an order
unfoldable pub accepted_lines : ℕ → Report → ℕ → List Float → ℕ → List ℕ → List ℕ
accepted_lines index r layers temps heaters order =
    head_text index 0 ++ totals_text r ++ layers_line (at_most layers max_layers) temps ++ heater_lines heaters order r.lines
