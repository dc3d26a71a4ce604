-- `order_of_work` meets its contract (01, Tank): the heaters' positions are those that the tank's order of work looks at.
use Rattle.std.proofs.Common.{◌≡◌, ◌∙◌, sym, ap, ◌++◌, ◌-◌, ℕ, ◌<◌, length, take, List, get_or, replicate, arith}
use Rattle.std.proofs.lemmas.List.{get_or-take, length-take-le}
use Rattle.working_order.specs.Order.{max_heaters, position_in, rising_order}
use Rattle.std.specs.Float.{nan}
use Rattle.working_order.proofs.Entries.{entry}
use Rattle.working_order.proofs.Same.{rising_same}
use Rattle.tank_model.specs.Fixed.{Placed, not_placed, heater_of}
use Rattle.tank_model.specs.Order.{working_order}
use Rattle.tank_model.proofs.Order.{many_placed, placed_at}
use Rattle.tank_model.proofs.order_of_work.Goals as goal

-- the order of the slice of the positions
ordered : (c : goal.After-working_order) → c.working_order.result ≡ rising_order (position_in (take (length c.args.fitted.now) c.positions.result)) (length c.args.fitted.now) ++ replicate (max_heaters - length c.args.fitted.now) 0
ordered c =
    let many = length-take-le (length c.args.fitted.now) c.positions.result (omega arith) in
    rw many at c.working_order.ensures

pub returns-clause-below : goal.returns-clause-below
returns-clause-below c k l = entry _ _ _ (ordered c) k l

pub returns-clause-order : goal.returns-clause-order
unfolding working_order
returns-clause-order c f e =
    let hs = c.args.fitted.now in
    let n = length hs in
    let same : (h : ℕ) → h < n → (heater_of f h).position ≡ position_in (take n c.positions.result) h =
    λ h l.
    ap (λ (xs : List Placed). (get_or xs h not_placed).position) e
    ∙ ap (λ (x : Placed). x.position) (placed_at n hs h l)
    ∙ sym (get_or-take n c.positions.result h nan l ∙ c.positions.ensures h l (omega arith)) in
    let many : length f.heaters ≡ n = ap (λ (xs : List Placed). length xs) e ∙ many_placed n hs in
    ordered c
    ∙ ap (λ (os : List ℕ). os ++ replicate (max_heaters - n) 0)
    (sym (rw many (rising_same (λ (h : ℕ). (heater_of f h).position) (position_in (take n c.positions.result)) n same)))
