-- `round::fill_group` meets its contract (01, Mix): what fills a part at once leaves what the places one after another leave.
use mathlib.Core.List.{List}
use mathlib.Core.Path.{◌≡◌, refl, sym, ◌∙◌}
use Prim.Native.Nat.{ℕ, zero, suc, ◌+◌, ◌-◌, ◌≤◌}
use native.Mathlib.Omega.{arith}
use lib.Ieee.{Float}
use lib.ListN.{length, set, take, drop, replicate, length-drop, length-replicate, get_or-replicate}
use Rattle.std.proofs.Common.{add-one}
use Rattle.std.proofs.Math.Seq.{paste, paste-zero, paste-suc}
use Rattle.std.proofs.lemmas.Slice.{put_mid-paste}
use Rattle.std.proofs.lemmas.List.{length-take-le}
use Rattle.numeric.specs.Iterate.{iterate, iterate_more}
use Rattle.plain_mixing.proofs.round.fill_group.Goals as goal

-- after k of n places from i on
filled : (i n : ℕ) (x : Float) (xs : List Float) → i + n ≤ length xs → (k : ℕ) → k ≤ n → iterate (λ (j : ℕ) (t : List Float). set t j x) k i xs ≡ paste xs i (replicate n x) k
unfolding iterate
filled i n x xs l zero h = paste-zero xs i (replicate n x)
filled i n x xs l (suc k) h =
    let before = filled i n x xs l k (omega arith) in
    let more = paste-suc xs i (replicate n x) k x (omega arith) (rw length-replicate h) in
    (rw add-one at (iterate_more (λ (j : ℕ) (t : List Float). set t j x) k i xs)) ∙ rw (before, ← more, get_or-replicate n k x x h)

part_long : (i end : ℕ) (xs : List Float) → end ≤ length xs → length (take (end - i) (drop i xs)) ≡ end - i
part_long i end xs l = length-take-le (end - i) (drop i xs) (rw length-drop (omega arith))

pub returns : goal.returns
returns c =
    let n = c.args.end - c.args.bottom in
    let long = part_long c.args.bottom c.args.end c.args.temps.now (omega arith) in
    let is = rw long at (c.fill.ensures.after (λ y e. e)) in
    put_mid-paste c.args.bottom n c.args.temps.now c.fill.new.self (replicate n c.args.x) n is refl (sym (length-replicate n c.args.x))
    ∙ sym (filled c.args.bottom n c.args.x c.args.temps.now (omega arith) n (omega arith))
