-- `with_more` meets its contract (01, Arithmetic underneath). The loop's invariant: sum is that of `counter` terms, where a is that of k.
use mathlib.Core.Path.{◌≡◌}
use native.Mathlib.Omega.{arith}
use denote.Floats.{passes}
use Rattle.shorter_sums.proofs.FastTwoSum.{equals_more}
use Rattle.shorter_sums.proofs.with_more.Goals as goal

pub loop-init : goal.loop-init
loop-init c = (c.requires, λ e. e)

pub loop-preserved : goal.loop-preserved
loop-preserved c =
    let at = c.loop in
    (omega arith, λ e. equals_more c.args.b at.counter at.sum c.add_smaller-sum.result (passes _ c.well_formed.1.0.1) (at.invariant.1 e) c.add_smaller-sum.ensures)

pub returns : goal.returns
returns c =
    let at = c.loop in
    let all : at.counter ≡ c.args.m = omega arith in
    rw all at at.invariant.1
