-- `fields::fill_from` meets its contract (01, Job). The loop's invariant: the first k places are filled.
use Rattle.std.proofs.Common.{◌≡◌, ◌∙◌, refl, length, arith}
use Rattle.std.proofs.lemmas.List.{append-nil}
use lib.ListN.{drop_of_length-le}
use Rattle.numeric.specs.Tabulate.{tabulate}
use Rattle.job_records.proofs.Filling.{filled_next}
use Rattle.record_bodies.proofs.fields.fill_from.Goals as goal

pub loop-k-init : goal.loop-k-init
unfolding tabulate
loop-k-init g c = λ at says. refl

pub loop-k-preserved : goal.loop-k-preserved
loop-k-preserved g c =
    λ at says.
    let l = c.loop-k-test.true in
    rw (c.loop-k.invariant at says, says c.loop-k.k c.args.s c.read.result l refl c.read.ensures) (filled_next at c.read.result c.loop-k.k c.args.places.now l)

pub returns : goal.returns
returns g c =
    λ at says.
    let n = length c.args.places.now in
    let e : c.loop-k.k ≡ n = omega arith in
    (rw e at (c.loop-k.invariant at says)) ∙ rw (drop_of_length-le c.args.places.now {i = n} (omega arith)) (append-nil (tabulate at n 0))
