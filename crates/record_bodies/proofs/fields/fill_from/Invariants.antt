-- `fields::fill_from` meets its contract (01, Job). The loop's invariant: the first k places are filled.
use Rattle.std.proofs.Common.{◌≡◌, ℕ, ◌+◌, ◌*◌, ◌<◌, length, List, Bor}
use Rattle.job_records.specs.Fields.{filled}
use Rattle.record_bodies.proofs.fields.fill_from.Given as goal

abbrev pub invariant-loop-k : goal.invariant-loop-k
invariant-loop-k g l =
    (at : ℕ → g.row.T.Denot) → ((k : ℕ) (b : Bor (List ℕ)) (x : g.row.T.Denot) → k < length l.initial.places → b.now ≡ l.s → g.R.Fn.post l.read (b, (l.at + l.stride * k, tt)) x → x ≡ at k)
    → l.places ≡ filled at l.k l.initial.places
