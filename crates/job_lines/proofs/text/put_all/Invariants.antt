-- `text::put_all` meets its contract. The loop's invariant: the texts of the first items are put.
use Rattle.std.proofs.Common.{◌+◌, ◌*◌, ◌≤◌, take}
use Rattle.job_lines.specs.Put.{Writes, texts}
use Rattle.job_lines.proofs.text.put_all.Given as goal

abbrev pub invariant-loop-x : goal.invariant-loop-x
invariant-loop-x g l = record {
  within : l.w.at ≤ l.initial.w.at + g.T.Put.most * l.x-index;
  writes : Writes l.initial.w (texts g.T.Put.text (take l.x-index l.items)) l.w;
}
