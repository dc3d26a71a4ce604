-- `layers::calc_temps_after_extraction` meets its contract (01, Refill). The invariants: filling the layers left gives the whole refill, they still have the
-- temperatures from before the event, and the volumes kept are those of the next layer; taking from the donors left gives what all of them give.
use Prim.Native.Nat.{◌-◌}
use Rattle.std.specs.Prelude.{IfSome}
use Rattle.numeric.specs.Descent.{Descent}
use Rattle.layer_filling.specs.Filling.{take_from}
use Rattle.layer_filling.specs.Lent.{filling_with}
use Rattle.refill.specs.Lent.{refill_of}
use Rattle.repeating_layers.specs.Repeats.{RepeatsAt}
use Rattle.refill.proofs.Descents.{lack_none}
use Rattle.refill.proofs.Refilling.{RefillLeft}
use Rattle.refill.proofs.layers.calc_temps_after_extraction.Given as goal

abbrev pub invariant-donors : goal.invariant-donors
invariant-donors l = Descent lack_none (take_from l.temps) l.initial.j (filling_with l.initial.held l.initial.f) l.j (filling_with l.held l.f)

abbrev pub invariant-filling : goal.invariant-filling
invariant-filling l = RefillLeft l.tank.vol l.feed l.initial.temps l.initial.i (refill_of l.initial.held l.initial.temps l.initial.mixes) l.i l.held l.temps l.mixes × IfSome l.kept (RepeatsAt l.tank.vol l.held (l.i - 1))
