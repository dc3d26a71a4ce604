-- States how the code holds a draw (01, Draw): what the layers still hold in a lent array, the numbers beside it in a small struct.
use Rattle.std.specs.Prelude.{List, Float}
use Rattle.draw_off.specs.declared.draw.Drawn.{Drawn}
use Rattle.draw_off.specs.Draw.{Draw}

abbrev pub draw_of : List Float → Drawn → Draw
draw_of held d = record { held = held; rest = d.rest; energy = d.energy; weighted = d.weighted; drawn = d.drawn }
