-- `round::start_group` meets its contract (01, Mix): the two sums have one term each.
use mathlib.Core.Path.{refl, sym, subst}
use lib.Dec.{T}
use lib.Ieee.{Float}
use lib.Ieee.Bits.{is_true}
use lib.Ieee.Scale.{finite}
use denote.Floats.{passes}
use Rattle.numeric.proofs.Finite.{product_parts_finite}
use Rattle.numeric.proofs.Members.{fits_times_one}
use Rattle.running_group.proofs.round.start_group.Goals as goal

pub returns : goal.returns
returns c =
    let v = c.args.v in
    let fits = passes _ c.well_formed.1.1.0.1 in
    record {
      bottom_is = refl;
      temp_is = refl;
      each_is = refl;
      below_is = refl;
      sorted_is = refl;
      met_is = refl;
      temp_fits = passes _ c.well_formed.1.0.1;
      volume_fits = fits;
      heat_is = λ f. c.one_term.ensures (is_true _ f);
      volume_is = λ f. c.one_term-2.ensures (is_true _ (subst (λ (z : Float). T (finite z)) (sym (fits_times_one v fits)) (product_parts_finite v c.args.temp f).0));
    }
