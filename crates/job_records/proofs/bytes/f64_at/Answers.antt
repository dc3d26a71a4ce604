-- `bytes::f64_at` meets its contract (01, Job): the double of the bit pattern.
use mathlib.Core.Path.{◌∙◌, ap}
use lib.Ieee.{of_bits, binary64}
use Rattle.job_records.specs.Bytes.{double_at}
use Rattle.job_records.proofs.bytes.f64_at.Goals as goal

pub returns : goal.returns
unfolding double_at
returns c = c.f64_from_bits_with_nan.ensures ∙ ap (of_bits binary64) c.u64_at.ensures
