-- Proves what 01 says of empty input (01, Job), by computation of the definitions: it prints `E 11 0`.
use mathlib.Core.List.{[], ◌∷◌}
use mathlib.Core.Path.{◌≡◌, refl}
use Rattle.job_records.specs.Records.{content_at, read_record}
use Rattle.job_lines.specs.Text.{digit_of, digits, width_from, width_of, decimal}
use Rattle.job_lines.specs.Lines.{refusal_line}
use Rattle.job_model.specs.Job.{refused_run, end_run, run_of, run_record, run_from, run_all, job_text}

pub empty_prints : job_text [] ≡ 69 ∷ 32 ∷ 49 ∷ 49 ∷ 32 ∷ 48 ∷ 10 ∷ []
unfolding read_record content_at digit_of digits width_from width_of decimal refusal_line refused_run end_run run_of run_record run_from run_all
empty_prints = refl
