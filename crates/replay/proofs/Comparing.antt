-- Proves how the stored lines are held against a whole job, record after record (01, Job; Figures to hold it against).
use Rattle.std.proofs.Common.{◌≡◌, ◌≢◌, ℕ, ◌≤◌, true, false, eqb, List, ◌++◌, length, take, sym, refl, ap, ◌∙◌, arith}
use Rattle.job_lines.specs.Put.{written_first}
use Rattle.job_model.specs.declared.Job.{Job}
use Rattle.job_model.specs.declared.Printed.{Printed}
use Rattle.job_model.specs.Job.{RecordRun, Gives, start_job, record_run, job_text}
use Rattle.job_model.proofs.Moves.{record_moves}
use Rattle.job_model.proofs.Ends.{Within, start_within, record_within, record_before}
use Rattle.job_model.proofs.Rest.{rest_of, rest_start, rest_ended, rest_next}
use Rattle.replay.specs.Same.{same_text}
use Rattle.replay.proofs.Same.{same_after, same_differs, same_empty}

-- where the comparison stands: what is left of the stored lines, against what is left of the job, decides
pub record Comparing (bytes stored : List ℕ) (j : Job) (rest : List ℕ) : Type 0 where
  pub within : Within (length bytes) j
  pub first : j.before ≡ 0
  pub decides : same_text stored (job_text bytes) ≡ same_text rest (rest_of (record_run bytes) (length bytes) j).text

pub comparing_start : (bytes stored : List ℕ) → Comparing bytes stored start_job stored
comparing_start bytes stored = record {
  within = start_within (length bytes);
  first = refl;
  decides = ap (λ (t : RecordRun). same_text stored t.text) (sym (rest_start (record_run bytes) (length bytes)));
}

module _ (bytes stored : List ℕ) (j : Job) (rest : List ℕ) (c : Comparing bytes stored j rest) where
  abbrev text : List ℕ
  text = (record_run bytes j).text

  abbrev later : List ℕ
  later = (rest_of (record_run bytes) (length bytes) (record_run bytes j).job).text

  parted : j.ended ≡ false → same_text stored (job_text bytes) ≡ same_text rest (text ++ later)
  parted e = c.decides ∙ ap (λ (t : RecordRun). same_text rest t.text) (rest_next (record_run bytes) (length bytes) (λ i. record_moves i _ bytes) j c.within e)

  pub comparing_differs : j.ended ≡ false → ((after : List ℕ) → rest ≢ text ++ after) → same_text stored (job_text bytes) ≡ false
  comparing_differs e h = parted e ∙ same_differs rest text later h

  pub comparing_next : j.ended ≡ false → (after : List ℕ) → rest ≡ text ++ after → Comparing bytes stored (record_run bytes j).job after
  comparing_next e after h = record {
    within = record_within (record_run bytes) (length bytes) (λ i. record_moves i _ bytes) j c.within;
    first = record_before (record_run bytes) (length bytes) (λ i. record_moves i _ bytes) j c.within ∙ c.first;
    decides = parted e ∙ ap (λ (xs : List ℕ). same_text xs (text ++ later)) h ∙ same_after text after later;
  }

  pub comparing_end : j.ended ≡ true → same_text stored (job_text bytes) ≡ eqb (length rest) 0
  comparing_end e = c.decides ∙ ap (λ (t : RecordRun). same_text rest t.text) (rest_ended (record_run bytes) (length bytes) j e) ∙ same_empty rest

-- what the buffer holds first is the record's text, since it fits
pub record_first : {t : RecordRun} {before after : List ℕ} {p : Printed} → Gives t before after p → length after ≡ length before → p.length ≤ length after → take p.length after ≡ t.text
record_first {t} {before} {after} {p} g same room =
    let l : length t.text ≤ length before = omega arith in
    rw (g.counts, g.prints) (written_first before t.text l)
