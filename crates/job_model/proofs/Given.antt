-- Proves what a record gives whose lines were put into the lent buffer, and one that prints nothing (01, Job).
use Rattle.std.proofs.Common.{ℕ, List, [], ◌≡◌, refl, sym, arith}
use borrow.Author.Tests.{ne_eqb}
use Rattle.refusals.specs.declared.Refusal.{Refusal}
use Rattle.refusals.specs.Refusals.{number_of}
use Rattle.refusals.proofs.Numbers.{number-not_0}
use Rattle.job_lines.specs.Put.{PutWhole, written_nothing}
use Rattle.job_model.specs.declared.Job.{Job}
use Rattle.job_model.specs.Job.{RecordRun, Gives, refused_run, unless_refused}

pub gives_lines : (j : Job) (text before after : List ℕ) (n : ℕ) → PutWhole text before after n
    → Gives (record { job = j; text = text }) before after (record { job = j; length = n })
gives_lines j text before after n p = record { goes = refl; counts = p.ends; prints = p.stands; short = p.short }

pub gives_nothing : (j : Job) (buffer : List ℕ) → Gives (record { job = j; text = [] }) buffer buffer (record { job = j; length = 0 })
gives_nothing j buffer = record { goes = refl; counts = refl; prints = sym (written_nothing buffer); short = omega arith }

-- a call that a job stands on, by its number n: it refuses, or what follows is done
pub refused_job : (j : Job) (r : Refusal) (n : ℕ) (t : RecordRun) → number_of r ≡ n → unless_refused j n t ≡ refused_run j (number_of r)
refused_job j r n t e = rw (← e, ne_eqb (number_of r) 0 (number-not_0 r))

pub accepted_job : (j : Job) (n : ℕ) (t : RecordRun) → 0 ≡ n → unless_refused j n t ≡ t
accepted_job j n t e = rw (← e)
