-- Proves that the split of 01's refusal 8 changed nothing else of any step's answer (02, R-1).
use mathlib.Core.Path.{◌≡◌, refl}
use mathlib.Core.Logic.{inl, inr}
use Prim.Native.Nat.{ℕ}
use Rattle.refusals.specs.Refusals.{number_in}
use Rattle.tank_model.specs.declared.Step.{Step}
use Rattle.tank_model.specs.Run.{End, refused, done}
use Rattle.tank_model.specs.Work.{Outcome, Work}
use Rattle.tank_model.specs.Course.{number_of}
use Rattle.tank_model.specs.EightSplit.{OneOfThree, WorkSplit}
use Rattle.tank_model.proofs.Run.{RefusedOnly}
use Rattle.tank_model.proofs.Numbered.{IsNumber, work_numbered}
use Rattle.tank_model.proofs.EightSplit.{work_split}
use Rattle.storage_tank.specs.declared.StorageTank.{StorageTank}
use Rattle.storage_tank.specs.declared.Report.{Report}
use Rattle.storage_tank.specs.Tank.{fixed_in, state_in}
use Rattle.storage_tank.specs.Calls.{answer, stepped}
use Rattle.storage_tank.specs.EightSplit.{old_stepped, AnswerSplit}

module _ (t : StorageTank) (r : Report) where
  answer_number : (e : End Outcome) → RefusedOnly IsNumber e → number_in (answer t r e).outcome ≡ number_of e
  unfolding answer
  answer_number (refused n) k = k
  answer_number (done s) k = refl

  -- 8 is told by its number, and so is each of the three
  one_of_three : (n : ℕ) → OneOfThree n → IsNumber n
  one_of_three n (inl e) = rw e
  one_of_three n (inr (inl e)) = rw e
  one_of_three n (inr (inr e)) = rw e

  answer_split : (old new : Work) → RefusedOnly IsNumber new.end → WorkSplit old new → AnswerSplit (answer t r old.end) (answer t r new.end)
  answer_split old new k (inl s) =
      rw (s.0, s.1.2)
      (unfold answer in (record {
        number = record { eight = (λ e. rw (one_of_three s.1.0 s.1.1) s.1.1, λ x. refl); others = λ n. absurd (n refl) };
        tank = refl;
        report = refl;
      }))
  answer_split old new k (inr s) =
      let k' = rw s.0 at k in
      rw s.0
      (record {
        number = rw (answer_number old.end k') (record { eight = (λ e. absurd (s.1 (inl e)), λ x. absurd (s.1 x)); others = λ n. refl });
        tank = refl;
        report = refl;
      })

  pub eight_split : (a : Step) → AnswerSplit (old_stepped t r a) (stepped t r a)
  unfolding old_stepped stepped
  eight_split a = answer_split _ _ (work_numbered (fixed_in t) (state_in t) a) (work_split (fixed_in t) (state_in t) a)
