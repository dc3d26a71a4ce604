-- States a loop that copies the first places of one list over another's, and proves the laws that such loops cite.
use Rattle.std.specs.Prelude.{ℕ, ◌+◌, ◌<◌, ◌≡◌, List, ◌++◌, length, get_or, set, take, drop}
use Rattle.std.proofs.Common.{add-one, zero-add}
use Rattle.std.proofs.Math.Seq.{paste-suc}

module _ {A : Type 0} where
  -- `target`, with its first k places from `source`
  abbrev pub copied : ℕ → List A → List A → List A
  copied k source target = take k source ++ drop k target

  pub copied_next : (d : A) (k : ℕ) (source target : List A) → k < length source → k < length target
      → set (copied k source target) k (get_or source k d) ≡ copied (k + 1) source target
  copied_next d k source target s t = rw add-one (simp zero-add at (paste-suc target 0 source k d (rw zero-add t) s))
