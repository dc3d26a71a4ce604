-- States what a buffer holds after a text is put at a place of it, as far as it fits (01, Job: the lines), and that texts put one after the other are one text.
use Rattle.std.specs.Prelude.{ℕ, suc, ◌+◌, ◌≤◌, ◌≡◌, refl, List, [], ◌∷◌, ◌++◌, length, take, drop, set}
use Rattle.std.proofs.Common.{arith, add-zero, sym, ap, ◌∙◌, length-append, take_all, take_at}
use Rattle.std.proofs.lemmas.List.Edits.{sets}
use Rattle.std.proofs.Math.Seq.{length-sets, take-nil}
use Rattle.job_lines.specs.declared.text.Writer.{Writer}
use Rattle.job_lines.specs.Lengths.{max_text}

-- the text as far as it fits, from the first place on, and what the buffer held after it
abbrev pub written : List ℕ → List ℕ → List ℕ
written buffer text = take (length buffer) text ++ drop (length text) buffer

-- r is the length of a record's whole text, which is never long, and the buffer holds the text as far as it fits
pub record PutWhole (text before after : List ℕ) (r : ℕ) : Type 0 where
  pub ends : r ≡ length text
  pub stands : after ≡ written before text
  pub short : r ≤ max_text

-- the text stands in the buffer from a place on, and `next` is the place after it
pub record Put (before : List ℕ) (at : ℕ) (text after : List ℕ) (next : ℕ) : Type 0 where
  pub stands : after ≡ sets before at text
  pub ends : next ≡ at + length text

-- a text is put at a writer's place, which moves past it; the buffer stays the one that was lent
pub record Writes (x : Writer) (text : List ℕ) (y : Writer) : Type 0 where
  pub same : y.buf.ghost_name ≡ x.buf.ghost_name
  pub puts : Put x.buf.now x.at text y.buf.now y.at

-- the texts of several things, one after the other
unfoldable pub texts : {A : Type 0} → (A → List ℕ) → List A → List ℕ
texts text [] = []
texts text (x ∷ xs) = text x ++ texts text xs

pub sets_append : (b : List ℕ) (at : ℕ) (t u : List ℕ) → sets b at (t ++ u) ≡ sets (sets b at t) (at + length t) u
sets_append b at [] u = rw add-zero
sets_append b at (x ∷ t) u =
    let e : at + suc (length t) ≡ suc at + length t = omega arith in
    rw e (sets_append (set b at x) (suc at) t u)

pub put_then : {b : List ℕ} {at : ℕ} {t c : List ℕ} {i : ℕ} {u d : List ℕ} {j : ℕ} → Put b at t c i → Put c i u d j → Put b at (t ++ u) d j
put_then {b} {at} {t} {c} {i} {u} {d} {j} p q = record {
  stands = q.stands ∙ rw (p.stands, p.ends) (sym (sets_append b at t u));
  ends = rw (length-append t u) (let e = q.ends in let f = p.ends in omega arith);
}

pub put_nothing : (b : List ℕ) (at : ℕ) → Put b at [] b at
put_nothing b at = record { stands = refl; ends = omega arith }

pub put_length : {b : List ℕ} {at : ℕ} {t c : List ℕ} {i : ℕ} → Put b at t c i → length c ≡ length b
put_length {b} {at} {t} p = ap length p.stands ∙ length-sets b at t

pub writes_then : {x y z : Writer} {t u : List ℕ} → Writes x t y → Writes y u z → Writes x (t ++ u) z
writes_then p q = record { same = q.same ∙ p.same; puts = put_then p.puts q.puts }

pub writes_nothing : (x : Writer) → Writes x [] x
writes_nothing x = record { same = refl; puts = put_nothing x.buf.now x.at }

sets_behind : (x : ℕ) (b : List ℕ) (i : ℕ) (t : List ℕ) → sets (x ∷ b) (suc i) t ≡ x ∷ sets b i t
sets_behind x b i [] = refl
sets_behind x b i (a ∷ t) = sets_behind x (set b i a) (suc i) t

sets_none : (i : ℕ) (t : List ℕ) → ◌≡◌ {A = List ℕ} (sets [] i t) []
sets_none i [] = refl
sets_none i (a ∷ t) = sets_none (suc i) t

sets_written : (b t : List ℕ) → sets b 0 t ≡ written b t
sets_written [] [] = refl
sets_written [] (a ∷ t) = sets_none 1 t
sets_written (x ∷ b) [] = refl
sets_written (x ∷ b) (a ∷ t) = sets_behind a b 0 t ∙ ap (λ (l : List ℕ). a ∷ l) (sets_written b t)

-- a text put at the first place
pub put_whole : {b t c : List ℕ} {i : ℕ} → Put b 0 t c i → i ≤ max_text → PutWhole t b c i
put_whole {b} {t} p l = record { ends = let e = p.ends in omega arith; stands = p.stands ∙ sets_written b t; short = l }

pub written_nothing : (b : List ℕ) → written b [] ≡ b
written_nothing b = rw take-nil

-- a text that fits stands first
pub written_first : (b t : List ℕ) → length t ≤ length b → take (length t) (written b t) ≡ t
written_first b t l = rw (take_all (length b) t l) (take_at t (drop (length t) b) (length t) refl)
