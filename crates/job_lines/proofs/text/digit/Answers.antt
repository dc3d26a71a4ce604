-- `text::digit` meets its contract (01, Job): the sixteen characters are the digits.
use Rattle.std.proofs.Common.{◌≡◌, refl, sym, ap, ◌∙◌, get_or, List, [], ◌∷◌, ℕ}
use Rattle.numeric.specs.Tabulate.{tabulate, at_tabulate}
use Rattle.job_lines.specs.Text.{digit_of}
use Rattle.job_lines.proofs.text.digit.Goals as goal

characters : tabulate digit_of 16 0 ≡ 48 ∷ 49 ∷ 50 ∷ 51 ∷ 52 ∷ 53 ∷ 54 ∷ 55 ∷ 56 ∷ 57 ∷ 97 ∷ 98 ∷ 99 ∷ 100 ∷ 101 ∷ 102 ∷ []
unfolding tabulate digit_of
characters = refl

pub returns : goal.returns
returns c = ap (λ (xs : List ℕ). get_or xs c.args.d 0) (sym characters) ∙ at_tabulate digit_of 16 c.args.d 0 c.requires
