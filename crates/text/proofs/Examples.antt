-- Texts and numbers as their bytes.
use mathlib.Core.List.{[], ◌∷◌}
use mathlib.Core.Path.{refl, ◌≡◌}
use Rattle.text.specs.Ascii.{ascii}
use Rattle.text.specs.Decimals.{decimal, decimal_by}

pub bytes_of_text : ascii "09 aZ\n" ≡ 48 ∷ 57 ∷ 32 ∷ 97 ∷ 90 ∷ 10 ∷ []
unfolding ascii
bytes_of_text = refl

pub digits_of_zero : decimal 0 ≡ ascii "0"
unfolding ascii decimal decimal_by
digits_of_zero = refl

pub digits_of_many : decimal 1907 ≡ ascii "1907"
unfolding ascii decimal decimal_by
digits_of_many = refl
