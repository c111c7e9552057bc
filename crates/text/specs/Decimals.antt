-- Numbers as they are written: their decimal digits.
use Rattle.std.specs.Prelude.{cond, List, [], ◌∷◌, ◌++◌, ℕ, zero, suc, ◌+◌, ◌/◌, ◌%◌, ltb}
use Rattle.text.specs.Parts.{zero_digit}

-- the decimal digits of n, by at most f divisions by 10
unfoldable pub decimal_by : ℕ → ℕ → List ℕ
decimal_by zero n = (zero_digit + n) ∷ []
decimal_by (suc f) n =
    let tens = decimal_by f (n / 10) ++ ((zero_digit + n % 10) ∷ []) in
    cond (ltb n 10) ((zero_digit + n) ∷ []) tens

-- the decimal digits of n: no leading zero, and 0 is one digit
unfoldable pub decimal : ℕ → List ℕ
decimal n = decimal_by n n

-- a number and the byte behind it
unfoldable pub field : ℕ → ℕ → List ℕ
field n end = decimal n ++ (end ∷ [])
