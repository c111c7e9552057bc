-- Bytes as one number. Not of document 02: what the functions under the comparison compute.
use Rattle.std.specs.Prelude.{ℕ, zero, suc, ◌+◌, ◌*◌}

-- n bytes as one number, the first the highest
abbrev pub high_first : ℕ → (ℕ → ℕ) → ℕ
high_first zero byte = 0
high_first (suc n) byte = high_first n byte * 256 + byte n
