-- A lent buffer.
use Rattle.std.specs.Prelude.{List, ◌++◌, ℕ, length, drop}

-- "Written bytes fill the front of the lent buffer; the rest stays."
abbrev pub fronted : List ℕ → List ℕ → List ℕ
fronted text out = text ++ drop (length text) out
