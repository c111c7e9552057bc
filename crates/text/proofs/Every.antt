-- What holds of each byte of a text.
use mathlib.Core.List.{List, [], ◌++◌, ◌∷◌}
use Prim.Native.Nat.{ℕ}
use Rattle.text.specs.Ascii.{Every}

pub every_append : (P : ℕ → Type 0) (a b : List ℕ) → Every P a → Every P b → Every P (a ++ b)
every_append P [] b p q = q
every_append P (x ∷ a) b p q = (p.0, every_append P a b p.1 q)

pub every_map : {P Q : ℕ → Type 0} → ((b : ℕ) → P b → Q b) → (s : List ℕ) → Every P s → Every Q s
every_map f [] p = tt
every_map f (b ∷ s) p = (f b p.0, every_map f s p.1)
