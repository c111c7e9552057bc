-- The refusals of the question, in their order.
use mathlib.Core.Bool.{false, true}
use mathlib.Core.List.{List}
use mathlib.Core.Path.{◌≡◌}
use Prim.Native.Nat.{ℕ, ◌<◌, ◌≤◌}
use lib.ListN.{length}
use borrow.Author.Tests.{eq-eqb, le-leb, lt-leb, ne_eqb}
use Rattle.prefix.specs.Question.{question_verdict}
use Rattle.refusal.specs.Verdicts.{accepted, are_stations, refused}
use Rattle.refusal.specs.declared.Refusal.TheVariants.{Holes, Prefix, Stations, Symbol}
use Rattle.words.specs.Symbols.{first_wrong}

module _ (n d : ℕ) (p : List ℕ) where
  pub ask_stations : are_stations n ≡ false → question_verdict n d p ≡ refused Stations
  unfolding question_verdict
  ask_stations a = rw a

  pub ask_holes : are_stations n ≡ true → n < d → question_verdict n d p ≡ refused Holes
  unfolding question_verdict
  ask_holes a h = rw (a, lt-leb _ _ h)

  pub ask_prefix : are_stations n ≡ true → d ≤ n → n < length p → question_verdict n d p ≡ refused Prefix
  unfolding question_verdict
  ask_prefix a h l = rw (a, le-leb _ _ h, lt-leb _ _ l)

  pub ask_symbol : are_stations n ≡ true → d ≤ n → length p ≤ n → (first_wrong 2 p ≡ 0 → ⊥) → question_verdict n d p ≡ refused (Symbol (first_wrong 2 p))
  unfolding question_verdict
  ask_symbol a h l s = rw (a, le-leb _ _ h, le-leb _ _ l, ne_eqb _ _ s)

  pub ask_accepted : are_stations n ≡ true → d ≤ n → length p ≤ n → first_wrong 2 p ≡ 0 → question_verdict n d p ≡ accepted
  unfolding question_verdict
  ask_accepted a h l s = rw (a, le-leb _ _ h, le-leb _ _ l, eq-eqb _ _ s)
