-- The test of a record, as plain facts.
use mathlib.Core.Bool.{true, ◌&&◌}
use mathlib.Core.Path.{refl, ◌≡◌}
use Prim.Native.Nat.{◌-◌}
use native.Mathlib.Omega.{arith}
use lib.Dec.{leb}
use lib.ListN.{take}
use lib.Seq.{length-take-le}
use borrow.Author.Tests.{le-leb, leb-true}
use Rattle.density.proofs.Binary.{binary_test, test_binary}
use Rattle.density.proofs.KindTests.{kinds_known, known_kind}
use Rattle.density.proofs.Members.{member_test, member→, test_member, →member}
use Rattle.density.proofs.PaddedRows.{facts_padded, padded_facts, padded→, →padded}
use Rattle.density.specs.Necklaces.{begins, is_necklace_of, of_kind}
use Rattle.walk.proofs.Invariant.{Fit, fit_at_lem, fit_sound, sound_fit}
use Rattle.walk.specs.Claims.{FitMeans}
use Rattle.walk.specs.InnerCourse.{Sound}
use Rattle.walk.specs.Fit.{FitAt, FitRecord, fit, fit_at}
use Rattle.walk.specs.Moves.{row_of, rules}
use Rattle.walk.specs.declared.Standing.{Standing}
use Rattle.walk.specs.declared.Standing.TheVariants.{Down, Ended, Given, Limit, Up}
use Rattle.walk.specs.declared.Walk.{Walk}
use Rattle.words.proofs.Booleans.{and→, →and}
use Rattle.words.proofs.HighestSymbol.{up_to→, →up_to}
use Rattle.words.specs.Symbols.{all_up_to}

module _ (w : Walk) (s : Sound rules w) where
  -- the standing, both ways
  at→ : (p : Standing) → fit_at rules p w ≡ true → FitAt p w
  unfolding fit_at
  at→ Limit e = tt
  at→ (Down p) e = let h = and→ (leb 1 p) (leb p w.n) e in (leb-true _ _ h.0, leb-true _ _ h.1)
  at→ (Up p) e =
      let h = and→ (leb 2 p) (leb p w.n && begins w.n w.d (take (p - 1) w.row)) e in
      let k = and→ (leb p w.n) (begins w.n w.d (take (p - 1) w.row)) h.1 in
      (leb-true _ _ h.0, leb-true _ _ k.0, k.1)
  at→ Given e =
      let h = and→ (is_necklace_of w.d (row_of w)) (of_kind w.kind (row_of w)) e in
      (→member (test_member (length-take-le w.n w.row (omega (arith, s.most, s.long))) s.binary h.0), h.1)
  at→ Ended e = let h = and→ (all_up_to 0 w.row) (all_up_to 0 w.kept) e in (λ i. omega (arith, up_to→ 0 w.row h.0 i), λ i. omega (arith, up_to→ 0 w.kept h.1 i))

  →at : (p : Standing) → FitAt p w → fit_at rules p w ≡ true
  unfolding fit_at
  →at Limit h = refl
  →at (Down p) h = →and (le-leb _ _ h.0) (le-leb _ _ h.1)
  →at (Up p) h = →and (le-leb _ _ h.0) (→and (le-leb _ _ h.1) h.2)
  →at Given h = →and (member_test (member→ w.n w.d (row_of w) h.0)) h.1
  →at Ended h = →and (→up_to 0 w.row (λ i. omega (arith, h.0 i))) (→up_to 0 w.kept (λ i. omega (arith, h.1 i)))

pub fit_means : FitMeans
fit_means w long = (facts, passes)
  where
    facts : fit rules w ≡ true → FitRecord w
    facts e =
        let f : Fit rules w = record { test = e; long = long } in
        let s = fit_sound f in
        record {
          some = s.some;
          most = s.most;
          holes = s.dense;
          kinds = kinds_known w.kind s.kinds;
          rows = padded_facts w.n w.row (→padded w.n w.row (binary_test s.binary) s.clean);
          keeps = padded_facts w.n w.kept s.keeps;
          place = at→ w s w.at (fit_at_lem f);
        }

    passes : FitRecord w → fit rules w ≡ true
    passes r =
        let p = padded→ w.n w.row (facts_padded w.n w.row r.rows) in
        let s : Sound rules w = record {
          some = r.some;
          most = r.most;
          dense = r.holes;
          kinds = known_kind w.kind r.kinds;
          long = long;
          binary = test_binary 1 (row_of w) (omega arith) p.0;
          clean = p.1;
          keeps = facts_padded w.n w.kept r.keeps;
        } in
        (sound_fit s (→at w s w.at r.place)).test
