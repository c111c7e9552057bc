-- What a printing that was started has to print is the program's text.
use mathlib.Core.Bool.{Bool, cond, false, true}
use mathlib.Core.List.{List, ◌++◌}
use mathlib.Core.Path.{ap, refl, sym, ◌∙◌, ◌≡◌}
use Prim.Native.Nat.{ℕ, ◌+◌, ◌≤◌}
use native.Mathlib.Omega.{arith}
use lib.Dec.{eqb, leb, ltb}
use lib.ListN.{length}
use borrow.Author.Tests.{le-leb, lt-ltb, ltb-false}
use Rattle.density.proofs.KindTests.{kinds_known}
use Rattle.density.specs.Necklaces.{is_kind, of_kind}
use Rattle.drawer_lines.specs.Lines.{header, refusal_text}
use Rattle.listing.proofs.Strikes.{Closed, last, line, listing_closed}
use Rattle.listing.specs.Listing.{Listing, listing}
use Rattle.listing.specs.Totals.{all_trials, rings_of}
use Rattle.printing.proofs.Numbers.{numbered, priced}
use Rattle.printing.specs.Left.{highest64, left, lines_left, rings_left}
use Rattle.printing.specs.InnerNextLine.{printing}
use Rattle.printing.specs.Text.{asked_text, lines_text, opened_text}
use Rattle.printing.specs.declared.Due.TheVariants.{Header}
use Rattle.refusal.proofs.Outcomes.{given_so, refused_so}
use Rattle.refusal.specs.Outcomes.{decide}
use Rattle.refusal.specs.Verdicts.{Verdict, accepted, are_stations, need, refused}
use Rattle.refusal.specs.declared.Refusal.{Refusal}
use Rattle.refusal.specs.declared.Refusal.TheVariants.{Holes, Kind, Limit as LimitLength, Stations, Symbol}
use Rattle.walk.proofs.Demand.{Admitted, accepted_opening, fresh_fit, fresh_stands}
use Rattle.walk.specs.Moves.{rules}
use Rattle.walk.specs.Opening.{fresh, open_verdict, open_walk}
use Rattle.std.specs.Prelude.{Err, Ok}
use Rattle.walk.specs.declared.Opened.{Opened}
use Rattle.words.proofs.Booleans.{never}
use Rattle.words.specs.Symbols.{first_wrong}

-- a book whose prices and numbers fit is printed to its end
lines_same : (k : ℕ) {l : Listing} → Closed l → all_trials l ≤ highest64 → k + length (rings_of l) ≤ highest64 → lines_left k l ≡ lines_text k l
unfolding lines_left lines_text rings_of all_trials
lines_same k (last {p = p}) h n = rw (le-leb p highest64 (omega arith))
lines_same k (line {r = r} {p = p} {l = l} c) h n =
    let f = lines_same (k + 1) c (omega arith) (omega arith) in
    rw (le-leb p highest64 (omega arith), lt-ltb k highest64 (omega arith), f)

-- an accepted opening
opened_lines : (n d kind : ℕ) (limit : List ℕ) → Admitted rules n d kind limit → rings_left 0 (fresh rules n d kind limit) ≡ lines_text 0 (listing n d (of_kind kind) limit)
unfolding rings_left
opened_lines n d kind limit o =
    let e = fresh_stands rules n d kind limit o in
    rw ((fresh_fit rules n d kind limit o).test, e) (lines_same 0 (listing_closed n d (of_kind kind) limit) (priced n d kind limit o) (omega (arith, numbered n d kind limit o)))

-- ---- a kind that no byte holds is refused as any other that is none

big_kind : (kind : ℕ) → 256 ≤ kind → is_kind kind ≡ false
big_kind kind h = never (is_kind kind) (λ e. omega (arith, (kinds_known kind e).1))

module _ (n d kind : ℕ) (limit : List ℕ) where
  no_kind : (b c : Bool) (v : Verdict) → opened_text (need b Stations (need c Holes (need false Kind v))) n d 0 limit ≡ opened_text (need b Stations (need c Holes (need false Kind v))) n d kind limit
  no_kind false c v = refl
  no_kind true false v = refl
  no_kind true true v = refl

  big_text : is_kind kind ≡ false → asked_text n d 0 limit ≡ asked_text n d kind limit
  unfolding open_verdict is_kind
  big_text f = rw f (no_kind (are_stations n) (leb d n) (need (eqb (length limit) n) LimitLength (need (eqb (first_wrong 2 limit) 0) (Symbol (first_wrong 2 limit)) accepted)))

  pub byte_text : asked_text n d (cond (ltb kind 256) kind 0) limit ≡ asked_text n d kind limit
  byte_text = go (ltb kind 256) refl
    where
      go : (b : Bool) → ltb kind 256 ≡ b → asked_text n d (cond b kind 0) limit ≡ asked_text n d kind limit
      go true e = refl
      go false e = big_text (big_kind kind (ltb-false kind 256 e))

-- ---- what opening hands out

module _ (n d kind : ℕ) (limit : List ℕ) (o : Opened) (e : o.answer ≡ decide (open_verdict n d kind limit) tt) (w : o.walk ≡ open_walk (open_verdict n d kind limit) rules n d kind limit) where
  pub opened_left : o.answer ≡ Ok tt → left (printing o.walk 0 Header) ≡ asked_text n d kind limit
  unfolding left
  opened_left a =
      let f : open_verdict n d kind limit ≡ accepted = given_so _ tt tt (sym e ∙ a) in
      rw (w, f) (ap {B = List ℕ} (λ t. header ++ t) (opened_lines n d kind limit (accepted_opening n d kind limit f)))

  pub refused_left : (r : Refusal) → o.answer ≡ Err r → refusal_text r ≡ asked_text n d kind limit
  refused_left r a =
      let f : open_verdict n d kind limit ≡ refused r = refused_so _ tt r (sym e ∙ a) in
      rw f
