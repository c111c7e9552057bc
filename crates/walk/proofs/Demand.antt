-- For every list of steps a fit walk answers as the book of what it stands for; a fresh walk stands for the drawer's book.
use mathlib.Core.Bool.{true}
use mathlib.Core.List.{List, [], ◌++◌, ◌∷◌}
use mathlib.Core.Path.{ap, refl, ◌∙◌, ◌≡◌}
use Prim.Native.Nat.{ℕ, ◌-◌, ◌≤◌}
use native.Mathlib.Omega.{arith}
use lib.ListN.{drop, length, length-append, length-replicate, take}
use lib.Seq.{drop_at, take_at}
use Rattle.density.proofs.DrawerVerdicts.{accepted→}
use Rattle.density.proofs.Binary.{Binary, binary_test}
use Rattle.density.proofs.PaddedRows.{→padded}
use Rattle.listing.specs.Listing.{listing, listing_answers}
use Rattle.listing.specs.Totals.{listing_left}
use Rattle.refusal.specs.Verdicts.{accepted}
use Rattle.walk.proofs.Invariant.{Fit, sound_fit}
use Rattle.walk.proofs.StepAgrees.{step_agrees}
use Rattle.walk.specs.InnerCourse.{Sound}
use Rattle.walk.specs.Fit.{fit_at}
use Rattle.walk.specs.Moves.{Rules, kept_of, rules}
use Rattle.walk.specs.Opening.{fresh, open_verdict}
use Rattle.walk.specs.Step.{handed, step_of, walk_answers}
use Rattle.walk.specs.ToCome.{lines_at, stands}
use Rattle.walk.specs.declared.Walk.{Walk}
use Rattle.words.proofs.HighestSymbol.{zeros_clean}
use Rattle.words.specs.Symbols.{all_up_to, zeros}

pub answers_agree : (R : Rules) (w : Walk) → Fit R w → (allowances : List ℕ) → walk_answers R w allowances ≡ listing_answers (stands R w) allowances
unfolding walk_answers listing_answers
answers_agree R w f [] = refl
answers_agree R w f (a ∷ more) =
    let s = step_agrees R w a f in
    rw (s.tells, answers_agree R (step_of R w a).walk s.fits more, s.left)

-- each record that it hands back is fit
pub stays_fit : (R : Rules) (w : Walk) → Fit R w → (allowances : List ℕ) → Fit R (handed R w allowances)
unfolding handed
stays_fit R w f [] = f
stays_fit R w f (a ∷ more) = stays_fit R (step_of R w a).walk (step_agrees R w a f).fits more

-- what the record then stands for is what the book has left
pub handed-stands : (R : Rules) (w : Walk) → Fit R w → (allowances : List ℕ) → stands R (handed R w allowances) ≡ listing_left (stands R w) allowances
unfolding handed listing_left
handed-stands R w f [] = refl
handed-stands R w f (a ∷ more) =
    let s = step_agrees R w a f in
    handed-stands R (step_of R w a).walk s.fits more ∙ ap (λ l. listing_left l more) s.left

-- any opening that meets no condition for the input
pub record Admitted (R : Rules) (n d kind : ℕ) (limit : List ℕ) : Type 0 where
  pub stations : 1 ≤ n
  pub most : n ≤ R.most
  pub dense : d ≤ n
  pub kinds : R.known kind ≡ true
  pub long : length limit ≡ n
  pub binary : Binary limit

module _ (R : Rules) (n d kind : ℕ) (limit : List ℕ) (o : Admitted R n d kind limit) where
  pub fresh_fit : Fit R (fresh R n d kind limit)
  unfolding fit_at
  fresh_fit = sound_fit sound refl
    where
      rest : List ℕ
      rest = zeros (R.most - n)

      binary : Binary (take n (limit ++ rest))
      binary = rw (take_at limit rest n o.long) o.binary

      clean : all_up_to 0 (drop n (limit ++ rest)) ≡ true
      clean = rw (drop_at limit rest n o.long) (zeros_clean 0 (R.most - n))

      sound : Sound R (fresh R n d kind limit)
      sound = record {
        some = o.stations;
        most = o.most;
        dense = o.dense;
        kinds = o.kinds;
        long = length-append limit rest ∙ rw (o.long, length-replicate) (omega (arith, o.most));
        binary = binary;
        clean = clean;
        keeps = →padded n (limit ++ rest) (binary_test binary) clean;
      }

  pub fresh_stands : stands R (fresh R n d kind limit) ≡ listing n d (R.of_kind kind) limit
  unfolding stands lines_at listing
  fresh_stands = rw (take_at limit (zeros (R.most - n)) n o.long)

  -- the limit is kept
  pub fresh_kept : kept_of (fresh R n d kind limit) ≡ limit
  fresh_kept = take_at limit (zeros (R.most - n)) n o.long

-- ---- what opening hands out, when it refuses nothing

pub accepted_opening : (n d kind : ℕ) (limit : List ℕ) → open_verdict n d kind limit ≡ accepted → Admitted rules n d kind limit
accepted_opening n d kind limit e =
    let p = accepted→ n d kind limit e in
    let i = p.drawer in
    record { stations = i.sized.some; most = i.sized.most; dense = i.dense; kinds = i.kinds; long = p.long; binary = p.binary }
