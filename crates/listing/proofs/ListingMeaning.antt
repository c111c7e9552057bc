-- The book's lines below x: the highest row below x and the lines below that one, or none where no row is below x.
use mathlib.Core.Bool.{Bool, false, true, true≢false}
use mathlib.Core.List.Memᴰ
use mathlib.Core.List.{List, Memᴰ, [], head_d, ◌∷◌}
use mathlib.Core.Path.{ap, sym, ◌∙◌, ◌≡◌}
use Prim.Native.Nat.{ℕ}
use Rattle.density.proofs.Members.{necklaces_falling}
use Rattle.density.proofs.RowsBelow.{next_rest}
use Rattle.density.specs.Necklaces.{necklaces, necklaces_below}
use Rattle.listing.specs.Listing.{Listing, counted, entry, lines_below, lines_from, none, over, price, ring}
use Rattle.words.proofs.Booleans.{clash, never}
use Rattle.words.proofs.Falling.{first_highest, highest_first, keep-none}
use Rattle.words.proofs.Lists.{→keep}
use Rattle.words.specs.Falling.{Highest}
use Rattle.words.specs.Order.{lt}

pub next_line : (n d : ℕ) (x r : List ℕ) (rs : List (List ℕ)) → necklaces_below n d x ≡ r ∷ rs → (f : Bool) → lines_from f x (necklaces_below n d x) ≡ entry (ring r) (price f x r) (lines_from true r (necklaces_below n d r))
unfolding lines_from
next_line n d x r rs first f = rw (first, next_rest n d x r rs first)

none≢line : {p q : ℕ} {r : List ℕ} {a b : Listing} → entry none p a ≡ entry (ring r) q b → ⊥
none≢line e = clash (cc)

same_line : {p q : ℕ} {r s : List ℕ} {a b : Listing} → entry (ring r) p a ≡ entry (ring s) q b → r ≡ s
same_line e = cc

module _ (f : Bool) (n d : ℕ) (x : List ℕ) where
  -- the first of the rows below x
  pub line_highest : (r : List ℕ) (l : List (List ℕ)) → necklaces_below n d x ≡ l → lines_from f x l ≡ entry (ring r) (price f x r) (lines_below true n d r) → Highest (λ v. lt v x) (necklaces n d) r
  unfolding lines_from necklaces_below
  line_highest r [] q e = absurd (none≢line e)
  line_highest r (s ∷ rs) q e = first_highest (λ v. lt v x) (necklaces_falling n d) r rs (q ∙ ap {B = List (List ℕ)} (λ t. t ∷ rs) (same_line e))

  pub highest_line : (r : List ℕ) → Highest (λ v. lt v x) (necklaces n d) r → (l : List (List ℕ)) → necklaces_below n d x ≡ l → lines_below f n d x ≡ entry (ring r) (price f x r) (lines_below true n d r)
  unfolding necklaces_below head_d
  highest_line r h [] q = absurd (Memᴰ.not-nil (rw q at (→keep (λ v. lt v x) r (necklaces n d) h.member h.passes)))
  highest_line r h (s ∷ rs) q =
      let e : s ≡ r = rw q at (highest_first (λ v. lt v x) (necklaces_falling n d) r h) in
      next_line n d x r rs (q ∙ ap {B = List (List ℕ)} (λ t. t ∷ rs) e) f

  -- nothing is below x
  pub none_below : (l : List (List ℕ)) → necklaces_below n d x ≡ l → lines_from f x l ≡ entry none (counted f x) over → (v : List ℕ) → Memᴰ v (necklaces n d) → lt v x ≡ false
  unfolding lines_from necklaces_below
  none_below [] q e v m = never (lt v x) (λ t. Memᴰ.not-nil (rw q at (→keep (λ v. lt v x) v (necklaces n d) m t)))
  none_below (s ∷ rs) q e v m = absurd (none≢line (sym e))

  pub below_none : ((v : List ℕ) → Memᴰ v (necklaces n d) → lt v x ≡ false) → lines_below f n d x ≡ entry none (counted f x) over
  unfolding lines_from necklaces_below
  below_none h = rw (keep-none (λ v. lt v x) (necklaces n d) (λ v m t. true≢false (sym t ∙ h v m)))
