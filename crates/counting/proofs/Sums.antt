-- Laws of sums over lists.
use mathlib.Core.Bool.{Bool, cond, false, true}
use mathlib.Core.List.Memᴰ
use mathlib.Core.List.{List, Memᴰ, [], map, ◌++◌, ◌∷◌}
use mathlib.Core.Logic.{inl, inr, ◌⊎◌}
use mathlib.Core.Path.{ap, refl, sym, ◌∙◌, ◌≡◌}
use Prim.Native.Nat.{suc, zero, ℕ, ◌*◌, ◌+◌, ◌<◌, ◌≤◌}
use native.Mathlib.Nat.{eq-or-lt_of_le, mul-add, mul-zero}
use native.Mathlib.Numerals.{add-one}
use native.Mathlib.Omega.{arith}
use lib.ListN.{length}
use Rattle.counting.specs.InnerSums.{flag, total, upto}
use Rattle.words.proofs.Below.{≺_irrefl}
use Rattle.words.proofs.Booleans.{never, same_test}
use Rattle.words.proofs.Falling.{falls_below}
use Rattle.words.proofs.OrderTests.{same→, →same}
use Rattle.words.specs.Falling.{Falling, falls_from, falls_none}
use Rattle.words.specs.Order.{same}
use Rattle.words.specs.Tests.{keep}

module _ {A : Type 0} where
  pub total-append : (f : A → ℕ) (a b : List A) → total f (a ++ b) ≡ total f a + total f b
  unfolding total
  total-append f [] b = omega arith
  total-append f (x ∷ a) b = omega (arith, total-append f a b)

  -- equal on the members, equal in sum
  pub total_on : (f g : A → ℕ) (l : List A) → ((x : A) → Memᴰ x l → f x ≡ g x) → total f l ≡ total g l
  unfolding total
  total_on f g [] h = refl
  total_on f g (x ∷ l) h = omega (arith, h x (Memᴰ.head refl), total_on f g l (λ y m. h y (Memᴰ.tail m)))

  pub total_same : (f g : A → ℕ) (l : List A) → ((x : A) → f x ≡ g x) → total f l ≡ total g l
  total_same f g l h = total_on f g l (λ x m. h x)

  pub total-le : (f g : A → ℕ) (l : List A) → ((x : A) → Memᴰ x l → f x ≤ g x) → total f l ≤ total g l
  unfolding total
  total-le f g [] h = omega arith
  total-le f g (x ∷ l) h = omega (arith, h x (Memᴰ.head refl), total-le f g l (λ y m. h y (Memᴰ.tail m)))

  pub total_zero : (f : A → ℕ) (l : List A) → ((x : A) → Memᴰ x l → f x ≡ 0) → total f l ≡ 0
  unfolding total
  total_zero f [] h = refl
  total_zero f (x ∷ l) h = omega (arith, h x (Memᴰ.head refl), total_zero f l (λ y m. h y (Memᴰ.tail m)))

  pub total-add : (f g : A → ℕ) (l : List A) → total (λ x. f x + g x) l ≡ total f l + total g l
  unfolding total
  total-add f g [] = refl
  total-add f g (x ∷ l) = omega (arith, total-add f g l)

  pub total_scale : (c : ℕ) (f : A → ℕ) (l : List A) → total (λ x. c * f x) l ≡ c * total f l
  unfolding total
  total_scale c f [] = sym (mul-zero c)
  total_scale c f (x ∷ l) = ap (λ t. c * f x + t) (total_scale c f l) ∙ sym (mul-add c (f x) (total f l))

  pub total-ones : (l : List A) → total (λ x. 1) l ≡ length l
  unfolding total
  total-ones [] = refl
  total-ones (x ∷ l) = omega (arith, total-ones l)

module _ {A B : Type 0} where
  pub total-map : (f : B → ℕ) (g : A → B) (l : List A) → total f (map g l) ≡ total (λ x. f (g x)) l
  unfolding total
  total-map f g [] = refl
  total-map f g (x ∷ l) = ap (λ t. f (g x) + t) (total-map f g l)

  -- the order of two sums
  pub total_swap : (f : A → B → ℕ) (l : List A) (m : List B) → total (λ x. total (f x) m) l ≡ total (λ y. total (λ x. f x y) l) m
  unfolding total
  total_swap f [] m = sym (total_zero (λ y. 0) m (λ y k. refl))
  total_swap f (x ∷ l) m = ap (λ t. total (f x) m + t) (total_swap f l m) ∙ sym (total-add (f x) (λ y. total (λ z. f z y) l) m)

-- the length of a filtered list, and a sum over it
pub length-keep : (p : List ℕ → Bool) (l : List (List ℕ)) → length (keep p l) ≡ total (λ x. flag (p x)) l
unfolding keep total
length-keep p [] = refl
length-keep p (x ∷ l) = go (p x) (length-keep p l)
  where
    go : (b : Bool) → length (keep p l) ≡ total (λ x. flag (p x)) l → length (cond b (x ∷ keep p l) (keep p l)) ≡ flag b + total (λ x. flag (p x)) l
    go true h = omega arith
    go false h = omega arith

pub total-keep : (f : List ℕ → ℕ) (p : List ℕ → Bool) (l : List (List ℕ)) → total f (keep p l) ≡ total (λ x. flag (p x) * f x) l
unfolding keep total
total-keep f p [] = refl
total-keep f p (x ∷ l) = go (p x) (total-keep f p l)
  where
    go : (b : Bool) → total f (keep p l) ≡ total (λ x. flag (p x) * f x) l → total f (cond b (x ∷ keep p l) (keep p l)) ≡ flag b * f x + total (λ x. flag (p x) * f x) l
    go true h = omega arith
    go false h = omega arith

pub length-upto : (n : ℕ) → length (upto n) ≡ n
unfolding upto
length-upto zero = refl
length-upto (suc n) = ap suc (length-upto n)

-- ---- a row among rows that are all different

-- 1 where two rows are the same, and 0 elsewhere
unfoldable pub delta : List ℕ → List ℕ → ℕ
delta a b = flag (same a b)

pub delta_same : (a : List ℕ) → delta a a ≡ 1
unfolding delta
delta_same a = ap flag (→same a a refl)

pub delta_differ : (a b : List ℕ) → (a ≡ b → ⊥) → delta a b ≡ 0
unfolding delta
delta_differ a b n = ap flag (never (same a b) (λ e. n (same→ a b e)))

-- two pairs of rows, one the same exactly where the other is
pub delta_iff : (a b c d : List ℕ) → (a ≡ b → c ≡ d) → (c ≡ d → a ≡ b) → delta a b ≡ delta c d
unfolding delta
delta_iff a b c d f g = ap flag (same_test (same a b) (same c d) (λ e. →same c d (f (same→ a b e))) (λ e. →same a b (g (same→ c d e))))

pub delta_comm : (a b : List ℕ) → delta a b ≡ delta b a
delta_comm a b = delta_iff a b b a sym sym

-- f at the one row that is y
pub once : (f : List ℕ → ℕ) (y : List ℕ) {l : List (List ℕ)} → Falling l → Memᴰ y l → total (λ x. f x * delta x y) l ≡ f y
unfolding total
once f y falls_none m = elim m [ ]
once f y (falls_from {w = w} {l = l} h g) (Memᴰ.head e) =
    let rest : total (λ x. f x * delta x y) l ≡ 0 = total_zero (λ x. f x * delta x y) l (λ x m. rw (delta_differ x y (λ q. ≺_irrefl (rw (← e, ← q) at (falls_below (falls_from h g) x m)))) (mul-zero (f x))) in
    rw (rest, ← e, delta_same y) (omega arith)
once f y (falls_from {w = w} {l = l} h g) (Memᴰ.tail m) =
    let first : delta w y ≡ 0 = delta_differ w y (λ q. ≺_irrefl (rw q at (falls_below (falls_from h g) y m))) in
    rw (first, once f y g m) (omega arith)

pub one_row : (y : List ℕ) {l : List (List ℕ)} → Falling l → Memᴰ y l → total (λ x. delta y x) l ≡ 1
one_row y {l} g m = total_same (λ x. delta y x) (λ x. 1 * delta x y) l (λ x. omega (arith, delta_comm y x)) ∙ once (λ x. 1) y g m

-- ---- one index of those below p

pub below_upto : (p j : ℕ) → Memᴰ j (upto p) → j < p
unfolding upto
below_upto zero j m = absurd (Memᴰ.not-nil m)
below_upto (suc p) j m = go (below_upto p j) (Memᴰ.cases_cons m)
  where
    go : (Memᴰ j (upto p) → j < p) → (j ≡ p) ⊎ Memᴰ j (upto p) → j < suc p
    go ih (inl e) = omega arith
    go ih (inr k) = omega (arith, ih k)

pub one_index : (f : ℕ → ℕ) (p k : ℕ) → k < p → f k ≡ 1 → ((j : ℕ) → j < p → (j ≡ k → ⊥) → f j ≡ 0) → total f (upto p) ≡ 1
unfolding total upto
one_index f zero k l e h = absurd (omega arith)
one_index f (suc p) k l e h = go (one_index f p k) (eq-or-lt_of_le l)
  where
    go : (k < p → f k ≡ 1 → ((j : ℕ) → j < p → (j ≡ k → ⊥) → f j ≡ 0) → total f (upto p) ≡ 1) → (suc k ≡ suc p) ⊎ (suc k < suc p) → f p + total f (upto p) ≡ 1
    go ih (inl q) =
        let at-k : p ≡ k = omega arith in
        let rest : total f (upto p) ≡ 0 = total_zero f (upto p) (λ j m. h j (omega (arith, below_upto p j m)) (λ r. omega (arith, below_upto p j m))) in
        rw (rest, at-k, e)
    go ih (inr q) = rw (h p (omega arith) (λ r. omega arith), ih (omega arith) e (λ j a b. h j (omega arith) b))

-- the sum from 0, the first term apart
pub upto_first : (f : ℕ → ℕ) (m : ℕ) → total f (upto (suc m)) ≡ f 0 + total (λ k. f (suc k)) (upto m)
unfolding total upto
upto_first f zero = refl
upto_first f (suc m) = omega (arith, upto_first f m)

-- the last term apart, and a sum of fewer terms
pub upto_next : (f : ℕ → ℕ) (i : ℕ) → total f (upto (i + 1)) ≡ f i + total f (upto i)
unfolding total upto
upto_next f i = rw (add-one i)

pub upto_le : (f : ℕ → ℕ) (i m : ℕ) → i ≤ m → total f (upto i) ≤ total f (upto m)
unfolding total upto
upto_le f i zero h = let e : i ≡ 0 = omega arith in rw e (omega arith)
upto_le f i (suc m) h = go (eq-or-lt_of_le h) (upto_le f i m)
  where
    go : (i ≡ suc m) ⊎ (i < suc m) → (i ≤ m → total f (upto i) ≤ total f (upto m)) → total f (upto i) ≤ f m + total f (upto m)
    go (inl e) ih = rw e (omega arith)
    go (inr k) ih = omega (arith, ih (omega arith))
