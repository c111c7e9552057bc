-- Filters, searches and prefixes of lists: what the tests mean.
use mathlib.Core.Bool.{Bool, and-eq-true_iff, cond, false, false≢true, or-true, true, ◌&&◌, ◌||◌}
use mathlib.Core.List.Memᴰ
use mathlib.Core.List.{List, Memᴰ, [], map, ◌++◌, ◌∷◌}
use mathlib.Core.Logic.{inl, inr, ◌⊎◌}
use mathlib.Core.Path.{ap, refl, ◌≡◌}
use Prim.Native.Nat.{ℕ}
use lib.Dec.{eqb}
use borrow.Author.Tests.{eq-eqb, eqb-true}
use Rattle.words.specs.Tests.{any, is_prefix, keep}

-- equal lists have equal heads and tails
pub cons_head : {A : Type 0} {x y : A} {a b : List A} → x ∷ a ≡ y ∷ b → x ≡ y
cons_head e = cc

pub cons_tail : {A : Type 0} {x y : A} {a b : List A} → x ∷ a ≡ y ∷ b → a ≡ b
cons_tail e = cc

pub keep→ : (p : List ℕ → Bool) (w : List ℕ) (l : List (List ℕ)) → Memᴰ w (keep p l) → Memᴰ w l × (p w ≡ true)
unfolding keep
keep→ p w [] m = absurd (Memᴰ.not-nil m)
keep→ p w (x ∷ l) m = go (p x) refl (keep→ p w l) m
  where
    tailed : Memᴰ w l × (p w ≡ true) → Memᴰ w (x ∷ l) × (p w ≡ true)
    tailed q = (Memᴰ.tail q.0, q.1)

    heads : p x ≡ true → (Memᴰ w (keep p l) → Memᴰ w l × (p w ≡ true)) → (w ≡ x) ⊎ Memᴰ w (keep p l) → Memᴰ w (x ∷ l) × (p w ≡ true)
    heads e ih (inl q) = (Memᴰ.head q, rw q e)
    heads e ih (inr k) = tailed (ih k)

    go : (b : Bool) → p x ≡ b → (Memᴰ w (keep p l) → Memᴰ w l × (p w ≡ true)) → Memᴰ w (cond b (x ∷ keep p l) (keep p l)) → Memᴰ w (x ∷ l) × (p w ≡ true)
    go true e ih m = heads e ih (Memᴰ.cases_cons m)
    go false e ih m = tailed (ih m)

pub →keep : (p : List ℕ → Bool) (w : List ℕ) (l : List (List ℕ)) → Memᴰ w l → p w ≡ true → Memᴰ w (keep p l)
unfolding keep
→keep p w [] m e = elim m [ ]
→keep p w (x ∷ l) (Memᴰ.head q) e = rw (← q, e) (Memᴰ.head refl)
→keep p w (x ∷ l) (Memᴰ.tail m) e = go (p x) (→keep p w l m e)
  where
    go : (b : Bool) → Memᴰ w (keep p l) → Memᴰ w (cond b (x ∷ keep p l) (keep p l))
    go true k = Memᴰ.tail k
    go false k = k

-- tests that agree on a list keep the same of it
pub keep_same : (p q : List ℕ → Bool) (l : List (List ℕ)) → ((w : List ℕ) → Memᴰ w l → p w ≡ q w) → keep p l ≡ keep q l
unfolding keep
keep_same p q [] h = refl
keep_same p q (x ∷ l) h = rw (h x (Memᴰ.head refl), keep_same p q l (λ w m. h w (Memᴰ.tail m)))

pub keep_all : (p : List ℕ → Bool) (l : List (List ℕ)) → ((w : List ℕ) → Memᴰ w l → p w ≡ true) → keep p l ≡ l
unfolding keep
keep_all p [] h = refl
keep_all p (w ∷ l) h = rw (h w (Memᴰ.head refl), keep_all p l (λ v m. h v (Memᴰ.tail m)))

-- a filter of one list behind another, and of rows that all begin with x
pub keep_append : (p : List ℕ → Bool) (a b : List (List ℕ)) → keep p (a ++ b) ≡ keep p a ++ keep p b
unfolding keep
keep_append p [] b = refl
keep_append p (w ∷ a) b = go (p w) (keep_append p a b)
  where
    go : (t : Bool) → keep p (a ++ b) ≡ keep p a ++ keep p b → cond t (w ∷ keep p (a ++ b)) (keep p (a ++ b)) ≡ cond t (w ∷ keep p a) (keep p a) ++ keep p b
    go true e = ap {B = List (List ℕ)} (λ t. w ∷ t) e
    go false e = e

pub keep-map : (p : List ℕ → Bool) (x : ℕ) (l : List (List ℕ)) → keep p (map (λ w. x ∷ w) l) ≡ map (λ w. x ∷ w) (keep (λ w. p (x ∷ w)) l)
unfolding keep
keep-map p x [] = refl
keep-map p x (w ∷ l) = go (p (x ∷ w)) (keep-map p x l)
  where
    go : (t : Bool) → keep p (map (λ w. x ∷ w) l) ≡ map (λ w. x ∷ w) (keep (λ w. p (x ∷ w)) l)
        → cond t ((x ∷ w) ∷ keep p (map (λ w. x ∷ w) l)) (keep p (map (λ w. x ∷ w) l)) ≡ map (λ w. x ∷ w) (cond t (w ∷ keep (λ w. p (x ∷ w)) l) (keep (λ w. p (x ∷ w)) l))
    go true e = ap {B = List (List ℕ)} (λ t. (x ∷ w) ∷ t) e
    go false e = e

-- of a filter's rows, those that pass another test
pub keep-keep : (p q : List ℕ → Bool) (l : List (List ℕ)) → keep q (keep p l) ≡ keep (λ r. p r && q r) l
unfolding keep
keep-keep p q [] = refl
keep-keep p q (x ∷ l) = go (p x) (keep-keep p q l)
  where
    go : (b : Bool) → keep q (keep p l) ≡ keep (λ r. p r && q r) l → keep q (cond b (x ∷ keep p l) (keep p l)) ≡ cond (b && q x) (x ∷ keep (λ r. p r && q r) l) (keep (λ r. p r && q r) l)
    go true e = ap {B = List (List ℕ)} (λ t. cond (q x) (x ∷ t) t) e
    go false e = e

pub any→ : (p : List ℕ → Bool) (l : List (List ℕ)) → any p l ≡ true → (w : List ℕ) × Memᴰ w l × (p w ≡ true)
unfolding any
any→ p [] e = absurd (false≢true e)
any→ p (x ∷ l) e = go (p x) refl (any→ p l) e
  where
    go : (b : Bool) → p x ≡ b → (any p l ≡ true → (w : List ℕ) × Memᴰ w l × (p w ≡ true)) → (b || any p l) ≡ true → (w : List ℕ) × Memᴰ w (x ∷ l) × (p w ≡ true)
    go true q ih e = (x, Memᴰ.head refl, q)
    go false q ih e = let r = ih e in (r.0, Memᴰ.tail r.1, r.2)

pub →any : (p : List ℕ → Bool) {w : List ℕ} {l : List (List ℕ)} → Memᴰ w l → p w ≡ true → any p l ≡ true
unfolding any
→any p (Memᴰ.head q) e = rw (← q, e) refl
→any p {w} (Memᴰ.tail {x = x} {xs = l} m) e = rw (→any p m e) (or-true (p x))

pub is_prefix→ : (p w : List ℕ) → is_prefix p w ≡ true → (z : List ℕ) × (w ≡ p ++ z)
unfolding is_prefix
is_prefix→ [] w e = (w, refl)
is_prefix→ (x ∷ p) [] e = absurd (false≢true e)
is_prefix→ (x ∷ p) (y ∷ w) e =
    let h = (and-eq-true_iff (eqb x y) (is_prefix p w)).0 e in
    let r = is_prefix→ p w h.1 in
    (r.0, cc (r.1, eqb-true x y h.0))

pub →is_prefix : (p z : List ℕ) → is_prefix p (p ++ z) ≡ true
unfolding is_prefix
→is_prefix [] z = refl
→is_prefix (x ∷ p) z = (and-eq-true_iff (eqb x x) (is_prefix p (p ++ z))).1 (eq-eqb x x refl, →is_prefix p z)
