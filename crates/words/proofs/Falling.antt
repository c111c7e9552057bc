-- Lists of rows that fall strictly, and the first of a filtered one.
use mathlib.Core.Bool.{Bool, cond, false, true}
use mathlib.Core.List.{List, Memᴰ, [], head_d, map, ◌++◌, ◌∷◌}
use mathlib.Core.Logic.{inl, inr, ◌⊎◌}
use mathlib.Core.Path.{ap, refl, subst, sym, ◌∙◌, ◌≡◌}
use Prim.Native.Nat.{suc, ℕ, ◌≤◌}
use native.Mathlib.Omega.{arith}
use lib.ListN.{length}
use Rattle.words.proofs.AtMost.{equal, lower, ≺-≼_trans, ≼_antisym, ≼_refl, ◌≼◌}
use Rattle.words.proofs.Below.{there, ≺_asym, ≺_irrefl, ≺_trans, ◌≺◌}
use Rattle.words.proofs.Lists.{cons_head, cons_tail, keep_all, keep_same, keep→, →keep}
use Rattle.words.proofs.OrderTests.{le→, lt→, not_le, not_lt, →le, →lt}
use Rattle.words.specs.Falling.{Falling, Highest, falls_from, falls_none}
use Rattle.words.specs.Order.{le, lt}
use Rattle.words.specs.Tests.{keep}

-- the first is above the others
pub falls_below : {w : List ℕ} {l : List (List ℕ)} → Falling (w ∷ l) → (v : List ℕ) → Memᴰ v l → v ≺ w
falls_below {w} (falls_from h f) v m = lt→ v w (h v m)

-- a row above all of a falling list
pub falls : {w : List ℕ} {l : List (List ℕ)} → ((v : List ℕ) → Memᴰ v l → v ≺ w) → Falling l → Falling (w ∷ l)
falls {w} h f = falls_from (λ v m. →lt v w (h v m)) f

pub falling_map : (x : ℕ) {l : List (List ℕ)} → Falling l → Falling (map (λ w. x ∷ w) l)
falling_map x falls_none = falls_none
falling_map x (falls_from {w = w} {l = l} h f) = falls below_head (falling_map x f)
  where
    below_head : (v : List ℕ) → Memᴰ v (map (λ w. x ∷ w) l) → v ≺ (x ∷ w)
    below_head v m = let q = mathlib.Core.List.Memᴰ.of_map (λ w. x ∷ w) l m in rw (← q.2) (there (lt→ q.0 w (h q.0 q.1)))

pub falling_append : {a b : List (List ℕ)} → Falling a → Falling b → ((u v : List ℕ) → Memᴰ u a → Memᴰ v b → v ≺ u) → Falling (a ++ b)
falling_append falls_none g h = g
falling_append {b = b} (falls_from {w = w} {l = l} k f) g h = falls below_head (falling_append f g (λ u v m n. h u v (mathlib.Core.List.Memᴰ.tail m) n))
  where
    pick : (v : List ℕ) → Memᴰ v l ⊎ Memᴰ v b → v ≺ w
    pick v (inl m) = lt→ v w (k v m)
    pick v (inr m) = h w v (mathlib.Core.List.Memᴰ.head refl) m

    below_head : (v : List ℕ) → Memᴰ v (l ++ b) → v ≺ w
    below_head v m = pick v (mathlib.Core.List.Memᴰ.append_cases l m)

pub falling_front : (a b : List (List ℕ)) → Falling (a ++ b) → Falling a
falling_front [] b f = falls_none
falling_front (w ∷ a) b (falls_from h f) = falls_from (λ v m. h v (mathlib.Core.List.Memᴰ.append_left b m)) (falling_front a b f)

pub falling_back : (a b : List (List ℕ)) → Falling (a ++ b) → Falling b
falling_back [] b f = f
falling_back (w ∷ a) b (falls_from h f) = falling_back a b f

pub keep_falling : (p : List ℕ → Bool) {l : List (List ℕ)} → Falling l → Falling (keep p l)
unfolding keep
keep_falling p falls_none = falls_none
keep_falling p (falls_from {w = w} {l = l} h f) = go (p w) (keep_falling p f)
  where
    go : (b : Bool) → Falling (keep p l) → Falling (cond b (w ∷ keep p l) (keep p l))
    go true g = falls_from (λ v m. h v (keep→ p v l m).0) g
    go false g = g

-- ---- the first is the highest

pub head_highest : {w : List ℕ} {l : List (List ℕ)} → Falling l → Memᴰ w l → w ≼ head_d l []
unfolding head_d
head_highest falls_none m = elim m [ ]
head_highest (falls_from h f) (mathlib.Core.List.Memᴰ.head e) = equal e
head_highest {w} (falls_from {w = x} h f) (mathlib.Core.List.Memᴰ.tail m) = lower (lt→ w x (h w m))

pub head_member : {w : List ℕ} {l : List (List ℕ)} → Memᴰ w l → Memᴰ (head_d l []) l
unfolding head_d
head_member (mathlib.Core.List.Memᴰ.head e) = mathlib.Core.List.Memᴰ.head refl
head_member (mathlib.Core.List.Memᴰ.tail m) = mathlib.Core.List.Memᴰ.head refl

-- of a filtered falling list: the first passes, and is the highest that does
pub first_highest : (p : List ℕ → Bool) {l : List (List ℕ)} → Falling l → (r : List ℕ) (rest : List (List ℕ)) → keep p l ≡ r ∷ rest → Highest p l r
unfolding head_d
first_highest p {l} f r rest e =
    let m : Memᴰ r (keep p l) = rw e (mathlib.Core.List.Memᴰ.head refl) in
    let k = keep→ p r l m in
    record {
      member = k.0;
      passes = k.1;
      most = λ w n q. →le w r (subst (λ v. w ≼ head_d v []) e (head_highest (keep_falling p f) (→keep p w l n q)));
    }

-- what is highest among those that pass comes first
pub highest_first : (p : List ℕ → Bool) {l : List (List ℕ)} → Falling l → (r : List ℕ) → Highest p l r → head_d (keep p l) [] ≡ r
highest_first p {l} f r h =
    let m = →keep p r l h.member h.passes in
    let k = keep→ p (head_d (keep p l) []) l (head_member m) in
    ≼_antisym (le→ _ r (h.most (head_d (keep p l) []) k.0 k.1)) (head_highest (keep_falling p f) m)

-- where nothing passes, nothing is kept
pub keep-none : (p : List ℕ → Bool) (l : List (List ℕ)) → ((w : List ℕ) → Memᴰ w l → p w ≡ true → ⊥) → keep p l ≡ []
unfolding keep
keep-none p [] h = refl
keep-none p (x ∷ l) h = go (p x) refl (keep-none p l (λ w m. h w (mathlib.Core.List.Memᴰ.tail m)))
  where
    go : (b : Bool) → p x ≡ b → keep p l ≡ [] → cond b (x ∷ keep p l) (keep p l) ≡ []
    go true e r = absurd (h x (mathlib.Core.List.Memᴰ.head refl) e)
    go false e r = r

-- ---- neighbours: a ≺ b, and nothing between

pub falls_by : (l : List (List ℕ)) (b a : List ℕ) (r : List (List ℕ)) → Falling (l ++ (b ∷ a ∷ r)) → a ≺ b
falls_by [] b a r f = falls_below f a (mathlib.Core.List.Memᴰ.head refl)
falls_by (x ∷ l) b a r (falls_from h f) = falls_by l b a r f

pub nothing_between : (l : List (List ℕ)) (b a : List ℕ) (r : List (List ℕ)) → Falling (l ++ (b ∷ a ∷ r)) → (w : List ℕ) → Memᴰ w (l ++ (b ∷ a ∷ r)) → a ≺ w → b ≼ w
nothing_between [] b a r (falls_from h (falls_from k f)) w m q = first (mathlib.Core.List.Memᴰ.cases_cons m)
  where
    second : (w ≡ a) ⊎ Memᴰ w r → b ≼ w
    second (inl e) = absurd (≺_irrefl (rw e at q))
    second (inr n) = absurd (≺_asym q (lt→ w a (k w n)))

    first : (w ≡ b) ⊎ Memᴰ w (a ∷ r) → b ≼ w
    first (inl e) = equal (sym e)
    first (inr n) = second (mathlib.Core.List.Memᴰ.cases_cons n)
nothing_between (x ∷ l) b a r (falls_from h f) w m q = go (nothing_between l b a r f w) (mathlib.Core.List.Memᴰ.cases_cons m)
  where
    go : (Memᴰ w (l ++ (b ∷ a ∷ r)) → a ≺ w → b ≼ w) → (w ≡ x) ⊎ Memᴰ w (l ++ (b ∷ a ∷ r)) → b ≼ w
    go ih (inl e) = rw e (lower (lt→ b x (h b (mathlib.Core.List.Memᴰ.append_right l (mathlib.Core.List.Memᴰ.head refl)))))
    go ih (inr n) = ih n q

-- ---- at or below a member: the member, and what is below it

pub at_or_below : (x : List ℕ) {l : List (List ℕ)} → Falling l → Memᴰ x l → keep (λ r. le r x) l ≡ x ∷ keep (λ r. lt r x) l
unfolding keep
at_or_below x falls_none m = elim m [ ]
at_or_below x (falls_from {w = w} {l = l} h f) (mathlib.Core.List.Memᴰ.head e) =
    rw (← e, →le x x (≼_refl x), not_lt x x (≼_refl x)) (ap {B = List (List ℕ)} (λ t. x ∷ t) (keep_same (λ r. le r x) (λ r. lt r x) l both))
  where
    both : (r : List ℕ) → Memᴰ r l → le r x ≡ lt r x
    both r m = let b : r ≺ x = rw e (lt→ r w (h r m)) in →le r x (lower b) ∙ sym (→lt r x b)
at_or_below x (falls_from {w = w} {l = l} h f) (mathlib.Core.List.Memᴰ.tail m) =
    let b = lt→ x w (h x m) in
    rw (not_le w x b, not_lt w x (lower b)) (at_or_below x f m)

-- a filter keeps no more than there is
pub keep_fewer : (p : List ℕ → Bool) (l : List (List ℕ)) → length (keep p l) ≤ length l
unfolding keep
keep_fewer p [] = omega arith
keep_fewer p (x ∷ l) = go (p x) (keep_fewer p l)
  where
    go : (b : Bool) → length (keep p l) ≤ length l → length (cond b (x ∷ keep p l) (keep p l)) ≤ suc (length l)
    go true h = omega arith
    go false h = omega arith

-- ---- the rows below one

-- in a falling list, what is below x is its first and what is below that
pub rest_below : {x r : List ℕ} {rs l : List (List ℕ)} → Falling l → r ≺ x → Memᴰ r l → keep (λ v. lt v x) l ≡ r ∷ rs → keep (λ v. lt v r) l ≡ rs
unfolding keep
rest_below falls_none low m e = elim m [ ]
rest_below {x} {r} {rs} (falls_from {w = w} {l = l} h f) low (mathlib.Core.List.Memᴰ.head q) e =
    let a : lt w x ≡ true = →lt w x (rw q at low) in
    let b : lt w r ≡ false = not_lt w r (equal q) in
    let t : w ∷ keep (λ v. lt v x) l ≡ r ∷ rs = rw a at e in
    rw b (keep_same (λ v. lt v r) (λ v. lt v x) l (λ v m. both v (rw (← q) at (lt→ v w (h v m)))) ∙ cons_tail t)
  where
    both : (v : List ℕ) → v ≺ r → lt v r ≡ lt v x
    both v k = →lt v r k ∙ sym (→lt v x (≺_trans k low))
rest_below {x} {r} {rs} (falls_from {w = w} {l = l} h f) low (mathlib.Core.List.Memᴰ.tail m) e = go (lt w x) refl (rest_below f low m)
  where
    b : lt w r ≡ false
    b = not_lt w r (lower (lt→ r w (h r m)))

    go : (t : Bool) → lt w x ≡ t → (keep (λ v. lt v x) l ≡ r ∷ rs → keep (λ v. lt v r) l ≡ rs) → keep (λ v. lt v r) (w ∷ l) ≡ rs
    go true q ih = let t : w ∷ keep (λ v. lt v x) l ≡ r ∷ rs = rw q at e in absurd (≺_irrefl (rw (cons_head t) at (lt→ r w (h r m))))
    go false q ih = rw b (ih (rw q at e))

-- in a falling list the rows at or below x are its end
pub ends_below : (x : List ℕ) {l : List (List ℕ)} → Falling l → (pre : List (List ℕ)) × (l ≡ pre ++ keep (λ r. le r x) l)
unfolding keep
ends_below x falls_none = ([], refl)
ends_below x (falls_from {w = w} {l = l} h f) = go (le w x) refl (ends_below x f)
  where
    go : (t : Bool) → le w x ≡ t → ((pre : List (List ℕ)) × (l ≡ pre ++ keep (λ r. le r x) l)) → (pre : List (List ℕ)) × (w ∷ l ≡ pre ++ cond t (w ∷ keep (λ r. le r x) l) (keep (λ r. le r x) l))
    go true e ih = ([], ap {B = List (List ℕ)} (λ t. w ∷ t) (sym (keep_all (λ r. le r x) l (λ v m. →le v x (lower (≺-≼_trans (lt→ v w (h v m)) (le→ w x e)))))))
    go false e ih = (w ∷ ih.0, ap {B = List (List ℕ)} (λ t. w ∷ t) ih.1)
