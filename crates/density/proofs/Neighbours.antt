-- Of two neighbours among the necklaces of (n, d), one is a Lyndon word.
use mathlib.Core.Bool.{or-true, true, ◌||◌}
use mathlib.Core.List.Memᴰ
use mathlib.Core.List.{List, Memᴰ, [], append_assoc, append-nil, ◌++◌, ◌∷◌}
use mathlib.Core.Logic.{inl, inr, ◌⊎◌}
use mathlib.Core.Path.{ap, refl, subst, sym, ◌∙◌, ◌≡◌}
use Prim.Native.Nat.{suc, zero, ℕ, ◌*◌, ◌<◌}
use native.Mathlib.Nat.{eq_of_mul-eq-mul_right}
use native.Mathlib.Omega.{arith}
use lib.ListN.{length, length-append}
use Rattle.density.proofs.BalancedRow.{balanced_binary, balanced-length, balanced_necklace, balanced-total}
use Rattle.density.proofs.Binary.{Binary, binary_append, binary_front, binary_sum, empty}
use Rattle.density.proofs.Counts.{sum-append}
use Rattle.density.proofs.Largest.{at_most_balanced}
use Rattle.density.proofs.Members.{Member, member_of, member_sum, member→, necklaces_falling, →member}
use Rattle.density.proofs.Scaled.{scaled}
use Rattle.density.specs.InnerBalanced.{balanced}
use Rattle.density.specs.Necklaces.{necklaces}
use Rattle.words.proofs.AtMost.{equal, lower, not_both, squeezed, ◌≼◌}
use Rattle.words.proofs.Below.{≺-append, ≺_irrefl, ≺-size, ≺_under, ◌≺◌}
use Rattle.words.proofs.Cut.{Cut, cut}
use Rattle.words.proofs.Falling.{falls_by, nothing_between}
use Rattle.words.proofs.Following.{lyndon_above, power_lyndon}
use Rattle.words.proofs.Lyndon.{Lyndon, lyndon_size}
use Rattle.words.proofs.OnePeriod.{one_period, pre_of_power}
use Rattle.words.proofs.Power.{power, power_length, power_snoc}
use Rattle.words.proofs.PowerOrder.{lyndon→necklace}
use Rattle.words.proofs.Prefixes.{Pre}
use Rattle.words.proofs.Root.{Root, root}
use Rattle.words.proofs.Rotations.{→is_lyndon}
use Rattle.words.specs.Falling.{Falling}
use Rattle.words.specs.Rotation.{is_lyndon}
use Rattle.words.specs.Symbols.{sum}

pub power_sum : (k : ℕ) (g : List ℕ) → sum (power k g) ≡ k * sum g
unfolding power sum
power_sum zero g = omega arith
power_sum (suc k) g = omega (arith, sum-append g (power k g), power_sum k g)

pub power_binary : (k : ℕ) {g : List ℕ} → Binary g → Binary (power k g)
unfolding power
power_binary zero x = empty
power_binary (suc k) x = binary_append x (power_binary k x)

-- ---- a proper power a of the Lyndon word g, in its drawer

module _ (n d : ℕ) (g : List ℕ) (l : Lyndon g) (j : ℕ) (k : Member n d (power (suc (suc j)) g)) where
  -- the highest necklace as long as g, of its density
  v : List ℕ
  v = balanced (length g) (sum g)

  size : n ≡ suc (suc j) * length g
  size = sym k.long ∙ power_length (suc (suc j)) g

  count : d ≡ suc (suc j) * sum g
  count = sym (member_sum k) ∙ power_sum (suc (suc j)) g

  g_bits : Binary g
  unfolding power
  g_bits = binary_front g (power (suc j) g) k.binary

  last : power (suc (suc j)) g ≡ power (suc j) g ++ g
  unfolding power
  last = power_snoc (suc j) g

  -- the largest of the whole is a power of the part's largest
  is_top : g ≡ v → power (suc (suc j)) g ≡ balanced n d
  unfolding v
  is_top e = ap (power (suc (suc j))) e ∙ sym (scaled (suc (suc j)) (length g) (sum g) (omega arith) (lyndon_size l)) ∙ rw (← size, ← count)

  -- g^(j + 1) v is a Lyndon word
  raised_lyndon : g ≺ v → Lyndon (power (suc j) g ++ v)
  unfolding power v
  raised_lyndon h =
      let gv : Lyndon (g ++ v) = lyndon_above l (balanced_necklace (length g) (sum g) (lyndon_size l)) (sym (balanced-length (length g) (sum g) (lyndon_size l) (length g) 0)) h in
      let e : power j g ++ (g ++ v) ≡ power (suc j) g ++ v = sym (append_assoc (power j g) g v) ∙ ap (λ w. w ++ v) (sym (power_snoc j g)) in
      subst Lyndon e (power_lyndon l gv (≺-append g v (omega (arith, balanced-length (length g) (sum g) (lyndon_size l) (length g) 0, lyndon_size l))) j).0

  -- so it is of the drawer
  raised_member : g ≺ v → Member n d (power (suc j) g ++ v)
  unfolding v
  raised_member h =
      member_of (omega (arith, length-append (power (suc j) g) v, power_length (suc j) g, balanced-length (length g) (sum g) (lyndon_size l) (length g) 0, size))
      (binary_append (power_binary (suc j) g_bits) (balanced_binary (length g) (sum g) (lyndon_size l) (binary_sum g_bits) (length g) 0))
      (omega (arith, sum-append (power (suc j) g) v, power_sum (suc j) g, balanced-total (length g) (sum g) (lyndon_size l), count))
      (lyndon→necklace (raised_lyndon h))

  -- a proper power as long that begins with g^(j + 1) is g^(j + 2)
  only_power : (b t z : List ℕ) (m : ℕ) → Lyndon z → b ≡ power (suc (suc m)) z → b ≡ power (suc j) g ++ t → length b ≡ n → b ≡ power (suc (suc j)) g
  unfolding power
  only_power b t z m lz e f h = e ∙ ap (power (suc (suc m))) zg ∙ ap (λ i. power (suc (suc i)) g) mj
    where
      c : List ℕ
      c = power (suc j) g

      longs : suc (suc m) * length z ≡ suc (suc j) * length g
      longs = sym (power_length (suc (suc m)) z) ∙ ap length (sym e) ∙ h ∙ size

      first : Pre c (length g)
      first = pre_of_power l (suc j) c [] (sym (append-nil c)) (omega (arith, power_length (suc j) g))

      second : Pre c (length z)
      second = pre_of_power lz (suc (suc m)) c t (sym e ∙ f) (omega (arith, power_length (suc j) g, longs))

      long : length z ≡ length g
      long = one_period second first

      zg : z ≡ g
      zg = go (cut z (power (suc m) z) g (power j g ++ t) (sym e ∙ f ∙ append_assoc g (power j g) t) (omega (arith, long)))
        where
          go : Cut g z (power (suc m) z) (power j g ++ t) → z ≡ g
          go q = at q.r q.left
            where
              at : (r : List ℕ) → g ≡ z ++ r → z ≡ g
              at [] e = sym (append-nil z) ∙ sym e
              at (x ∷ r) e = absurd (omega (arith, long, ap length e ∙ length-append z (x ∷ r)))

      mj : m ≡ j
      mj = eq_of_mul-eq-mul_right (length g) (lyndon_size l) m j (omega (arith, longs, long, ap (λ t. m * t) long))

  pub next_lyndon : (b : List ℕ) → Member n d b → power (suc (suc j)) g ≺ b → ((w : List ℕ) → Member n d w → power (suc (suc j)) g ≺ w → b ≼ w) → Lyndon b
  unfolding v power
  next_lyndon b y h near = go (at_most_balanced g (lyndon_size l) (lyndon→necklace l))
    where
      some : 0 < length b
      some = ≺-size h

      by_root : (t : List ℕ) → b ≡ power (suc j) g ++ t → (z : List ℕ) (m : ℕ) → Lyndon z → b ≡ power (suc m) z → Lyndon b
      by_root t f z zero lz e = subst Lyndon (sym (e ∙ append-nil z)) lz
      by_root t f z (suc m) lz e = absurd (≺_irrefl (subst (λ w. power (suc (suc j)) g ≺ w) (only_power b t z m lz e f y.long) h))

      go : g ≼ v → Lyndon b
      go (equal e) =
          let low : b ≼ balanced n d = rw (y.long, member_sum y) at (at_most_balanced b some y.least) in
          absurd (not_both h (subst (λ w. b ≼ w) (sym (is_top e)) low))
      go (lower q) =
          let above : power (suc (suc j)) g ≺ (power (suc j) g ++ v) = subst (λ w. w ≺ (power (suc j) g ++ v)) (sym last) (≺_under (power (suc j) g) q) in
          let t = squeezed (power (suc j) g) g v b (subst (λ w. w ≺ b) last h) (near (power (suc j) g ++ v) (raised_member q) above) in
          let r = root b some y.least in
          by_root t.0 t.1 r.u r.k r.lyn r.is

-- ---- Lemma 6.1

pub neighbours : (n d : ℕ) (l : List (List ℕ)) (b a : List ℕ) (r : List (List ℕ)) → necklaces n d ≡ l ++ (b ∷ a ∷ r) → Lyndon b ⊎ Lyndon a
unfolding power
neighbours n d l b a r e = go t.u t.k t.lyn t.is
  where
    falling : Falling (l ++ (b ∷ a ∷ r))
    falling = subst Falling e (necklaces_falling n d)

    h : a ≺ b
    h = falls_by l b a r falling

    inside : (w : List ℕ) → Memᴰ w (b ∷ a ∷ r) → Member n d w
    inside w m = member→ n d w (subst (Memᴰ w) (sym e) (Memᴰ.append_right l m))

    ka : Member n d a
    ka = inside a (Memᴰ.tail (Memᴰ.head refl))

    kb : Member n d b
    kb = inside b (Memᴰ.head refl)

    near : (w : List ℕ) → Member n d w → a ≺ w → b ≼ w
    near w k = nothing_between l b a r falling w (subst (Memᴰ w) e (→member k))

    t : Root a
    t = root a (omega (arith, ≺-size h, ka.long, kb.long)) ka.least

    go : (g : List ℕ) (k : ℕ) → Lyndon g → a ≡ power (suc k) g → Lyndon b ⊎ Lyndon a
    go g zero lg f = inr (subst Lyndon (sym (f ∙ append-nil g)) lg)
    go g (suc j) lg f = inl (next_lyndon n d g lg j (subst (Member n d) f ka) b kb (subst (λ w. w ≺ b) f h) (subst (λ x. (w : List ℕ) → Member n d w → x ≺ w → b ≼ w) f near))

-- the same, by the test
pub neighbours_test : (n d : ℕ) (l : List (List ℕ)) (b a : List ℕ) (r : List (List ℕ)) → necklaces n d ≡ l ++ (b ∷ a ∷ r) → (is_lyndon b || is_lyndon a) ≡ true
neighbours_test n d l b a r e = go (neighbours n d l b a r e)
  where
    go : Lyndon b ⊎ Lyndon a → (is_lyndon b || is_lyndon a) ≡ true
    go (inl q) = rw (→is_lyndon b q)
    go (inr q) = rw (→is_lyndon a q) (or-true (is_lyndon b))
