-- Which texts are taken, and which line is named of the others.
use mathlib.Core.Bool.{Bool, false, false≢true, true}
use mathlib.Core.List.{List, [], append-nil, ◌++◌, ◌∷◌}
use mathlib.Core.Logic.{inl, inr, ⊎_elim, ◌⊎◌}
use mathlib.Core.Path.{ap, refl, subst, sym, ◌∙◌, ◌≡◌}
use Prim.Native.Nat.{ℕ, ◌+◌, ◌≤◌}
use native.Mathlib.Omega.{arith}
use lib.ListN.{drop, length, length-append}
use lib.Seq.{drop-append_seam}
use borrow.Author.Tests.{le-leb, lt-leb}
use Rattle.drawer_input.proofs.Inputs.{all_read, misnamed, no_values, over_long, too_many}
use Rattle.drawer_input.proofs.ValueLines.{line as line_of_values, line_found, line_read}
use Rattle.drawer_input.proofs.WrittenLines.{asked, found, standing}
use Rattle.drawer_input.specs.Claims.{FirstExactly, FirstFaulty, LimitWritten, Named, NoOther, SecondExactly, SecondFaulty}
use Rattle.drawer_input.specs.Claims.{Taken, TakenExactly, ThirdExactly, ThirdFaulty, ValueLine, names_line}
use Rattle.drawer_input.specs.Input.{Asked, most_bytes, names, read_drawer, values_at}
use Rattle.drawer_input.specs.declared.Values.{Values}
use Rattle.refusal.proofs.Claims.{buffer_filled}
use Rattle.std.specs.Prelude.{Option, Some, None, Result, Ok, Err}
use Rattle.refusal.specs.declared.Refusal.{Refusal}
use Rattle.refusal.specs.declared.Refusal.TheVariants.{Buffer, Text}
use Rattle.text.specs.Ascii.{ascii}
use Rattle.words.proofs.Below.{le_or}
use Rattle.words.proofs.Booleans.{clash, never}
use Rattle.words.proofs.Lists.{is_prefix→, →is_prefix}
use Rattle.words.specs.Tests.{is_prefix}

names_line_lem : names ≡ names_line
unfolding ascii
names_line_lem = refl

-- ---- from the facts to what is read

module _ {s rest : List ℕ} (n : Named s rest) where
  behind-names : s ≡ names ++ rest
  behind-names = n.whole ∙ ap (λ l. l ++ rest) (sym names_line_lem)

  is_named : is_prefix names s ≡ true
  is_named = rw behind-names (→is_prefix names rest)

  rest_there : drop (length names) s ≡ rest
  rest_there = ap (drop (length names)) behind-names ∙ drop-append_seam names rest

  whole_length : length s ≡ length names + length rest
  whole_length = ap length behind-names ∙ length-append names rest

→first : (s : List ℕ) → FirstFaulty s → read_drawer s ≡ Err (Text 1)
→first s (inl h) = over_long s h
→first s (inr f) =
    ⊎_elim (λ h. misnamed s h (never (is_prefix names s) other)) (over_long s) (le_or (length s) most_bytes)
  where
    other : is_prefix names s ≡ true → ⊥
    other e = let r = is_prefix→ names s e in f r.0 (r.1 ∙ ap (λ l. l ++ r.0) names_line_lem)

→second : (s : List ℕ) → SecondFaulty s → read_drawer s ≡ Err (Text 2)
→second s f = go (values_at s (length names)) refl
  where
    go : (v : Option Values) → v ≡ values_at s (length names) → read_drawer s ≡ Err (Text 2)
    go None e = no_values s f.named.few (is_named f.named) e
    go (Some v) e =
        let r = standing (line_read s (length names) e) in
        absurd (f.none r.line r.more _ (sym (rest_there f.named) ∙ r.whole) r.values)

→third : (s : List ℕ) → ThirdFaulty s → read_drawer s ≡ Err (Text 3)
→third s f =
    let r = found s (length names) f.line f.more f.asked (rest_there f.named) f.values in
    let l = whole_length f.named ∙ ap (λ m. length names + m) (length-append f.line f.more) in
    too_many s f.named.few (is_named f.named) _ _ _ _ _ (line_found r.there) (λ e. omega arith)

→taken : (s : List ℕ) (a : Asked) → Taken s a → read_drawer s ≡ Ok a
→taken s a t =
    let r = found s (length names) t.line [] a (rest_there t.named ∙ sym (append-nil t.line)) t.values in
    let end : r.start + r.size + 1 ≡ length s = omega (arith, whole_length t.named) in
    all_read s t.named.few (is_named t.named) _ _ _ _ _ (line_found r.there) end
    ∙ ap (λ l. Ok (record { stations = a.stations; holes = a.holes; kind = a.kind; limit = l })) r.limit

-- ---- what is read has its facts

data Read (s : List ℕ) : Result Asked Refusal → Type 0 where
  first : FirstFaulty s → Read s (Err (Text 1))
  second : SecondFaulty s → Read s (Err (Text 2))
  third : ThirdFaulty s → Read s (Err (Text 3))
  taken : (a : Asked) → Taken s a → Read s (Ok a)

read : (s : List ℕ) → Read s (read_drawer s)
read s =
    ⊎_elim (λ h. named h (is_prefix names s) refl) (λ h. subst (Read s) (sym (over_long s h)) (first (inl h)))
    (le_or (length s) most_bytes)
  where
    ended : (n d kind start size : ℕ) (rest : List ℕ) → Named s rest
        → line_of_values n d kind start size ≡ values_at s (length names)
        → (line more : List ℕ) → rest ≡ line ++ more → ValueLine line (asked s n d kind start size)
        → start + size + 1 ≡ length names + length line → Read s (read_drawer s)
    ended n d kind start size rest w e line [] p v b =
        let whole : rest ≡ line = p ∙ append-nil line in
        let k : start + size + 1 ≡ length s = omega (arith, whole_length w, ap length whole) in
        subst (Read s) (sym (all_read s w.few (is_named w) n d kind start size e k))
        (taken _ (record { line = line; named = rw (← whole) w; values = v }))
    ended n d kind start size rest w e line (x ∷ more) p v b =
        let l = whole_length w ∙ ap (λ r. length names + length r) p in
        let k : start + size + 1 ≡ length s → ⊥ = λ q. omega (arith, simp length-append at l) in
        subst (Read s) (sym (too_many s w.few (is_named w) n d kind start size e k))
        (third (record { line = line; more = x ∷ more; asked = _; named = rw (← p) w; values = v; some = omega arith }))

    none : (rest : List ℕ) → Named s rest → None ≡ values_at s (length names) → (line more : List ℕ) (a : Asked)
        → rest ≡ line ++ more → ValueLine line a → ⊥
    none rest w e line more a p v =
        let r = found s (length names) line more a (rest_there w ∙ p) v in
        clash (cc (line_found r.there))

    lines : (rest : List ℕ) → Named s rest → (v : Option Values) → v ≡ values_at s (length names) → Read s (read_drawer s)
    lines rest w None e =
        subst (Read s) (sym (no_values s w.few (is_named w) e))
        (second (record { rest = rest; named = w; none = none rest w e }))
    lines rest w (Some v) e =
        let r = standing (line_read s (length names) e) in
        ended v.stations v.holes v.kind v.start v.size rest w e r.line r.more (sym (rest_there w) ∙ r.whole) r.values r.behind

    named : length s ≤ most_bytes → (t : Bool) → is_prefix names s ≡ t → Read s (read_drawer s)
    named h false n =
        subst (Read s) (sym (misnamed s h n))
        (first (inr (λ rest e. false≢true (sym n ∙ is_named (record { few = h; whole = e })))))
    named h true n =
        let r = is_prefix→ names s n in
        let w : Named s r.0 = record { few = h; whole = r.1 ∙ ap (λ l. l ++ r.0) names_line_lem } in
        lines r.0 w (values_at s (length names)) refl

-- ---- the claims

is_first : {s : List ℕ} → Read s (Err (Text 1)) → FirstFaulty s
is_first (first f) = f

is_second : {s : List ℕ} → Read s (Err (Text 2)) → SecondFaulty s
is_second (second f) = f

is_third : {s : List ℕ} → Read s (Err (Text 3)) → ThirdFaulty s
is_third (third f) = f

is_taken : {s : List ℕ} {a : Asked} → Read s (Ok a) → Taken s a
is_taken (taken a t) = t

is_refused : {s : List ℕ} {r : Refusal} → Read s (Err r) → (r ≡ Text 1) ⊎ ((r ≡ Text 2) ⊎ (r ≡ Text 3))
is_refused (first f) = inl refl
is_refused (second f) = inr (inl refl)
is_refused (third f) = inr (inr refl)

pub taken_exactly : TakenExactly
taken_exactly s a = (λ e. is_taken (subst (Read s) e (read s)), →taken s a)

pub first_exactly : FirstExactly
first_exactly s = (λ e. is_first (subst (Read s) e (read s)), →first s)

pub second_exactly : SecondExactly
second_exactly s = (λ e. is_second (subst (Read s) e (read s)), →second s)

pub third_exactly : ThirdExactly
third_exactly s = (λ e. is_third (subst (Read s) e (read s)), →third s)

pub no_other : NoOther
no_other s r e = is_refused (subst (Read s) e (read s))

pub limit_written : LimitWritten
limit_written s out = (
  λ r e. rw e,
  λ a e h. let b = buffer_filled a.limit out Buffer h in rw (e, le-leb (length a.limit) (length out) h) (b.0, b.1),
  λ a e h. rw (e, lt-leb (length a.limit) (length out) h),
)
