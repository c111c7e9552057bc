-- `prefix::ask` meets its contract: each return has passed the tests before it.
use mathlib.Core.Bool.{true}
use mathlib.Core.List.{List, ◌++◌}
use mathlib.Core.Path.{ap, subst, sym, ◌∙◌, ◌≡◌}
use Prim.Native.Nat.{ℕ, ◌-◌, ◌≤◌}
use native.Mathlib.Omega.{arith}
use lib.ListN.{length, take}
use lib.Seq.{take-append_seam}
use Rattle.density.specs.Necklaces.{begins}
use Rattle.prefix.proofs.AskCases.{ask_accepted, ask_holes, ask_prefix, ask_stations, ask_symbol}
use Rattle.prefix.specs.InnerCarried.{Knows}
use Rattle.refusal.proofs.Stations.{stations→}
use Rattle.std.specs.Prelude.{Ok}
use Rattle.refusal.specs.Verdicts.{are_stations, most_stations}
use Rattle.words.proofs.Alphabet.{within_append, within_replicate}
use Rattle.words.proofs.FirstPlaces.{found_none, found_place}
use Rattle.words.proofs.Wrong.{right_within}
use Rattle.words.specs.Symbols.{Within, first_wrong, zeros}
use Rattle.prefix.proofs.ask.Goals as goal
use Rattle.prefix.proofs.ask.Goals.{In_default}

pub returns-then-not-are_stations : goal.returns-then-not-are_stations
returns-then-not-are_stations c =
    let a = c.args in
    rw (ask_stations a.n a.d a.prefix.now (sym c.are_stations.ensures ∙ c.if-not-are_stations.true))

pub returns-then-n-d : goal.returns-then-n-d
returns-then-n-d c =
    let a = c.args in
    rw (ask_holes a.n a.d a.prefix.now (sym c.are_stations.ensures ∙ c.if-not-are_stations.false) c.if-n-d.true)

-- a prefix that is too long
-- is refused whatever its symbols are
pub returns-then-n-prefix : goal.returns-then-n-prefix
returns-then-n-prefix c =
    let a = c.args in
    rw (ask_prefix a.n a.d a.prefix.now (sym c.are_stations.ensures ∙ c.if-not-are_stations.false) c.if-n-d.false c.if-n-prefix.true)

pub returns-in-Some : goal.returns-in-Some
returns-in-Some c =
    let a = c.args in
    let p = found_place _ _ (sym c.first_wrong.ensures ∙ c.in-Some.is) in
    rw (p.0, ask_symbol a.n a.d a.prefix.now (sym c.are_stations.ensures ∙ c.if-not-are_stations.false) c.if-n-d.false c.if-n-prefix.false (λ z. p.1 (p.0 ∙ z)))

-- the row that is asked: the prefix, and zeros behind it
module _ (a r : List ℕ) (e : r ≡ a ++ zeros (most_stations - length a)) where
  begins_so : take (length a) r ≡ a
  begins_so = rw (e, take-append_seam)

  has_symbols : Within 2 a → Within 2 r
  has_symbols f = rw e (within_append a (zeros (most_stations - length a)) f (within_replicate (most_stations - length a) 0 (omega arith)))

-- ---- a question that is refused by none of the tests

-- the stations are in range
sized : (c : In_default) → are_stations c.args.n ≡ true
sized c = sym c.are_stations.ensures ∙ c.if-not-are_stations.false

-- no symbol is wrong
no_wrong : (c : In_default) → first_wrong 2 c.args.prefix.now ≡ 0
no_wrong c = found_none _ (sym c.first_wrong.ensures ∙ c.in_default.is)

-- the prefix fits a row
short : (c : In_default) → length c.args.prefix.now ≤ most_stations
short c = omega (arith, (stations→ _ (sized c)).most, c.if-n-prefix.false)

pub padded-row-requires : goal.padded-row-requires
padded-row-requires c = short (goal.at.padded-row-requires c).In_default

pub read-requires : goal.read-requires
read-requires c =
    let q = (goal.at.read-requires c).In_default in
    (short q, right_within 2 _ (no_wrong q), c.prefixes_of-prefixes.ensures)

pub ask-yes-requires : goal.ask-yes-requires
ask-yes-requires c =
    let q = (goal.at.ask-yes-requires c).In_default in
    let a = c.args in
    let s = stations→ a.n (sized q) in (
      s.some,
      s.most,
      c.if-n-d.false,
      c.if-n-prefix.false,
      has_symbols a.prefix.now _ c.padded-row.ensures (right_within 2 _ (no_wrong q)),
      subst (λ w. Knows w c.read.result) (sym (begins_so a.prefix.now _ c.padded-row.ensures)) c.read.ensures,
    )

pub returns : goal.returns
returns c =
    let q = (goal.at.returns c).In_default in
    let a = c.args in
    rw (ask_accepted a.n a.d a.prefix.now (sized q) c.if-n-d.false c.if-n-prefix.false (no_wrong q))
    (ap Ok (c.ask-yes.ensures ∙ ap (begins a.n a.d) (begins_so a.prefix.now _ c.padded-row.ensures)))
