-- The claims on the top ring hold, over every n and d.
use mathlib.Core.List.{[], head_d}
use mathlib.Core.Path.{ap, refl, sym, ◌∙◌}
use Prim.Native.Nat.{◌%◌, ◌-◌, ◌/◌, ◌<◌}
use native.Mathlib.Nat.{mod-lt}
use native.Mathlib.Omega.{arith}
use Rattle.density.proofs.Largest.{balanced_member, largest_balanced}
use Rattle.density.proofs.Members.{necklaces_falling, →member}
use Rattle.density.specs.Necklaces.{largest_necklace, necklaces}
use Rattle.largest.proofs.FewBlocks.{few_balanced}
use Rattle.largest.proofs.ManyBlocks.{many_balanced}
use Rattle.largest.proofs.RowSymbols.{balanced-ones, balanced-zeros}
use Rattle.largest.specs.Claims.{TopFew, TopHighest, TopMany, TopPlain, TopRefusals}
use Rattle.largest.specs.Top.{few_row, many_row}
use Rattle.refusal.proofs.Conditions.{at_most_tells, chain_first, passed, stations_tell, test}
use Rattle.words.proofs.Falling.{head_highest, head_member}
use Rattle.words.proofs.OrderTests.{→le}

pub top_refusals : TopRefusals
top_refusals n d room = chain_first (test _ (stations_tell n) (λ a. test _ (at_most_tells d n) (λ b. test _ (at_most_tells n room) (λ c. passed))))

pub top_highest : TopHighest
unfolding largest_necklace
top_highest n d p l =
    let m = →member (balanced_member n d p l) in
    record { member = head_member m; passes = refl; most = λ v k t. →le v (head_d (necklaces n d) []) (head_highest (necklaces_falling n d) k) }

pub top_plain : TopPlain
top_plain n p = (largest_balanced n 0 p (omega arith) ∙ balanced-zeros n p, largest_balanced n n p (omega arith) ∙ balanced-ones n p)

pub top_few : TopFew
top_few n d z h = largest_balanced n d (omega arith) (omega arith) ∙ sym (few_balanced n d z h) ∙ ap (few_row (n / d)) (sym (largest_balanced d (d - n % d) z (omega arith)))

pub top_many : TopMany
top_many n d h l =
    let z : 0 < n - d = omega arith in
    largest_balanced n d (omega arith) (omega arith)
    ∙ sym (many_balanced n d (n - d) z (omega arith) (omega arith))
    ∙ ap (many_row (n / (n - d))) (sym (largest_balanced (n - d) (n % (n - d)) z (omega (arith, mod-lt n z))))
