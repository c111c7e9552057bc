-- `prefix::carried::Known::is_necklace_of` meets its contract.
use mathlib.Core.Path.{sym, ◌∙◌}
use borrow.Author.Tests.{ne_eqb}
use Rattle.density.proofs.Binary.{within_binary}
use Rattle.density.proofs.KindTests.{as_necklace, not_member}
use Rattle.words.proofs.OnePass.{class_necklace}
use Rattle.prefix.proofs.carried.Known.is_necklace_of.Goals as goal

pub returns-then-self-d : goal.returns-then-self-d
returns-then-self-d c =
    let w = c.args.a.now in
    class_necklace w c.requires.0 _ c.scanned_period.ensures ∙ as_necklace c.args.d w (within_binary w c.requires.1) (sym c.requires.2.sums ∙ c.if-self-d.true)

pub returns-else-self-d : goal.returns-else-self-d
returns-else-self-d c =
    let w = c.args.a.now in
    ne_eqb _ _ c.if-self-d.false ∙ sym (not_member c.args.d w (within_binary w c.requires.1) (λ e. c.if-self-d.false (c.requires.2.sums ∙ e)))
