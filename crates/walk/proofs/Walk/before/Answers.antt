-- `walk::Walk::before` meets its contract.
use mathlib.Core.Logic.{⊎_elim}
use mathlib.Core.Path.{ap, sym, ◌∙◌, ◌≡◌}
use Prim.Native.Nat.{◌-◌}
use native.Mathlib.Omega.{arith}
use Rattle.walk.specs.InnerCourse.{before}
use Rattle.walk.proofs.Walk.before.Goals as goal

pub returns-in-Down : goal.returns-in-Down
returns-in-Down c =
    let n = c.args.self.n in
    let least : c.min.result ≡ n - (n - (c.in-Down.p - 1)) = omega (arith, c.min.ensures, c.saturating_sub.ensures) in
    least ∙ ⊎_elim (λ e. ap (λ s. before s n) (sym e)) (λ e. ap (λ s. before s n) (sym e)) c.in-Down.is
