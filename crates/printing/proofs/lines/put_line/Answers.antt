-- `printing::lines::put_line` meets its contract.
use mathlib.Core.Path.{ap, refl, ◌≡◌}
use native.Mathlib.Omega.{arith}
use Rattle.printing.specs.InnerNextLine.{next_at, next_of}
use Rattle.printing.specs.declared.Due.{Due}
use Rattle.printing.specs.declared.Due.TheVariants.{Done, Header, Refused, Rings}
use Rattle.printing.specs.declared.Printing.{Printing}
use Rattle.printing.proofs.lines.put_line.Goals as goal

-- the next line, by what is due
next_so : (s : Printing) (due : Due) → s.due ≡ due → next_of s ≡ next_at due s.number s.walk
unfolding next_of
next_so s due e = ap (λ t. next_at t s.number s.walk) e

pub returns-in-Refused : goal.returns-in-Refused
returns-in-Refused c =
    rw (next_so c.args.state (Refused _) c.in-Refused.is) c.put_refusal.ensures

pub returns-in-Header : goal.returns-in-Header
returns-in-Header c =
    rw (next_so c.args.state Header c.in-Header.is) c.put_header.ensures

pub returns-in-Rings : goal.returns-in-Rings
returns-in-Rings c =
    rw (next_so c.args.state Rings c.in-Rings.is) c.put_step.ensures

pub returns-in-Done : goal.returns-in-Done
returns-in-Done c =
    rw (next_so c.args.state Done c.in-Done.is, c.filled.ensures) (record { result = refl; short = omega arith; front = refl })
