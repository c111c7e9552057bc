-- The claims on the text and on pieces hold.
use mathlib.Core.Bool.{true}
use mathlib.Core.List.{List, [], append_assoc, append-nil, ◌++◌, ◌∷◌}
use mathlib.Core.Path.{ap, refl, sym, ◌∙◌, ◌≡◌}
use Prim.Native.Nat.{ℕ}
use native.Mathlib.Omega.{arith}
use lib.ListN.{length, length-append, take}
use lib.Seq.{length-take-le}
use Rattle.drawer_lines.specs.Lines.{refusal_text}
use Rattle.printing.specs.Claims.{BehindStays, DoneExactly, HandedPrinted, LessLeft, PrintedBook, PrintedRefusal}
use Rattle.printing.specs.Left.{left}
use Rattle.printing.specs.Pieces.{HandedOut, nothing, piece}
use Rattle.printing.specs.Text.{printed}
use Rattle.printing.specs.declared.Printing.{Printing}
use Rattle.text.specs.Ascii.{ascii}

pub printed_book : PrintedBook
unfolding printed ascii
printed_book input a e f = rw (e, f)

pub printed_refusal : PrintedRefusal
unfolding printed ascii refusal_text
printed_refusal input r = (λ e. rw e, λ a e f. rw (e, f))

-- pieces take from what is left, and leave the rest
pub handed_left : {s t : Printing} {bytes : List ℕ} → HandedOut s bytes t → bytes ++ left t ≡ left s
handed_left nothing = refl
handed_left (piece {bytes = bytes} {after = after} {f = f} h g) =
    append_assoc bytes (take f.used after) (left f.state) ∙ ap (λ x. bytes ++ x) g.text ∙ handed_left h

-- nothing follows a list that is as long with it
none-behind : (a b : List ℕ) → a ++ b ≡ a → b ≡ []
none-behind a [] e = refl
none-behind a (x ∷ b) e = absurd (omega (arith, length-append a (x ∷ b), ap length e))

pub handed-printed : HandedPrinted
handed-printed input bytes s t start out = handed_left out ∙ start

pub done_exactly : DoneExactly
done_exactly input bytes before after s t f start out g = (done_all, all_done)
  where
    whole : (bytes ++ take f.used after) ++ left f.state ≡ printed input
    whole = handed-printed input (bytes ++ take f.used after) s f.state start (piece out g)

    done_all : f.done ≡ true → bytes ++ take f.used after ≡ printed input
    done_all d = sym (append-nil (bytes ++ take f.used after)) ∙ ap (λ x. (bytes ++ take f.used after) ++ x) (sym (g.all d)) ∙ whole

    all_done : bytes ++ take f.used after ≡ printed input → f.done ≡ true
    all_done a = g.only (none-behind (bytes ++ take f.used after) (left f.state) (whole ∙ sym a))

pub less_left : LessLeft
less_left before after s f g h d =
    omega (arith, g.full d, ap length g.text, length-append (take f.used after) (left f.state), length-take-le f.used after (omega (arith, g.long, g.inside)))

pub behind_stays : BehindStays
behind_stays before after s f g = (g.inside, g.long, g.rest, g.short)
