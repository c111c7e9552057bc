-- Whether two walk records are the same, as a test. `SameWalk` (Claims) says that it is equality.
use Rattle.std.specs.Prelude.{Bool, ◌&&◌, ℕ, eqb}
use Rattle.walk.specs.declared.Standing.{Standing}
use Rattle.walk.specs.declared.Standing.TheVariants.{Down, Ended, Given, Limit, Up}
use Rattle.walk.specs.declared.Walk.{Walk}
use Rattle.words.specs.Order.{same}

-- a standing as a number
abbrev pub standing_number : Standing → ℕ
standing_number Limit = 0
standing_number (Down p) = 1
standing_number (Up p) = 2
standing_number Given = 3
standing_number Ended = 4

-- "with the place p beside Down and Up only"; 0 beside the others
abbrev pub standing_place : Standing → ℕ
standing_place Limit = 0
standing_place (Down p) = p
standing_place (Up p) = p
standing_place Given = 0
standing_place Ended = 0

unfoldable pub same_standing : Standing → Standing → Bool
same_standing a b = eqb (standing_number a) (standing_number b) && eqb (standing_place a) (standing_place b)

-- every field, and every byte of both rows
unfoldable pub same_walk : Walk → Walk → Bool
same_walk a b =
    eqb a.n b.n
    && (eqb a.d b.d
    && (eqb a.kind b.kind
    && (same_standing a.at b.at
    && (same a.row b.row
    && same a.kept b.kept))))
