-- What the length of a drawer comes to.
use Rattle.density.specs.Lengths.{HowMany, at_most, exactly}
use Rattle.lengths.specs.declared.Length.{Length}
use Rattle.refusal.specs.declared.Refusal.{Refusal}
use Rattle.std.specs.Prelude.{Err, Ok, Result}

-- documents 01 and 02's value for each answer: how many rings, exactly or at most
abbrev pub length_told : Length → HowMany
length_told (Length.Exactly x) = exactly x
length_told (Length.AtMost x) = at_most x

-- or the refusal
abbrev pub length_outcome : Result Length Refusal → Result HowMany Refusal
length_outcome (Ok a) = Ok (length_told a)
length_outcome (Err r) = Err r
