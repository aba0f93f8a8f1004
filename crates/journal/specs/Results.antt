-- One result behind another.
use Rattle.std.specs.Prelude.{Ok, Err, Result}

-- what follows from a value; an error ends it
abbrev pub and_then : {X Y E : Type 0} → Result X E → (X → Result Y E) → Result Y E
and_then (Ok x) next = next x
and_then (Err e) next = Err e
