-- The status by how a task ends.
use Rattle.std.specs.Prelude.{◌≡◌, ℕ, Result, Ok, Err}
use Rattle.std.proofs.Common.{refl, arith}
use Rattle.cabinet_tasks.specs.declared.ending.Ending.{Ending}
use Rattle.cabinet_tasks.specs.declared.ending.Ending.TheVariants.{Done, Refused}

-- of a task that could be understood and performed
abbrev pub ending_status : Ending → ℕ
ending_status Done = 0
ending_status Refused = 1

-- of any task
abbrev pub status_of : {E : Type 0} → Result Ending E → ℕ
status_of (Ok ending) = ending_status ending
status_of (Err _) = 1

-- 0 for a task that is done, and for no other
pub done_alone : {E : Type 0} (end : Result Ending E) → status_of end ≡ 0 → end ≡ Ok Done
done_alone (Ok Done) z = refl
done_alone (Ok Refused) z = absurd (omega (arith, z))
done_alone (Err _) z = absurd (omega (arith, z))
