-- Why a file's lines are not read into a list.
use Rattle.std.specs.Prelude.{◌≡◌, ℕ, true, List, is_ok, Err}
use Rattle.requests.specs.Meaning.{meaning}
use Rattle.requests.specs.declared.fault.ReadError.{ReadError}
use Rattle.requests.specs.declared.fault.ReadError.TheVariants.{Refused, NoMemory}

-- an error is the file's first fault, or memory is wanting for lines that the file means
abbrev pub Declines : List ℕ → ReadError → Type 0
Declines file (Refused refusal) = meaning file ≡ Err refusal
Declines file NoMemory = is_ok (meaning file) ≡ true
