-- What stands in the filled places, in order.
use Rattle.std.specs.Prelude.{ℕ, List, take}
use Rattle.sheet.specs.declared.filled.Filled.{Filled}

abbrev pub held : {T : Type 0} {N : ℕ} → Filled T N → List T
held f = take f.len f.items
