-- One line of output, of at most 32 bytes: what would stand past them falls away.
use Rattle.std.specs.Prelude.{ℕ, List, ◌++◌, take}
use Rattle.text.specs.declared.output.Line.{Line}

-- what a line holds
abbrev pub spelt : Line → List ℕ
spelt l = take l.len l.bytes

-- what a line holds once the bytes are added
abbrev pub added : List ℕ → List ℕ → List ℕ
added was bs = take 32 (was ++ bs)
