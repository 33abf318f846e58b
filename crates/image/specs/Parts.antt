-- What the functions of the writer promise each other; nobody needs to believe it.
use Rattle.std.specs.Prelude.{List, ℕ, replicate}

-- so many bytes of 0
abbrev pub zeros : ℕ → List ℕ
zeros n = replicate n 0
