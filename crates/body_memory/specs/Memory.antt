-- How many bytes are held after a call, where that is counted.
use Rattle.std.specs.Prelude.{ℕ, ◌+◌, Option, option_map}

-- so many more
abbrev pub more : ℕ → Option ℕ → Option ℕ
more bytes held = option_map (λ n. n + bytes) held

-- none
abbrev pub emptied : Option ℕ → Option ℕ
emptied held = option_map (λ n. 0) held
