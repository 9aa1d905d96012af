-- What a read gives.
use Rattle.std.specs.Prelude.{ℕ, Bool, true, false, ◌&&◌, ◌==◌, nat_lt}
use Rattle.gl_outside.specs.declared.source.Got.{Got}
use Rattle.gl_outside.specs.declared.source.Got.TheVariants.{Bytes, End, Failed}

-- how many bytes a read gave
abbrev pub given_count : Got → ℕ
given_count (Bytes n) = n
given_count End = 0
given_count Failed = 0

-- A read gave the end: by name, or by no bytes for a buffer of so many.
abbrev pub gave_end : Got → ℕ → Bool
gave_end (Bytes n) room = (n == 0) && nat_lt 0 room
gave_end End room = true
gave_end Failed room = false
