-- Lists of bytes.
use Rattle.std.specs.Prelude.{ℕ, List, Bool, ◌&&◌, ◌==◌, length, nat_eq, nat_lt}
use Rattle.std.specs.Cmp.Lexicographic.{pointwise}
use Rattle.std.specs.List.{list_all}

-- A number that a byte can hold.
abbrev pub is_byte : ℕ → Bool
is_byte n = nat_lt n 256

-- Each number is a byte.
abbrev pub are_bytes : List ℕ → Bool
are_bytes xs = list_all is_byte xs

-- So many bytes.
abbrev pub are_sized : ℕ → List ℕ → Bool
are_sized size bytes = (length bytes == size) && are_bytes bytes

-- The bytes of a SHA-256 digest.
abbrev pub is_digest : List ℕ → Bool
is_digest bytes = are_sized 32 bytes

-- The test whether two lists of bytes are the same.
abbrev pub same_bytes : List ℕ → List ℕ → Bool
same_bytes xs ys = pointwise nat_eq xs ys

-- 1 MiB: the most bytes of a request, a reply or an entry's body.
abbrev pub mebibyte : ℕ
mebibyte = 1048576
