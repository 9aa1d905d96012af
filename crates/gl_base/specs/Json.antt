-- JSON pointers (RFC 6901): the path of a value in a JSON text. That of the whole text is empty.
use Rattle.std.specs.Prelude.{ℕ, List, [], ◌∷◌, ◌++◌, ◌==◌, if◌then◌else◌, decimal}
use Rattle.std.specs.List.{flat_map}

-- A byte of a member's name: '~' is written '~0', and '/' is written '~1' (section 3).
abbrev pub escaped_byte : ℕ → List ℕ
escaped_byte byte =
    if byte == 126 then 126 ∷ 48 ∷ []
    else (if byte == 47 then 126 ∷ 49 ∷ [] else byte ∷ [])

abbrev pub escaped : List ℕ → List ℕ
escaped name = flat_map escaped_byte name

-- The pointer of a member of the object that a pointer points to.
abbrev pub member_of : List ℕ → List ℕ → List ℕ
member_of path name = path ++ 47 ∷ escaped name

-- The pointer of an element, counted from 0, of the array that it points to.
abbrev pub item_of : List ℕ → ℕ → List ℕ
item_of path index = path ++ 47 ∷ decimal index
