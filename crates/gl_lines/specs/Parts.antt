-- The parts of a text that a byte ends, for lines and words alike.
use Rattle.std.specs.Prelude.{ℕ, List, [], ◌∷◌, ◌++◌, map, if◌then◌else◌}
use Rattle.std.specs.Borrow.{Bor}
use Rattle.gl_lines.specs.Lines.{Split, with_line, is_byte}

-- The parts of a text that goes on a part which has these bytes so far, each ended by a byte.
abbrev pub parts_from : ℕ → List ℕ → List ℕ → Split
parts_from end part [] = record { lines = []; open_line = part }
parts_from end part (byte ∷ bytes) =
    if is_byte end byte then with_line part (parts_from end [] bytes)
    else parts_from end (part ++ byte ∷ []) bytes

abbrev pub parts_of : ℕ → List ℕ → Split
parts_of end text = parts_from end [] text

-- The bytes of parts that lie in a text.
abbrev pub bytes_of : List (Bor (List ℕ)) → List (List ℕ)
bytes_of parts = map (λ (part : Bor (List ℕ)). part.now) parts
