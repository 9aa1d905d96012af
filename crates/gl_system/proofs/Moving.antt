-- How waiting bytes go to a writer.
use Rattle.std.proofs.Common.{ℕ, List, ◌++◌, take, drop, sym, ap, ◌∙◌, append_assoc, take-append-drop, Option}
use Rattle.std.specs.Io.KnownBytes.{Appends}
use Rattle.std.proofs.KnownBytes.{Appends-trans}
use Rattle.gl_system.specs.Outgoing.{Moves}

-- The writer took so many of the bytes that were left.
pub moves_more : (n : ℕ) {waiting left : List ℕ} {held holds now : Option (List ℕ)} →
    Moves waiting left held holds → Appends holds now (take n left) →
    Moves waiting (drop n left) held now
moves_more n {waiting} {left} {held} {holds} {now} moved took = record {
  prefix = moved.prefix ++ take n left;
  parted = moved.parted ∙ ap (λ l. moved.prefix ++ l) (sym (take-append-drop n left))
      ∙ sym (append_assoc moved.prefix (take n left) (drop n left));
  written = Appends-trans held holds now moved.prefix (take n left) moved.written took;
}
