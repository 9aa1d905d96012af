use Rattle.std.proofs.Common.{◌≡◌, ◌-◌, ℕ, List, length, Ok, refl, sym, ap, ◌∙◌, arith}
use Rattle.gl_base.specs.Cut.{Unread}
use Rattle.gl_entry.specs.Entry.{frame_size}
use Rattle.gl_entry.specs.Parsing.{frame_at}
use Rattle.gl_entry.proofs.EntryLaws.{frame_taken}
use Rattle.gl_entry.proofs.frame.read_first.Goals as goal

pub overflow_sub-result : goal.overflow_sub-result
overflow_sub-result c =
    let whole : Unread = record { at = c.args.place; bytes = c.args.bytes.now } in
    let read : frame_at whole ≡ Ok (c.in_ok-entry.entry, c.read_frame.new.cut) = ap frame_at (sym c.new_at-cut.ensures) ∙ c.in_ok-entry.ensures in
    let taken = frame_taken whole (c.in_ok-entry.entry, c.read_frame.new.cut) (λ i. omega (arith, c.type_inv.bytes i)) read in
    omega (arith, taken, ap (λ (xs : List ℕ). length xs) c.rest.ensures)

pub returns : goal.returns
returns c =
    let whole : Unread = record { at = c.args.place; bytes = c.args.bytes.now } in
    let read : frame_at whole ≡ Ok (c.in_ok-entry.entry, c.read_frame.new.cut) = ap frame_at (sym c.new_at-cut.ensures) ∙ c.in_ok-entry.ensures in
    let taken = frame_taken whole (c.in_ok-entry.entry, c.read_frame.new.cut) (λ i. omega (arith, c.type_inv.bytes i)) read in
    let size : length c.args.bytes.now - length c.rest.result.now ≡ frame_size c.in_ok-entry.entry =
    omega (arith, taken, ap (λ (xs : List ℕ). length xs) c.rest.ensures) in
    rw (read, size) refl
