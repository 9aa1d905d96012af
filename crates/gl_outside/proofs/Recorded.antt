-- One call more on the record of a disk in memory.
use Rattle.std.proofs.Common.{◌≡◌, ℕ, zero, suc, ◌+◌, ◌-◌, ◌*◌, ◌/◌, ◌<◌, ◌≤◌, max, Bool, true, false, nat_le, if◌then◌else◌, List, [], ◌∷◌, ◌++◌, length, take, drop, get_or, slice_range, refl, sym, subst, ◌∙◌, ap, arith, length-take, length-drop}
use Rattle.std.proofs.lemmas.List.{take_more, take_all, drop_at, take-append-le, drop-append-le, length-replicate}
use Rattle.std.proofs.lemmas.Bool.Decides.{nat_tests}
use Rattle.std.proofs.Math.Nat.{suc-mul}
use Rattle.gl_outside.specs.Disk.{Step, Kept, Touched, Torn, IsImage, written}
use Rattle.gl_outside.specs.Record.{done_by, step_of, reads_after, steps_after, past_of, gap_of, gaps_of, piece_end, pieces_end, Leads}
use Rattle.gl_outside.specs.Tear.{left_of, torn_write, left_by, left_after}
use Rattle.gl_outside.specs.declared.tear.Tear.TheVariants.{Old, Whole, Half, Filled}
use Rattle.gl_outside.specs.declared.tear.Tear.{Tear}
use Rattle.gl_outside.specs.declared.sure_disk.Call.{Call}
use Rattle.gl_outside.specs.declared.sure_disk.Call.TheVariants.{Wrote, Lost, Synced}
use Rattle.gl_outside.proofs.Tearing.{torn_same, torn_whole, torn_within, reads_written, reads_lost, reads_kept}

reads-push : (pieces bytes : List ℕ) (calls : List Call) (call : Call) → reads_after pieces bytes (calls ++ call ∷ []) ≡ done_by pieces (reads_after pieces bytes calls) call
reads-push pieces bytes [] call = refl
reads-push pieces bytes (one ∷ calls) call = reads-push pieces (done_by pieces bytes one) calls call

steps-push : (pieces bytes : List ℕ) (past : List Step) (calls : List Call) (call : Call) → steps_after pieces bytes past (calls ++ call ∷ []) ≡ step_of (reads_after pieces bytes calls) call ∷ steps_after pieces bytes past calls
steps-push pieces bytes past [] call = refl
steps-push pieces bytes past (one ∷ calls) call = steps-push pieces (done_by pieces bytes one) (step_of bytes one ∷ past) calls call

-- Pieces after those of the calls change nothing.

range-more : (xs ys : List ℕ) (start count : ℕ) → start + count ≤ length xs → slice_range (xs ++ ys) start (start + count) ≡ slice_range xs start (start + count)
range-more xs ys start count there =
    ap (take (start + count - start)) (drop-append-le start xs ys (omega arith))
    ∙ take-append-le (start + count - start) (drop start xs) ys (omega (arith, length-drop start xs))

done-more : (pieces more bytes : List ℕ) (call : Call) → piece_end call ≤ length pieces → done_by (pieces ++ more) bytes call ≡ done_by pieces bytes call
done-more pieces more bytes (Wrote at start count) there = ap (written bytes at) (range-more pieces more start count there)
done-more pieces more bytes (Lost at start count) there = refl
done-more pieces more bytes Synced there = refl

reads-more : (pieces more bytes : List ℕ) (calls : List Call) → pieces_end calls ≤ length pieces → reads_after (pieces ++ more) bytes calls ≡ reads_after pieces bytes calls
reads-more pieces more bytes [] there = refl
reads-more pieces more bytes (one ∷ calls) there =
    ap (λ (b : List ℕ). reads_after (pieces ++ more) b calls) (done-more pieces more bytes one (omega arith))
    ∙ reads-more pieces more (done_by pieces bytes one) calls (omega arith)

steps-more : (pieces more bytes : List ℕ) (past : List Step) (calls : List Call) → pieces_end calls ≤ length pieces → steps_after (pieces ++ more) bytes past calls ≡ steps_after pieces bytes past calls
steps-more pieces more bytes past [] there = refl
steps-more pieces more bytes past (one ∷ calls) there =
    ap (λ (b : List ℕ). steps_after (pieces ++ more) b (step_of bytes one ∷ past) calls) (done-more pieces more bytes one (omega arith))
    ∙ steps-more pieces more (done_by pieces bytes one) (step_of bytes one ∷ past) calls (omega arith)

gaps-push : (pieces bytes : List ℕ) (calls : List Call) (call : Call) → gaps_of pieces bytes (calls ++ call ∷ []) ≡ gaps_of pieces bytes calls + gap_of (reads_after pieces bytes calls) call
gaps-push pieces bytes [] call = omega arith
gaps-push pieces bytes (one ∷ calls) call = omega (arith, gaps-push pieces (done_by pieces bytes one) calls call)

gaps-more : (pieces more bytes : List ℕ) (calls : List Call) → pieces_end calls ≤ length pieces → gaps_of (pieces ++ more) bytes calls ≡ gaps_of pieces bytes calls
gaps-more pieces more bytes [] there = refl
gaps-more pieces more bytes (one ∷ calls) there =
    ap (λ (b : List ℕ). gap_of bytes one + gaps_of (pieces ++ more) b calls) (done-more pieces more bytes one (omega arith))
    ∙ ap (λ (n : ℕ). gap_of bytes one + n) (gaps-more pieces more (done_by pieces bytes one) calls (omega arith))

-- Where the writes joined what reads gave, and one more does, all do.
pub joined_on : (first pieces pieces' more : List ℕ) (calls calls' : List Call) (call : Call) (bytes : List ℕ) → pieces' ≡ pieces ++ more → calls' ≡ calls ++ call ∷ [] → pieces_end calls ≤ length pieces
    → bytes ≡ reads_after pieces first calls → gaps_of pieces first calls ≡ 0 → gap_of bytes call ≡ 0 → gaps_of pieces' first calls' ≡ 0
joined_on first pieces pieces' more calls calls' call bytes is_pieces is_calls there read so_far joins =
    let one_more : gaps_of pieces' first calls' ≡ gaps_of pieces first calls + gap_of (reads_after pieces first calls) call =
    ap (λ (l : List ℕ). gaps_of l first calls') is_pieces
    ∙ ap (gaps_of (pieces ++ more) first) is_calls
    ∙ gaps-push (pieces ++ more) first calls call
    ∙ ap (λ (b : List ℕ). gaps_of (pieces ++ more) first calls + gap_of b call) (reads-more pieces more first calls there)
    ∙ ap (λ (n : ℕ). n + gap_of (reads_after pieces first calls) call) (gaps-more pieces more first calls there) in
    omega (arith, one_more, so_far, ap (λ (b : List ℕ). gap_of b call) read, joins)

pub pieces_end-push : (calls : List Call) (call : Call) → pieces_end (calls ++ call ∷ []) ≡ max (pieces_end calls) (piece_end call)
pieces_end-push [] call = omega arith
pieces_end-push (one ∷ calls) call = omega (arith, pieces_end-push calls call)

-- The step that a call puts on record, with its piece.
pub recorded : (first pieces pieces' more : List ℕ) (calls calls' : List Call) (call : Call) → pieces' ≡ pieces ++ more → calls' ≡ calls ++ call ∷ [] → pieces_end calls ≤ length pieces
    → past_of first pieces' calls' ≡ step_of (reads_after pieces first calls) call ∷ past_of first pieces calls
recorded first pieces pieces' more calls calls' call is_pieces is_calls there =
    ap (λ (l : List ℕ). past_of first l calls') is_pieces
    ∙ ap (past_of first (pieces ++ more)) is_calls
    ∙ steps-push (pieces ++ more) first (Kept first ∷ []) calls call
    ∙ ap (λ (b : List ℕ). step_of b call ∷ steps_after (pieces ++ more) first (Kept first ∷ []) calls) (reads-more pieces more first calls there)
    ∙ ap (λ (past : List Step). step_of (reads_after pieces first calls) call ∷ past) (steps-more pieces more first (Kept first ∷ []) calls there)

-- What reads give after it.
pub read_on : (first pieces pieces' more : List ℕ) (calls calls' : List Call) (call : Call) → pieces' ≡ pieces ++ more → calls' ≡ calls ++ call ∷ [] → pieces_end calls ≤ length pieces
    → reads_after pieces' first calls' ≡ done_by pieces' (reads_after pieces first calls) call
read_on first pieces pieces' more calls calls' call is_pieces is_calls there =
    ap (reads_after pieces' first) is_calls
    ∙ reads-push pieces' first calls call
    ∙ ap (λ (b : List ℕ). done_by pieces' b call) (ap (λ (l : List ℕ). reads_after l first calls) is_pieces ∙ reads-more pieces more first calls there)

-- The last piece is the one that was put after the others.
pub last_piece : (pieces pieces' piece : List ℕ) (start : ℕ) → pieces' ≡ pieces ++ piece → start ≡ length pieces → slice_range pieces' start (start + length piece) ≡ piece
last_piece pieces pieces' piece start is_pieces is_start =
    ap (λ (l : List ℕ). slice_range l start (start + length piece)) is_pieces
    ∙ ap (take (start + length piece - start)) (drop_at pieces piece start (sym is_start))
    ∙ take_all (start + length piece - start) piece (omega arith)

-- What is left of the memory for pieces, when one more was put there.
pub one_call_less : (left end : ℕ) → 0 < left → left * end ≡ (left - 1) * end + end
one_call_less zero end some = absurd (omega arith)
one_call_less (suc left) end some =
    let one_less : left ≡ suc left - 1 = omega arith in
    suc-mul left end ∙ ap (λ (n : ℕ). n * end + end) one_less

-- Images of the calls that were done

pieces_end-at : (calls : List Call) (i : ℕ) (d : Call) → i < length calls → piece_end (get_or calls i d) ≤ pieces_end calls
pieces_end-at [] i d inside = absurd (omega arith)
pieces_end-at (one ∷ calls) zero d inside = omega arith
pieces_end-at (one ∷ calls) (suc i) d inside = omega (arith, pieces_end-at calls i d (omega arith))

pieces_end-take : (n : ℕ) (calls : List Call) → pieces_end (take n calls) ≤ pieces_end calls
pieces_end-take zero calls = omega arith
pieces_end-take (suc n) [] = omega arith
pieces_end-take (suc n) (one ∷ calls) = omega (arith, pieces_end-take n calls)

-- The pieces of the first calls are there.
pub reached : (pieces : List ℕ) (done calls : List Call) (n i : ℕ) (d : Call) → done ≡ take n calls → pieces_end calls ≤ length pieces → i < length done → piece_end (get_or done i d) ≤ length pieces
reached pieces done calls n i d is there inside =
    omega (arith, pieces_end-at done i d inside, ap pieces_end is, pieces_end-take n calls)

leads_on : (step : Step) (past : List Step) (old new : List ℕ) → IsImage past old → Leads step old new → IsImage (step ∷ past) new
leads_on (Kept bytes) past old new from leads = leads
leads_on (Touched at count) past old new from leads = (old, from, leads)

-- One call more of those that were done: what reads give, and what a stop leaves.
pub read_more : (first pieces : List ℕ) (calls : List Call) (i : ℕ) (call : Call) → i < length calls → call ≡ get_or calls i call
    → reads_after pieces first (take (i + 1) calls) ≡ done_by pieces (reads_after pieces first (take i calls)) call
read_more first pieces calls i call below is =
    let more : take (i + 1) calls ≡ take i calls ++ call ∷ [] = take_more calls i call below ∙ ap (λ (x : Call). take i calls ++ x ∷ []) (sym is) in
    ap (reads_after pieces first) more ∙ reads-push pieces first (take i calls) call

pub image_more : (first pieces : List ℕ) (calls : List Call) (i : ℕ) (call : Call) (bytes old new : List ℕ) → i < length calls → call ≡ get_or calls i call
    → bytes ≡ reads_after pieces first (take i calls) → IsImage (past_of first pieces (take i calls)) old → Leads (step_of bytes call) old new
    → IsImage (past_of first pieces (take (i + 1) calls)) new
image_more first pieces calls i call bytes old new below is read from leads =
    let more : take (i + 1) calls ≡ take i calls ++ call ∷ [] = take_more calls i call below ∙ ap (λ (x : Call). take i calls ++ x ∷ []) (sym is) in
    let past : List Step = past_of first pieces (take i calls) in
    let steps : past_of first pieces (take (i + 1) calls) ≡ step_of bytes call ∷ past =
    ap (past_of first pieces) more ∙ steps-push pieces first (Kept first ∷ []) (take i calls) call ∙ ap (λ (b : List ℕ). step_of b call ∷ past) (sym read) in
    subst (λ (p : List Step). IsImage p new) (sym steps) (leads_on (step_of bytes call) past old new from leads)

-- What a stop leaves then, where it tears the writes in one way.
left-push : (pieces : List ℕ) (tear : Tear) (bytes image : List ℕ) (calls : List Call) (call : Call)
    → left_after pieces tear bytes image (calls ++ call ∷ []) ≡ left_by pieces tear (reads_after pieces bytes calls) (left_after pieces tear bytes image calls) call
left-push pieces tear bytes image [] call = refl
left-push pieces tear bytes image (one ∷ calls) call = left-push pieces tear (done_by pieces bytes one) (left_by pieces tear bytes image one) calls call

pub left_more : (first pieces : List ℕ) (tear : Tear) (calls : List Call) (i : ℕ) (call : Call) → i < length calls → call ≡ get_or calls i call
    → left_after pieces tear first first (take (i + 1) calls) ≡ left_by pieces tear (reads_after pieces first (take i calls)) (left_after pieces tear first first (take i calls)) call
left_more first pieces tear calls i call below is =
    let more : take (i + 1) calls ≡ take i calls ++ call ∷ [] = take_more calls i call below ∙ ap (λ (x : Call). take i calls ++ x ∷ []) (sym is) in
    ap (left_after pieces tear first first) more ∙ left-push pieces tear first first (take i calls) call

-- A torn write leaves no more than it may.

le_true : (a b : ℕ) → nat_le a b ≡ true → a ≤ b
le_true a b is = grind (arith, nat_tests)

left_size : (tear : Tear) (piece : List ℕ) → length (left_of tear piece) ≤ length piece
left_size Old piece = omega arith
left_size Whole piece = omega arith
left_size Half piece = omega (arith, length-take (length piece / 2) piece)
left_size (Filled byte) piece = omega (arith, length-replicate (length piece) byte)

torn_when : (tear : Tear) (image : List ℕ) (at : ℕ) (piece : List ℕ) (joins : Bool) → nat_le at (length image) ≡ joins
    → Torn at (length piece) image (if joins then written image at (left_of tear piece) else image)
torn_when tear image at piece true is =
    let joined : at ≤ length image = le_true at (length image) is in
    torn_within at (length piece) at (length (left_of tear piece)) image image (written image at (left_of tear piece))
    (omega arith) (omega (arith, left_size tear piece)) (torn_same at (length piece) image) (torn_whole image at (left_of tear piece) joined)
torn_when tear image at piece false is = torn_same at (length piece) image

range_size : (xs : List ℕ) (start count : ℕ) → start + count ≤ length xs → length (slice_range xs start (start + count)) ≡ count
range_size xs start count there = omega (arith, length-take (start + count - start) (drop start xs), length-drop start xs)

torn_range : (pieces : List ℕ) (tear : Tear) (image : List ℕ) (at start count : ℕ) → start + count ≤ length pieces
    → Torn at count image (torn_write tear image at (slice_range pieces start (start + count)))
torn_range pieces tear image at start count there =
    let piece : List ℕ = slice_range pieces start (start + count) in
    subst (λ (n : ℕ). Torn at n image (torn_write tear image at piece)) (range_size pieces start count there)
    (torn_when tear image at piece (nat_le at (length image)) refl)

pub leads_left : (pieces : List ℕ) (tear : Tear) (bytes image : List ℕ) (call : Call) → piece_end call ≤ length pieces
    → Leads (step_of bytes call) image (left_by pieces tear bytes image call)
leads_left pieces tear bytes image (Wrote at start count) there = torn_range pieces tear image at start count there
leads_left pieces tear bytes image (Lost at start count) there = torn_range pieces tear image at start count there
leads_left pieces tear bytes image Synced there = refl

-- What reads give is among what a stop may leave.

image_done : (pieces bytes : List ℕ) (past : List Step) (call : Call) → piece_end call ≤ length pieces → gap_of bytes call ≡ 0 → IsImage past bytes
    → IsImage (step_of bytes call ∷ past) (done_by pieces bytes call)
image_done pieces bytes past (Wrote at start count) there joins left =
    let piece : List ℕ = slice_range pieces start (start + count) in
    subst (λ (n : ℕ). IsImage (Touched at n ∷ past) (written bytes at piece)) (range_size pieces start count there)
    (reads_written past (Touched at (length piece) ∷ past) bytes (written bytes at piece) at piece (omega arith) refl refl left)
image_done pieces bytes past (Lost at start count) there joins left = reads_lost past (Touched at count ∷ past) bytes bytes at count refl refl left
image_done pieces bytes past Synced there joins left = reads_kept past (Kept bytes ∷ past) bytes bytes refl refl

image_read : (pieces bytes : List ℕ) (past : List Step) (calls : List Call) → pieces_end calls ≤ length pieces → gaps_of pieces bytes calls ≡ 0 → IsImage past bytes
    → IsImage (steps_after pieces bytes past calls) (reads_after pieces bytes calls)
image_read pieces bytes past [] there joined left = left
image_read pieces bytes past (one ∷ calls) there joined left =
    image_read pieces (done_by pieces bytes one) (step_of bytes one ∷ past) calls (omega arith) (omega arith)
    (image_done pieces bytes past one (omega arith) (omega arith) left)

pub as_read : (first pieces : List ℕ) (calls : List Call) (bytes : List ℕ) → pieces_end calls ≤ length pieces → gaps_of pieces first calls ≡ 0 → bytes ≡ reads_after pieces first calls
    → IsImage (past_of first pieces calls) bytes
as_read first pieces calls bytes there joined read =
    subst (IsImage (past_of first pieces calls)) (sym read) (image_read pieces first (Kept first ∷ []) calls there joined refl)
