-- Reading the lines of a schedule one after another.
use Rattle.std.proofs.Common.{◌≡◌, ℕ, suc, ◌+◌, ◌<◌, ◌≤◌, Bool, true, false, List, [], ◌∷◌, ◌++◌, length, drop, get_or, Result, Ok, Err, refl, sym, subst, ◌∙◌, ap, append_assoc, append-nil, arith, Bor, add-one, drop-cons, if◌then◌else◌}
use Rattle.std.proofs.Math.ListN.{drop_of_length-le}
use Rattle.gl_lines.specs.declared.line.Line.{Line}
use Rattle.gl_base.specs.Answers.{Fails}
use Rattle.gl_base.specs.Steps.{◌>>=◌}
use Rattle.gl_base.specs.declared.or_no_memory.OrNoMemory.{OrNoMemory}
use Rattle.gl_base.specs.declared.or_no_memory.OrNoMemory.TheVariants.{NoMemory, Fault}
use Rattle.gl_lines.specs.declared.fault.LineFault.{LineFault}
use Rattle.gl_lines.specs.declared.fault.ScheduleFault.{ScheduleFault}
use Rattle.gl_lines.specs.declared.fault.ScheduleFault.TheVariants.{BadLine}
use Rattle.gl_lines.specs.AtLines.{AtLine}
use Rattle.gl_lines.specs.Parts.{bytes_of}
use Rattle.gl_lines.specs.Parsing.{line_of, lines_read, or_line}

-- the lines that were read, and those to be read
abbrev pub with_lines : List Line → Result (List Line) ScheduleFault → Result (List Line) ScheduleFault
with_lines prefix (Ok lines) = Ok (prefix ++ lines)
with_lines prefix (Err number) = Err number

pub with_no_lines : (r : Result (List Line) ScheduleFault) → with_lines [] r ≡ r
with_no_lines (Ok lines) = refl
with_no_lines (Err number) = refl

-- a line, which has a number, before others
before : ℕ → Result Line LineFault → Result (List Line) ScheduleFault → Result (List Line) ScheduleFault
before number first others = or_line number first >>= λ line. others >>= λ rest. Ok (line ∷ rest)

one_more : (number : ℕ) (prefix : List Line) (line : Line) (r : Result (List Line) ScheduleFault) → with_lines prefix (before number (Ok line) r) ≡ with_lines (prefix ++ line ∷ []) r
unfolding before
one_more number prefix line (Ok lines) = ap Ok (sym (append_assoc prefix (line ∷ []) lines))
one_more number prefix line (Err other) = refl

first_line : (ids : List (List ℕ)) (number : ℕ) (line : List ℕ) (lines : List (List ℕ)) (open_after : Bool) →
    lines_read ids number (line ∷ lines) open_after ≡ before number (line_of ids line) (lines_read ids (suc number) lines open_after)
unfolding before lines_read
first_line ids number line lines open_after = refl

line_here : (lines : List (Bor (List ℕ))) (i : ℕ) (d : Bor (List ℕ)) → i < length lines → bytes_of (drop i lines) ≡ (get_or lines i d).now ∷ bytes_of (drop (i + 1) lines)
line_here lines i d within =
    let here : drop i lines ≡ get_or lines i d ∷ drop (i + 1) lines = rw add-one (drop-cons lines i d within) in
    ap bytes_of here

read_here : (ids : List (List ℕ)) (lines : List (Bor (List ℕ))) (i : ℕ) (d : Bor (List ℕ)) (open_after : Bool) → i < length lines →
    lines_read ids (2 + i) (bytes_of (drop i lines)) open_after
    ≡ before (2 + i) (line_of ids (get_or lines i d).now) (lines_read ids (2 + (i + 1)) (bytes_of (drop (i + 1) lines)) open_after)
read_here ids lines i d open_after within =
    let next : suc (2 + i) ≡ 2 + (i + 1) = omega arith in
    ap (λ (ls : List (List ℕ)). lines_read ids (2 + i) ls open_after) (line_here lines i d within)
    ∙ first_line ids (2 + i) (get_or lines i d).now (bytes_of (drop (i + 1) lines)) open_after
    ∙ ap (λ (n : ℕ). before (2 + i) (line_of ids (get_or lines i d).now) (lines_read ids n (bytes_of (drop (i + 1) lines)) open_after)) next

-- one more line that reads
pub read_step : (ids : List (List ℕ)) (R : Result (List Line) ScheduleFault) (prefix prefix' : List Line) (lines : List (Bor (List ℕ))) (i : ℕ) (d : Bor (List ℕ)) (line : Line) (open_after : Bool) → i < length lines →
    line_of ids (get_or lines i d).now ≡ Ok line → prefix' ≡ prefix ++ line ∷ [] →
    with_lines prefix (lines_read ids (2 + i) (bytes_of (drop i lines)) open_after) ≡ R →
    with_lines prefix' (lines_read ids (2 + (i + 1)) (bytes_of (drop (i + 1) lines)) open_after) ≡ R
read_step ids R prefix prefix' lines i d line open_after within reads taken so_far =
    let rest = lines_read ids (2 + (i + 1)) (bytes_of (drop (i + 1) lines)) open_after in
    ap (λ (f : List Line). with_lines f rest) taken
    ∙ sym (one_more (2 + i) prefix line rest)
    ∙ ap (λ (o : Result Line LineFault). with_lines prefix (before (2 + i) o rest)) (sym reads)
    ∙ ap (with_lines prefix) (sym (read_here ids lines i d open_after within))
    ∙ so_far

-- one that says nothing
pub bad_step : (ids : List (List ℕ)) (stop : OrNoMemory LineFault) (answer : OrNoMemory ScheduleFault) (R : Result (List Line) ScheduleFault) (prefix : List Line) (lines : List (Bor (List ℕ))) (i : ℕ) (d : Bor (List ℕ)) (open_after : Bool) → i < length lines →
    Fails stop (line_of ids (get_or lines i d).now) → AtLine (i + 2) stop answer →
    with_lines prefix (lines_read ids (2 + i) (bytes_of (drop i lines)) open_after) ≡ R → Fails answer R
unfolding before
bad_step ids NoMemory answer R prefix lines i d open_after within stopped is so_far = subst (λ (a : OrNoMemory ScheduleFault). Fails a R) (sym is) tt
bad_step ids (Fault fault) answer R prefix lines i d open_after within stopped is so_far =
    let number : 2 + i ≡ i + 2 = omega arith in
    subst (λ (a : OrNoMemory ScheduleFault). Fails a R) (sym is) (
    sym so_far
    ∙ ap (with_lines prefix) (read_here ids lines i d open_after within)
    ∙ ap (λ (o : Result Line LineFault). with_lines prefix (before (2 + i) o (lines_read ids (2 + (i + 1)) (bytes_of (drop (i + 1) lines)) open_after))) stopped
    ∙ ap (λ (n : ℕ). Err (BadLine n)) number
    )

-- and after the last one
at_end : (ids : List (List ℕ)) (R : Result (List Line) ScheduleFault) (prefix : List Line) (lines : List (Bor (List ℕ))) (i : ℕ) (open_after : Bool) → length lines ≤ i →
    with_lines prefix (lines_read ids (2 + i) (bytes_of (drop i lines)) open_after) ≡ R → R ≡ with_lines prefix (if open_after then Err (BadLine (2 + i)) else Ok [])
unfolding lines_read
at_end ids R prefix lines i open_after past so_far =
    sym so_far ∙ ap (λ (ls : List (Bor (List ℕ))). with_lines prefix (lines_read ids (2 + i) (bytes_of ls) open_after)) (drop_of_length-le lines past)

pub open_step : (ids : List (List ℕ)) (R : Result (List Line) ScheduleFault) (prefix : List Line) (lines : List (Bor (List ℕ))) (i : ℕ) (open_after : Bool) → length lines ≤ i → i ≤ length lines → open_after ≡ true →
    with_lines prefix (lines_read ids (2 + i) (bytes_of (drop i lines)) open_after) ≡ R → R ≡ Err (BadLine (length lines + 2))
open_step ids R prefix lines i open_after past within is_open so_far =
    let number : 2 + i ≡ length lines + 2 = omega arith in
    at_end ids R prefix lines i open_after past so_far ∙ ap (λ (b : Bool). with_lines prefix (if b then Err (BadLine (2 + i)) else Ok [])) is_open ∙ ap (λ (n : ℕ). Err (BadLine n)) number

pub end_step : (ids : List (List ℕ)) (R : Result (List Line) ScheduleFault) (prefix : List Line) (lines : List (Bor (List ℕ))) (i : ℕ) (open_after : Bool) → length lines ≤ i → open_after ≡ false →
    with_lines prefix (lines_read ids (2 + i) (bytes_of (drop i lines)) open_after) ≡ R → R ≡ Ok prefix
end_step ids R prefix lines i open_after past none so_far =
    at_end ids R prefix lines i open_after past so_far ∙ ap (λ (b : Bool). with_lines prefix (if b then Err (BadLine (2 + i)) else Ok [])) none ∙ ap Ok (append-nil prefix)
