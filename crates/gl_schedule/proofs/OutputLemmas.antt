-- What the fold over the lines of a schedule keeps.
use Rattle.std.proofs.Common.{◌≡◌, ℕ, suc, ◌+◌, ◌<◌, List, [], ◌∷◌, ◌++◌, length, take, drop, get_or, fold, refl, sym, ◌∙◌, ap, arith, append_assoc, append-nil}
use Rattle.std.proofs.lemmas.List.{take_more, take-append-drop}
use Rattle.std.proofs.Math.Seq.{take-append_seam}
use Rattle.std.proofs.lemmas.List.Sums.{fold-append}
use Rattle.gl_rules.specs.World.{begin, after, happens, run}
use Rattle.gl_rules.specs.World as event
use Rattle.gl_world.specs.declared.settings.Settings.{Settings}
use Rattle.gl_world.specs.Service.{ServiceEvent}
use Rattle.gl_world.specs.Group.{book_of}
use Rattle.gl_world.specs.World.{ServiceWorld, start_of}
use Rattle.gl_lines.specs.declared.line.Line.{Line}
use Rattle.gl_schedule.specs.Moments.{IsPrintedInMoments}
use Rattle.gl_schedule.specs.Output.{Output, Effect, Happens, Governs, Answers, effect_of, reported, printed_at_start, printed_effect, output_of}

-- one line more is counted
pub printed_lines : (s : Settings) (t : Output) (line : Line) → (reported s t line).lines ≡ suc t.lines
printed_lines s t line = go (effect_of s t line)
  where
    go : (e : Effect) → (printed_effect s t e).lines ≡ suc t.lines
    go (Happens e) = refl
    go (Governs x signer request) = refl
    go (Answers text) = refl

fold_lines : (s : Settings) (t : Output) (lines : List Line) → (fold (reported s) t lines).lines ≡ t.lines + length lines
fold_lines s t [] = omega arith
fold_lines s t (line ∷ lines) = omega (arith, fold_lines s (reported s t line) lines, printed_lines s t line)

-- all lines are counted, the first too
pub lines_printed : (s : Settings) (lines : List Line) → (output_of s lines).lines ≡ 1 + length lines
unfolding output_of
lines_printed s lines = fold_lines s (printed_at_start s) lines

-- the line at a place is reported after those before it
pub printed_more : (s : Settings) (lines : List Line) (i : ℕ) (line : Line) → i < length lines → line ≡ get_or lines i line →
    output_of s (take (i + 1) lines) ≡ reported s (output_of s (take i lines)) line
unfolding output_of
printed_more s lines i line within at =
    ap (λ (ls : List Line). fold (reported s) (printed_at_start s) ls) (take_more lines i line within)
    ∙ fold-append (reported s) (printed_at_start s) (take i lines) (get_or lines i line ∷ [])
    ∙ ap (λ (l : Line). reported s (fold (reported s) (printed_at_start s) (take i lines)) l) (sym at)

-- What is reported later goes on from what is reported before.
pub record GoesOn (t u : Output) : Type 0 where
  pub later : List ServiceEvent
  pub events : u.events ≡ t.events ++ later
  pub more : List ℕ
  pub text : u.text ≡ t.text ++ more

on_same : (t : Output) → GoesOn t t
on_same t = record { later = []; events = sym (append-nil t.events); more = []; text = sym (append-nil t.text) }

on_then : (t u v : Output) → GoesOn t u → GoesOn u v → GoesOn t v
on_then t u v a b = record {
  later = a.later ++ b.later;
  events = b.events ∙ ap (λ (l : List ServiceEvent). l ++ b.later) a.events ∙ append_assoc t.events a.later b.later;
  more = a.more ++ b.more;
  text = b.text ∙ ap (λ (l : List ℕ). l ++ b.more) a.text ∙ append_assoc t.text a.more b.more;
}

on_effect : (s : Settings) (t : Output) (e : Effect) → GoesOn t (printed_effect s t e)
on_effect s t (Happens e) = record { later = e ∷ []; events = refl; more = _; text = refl }
on_effect s t (Governs x signer request) = record { later = event.Govern x request ∷ []; events = refl; more = _; text = refl }
on_effect s t (Answers text) = record { later = []; events = sym (append-nil t.events); more = _; text = refl }

pub on_line : (s : Settings) (t : Output) (line : Line) → GoesOn t (reported s t line)
on_line s t line = on_effect s t (effect_of s t line)

on_fold : (s : Settings) (t : Output) (lines : List Line) → GoesOn t (fold (reported s) t lines)
on_fold s t [] = on_same t
on_fold s t (line ∷ lines) =
    on_then t (reported s t line) (fold (reported s) (reported s t line) lines) (on_effect s t (effect_of s t line)) (on_fold s (reported s t line) lines)

-- all lines go on from a prefix of them
pub on_lines : (s : Settings) (lines : List Line) (k : ℕ) → GoesOn (output_of s (take k lines)) (output_of s lines)
unfolding output_of
on_lines s lines k =
    let split : fold (reported s) (printed_at_start s) lines ≡ fold (reported s) (fold (reported s) (printed_at_start s) (take k lines)) (drop k lines) =
    ap (λ (ls : List Line). fold (reported s) (printed_at_start s) ls) (sym (take-append-drop k lines)) ∙ fold-append (reported s) (printed_at_start s) (take k lines) (drop k lines) in
    rw split (on_fold s (fold (reported s) (printed_at_start s) (take k lines)) (drop k lines))

-- the world is that of the events
abbrev IsMade : Settings → Output → Type 0
IsMade s t = t.world ≡ after (book_of s) (start_of s) t.events

pub one_event_more : (s : Settings) (es : List ServiceEvent) (e : ServiceEvent) (w : ServiceWorld) → run (book_of s) (es ++ e ∷ []) w ≡ (happens (book_of s) (run (book_of s) es w) e).world
unfolding run
one_event_more s [] e w = refl
one_event_more s (f ∷ es) e w = one_event_more s es e (happens (book_of s) w f).world

made_effect : (s : Settings) (t : Output) (e : Effect) → IsMade s t → IsMade s (printed_effect s t e)
made_effect s t (Happens e) made =
    ap (λ (w : ServiceWorld). (happens (book_of s) w e).world) made ∙ sym (one_event_more s t.events e (begin (start_of s)))
made_effect s t (Governs x signer request) made =
    ap (λ (w : ServiceWorld). (happens (book_of s) w (event.Govern x request)).world) made ∙ sym (one_event_more s t.events (event.Govern x request) (begin (start_of s)))
made_effect s t (Answers text) made = made

made_fold : (s : Settings) (t : Output) (lines : List Line) → IsMade s t → IsMade s (fold (reported s) t lines)
made_fold s t [] made = made
made_fold s t (line ∷ lines) made = made_fold s (reported s t line) lines (made_effect s t (effect_of s t line) made)

made_at_start : (s : Settings) → IsMade s (printed_at_start s)
unfolding run
made_at_start s = refl

made : (s : Settings) (lines : List Line) → IsMade s (output_of s lines)
unfolding output_of
made s lines = made_fold s (printed_at_start s) lines (made_at_start s)

-- each line is told in a moment of all events
pub printed_in_moments : (s : Settings) (lines : List Line) → IsPrintedInMoments s lines
printed_in_moments s lines k =
    let on = on_lines s lines k in
    let here = (output_of s (take k lines)).events in (
      length here,
      made s (take k lines)
          ∙ ap (after (book_of s) (start_of s)) (sym (take-append_seam here on.later) ∙ ap (take (length here)) (sym on.events)),
    )
