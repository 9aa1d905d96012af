-- What a run has written so far, beside what was reported.
use Rattle.std.proofs.Common.{◌≡◌, ℕ, suc, ◌+◌, ◌<◌, ◌≤◌, List, [], ◌∷◌, ◌++◌, length, take, get_or, Option, refl, sym, ◌∙◌, ap, subst, arith}
use Rattle.std.specs.List.{AllByRecursion}
use Rattle.std.specs.Io.KnownBytes.{Appends}
use Rattle.std.proofs.KnownBytes.{Appends-trans}
use Rattle.std.proofs.lemmas.List.{take_all, length-take-le, length_push, length-append}
use Rattle.gl_outside.specs.Sink.{AppendsPrefix}
use Rattle.gl_outside.proofs.TextPrefixes.{prefix_after, prefix_before}
use Rattle.gl_world.specs.declared.settings.Settings.{Settings}
use Rattle.gl_lines.specs.declared.line.Line.{Line}
use Rattle.gl_schedule.specs.Play.{Extends, ExtendsPrefix, GoesOn, IsIn}
use Rattle.gl_schedule.specs.Playing.{Playing}
use Rattle.gl_schedule.specs.Output.{Output, output_of, printed_at_start, reported}
use Rattle.gl_schedule.proofs.OutputLemmas.{lines_printed, on_lines, printed_more}

-- The text of the first line and of so many after it was written, and the machine is in their
-- world.
pub record Played (old now : Option (List ℕ)) (s : Settings) (lines : List Line) (i : ℕ) (m : Playing) : Type 0 where
  pub settings : m.world.settings ≡ s
  pub is_in : IsIn (output_of s (take i lines)) m
  pub written : Appends old now (output_of s (take i lines)).text

-- the number of the next line
next_number : (s : Settings) (lines : List Line) (i : ℕ) → i < length lines → suc (output_of s (take i lines)).lines ≡ i + 2
next_number s lines i within = omega (arith, lines_printed s (take i lines), length-take-le i lines (omega arith))

-- one more line
pub goes_on : (old mid new : Option (List ℕ)) (s : Settings) (lines : List Line) (i : ℕ) (line : Line) (m n : Playing) → Played old mid s lines i m → i < length lines →
    line ≡ get_or lines i line →
    ((t : Output) → IsIn t m → suc t.lines ≡ i + 2 → Extends mid new t.text (reported m.world.settings t line).text) →
    ((t : Output) → IsIn t m → suc t.lines ≡ i + 2 → GoesOn t line m n) → Played old new s lines (i + 1) n
goes_on old mid new s lines i line m n p within at more moved =
    let so_far = output_of s (take i lines) in
    let next : output_of s (take (i + 1) lines) ≡ reported m.world.settings so_far line =
    printed_more s lines i line within at ∙ ap (λ (u : Settings). reported u so_far line) (sym p.settings) in
    let added = more so_far p.is_in (next_number s lines i within) in
    let g = moved so_far p.is_in (next_number s lines i within) in
    record {
      settings = g.settings ∙ p.settings;
      is_in = subst (λ (t : Output). IsIn t n) (sym next) g.is_in;
      written = subst (λ (t : List ℕ). Appends old new t) (sym (ap (λ (t : Output). t.text) next ∙ added.1))
          (Appends-trans old mid new so_far.text added.0 p.written added.2);
    }

-- a prefix of one more line is a prefix of the whole
pub stops : (old mid new : Option (List ℕ)) (s : Settings) (lines : List Line) (i : ℕ) (line : Line) (m : Playing) → Played old mid s lines i m → i < length lines →
    line ≡ get_or lines i line →
    ((t : Output) → IsIn t m → suc t.lines ≡ i + 2 → ExtendsPrefix mid new t.text (reported m.world.settings t line).text) → AppendsPrefix old new (output_of s lines).text
stops old mid new s lines i line m p within at prefix =
    let so_far = output_of s (take i lines) in
    let next : output_of s (take (i + 1) lines) ≡ reported m.world.settings so_far line =
    printed_more s lines i line within at ∙ ap (λ (u : Settings). reported u so_far line) (sym p.settings) in
    let added = prefix so_far p.is_in (next_number s lines i within) in
    let on = on_lines s lines (i + 1) in
    let here : (output_of s (take (i + 1) lines)).text ≡ so_far.text ++ added.0 = ap (λ (t : Output). t.text) next ∙ added.1 in
    subst (λ (t : List ℕ). AppendsPrefix old new t) (sym (on.text ∙ ap (λ (t : List ℕ). t ++ on.more) here))
    (prefix_before old new (so_far.text ++ added.0) on.more (prefix_after old mid new so_far.text added.0 p.written added.2))

-- a prefix of the first line is one too
pub begins : (old new : Option (List ℕ)) (s : Settings) (lines : List Line) → AppendsPrefix old new (printed_at_start s).text → AppendsPrefix old new (output_of s lines).text
unfolding output_of
begins old new s lines prefix =
    let on = on_lines s lines 0 in
    subst (λ (t : List ℕ). AppendsPrefix old new t) (sym on.text) (prefix_before old new (printed_at_start s).text on.more prefix)

-- nothing but the schedule's own line
pub begun : (old now : Option (List ℕ)) (s : Settings) (lines : List Line) (m : Playing) → m.world.settings ≡ s → IsIn (printed_at_start s) m →
    Appends old now (printed_at_start s).text → Played old now s lines 0 m
unfolding output_of
begun old now s lines m settings is_in written = record {
  settings = settings;
  is_in = is_in;
  written = written;
}

-- all of it
pub ends : (old now : Option (List ℕ)) (s : Settings) (lines : List Line) (i : ℕ) (m : Playing) → Played old now s lines i m → length lines ≤ i → Appends old now (output_of s lines).text
ends old now s lines i m p past = subst (λ (ls : List Line). Appends old now (output_of s ls).text) (take_all i lines past) p.written

-- ---- the line after those that were played

pub line_within : (before after lines : List Line) (line : Line) → before ++ line ∷ after ≡ lines → length before < length lines
line_within [] after lines line all = omega (arith, ap length all)
line_within (l ∷ before) after lines line all = rw (← all) (omega (arith, line_within before after (before ++ line ∷ after) line refl))

there : (before after : List Line) (line : Line) → line ≡ get_or (before ++ line ∷ after) (length before) line
there [] after line = refl
there (l ∷ before) after line = there before after line

pub line_there : (before after lines : List Line) (line : Line) → before ++ line ∷ after ≡ lines → line ≡ get_or lines (length before) line
line_there before after lines line all = rw (← all) (there before after line)

one_of : (P : Line → Type 0) (before after : List Line) (line : Line) → AllByRecursion P (before ++ line ∷ after) → P line
one_of P [] after line all = all.0
one_of P (l ∷ before) after line all = one_of P before after line all.1

pub line_fits : (P : Line → Type 0) (before after lines : List Line) (line : Line) → before ++ line ∷ after ≡ lines → AllByRecursion P lines → P line
line_fits P before after lines line is all = one_of P before after line (subst (λ (ls : List Line). AllByRecursion P ls) (sym is) all)

pub goes_on_after : (old mid new : Option (List ℕ)) (s : Settings) (before after lines : List Line) (number : ℕ) (line : Line) (m n : Playing) →
    Played old mid s lines (length before) m → before ++ line ∷ after ≡ lines → number ≡ length before + 2 →
    ((t : Output) → IsIn t m → suc t.lines ≡ number → Extends mid new t.text (reported m.world.settings t line).text) →
    ((t : Output) → IsIn t m → suc t.lines ≡ number → GoesOn t line m n) → Played old new s lines (length (before ++ line ∷ [])) n
goes_on_after old mid new s before after lines number line m n p all numbered more moved =
    subst (λ (k : ℕ). Played old new s lines k n) (sym (length_push before line))
    (goes_on old mid new s lines (length before) line m n p (line_within before after lines line all) (line_there before after lines line all)
    (λ t is_in next. more t is_in (next ∙ sym numbered)) (λ t is_in next. moved t is_in (next ∙ sym numbered)))

pub stops_after : (old mid new : Option (List ℕ)) (s : Settings) (before after lines : List Line) (number : ℕ) (line : Line) (m : Playing) →
    Played old mid s lines (length before) m → before ++ line ∷ after ≡ lines → number ≡ length before + 2 →
    ((t : Output) → IsIn t m → suc t.lines ≡ number → ExtendsPrefix mid new t.text (reported m.world.settings t line).text) → AppendsPrefix old new (output_of s lines).text
stops_after old mid new s before after lines number line m p all numbered prefix =
    stops old mid new s lines (length before) line m p (line_within before after lines line all) (line_there before after lines line all)
    (λ t is_in next. prefix t is_in (next ∙ sym numbered))

pub ends_with : (old now : Option (List ℕ)) (s : Settings) (before lines : List Line) (m : Playing) → Played old now s lines (length before) m → before ++ [] ≡ lines →
    Appends old now (output_of s lines).text
ends_with old now s before lines m p all = ends old now s lines (length before) m p (omega (arith, ap length all, length-append before []))
