-- A line of the text, and what a sink was given of it.
use Rattle.std.proofs.Common.{◌≡◌, ℕ, suc, List, [], ◌++◌, Option, Result, Ok, Err, OnErr, OnOk, codes, decimal, sym, ◌∙◌, ap}
use Rattle.std.specs.Io.KnownBytes.{Appends}
use Rattle.gl_outside.specs.Sink.{AppendsPrefix}
use Rattle.gl_outside.proofs.TextPrefixes.{prefix_none}
use Rattle.gl_rules.specs.World.{run}
use Rattle.gl_world.specs.declared.settings.Settings.{Settings}
use Rattle.gl_world.specs.Held.{Held, seen_events, world_now}
use Rattle.gl_world.specs.Members.{Signed}
use Rattle.gl_lines.specs.declared.line.Line.{Line}
use Rattle.gl_schedule.specs.declared.line_request.LineRequest.{LineRequest}
use Rattle.gl_schedule.specs.Play.{Extends, ExtendsPrefix, GoesOn, IsIn, PrintsEffect}
use Rattle.gl_schedule.specs.Playing.{Playing}
use Rattle.gl_schedule.specs.Text.{numbered}
use Rattle.gl_schedule.specs.Output.{Output, effect_of, printed_at_start, reported}
use Rattle.gl_schedule.proofs.OutputLemmas.{on_line}

-- at the start nothing happened
pub is_in_at_start : (s : Settings) (held : Held) (rs : List LineRequest) (ids : List (List ℕ)) (signers : Signed) → held ≡ record { settings = s; events = [] } → rs ≡ [] → ids ≡ [] →
    signers ≡ record { settings = s; signed = [] } → IsIn (printed_at_start s) (record { world = held; requests = rs; proposals = ids; signed = signers.signed })
unfolding run
is_in_at_start s held rs ids signers world requests proposals members = record {
  world = sym (ap world_now world);
  events = sym (ap seen_events world);
  requests = sym requests;
  proposals = sym proposals;
  signed = sym (ap (λ (k : Signed). k.signed) members);
}

-- the line that tells it
pub line_is : (t : Output) (line : Line) (old new : Playing) (number : ℕ) (before after : List ℕ) → suc t.lines ≡ number → before ≡ decimal number ++ codes " " →
    PrintsEffect t (effect_of old.world.settings t line) old new before after → (reported old.world.settings t line).text ≡ t.text ++ (after ++ codes "\n")
line_is t line old new number before after is begun prints =
    prints.reported
    ∙ ap (λ (n : ℕ). t.text ++ numbered n prints.text) is
    ∙ ap (λ (l : List ℕ). t.text ++ (l ++ codes "\n")) (ap (λ (l : List ℕ). l ++ prints.text) (sym begun) ∙ sym prints.written)

pub goes_on_with : (t : Output) (line : Line) (old new : Playing) (before after : List ℕ) → PrintsEffect t (effect_of old.world.settings t line) old new before after → GoesOn t line old new
goes_on_with t line old new before after prints = record { settings = prints.settings; is_in = prints.is_in }

-- nothing is a prefix of what any line adds
pub nothing_added : (s : Settings) (t : Output) (line : Line) (a : Option (List ℕ)) → ExtendsPrefix a a t.text (reported s t line).text
nothing_added s t line a = let on = on_line s t line in (on.more, on.text, prefix_none a on.more)

-- a prefix of a line's text is a prefix of what the line adds
pub prefix_in : {T E : Type 0} (r : Result T E) (a b : Option (List ℕ)) (text : List ℕ) (F G : Output → Type 0) (longer : Output → List ℕ) →
    ((t : Output) → F t → G t → longer t ≡ t.text ++ text) → OnErr r (AppendsPrefix a b text) → OnErr r ((t : Output) → F t → G t → ExtendsPrefix a b t.text (longer t))
prefix_in (Ok v) a b text F G longer is prefix = tt
prefix_in (Err e) a b text F G longer is prefix = λ t f g. (text, is t f g, prefix)

-- and so is the whole of it
pub whole_in : {T E : Type 0} (r : Result T E) (a b : Option (List ℕ)) (text : List ℕ) (F G : Output → Type 0) (longer : Output → List ℕ) →
    ((t : Output) → F t → G t → longer t ≡ t.text ++ text) → OnOk r (Appends a b text) → OnOk r ((t : Output) → F t → G t → Extends a b t.text (longer t))
whole_in (Ok v) a b text F G longer is whole = λ t f g. (text, is t f g, whole)
whole_in (Err e) a b text F G longer is whole = tt

-- what holds anyway
pub always_ok : {T E P : Type 0} (r : Result T E) → P → OnOk r P
always_ok (Ok t) p = p
always_ok (Err e) p = tt
