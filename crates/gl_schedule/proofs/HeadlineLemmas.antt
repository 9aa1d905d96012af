-- The headline of what a text reads as, and the moments in which its lines are reported.
use Rattle.std.proofs.Common.{◌≡◌, ℕ, ◌+◌, List, [], ◌∷◌, map, Result, Ok, Err, Bool, true, false, not, ◌&&◌, ◌||◌, length, if◌then◌else◌, refl, sym, ◌∙◌, ap, ap₂, subst, ◌==◌}
use Rattle.std.specs.List.{list_any}
use Rattle.gl_base.specs.Bytes.{same_bytes}
use Rattle.gl_gov_rules.specs.Refusals.{are_ids_distinct, is_node_with}
use Rattle.gl_lines.specs.declared.line.Line.{Line}
use Rattle.gl_lines.specs.declared.world.WorldLine.{WorldLine}
use Rattle.gl_base.specs.Steps.{◌>>=◌}
use Rattle.gl_lines.specs.declared.fault.ScheduleFault.{ScheduleFault}
use Rattle.gl_lines.specs.declared.fault.ScheduleFault.TheVariants.{BadLine}
use Rattle.gl_lines.specs.Parsing.{first_line, lines_after}
use Rattle.gl_lines.specs.Worlds.{IsWithinLimits}
use Rattle.gl_lines.proofs.FirstLines.{first_within}
use Rattle.gl_world.specs.declared.settings.Settings.{Settings}
use Rattle.gl_world.specs.Founding.{has_distinct_keys, id_of, node_ids, node_of, numbers_from}
use Rattle.gl_world.specs.Group.{IsGroup}
use Rattle.gl_requests.specs.Ranges.{is_first_state}
use Rattle.gl_requests.specs.declared.genesis.ServiceState.TheVariants.{Opening, Open}
use Rattle.gl_world.proofs.Groups.{group_safe}
use Rattle.gl_schedule.specs.declared.schedule.Schedule.{Schedule}
use Rattle.gl_schedule.specs.declared.schedule.Schedule.TheVariants.{Empty, Service}
use Rattle.gl_schedule.specs.Moments.{KeepsHeadline, PrintsMoments}
use Rattle.gl_schedule.specs.Schedules.{are_apart, has_distinct_ids, reads, service_of, settings_of}
use Rattle.gl_schedule.specs.Output.{output_of}
use Rattle.gl_schedule.proofs.OutputLemmas.{printed_in_moments}

service_keeps : (s : Settings) (lines : List Line) → IsGroup s → KeepsHeadline (Ok (Service s lines))
service_keeps s lines group = group_safe s group (output_of s lines).events

-- a first line names one of the two states in which a service begins
first_state : (b : Bool) → is_first_state (if b then Open else Opening) ≡ true
first_state true = refl
first_state false = refl

-- nodes are told apart by their identifiers
apart_are : (s : Settings) (ns : List ℕ) → are_apart (map (id_of s) ns) ≡ are_ids_distinct (map (node_of s) ns)
apart_are s [] = refl
apart_are s (n ∷ ns) = ap₂ (λ (a b : Bool). not a && b) (again ns) (apart_are s ns)
  where
    again : (ms : List ℕ) → list_any (λ y. same_bytes y (id_of s n)) (map (id_of s) ms) ≡ list_any (is_node_with (id_of s n)) (map (node_of s) ms)
    again [] = refl
    again (m ∷ ms) = ap (λ (b : Bool). same_bytes (id_of s m) (id_of s n) || b) (again ms)

-- the service of a first line is one that there may be
group_service : (w : WorldLine) (s : Settings) → IsWithinLimits w → service_of w ≡ Ok s → IsGroup s
group_service w s limits is = go (has_distinct_keys (settings_of w)) refl (has_distinct_ids (settings_of w)) refl is
  where
    go : (b : Bool) → has_distinct_keys (settings_of w) ≡ b → (c : Bool) → has_distinct_ids (settings_of w) ≡ c →
        ◌≡◌ {A = Result Settings ScheduleFault} (if b && c then Ok (settings_of w) else Err (BadLine 1)) (Ok s) → IsGroup s
    go true distinct true apart p =
        let same : settings_of w ≡ s = cc in
        let group : IsGroup (settings_of w) = record {
          first_state = first_state w.is_open;
          first = limits.some_start;
          starting = limits.few_start;
          joiners = limits.few_join;
          some = limits.some_govern;
          few = limits.few_govern;
          distinct = distinct;
          apart = sym (apart_are (settings_of w) (numbers_from 1 (w.starting + w.joiners))) ∙ apart;
        } in
        subst IsGroup same group
    go true distinct false apart p = absurd (cc)
    go false distinct c apart p = absurd (cc)

-- so is that of a schedule that is read
abbrev HasGroup : Schedule → Type 0
HasGroup Empty = Unit {0}
HasGroup (Service settings lines) = IsGroup settings

abbrev OfGroup : Result Schedule ScheduleFault → Type 0
OfGroup (Err fault) = Unit {0}
OfGroup (Ok schedule) = HasGroup schedule

group_if : (b : Bool) (r : Result Schedule ScheduleFault) → OfGroup r → OfGroup (if b then Ok Empty else r)
group_if true r h = tt
group_if false r h = h

-- whatever is read has such a service
group_read : (given : List ℕ) → OfGroup (reads given)
unfolding reads
group_read given = group_if (length given == 0) _ (first (first_line given) refl)
  where
    last : (s : Settings) → IsGroup s → (r : Result (List Line) ScheduleFault) → OfGroup (r >>= λ lines. Ok (Service s lines))
    last s group (Ok lines) = group
    last s group (Err fault) = tt

    second : (w : WorldLine) (rest : List ℕ) → IsWithinLimits w → (r : Result Settings ScheduleFault) → service_of w ≡ r →
        OfGroup (r >>= λ settings. lines_after (node_ids settings) rest >>= λ lines. Ok (Service settings lines))
    second w rest limits (Ok s) is = last s (group_service w s limits is) (lines_after (node_ids s) rest)
    second w rest limits (Err fault) is = tt

    first : (r : Result (WorldLine × List ℕ) ScheduleFault) → first_line given ≡ r →
        OfGroup (r >>= λ first. service_of first.0 >>= λ settings. lines_after (node_ids settings) first.1 >>= λ lines. Ok (Service settings lines))
    first (Ok (w, rest)) is = second w rest (first_within given w rest is) (service_of w) refl
    first (Err fault) is = tt

keeps : (r : Result Schedule ScheduleFault) → OfGroup r → KeepsHeadline r
keeps (Err fault) one = tt
keeps (Ok Empty) one = tt
keeps (Ok (Service s lines)) one = service_keeps s lines one

-- whatever the bytes
pub keeps_headline : (given : List ℕ) → KeepsHeadline (reads given)
keeps_headline given = keeps (reads given) (group_read given)

prints : (r : Result Schedule ScheduleFault) → PrintsMoments r
prints (Err fault) = tt
prints (Ok Empty) = tt
prints (Ok (Service s lines)) = printed_in_moments s lines

pub prints_moments : (given : List ℕ) → PrintsMoments (reads given)
prints_moments given = prints (reads given)

-- the service of a schedule that is read
pub group_of : (text : List ℕ) (w : WorldLine) (rest : List ℕ) (s : Settings) → first_line text ≡ Ok (w, rest) → service_of w ≡ Ok s → IsGroup s
group_of text w rest s first service = group_service w s (first_within text w rest first) service
