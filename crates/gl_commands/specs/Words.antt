-- What the words ask for that the program is called with, as the library for command lines reads
-- them.
use Rattle.std.specs.Prelude.{◌≡◌, ℕ, List, [], ◌∷◌, Option, None, Some, Result, Ok, Err, Bool, ◌&&◌, ◌^◌, ◌-◌, is_some, map, nat_le, nat_lt, unwrap_or, codes, if◌then◌else◌}
use Rattle.std.specs.List.{list_all}
use Rattle.std.specs.Result.{result_ok}
use Rattle.std.specs.Str.{bytes_eq}
use Rattle.std.specs.Str.Parse.{digits_value}
use Rattle.clap.specs.Faults.{fault_of}
use Rattle.clap.specs.Kinds.{Kinds, IsAmong}
use Rattle.clap.specs.Simple.{subcommand_of}
use Rattle.clap.specs.Walk.{Row, Text, all_of, first_of}
use Rattle.clap.specs.declared.error.kind.ErrorKind.{ErrorKind}
use Rattle.clap.specs.declared.error.kind.ErrorKind.TheVariants as kinds
use Rattle.gl_journal.specs.declared.key.KeyKind.{KeyKind}
use Rattle.gl_journal.specs.declared.key.KeyKind.TheVariants.{Service, Node, Member}
use Rattle.gl_keyfile.specs.declared.signature.Signing.TheVariants.{Endorsement, Opening, Request}
use Rattle.gl_lines.specs.Numbers.{is_decimal}
use Rattle.gl_lines.specs.Words.{hex_sized}
use Rattle.gl_lines.specs.declared.fault.LineFault.{LineFault}
use Rattle.gl_hss.specs.declared.types.Types.{Types}
use Rattle.gl_hss.specs.declared.types.Types.TheVariants.{H5W4, H5W8, H10W4, H10W8}
use Rattle.gl_commands.specs.Commands.{program}
use Rattle.gl_commands.specs.declared.task.Asked.{Asked}
use Rattle.gl_commands.specs.declared.task.Asked.TheVariants as asks
use Rattle.gl_commands.specs.declared.task.LoadTask.{LoadTask}
use Rattle.gl_commands.specs.declared.task.NodeTask.{NodeTask}
use Rattle.gl_commands.specs.declared.task.Task.{Task}
use Rattle.gl_commands.specs.declared.task.Task.TheVariants as tasks
use Rattle.gl_commands.specs.declared.task.WordsFault.{WordsFault}
use Rattle.gl_commands.specs.declared.task.WordsFault.TheVariants as faults

abbrev pub encoded_key : Result (List ℕ) LineFault → Result (List ℕ) ErrorKind
encoded_key (Ok bytes) = Ok bytes
encoded_key (Err fault) = Err kinds.ValueValidation

-- The key is a word of 120 digits of lower-case hexadecimal.
abbrev pub asked_identity : Option Text → Result (List ℕ) ErrorKind
asked_identity None = Err kinds.MissingRequiredArgument
asked_identity (Some word) = encoded_key (hex_sized word 60)

-- What the command with a name asks for under a key.
abbrev pub task_under : Text → List ℕ → Task
task_under name key =
    if bytes_eq name (codes "audit") then tasks.Audit key else tasks.Verify key

abbrev pub asked_under : Text → Result (List ℕ) ErrorKind → Result Task ErrorKind
asked_under name (Ok key) = Ok (task_under name key)
asked_under name (Err fault) = Err fault

-- The kind of key that a word names.
abbrev pub named_kind : Text → Option KeyKind
named_kind word =
    if bytes_eq word (codes "service") then Some Service
    else (if bytes_eq word (codes "node") then Some Node
    else (if bytes_eq word (codes "member") then Some Member else None))

-- The parameter set that a word names.
abbrev pub named_types : Text → Option Types
named_types word =
    if bytes_eq word (codes "h5w4") then Some H5W4
    else (if bytes_eq word (codes "h5w8") then Some H5W8
    else (if bytes_eq word (codes "h10w4") then Some H10W4
    else (if bytes_eq word (codes "h10w8") then Some H10W8 else None)))

abbrev pub valid_value : {A : Type 0} → Option A → Result A ErrorKind
valid_value None = Err kinds.InvalidValue
valid_value (Some value) = Ok value

-- What an option asks for whose word has to be a name.
abbrev pub asked_name : {A : Type 0} → (Text → Option A) → Option Text → Result A ErrorKind
asked_name named None = Err kinds.MissingRequiredArgument
asked_name named (Some word) = valid_value (named word)

-- The kind of key is tried before the types.
abbrev pub asked_key : Result KeyKind ErrorKind → Result Types ErrorKind → Result Task ErrorKind
asked_key (Err fault) types = Err fault
asked_key (Ok kind) (Err fault) = Err fault
asked_key (Ok kind) (Ok types) = Ok (tasks.Keygen kind types)

abbrev pub asked_keygen : Option Text → Option Text → Result Task ErrorKind
asked_keygen kind types = asked_key (asked_name named_kind kind) (asked_name named_types types)

-- A member has a number from 1 to 255.
abbrev pub is_member : ℕ → Bool
is_member number = nat_le 1 number && nat_le number 255

-- It is encoded in decimal, without a sign and without a leading zero.
abbrev pub encoded_member : Text → Result ℕ ErrorKind
encoded_member word =
    if is_decimal word && is_member (digits_value 10 word) then Ok (digits_value 10 word)
    else Err kinds.ValueValidation

abbrev pub asked_member : Option Text → Result ℕ ErrorKind
asked_member None = Err kinds.MissingRequiredArgument
asked_member (Some word) = encoded_member word

-- The service's key is tried before the member's number.
abbrev pub asked_request : Result (List ℕ) ErrorKind → Result ℕ ErrorKind → Result Task ErrorKind
asked_request (Err fault) member = Err fault
asked_request (Ok key) (Err fault) = Err fault
asked_request (Ok key) (Ok member) = Ok (tasks.Sign (Request key member))

abbrev pub asked_sign : Option Text → Option Text → Result Task ErrorKind
asked_sign identity member = asked_request (asked_identity identity) (asked_member member)

-- A number of 64 bits, encoded in decimal, without a sign and without a leading zero.
abbrev pub is_number : Text → Bool
is_number word = is_decimal word && nat_lt (digits_value 10 word) (2 ^ 64)

abbrev pub asked_number : Option Text → Result ℕ ErrorKind
asked_number None = Err kinds.MissingRequiredArgument
asked_number (Some word) =
    if is_number word then Ok (digits_value 10 word) else Err kinds.ValueValidation

abbrev pub asked_numbers : Option (List Text) → Result (List ℕ) ErrorKind
asked_numbers None = Err kinds.MissingRequiredArgument
asked_numbers (Some words) =
    if list_all is_number words then Ok (map (digits_value 10) words)
    else Err kinds.ValueValidation

-- The threshold is tried before the members' numbers.
abbrev pub asked_dealing : Result ℕ ErrorKind → Result (List ℕ) ErrorKind → Result Task ErrorKind
asked_dealing (Err fault) members = Err fault
asked_dealing (Ok threshold) (Err fault) = Err fault
asked_dealing (Ok threshold) (Ok members) = Ok (tasks.Deal threshold members)

abbrev pub asked_deal : Option Text → Option (List Text) → Result Task ErrorKind
asked_deal threshold members = asked_dealing (asked_number threshold) (asked_numbers members)

-- What an option asks for whose word is a number in a range, and what one that isn't there does.
abbrev pub number_within : ℕ → ℕ → ℕ → Option Text → Result ℕ ErrorKind
number_within default least greatest None = Ok default
number_within default least greatest (Some word) =
    if is_number word && nat_le least (digits_value 10 word)
    && nat_le (digits_value 10 word) greatest
    then Ok (digits_value 10 word) else Err kinds.ValueValidation

-- So many ticks without word of a leader make a node stand for election.
abbrev pub asked_ticks : Option Text → Result ℕ ErrorKind
asked_ticks word = number_within 10 1 (2 ^ 32 - 1) word

-- On so many threads a node works beside its own: on none as yet.
abbrev pub asked_workers : Option Text → Result ℕ ErrorKind
asked_workers word = number_within 0 0 0 word

-- So often a node may ask its link for what comes next.
abbrev pub asked_turns : Option Text → Result ℕ ErrorKind
asked_turns word = number_within (2 ^ 64 - 1) 1 (2 ^ 64 - 1) word

-- 32 bytes, a node's identifier or a seed: 64 digits of lower-case hexadecimal.
abbrev pub encoded_digest : Text → Option (List ℕ)
encoded_digest word = result_ok (hex_sized word 32)

abbrev pub is_node : Text → Bool
is_node word = is_some (encoded_digest word)

abbrev pub node_of : Text → List ℕ
node_of word = unwrap_or (encoded_digest word) []

abbrev pub asked_peers : Option (List Text) → Result (List (List ℕ)) ErrorKind
asked_peers None = Ok []
asked_peers (Some words) =
    if list_all is_node words then Ok (map node_of words)
    else Err kinds.ValueValidation

-- The ticks are tried first, then the workers, the turns and the peers.
abbrev pub asked_serving :
    Result ℕ ErrorKind → Result ℕ ErrorKind → Result ℕ ErrorKind →
    Result (List (List ℕ)) ErrorKind → Result NodeTask ErrorKind
asked_serving (Err fault) workers turns peers = Err fault
asked_serving (Ok ticks) (Err fault) turns peers = Err fault
asked_serving (Ok ticks) (Ok workers) (Err fault) peers = Err fault
asked_serving (Ok ticks) (Ok workers) (Ok turns) (Err fault) = Err fault
asked_serving (Ok ticks) (Ok workers) (Ok turns) (Ok peers)
    = Ok (record { ticks = ticks; turns = turns; peers = peers })

abbrev pub asked_node :
    Option Text → Option Text → Option Text → Option (List Text) → Result NodeTask ErrorKind
asked_node ticks workers turns peers =
    asked_serving (asked_ticks ticks) (asked_workers workers) (asked_turns turns)
    (asked_peers peers)

abbrev pub encoded_seed : Option (List ℕ) → Result (List ℕ) ErrorKind
encoded_seed None = Err kinds.ValueValidation
encoded_seed (Some seed) = Ok seed

abbrev pub asked_seed : Option Text → Result (List ℕ) ErrorKind
asked_seed None = Err kinds.MissingRequiredArgument
asked_seed (Some word) = encoded_seed (encoded_digest word)

-- The count of requests is tried before the seed.
abbrev pub asked_making : Result ℕ ErrorKind → Result (List ℕ) ErrorKind → Result LoadTask ErrorKind
asked_making (Err fault) seed = Err fault
asked_making (Ok count) (Err fault) = Err fault
asked_making (Ok count) (Ok seed) = Ok (record { count = count; seed = seed })

abbrev pub asked_load : Option Text → Option Text → Result LoadTask ErrorKind
asked_load count seed = asked_making (asked_number count) (asked_seed seed)

-- The task that a command asks for with these values of its options, but `node` and `load`.
abbrev pub asked_task : Text → List Row → Result Task ErrorKind
asked_task name rows =
    if bytes_eq name (codes "replay") then Ok tasks.Replay
    else (if bytes_eq name (codes "endorse") then Ok (tasks.Sign Endorsement)
    else (if bytes_eq name (codes "genesis") then Ok (tasks.Sign Opening)
    else (if bytes_eq name (codes "recover") then Ok tasks.Recover
    else (if bytes_eq name (codes "deal")
    then asked_deal (first_of (codes "threshold") rows) (all_of (codes "members") rows)
    else (if bytes_eq name (codes "keygen")
    then asked_keygen (first_of (codes "kind") rows) (first_of (codes "types") rows)
    else (if bytes_eq name (codes "sign")
    then asked_sign (first_of (codes "identity") rows) (first_of (codes "member") rows)
    else asked_under name (asked_identity (first_of (codes "identity") rows))))))))

abbrev pub as_task : Result Task ErrorKind → Result Asked ErrorKind
as_task (Ok task) = Ok (asks.Task task)
as_task (Err fault) = Err fault

abbrev pub as_node : Result NodeTask ErrorKind → Result Asked ErrorKind
as_node (Ok node) = Ok (asks.Node node)
as_node (Err fault) = Err fault

abbrev pub as_load : Result LoadTask ErrorKind → Result Asked ErrorKind
as_load (Ok load) = Ok (asks.Load load)
as_load (Err fault) = Err fault

-- How the node is to serve that `node` asks for with these values of its options and words.
abbrev pub asked_by_node : List Row → Result NodeTask ErrorKind
asked_by_node rows =
    asked_node (first_of (codes "ticks") rows) (first_of (codes "workers") rows)
    (first_of (codes "turns") rows) (all_of (codes "peers") rows)

-- Which ledger `load` asks for with these values of its options.
abbrev pub asked_by_load : List Row → Result LoadTask ErrorKind
asked_by_load rows = asked_load (first_of (codes "count") rows) (first_of (codes "seed") rows)

-- What a command asks for with these values of its options.
abbrev pub asked_named : Text → List Row → Result Asked ErrorKind
asked_named name rows =
    if bytes_eq name (codes "node") then as_node (asked_by_node rows)
    else (if bytes_eq name (codes "load") then as_load (asked_by_load rows)
    else as_task (asked_task name rows))

abbrev pub asked_command : Option (Text × List Row) → Result Asked ErrorKind
asked_command None = Err kinds.MissingSubcommand
asked_command (Some command) = asked_named command.0 command.1

-- The faults that the library finds come first. Of the values one kind of fault is reported.
abbrev pub unless_faulty : Kinds → Result Asked ErrorKind → Result Asked Kinds
unless_faulty [] (Ok found) = Ok found
unless_faulty [] (Err kind) = Err (kind ∷ [])
unless_faulty (kind ∷ more) found = Err (kind ∷ more)

-- What the words ask for, or the kinds of fault of which one is reported.
unfoldable pub asked : List Text → Result Asked Kinds
asked words = unless_faulty (fault_of program words) (asked_command (subcommand_of program words))

-- The words ask for nothing, and this is the kind of fault that is reported.
abbrev pub Refuses : Result Asked Kinds → ErrorKind → Type 0
Refuses asked kind = (printed : Kinds) × (asked ≡ Err printed) × IsAmong kind printed

-- Memory ran out, or nothing is asked for, and this kind of fault alone is reported.
abbrev pub RefusesOnly : {A : Type 0} → Result A ErrorKind → WordsFault → Type 0
RefusesOnly asked faults.NoMemory = Unit {0}
RefusesOnly asked (faults.Refused kind) = asked ≡ Err kind

-- Memory ran out, or the words ask for nothing.
abbrev pub RefusesWords : Result Asked Kinds → WordsFault → Type 0
RefusesWords asked faults.NoMemory = Unit {0}
RefusesWords asked (faults.Refused kind) = Refuses asked kind
