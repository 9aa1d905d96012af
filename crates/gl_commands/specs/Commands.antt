-- The command line, as the library for command lines has it.
use Rattle.std.specs.Prelude.{◌≡◌, Some, ⊤, true, false, codes}
use Rattle.clap.specs.Lexer.{usize_max}
use Rattle.clap.specs.Simple.{App, app_of, new_app, new_rule, on_top, with_rule, with_subcommand}
use Rattle.clap.specs.Walk.{Rule, Text}
use Rattle.clap.specs.declared.builder.command.Command.{Command}
use Rattle.clap.specs.declared.builder.command.Command.TheViews.{out-Command}

-- `--NAME WORD`, which has to be there.
abbrev pub required_option : Text → Rule
required_option name = record (new_rule name) { long = Some name; required = true }

-- `--NAME WORD`, which may be there.
abbrev pub optional_option : Text → Rule
optional_option name = record (new_rule name) { long = Some name }

-- Words that stand by themselves, of which one at least has to be there.
abbrev pub required_words : Text → Rule
required_words name = record (new_rule name) {
  required = true;
  range = Some (record { start_inclusive = 1; end_inclusive = usize_max });
}

-- Words that stand by themselves, if there are any.
abbrev pub optional_words : Text → Rule
optional_words name = record (new_rule name) {
  range = Some (record { start_inclusive = 1; end_inclusive = usize_max });
}

abbrev pub replay_command : App
replay_command = new_app (codes "replay")

abbrev pub verify_command : App
verify_command = with_rule (new_app (codes "verify")) (required_option (codes "identity"))

abbrev pub audit_command : App
audit_command = with_rule (new_app (codes "audit")) (required_option (codes "identity"))

abbrev pub keygen_command : App
keygen_command =
    with_rule (with_rule (new_app (codes "keygen")) (required_option (codes "kind")))
    (required_option (codes "types"))

abbrev pub deal_command : App
deal_command =
    with_rule (with_rule (new_app (codes "deal")) (required_option (codes "threshold")))
    (required_words (codes "members"))

abbrev pub endorse_command : App
endorse_command = new_app (codes "endorse")

abbrev pub genesis_command : App
genesis_command = new_app (codes "genesis")

abbrev pub sign_command : App
sign_command =
    with_rule (with_rule (new_app (codes "sign")) (required_option (codes "identity")))
    (required_option (codes "member"))

abbrev pub recover_command : App
recover_command = new_app (codes "recover")

abbrev pub node_command : App
node_command =
    with_rule (with_rule (with_rule (with_rule (new_app (codes "node"))
    (optional_option (codes "ticks"))) (optional_option (codes "workers")))
    (optional_option (codes "turns"))) (optional_words (codes "peers"))

abbrev pub load_command : App
load_command =
    with_rule (with_rule (new_app (codes "load")) (required_option (codes "count")))
    (required_option (codes "seed"))

-- The program without its commands. Its words are those after its name; one of them has to be a
-- command, of which `help` is none.
abbrev pub bare_program : App
bare_program = on_top (λ s. record s {
  has_version = true;
  no_binary_name = true;
  subcommand_required = true;
  disable_help_subcommand = true;
}) (new_app (codes "ccfg"))

-- With the commands that use no disk but `deal`.
unfoldable pub diskless_program : App
diskless_program =
    with_subcommand
    (with_subcommand (with_subcommand bare_program replay_command.top) verify_command.top)
    audit_command.top

-- And with the one that begins a key, and the one that deals a secret.
unfoldable pub keyless_program : App
keyless_program =
    with_subcommand (with_subcommand diskless_program keygen_command.top) deal_command.top

-- And with those that sign once with a key.
unfoldable pub nodeless_program : App
nodeless_program =
    with_subcommand
    (with_subcommand (with_subcommand keyless_program endorse_command.top) genesis_command.top)
    sign_command.top

-- And with the one that recovers a service, the one that serves as a node, and the one that makes a
-- ledger.
unfoldable pub program : App
program =
    with_subcommand
    (with_subcommand (with_subcommand nodeless_program recover_command.top) node_command.top)
    load_command.top

-- All of it, for a proof that computes with it.
unfoldable pub whole_program : ⊤
unfolding program nodeless_program keyless_program diskless_program
whole_program = tt

-- The command is this one, with no option that holds for others too.
abbrev pub IsCommand : App → Command → Type 0
IsCommand app command = (app_of command ≡ app) × ((out-Command command).has_globals ≡ false)
