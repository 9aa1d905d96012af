use Rattle.std.proofs.Common.{◌≡◌, Ok, map, refl, rules}
use Rattle.std.specs.String.{string_bytes}
use Rattle.gl_commands.specs.Words.{asked}
use Rattle.gl_commands.specs.declared.task.Asked.TheVariants as asks_for
use Rattle.ccfg.proofs.CommandLemmas.{as_asked, no_command, none_asked, nothing_does, nothing_reports, task_does, told}
use Rattle.ccfg.proofs.ExpectedOutputLaws.{no_disk}
use Rattle.ccfg.proofs.program.run.Goals as goal

pub returns-in-Ok-Task-clause-words : goal.returns-in-Ok-Task-clause-words
returns-in-Ok-Task-clause-words g c kinds is =
    let found : asked (map string_bytes c.args.words.now) ≡ Ok (asks_for.Task c.in-Ok-Task.task) = search (rules, c.in-Ok-Task.ensures.found) in
    no_command (asked (map string_bytes c.args.words.now)) (asks_for.Task c.in-Ok-Task.task) kinds found is

pub returns-in-Ok-Task-clause-command : goal.returns-in-Ok-Task-clause-command
returns-in-Ok-Task-clause-command g c command asks =
    let found : asked (map string_bytes c.args.words.now) ≡ Ok (asks_for.Task c.in-Ok-Task.task) = search (rules, c.in-Ok-Task.ensures.found) in
    let h = c.execute.ensures in
    as_asked _ _ _ (asked (map string_bytes c.args.words.now)) (asks_for.Task c.in-Ok-Task.task) command found asks
    (task_does _ _ c.in-Ok-Task.task h.disk h.accepted h.kept h.shown h.not_empty h.unread h.untouched h.moves_to_key h.signed h.spent h.any_moment h.unspent h.foreign h.foreign_bytes h.unread_key h.runs, h.quiet, refl)

pub returns-in-Ok-Node-clause-words : goal.returns-in-Ok-Node-clause-words
returns-in-Ok-Node-clause-words g c kinds is =
    let found : asked (map string_bytes c.args.words.now) ≡ Ok (asks_for.Node c.in-Ok-Node.node) = search (rules, c.in-Ok-Node.ensures.found) in
    no_command (asked (map string_bytes c.args.words.now)) (asks_for.Node c.in-Ok-Node.node) kinds found is

pub returns-in-Ok-Node-clause-command : goal.returns-in-Ok-Node-clause-command
returns-in-Ok-Node-clause-command g c command asks =
    let found : asked (map string_bytes c.args.words.now) ≡ Ok (asks_for.Node c.in-Ok-Node.node) = search (rules, c.in-Ok-Node.ensures.found) in
    let h = c.run_node.ensures in
    as_asked _ _ _ (asked (map string_bytes c.args.words.now)) (asks_for.Node c.in-Ok-Node.node) command found asks
    (record { exact = h.runs; any_moment = h.any_moment; foreign = h.foreign; foreign_bytes = h.foreign_bytes; unread = h.unread }, h.quiet, h.link_quiet)

pub returns-in-Ok-Load-clause-words : goal.returns-in-Ok-Load-clause-words
returns-in-Ok-Load-clause-words g c kinds is =
    let found : asked (map string_bytes c.args.words.now) ≡ Ok (asks_for.Load c.in-Ok-Load.load) = search (rules, c.in-Ok-Load.ensures.found) in
    no_command (asked (map string_bytes c.args.words.now)) (asks_for.Load c.in-Ok-Load.load) kinds found is

pub returns-in-Ok-Load-clause-command : goal.returns-in-Ok-Load-clause-command
returns-in-Ok-Load-clause-command g c command asks =
    let found : asked (map string_bytes c.args.words.now) ≡ Ok (asks_for.Load c.in-Ok-Load.load) = search (rules, c.in-Ok-Load.ensures.found) in
    as_asked _ _ _ (asked (map string_bytes c.args.words.now)) (asks_for.Load c.in-Ok-Load.load) command found asks
    (record { exact = c.run_load.ensures; source = refl; disk = record { same = refl; never = no_disk _ _ _ c.run_load.ensures } }, refl)

pub returns-in-Err-Refused-clause-words : goal.returns-in-Err-Refused-clause-words
returns-in-Err-Refused-clause-words g c kinds is =
    told _ _ _ (asked (map string_bytes c.args.words.now)) c.in-Err-Refused.kind kinds (search (rules, c.in-Err-Refused.ensures.refused)) is c.refuse.ensures refl refl (no_disk _ _ _ c.refuse.ensures) refl

pub returns-in-Err-Refused-clause-command : goal.returns-in-Err-Refused-clause-command
returns-in-Err-Refused-clause-command g c command asks =
    none_asked (asked (map string_bytes c.args.words.now)) c.in-Err-Refused.kind command (search (rules, c.in-Err-Refused.ensures.refused)) asks

pub returns-clause-words : goal.returns-clause-words
returns-clause-words g c kinds is = nothing_reports _ _ refl refl refl refl (search rules) (λ text. search rules) (map string_bytes c.args.words.now) kinds is

pub returns-clause-command : goal.returns-clause-command
returns-clause-command g c command asks = nothing_does _ _ refl refl refl refl (search rules) (λ text. search rules) command
