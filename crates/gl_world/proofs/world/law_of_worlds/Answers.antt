use Rattle.std.proofs.Common.{◌≡◌, ◌≤◌, ◌+◌, ℕ, true, length, nat_le, refl, arith}
use Rattle.std.proofs.lemmas.Bool.{and_from}
use Rattle.std.proofs.lemmas.Bool.Decides.{nat_tests}
use Rattle.gl_rules.specs.World.{run}
use Rattle.gl_world.specs.declared.settings.Settings.{Settings}
use Rattle.gl_world.specs.Founding.{node_ids}
use Rattle.gl_world.specs.Held.{is_number}
use Rattle.gl_world.proofs.NodeIds.{count_is}
use Rattle.gl_world.proofs.world.law_of_worlds.Goals as goal

numbered : (s : Settings) (number : ℕ) → 1 ≤ number → number ≤ s.starting + s.joiners → is_number (length (node_ids s)) number ≡ true
numbered s number low high =
    let first : nat_le 1 number ≡ true = grind (arith, nat_tests, low) in
    let last : nat_le number (length (node_ids s)) ≡ true = grind (arith, nat_tests, high, count_is s) in
    and_from (nat_le 1 number) (nat_le number (length (node_ids s))) first last

pub returns : goal.returns
unfolding run
returns c = record {
  nodes = numbered;
  silent = λ s. refl;
  timeout = λ s h. let first = h.first in numbered s 1 (omega arith) (omega arith);
  delivery = λ s message. refl;
}
