use Rattle.std.proofs.Common.{subst, sym}
use Rattle.std.proofs.lemmas.Result.{on_ok_weaker}
use Rattle.gl_lines.specs.declared.line.Line.{Line}
use Rattle.gl_schedule.specs.Play.{Prints}
use Rattle.gl_schedule.specs.Output.{effect_of}
use Rattle.gl_schedule.proofs.machine.Machine.ask_for.Goals as goal

pub returns-in-Ack : goal.returns-in-Ack
returns-in-Ack g c = record {
  prints = on_ok_weaker c.ask_as.result
      (λ prints. subst (λ (l : Line). Prints c.args.number (λ s t. effect_of s t l) c.args.self.now c.ask_as.new.self c.args.out.now.items c.ask_as.new.out.items) (sym c.in-Ack.is) (prints)) c.ask_as.ensures.prints;
}

pub returns-in-Propose : goal.returns-in-Propose
returns-in-Propose g c = record {
  prints = on_ok_weaker c.propose.result
      (λ prints. subst (λ (l : Line). Prints c.args.number (λ s t. effect_of s t l) c.args.self.now c.propose.new.self c.args.out.now.items c.propose.new.out.items) (sym c.in-Propose.is) (prints)) c.propose.ensures.prints;
}

pub returns-in-Ballot : goal.returns-in-Ballot
returns-in-Ballot g c = record {
  prints = on_ok_weaker c.ballot.result
      (λ prints. subst (λ (l : Line). Prints c.args.number (λ s t. effect_of s t l) c.args.self.now c.ballot.new.self c.args.out.now.items c.ballot.new.out.items) (sym c.in-Ballot.is) (prints)) c.ballot.ensures.prints;
}

pub returns-in-Withdraw : goal.returns-in-Withdraw
returns-in-Withdraw g c = record {
  prints = on_ok_weaker c.withdraw.result
      (λ prints. subst (λ (l : Line). Prints c.args.number (λ s t. effect_of s t l) c.args.self.now c.withdraw.new.self c.args.out.now.items c.withdraw.new.out.items) (sym c.in-Withdraw.is) (prints)) c.withdraw.ensures.prints;
}
