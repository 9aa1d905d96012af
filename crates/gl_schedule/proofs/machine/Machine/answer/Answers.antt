use Rattle.std.proofs.Common.{subst, sym}
use Rattle.std.proofs.lemmas.Result.{on_ok_weaker}
use Rattle.gl_lines.specs.declared.line.Line.{Line}
use Rattle.gl_schedule.specs.Play.{Prints}
use Rattle.gl_schedule.specs.Output.{effect_of}
use Rattle.gl_schedule.proofs.machine.Machine.answer.Goals as goal

pub returns-in-Deliver : goal.returns-in-Deliver
returns-in-Deliver g c = record {
  prints = on_ok_weaker c.deliver.result
      (λ prints. subst (λ (l : Line). Prints c.args.number (λ s t. effect_of s t l) c.args.self.now c.deliver.new.self c.args.out.now.items c.deliver.new.out.items) (sym c.in-Deliver.is) (prints c.args.number)) c.deliver.ensures.prints;
}

pub returns-in-Join : goal.returns-in-Join
returns-in-Join g c = record {
  prints = on_ok_weaker c.join.result
      (λ prints. subst (λ (l : Line). Prints c.args.number (λ s t. effect_of s t l) c.args.self.now c.join.new.self c.args.out.now.items c.join.new.out.items) (sym c.in-Join.is) (prints)) c.join.ensures.prints;
}

pub returns-in-Mark : goal.returns-in-Mark
returns-in-Mark g c = record {
  prints = on_ok_weaker c.mark.result
      (λ prints. subst (λ (l : Line). Prints c.args.number (λ s t. effect_of s t l) c.args.self.now c.mark.new.self c.args.out.now.items c.mark.new.out.items) (sym c.in-Mark.is) (prints)) c.mark.ensures.prints;
}

pub returns-in-Again : goal.returns-in-Again
returns-in-Again g c = record {
  prints = on_ok_weaker c.repeat.result
      (λ prints. subst (λ (l : Line). Prints c.args.number (λ s t. effect_of s t l) c.args.self.now c.repeat.new.self c.args.out.now.items c.repeat.new.out.items) (sym c.in-Again.is) (prints)) c.repeat.ensures.prints;
}

pub returns-in-Status : goal.returns-in-Status
returns-in-Status g c = record {
  prints = on_ok_weaker c.print_status.result
      (λ prints. subst (λ (l : Line). Prints c.args.number (λ s t. effect_of s t l) c.args.self.now c.args.self.now c.args.out.now.items c.print_status.new.out.items) (sym c.in-Status.is) (prints c.args.number)) c.print_status.ensures.prints;
}

pub returns-in-Stage : goal.returns-in-Stage
returns-in-Stage g c = record {
  prints = on_ok_weaker c.print_stage.result
      (λ prints. subst (λ (l : Line). Prints c.args.number (λ s t. effect_of s t l) c.args.self.now c.args.self.now c.args.out.now.items c.print_stage.new.out.items) (sym c.in-Stage.is) (prints c.args.number)) c.print_stage.ensures.prints;
}

pub returns-in-Ids : goal.returns-in-Ids
returns-in-Ids g c = record {
  prints = on_ok_weaker c.print_ids.result
      (λ prints. subst (λ (l : Line). Prints c.args.number (λ s t. effect_of s t l) c.args.self.now c.args.self.now c.args.out.now.items c.print_ids.new.out.items) (sym c.in-Ids.is) (prints c.args.number)) c.print_ids.ensures.prints;
}

pub returns-in-Ledger : goal.returns-in-Ledger
returns-in-Ledger g c = record {
  prints = on_ok_weaker c.print_ledger.result
      (λ prints. subst (λ (l : Line). Prints c.args.number (λ s t. effect_of s t l) c.args.self.now c.args.self.now c.args.out.now.items c.print_ledger.new.out.items) (sym c.in-Ledger.is) (prints c.args.number)) c.print_ledger.ensures.prints;
}
