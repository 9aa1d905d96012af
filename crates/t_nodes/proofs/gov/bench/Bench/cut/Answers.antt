use Rattle.std.proofs.Common.{◌≡◌, ◌≤◌, ℕ, Bool, true, false, Option, None, Some}
use Rattle.std.specs.Option.{IfSome, is_none}
use Rattle.gl_gov_rules.specs.declared.row.GovernedRows.{GovernedRows}
use Rattle.t_nodes.proofs.gov.bench.Bench.cut.Goals as goal

-- without a base each seqno is above it
above_none : (base : Option GovernedRows) (to : ℕ) → is_none base ≡ true → IfSome base (λ (b : GovernedRows). b.seqno ≤ to)
above_none None to none = tt
above_none (Some b) to none = absurd (let no : ◌≡◌ {A = Bool} false true = none in cc)

pub cut-requires : goal.cut-requires
cut-requires c = record { whole = above_none c.args.self.now.state.base c.args.to c.args.self.now.unbased }
