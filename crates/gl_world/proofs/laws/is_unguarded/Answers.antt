use Rattle.gl_world.proofs.Groups.{group_evident, group_executes, group_governs, group_signs, starter_signs}
use Rattle.gl_world.proofs.laws.is_unguarded.Goals as goal

pub returns : goal.returns
returns c = record {
  executes = λ s h events x leads request. group_executes s h events x leads request;
  governs = λ s h events x leads request. group_governs s h events x leads request;
  signs = λ s h events x leads named leaf low. group_signs s h events x leads named leaf low;
  starters = λ s h events x leads starts leaf low. starter_signs s h events x leads starts leaf low;
  evident = λ s h events x leads. group_evident s h events x leads;
}
