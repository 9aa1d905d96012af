use Rattle.ccfg.proofs.KeyLifeLemmas as lives
use Rattle.ccfg.proofs.laws.law_of_leaves.Goals as goal

pub returns-clause-begins : goal.returns-clause-begins
returns-clause-begins g c = λ kind types r does honest. lives.begins kind types r does honest

pub returns-clause-any_moment : goal.returns-clause-any_moment
returns-clause-any_moment g c = λ key spent past asked r link e leaves from may does. lives.any_moment key spent past asked r link e leaves from may does

pub returns-clause-once : goal.returns-clause-once
returns-clause-once g c = λ key spent past runs leaves follow. (lives.runs_tell key runs spent past leaves follow).once

pub returns-clause-spent : goal.returns-clause-spent
returns-clause-spent g c = λ key spent past runs leaves follow. (lives.runs_tell key runs spent past leaves follow).each
