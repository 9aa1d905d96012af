use Rattle.gl_turn.proofs.shared.Shared.give.Given as goal

abbrev pub ghosts-count : goal.ghosts-count
ghosts-count g a = record { told = a.made.now }
