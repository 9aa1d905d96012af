use Rattle.std.proofs.Common.{◌≡◌, take}
use Rattle.gl_store_book.proofs.configurations.copy_configurations.Given as goal

-- those so far
abbrev pub invariant-loop-configuration : goal.invariant-loop-configuration
invariant-loop-configuration l = l.copies.items ≡ take l.configuration-index l.configurations
