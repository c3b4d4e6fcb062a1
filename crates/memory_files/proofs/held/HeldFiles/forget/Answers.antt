-- The entries of the name are gone.
use Rattle.std.proofs.Common.{◌∙◌, ap}
use Rattle.memory_files.specs.Held.{look_up}
use Rattle.memory_files.proofs.Lookup.{look_up-filter}
use Rattle.memory_files.proofs.held.HeldFiles.forget.Goals as goal

pub returns-then-is_held-clause-forgotten : goal.returns-then-is_held-clause-forgotten
returns-then-is_held-clause-forgotten c _ =
    ap look_up c.remove_named.ensures ∙ look_up-filter c.args.self.now.entries.items c.args.base.now c.args.part
