-- Each entry of the name is let go.
use Rattle.std.proofs.Common.{rules, not}
use Rattle.std.proofs.lemmas.Fn.{filter_same}
use Rattle.memory_files.specs.Held.{is_named}
use Rattle.memory_files.proofs.held.remove_named.Goals as goal

pub returns : goal.returns
returns c =
    filter_same _ (λ e. not (is_named c.args.base.now c.args.part e)) _ (λ x b f' called. search rules) _ _ c.retain.ensures.filtered
