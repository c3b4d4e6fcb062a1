use Rattle.std.proofs.Common.{◌≡◌, ◌∙◌, true, subst, sym}
use Rattle.join_row_entries.specs.Roots.{Taken, is_taken}
use Rattle.join_row_entries.proofs.RootLaws.{behind, fresh, none-ahead}
use Rattle.join_row_entries.proofs.roots.TakenRoots.go_on.Goals as goal

pub returns-then-self-block-clause-kept : goal.returns-then-self-block-clause-kept
returns-then-self-block-clause-kept c = λ t taken.
    behind (record { block = c.self.inside.block; items = c.self.inside.items }) c.args.block _ t c.if-self-block.true (subst (λ (x : Taken). is_taken x t ≡ true) (sym c.self.view_is) taken)

pub returns-then-self-block-clause-others : goal.returns-then-self-block-clause-others
returns-then-self-block-clause-others c = λ t le.
    fresh c.args.block 2048 t le
    ∙ sym (none-ahead (record { block = c.self.inside.block; items = c.self.inside.items }) c.args.block t c.if-self-block.true le)
    ∙ (λ i. is_taken (c.self.view_is i) t)
