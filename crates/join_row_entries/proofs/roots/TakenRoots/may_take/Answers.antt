use Rattle.std.proofs.Common.{◌≡◌, not, nat_lt, false, get_or, subst}
use Rattle.join_row_entries.specs.Roots.{Taken, may_take}
use Rattle.join_row_entries.proofs.RootLaws.{in-other-block, in-this-block}
use Rattle.join_row_entries.proofs.roots.TakenRoots.may_take.Goals as goal

pub returns-then-root-self : goal.returns-then-root-self
returns-then-root-self c =
    let root = c.args.root in
    subst (λ (x : Taken). nat_lt c.self.inside.block root.block ≡ may_take x root) c.self.view_is
    (in-other-block (record { block = c.self.inside.block; items = c.self.inside.items }) root c.if-item-eq0.false c.if-item-ge-ITEMS.false c.if-root-self.true)

pub returns : goal.returns
returns c =
    let root = c.args.root in
    subst (λ (x : Taken). not (get_or c.self.inside.items root.item false) ≡ may_take x root) c.self.view_is
    (in-this-block (record { block = c.self.inside.block; items = c.self.inside.items }) root c.if-item-eq0.false c.if-item-ge-ITEMS.false c.if-root-self.false)
