use Rattle.std.proofs.Common.{◌≡◌, ◌∙◌, Bool, true, ap, arith, subst, sym}
use Rattle.std.specs.Prelude.{◌⊎◌}
use Rattle.join_row_entries.specs.Roots.{Taken, is_taken}
use Rattle.join_row_entries.proofs.RootLaws.{goes-on, item-few, takes-itself, takes-more, takes-only}
use Rattle.join_row_entries.proofs.roots.TakenRoots.take.Goals as goal

pub go_on-requires : goal.go_on-requires
go_on-requires c = goes-on c.args.self.now c.args.root (sym c.may_take.ensures ∙ c.if-not-may_take.false)

pub returns-clause-itself : goal.returns-clause-itself
returns-clause-itself c = λ is.
    let few = item-few c.args.self.now c.args.root (sym c.may_take.ensures ∙ c.if-not-may_take.false) in
    takes-itself c.self.inside.block c.self.inside.items c.args.root (ap (λ (x : Taken). x.block) c.self.view_is ∙ c.go_on.ensures.block) (omega (arith, few, c.self.told))

pub returns-clause-kept : goal.returns-clause-kept
returns-clause-kept c = λ t taken.
    let few = item-few c.args.self.now c.args.root (sym c.may_take.ensures ∙ c.if-not-may_take.false) in
    takes-more c.self.inside.block c.self.inside.items c.args.root (ap (λ (x : Taken). x.block) c.self.view_is ∙ c.go_on.ensures.block) (omega (arith, few, c.self.told)) t
    (subst (λ (x : Taken). is_taken x t ≡ true) (sym c.self.view_is) (c.go_on.ensures.kept t taken))

pub returns-clause-others : goal.returns-clause-others
returns-clause-others c = λ t le taken.
    let few = item-few c.args.self.now c.args.root (sym c.may_take.ensures ∙ c.if-not-may_take.false) in
    subst (λ (b : Bool). (b ≡ true) ⊎ (t ≡ c.args.root)) ((λ i. is_taken (c.self.view_is i) t) ∙ c.go_on.ensures.others t le)
    (takes-only c.self.inside.block c.self.inside.items c.args.root (ap (λ (x : Taken). x.block) c.self.view_is ∙ c.go_on.ensures.block) (omega (arith, few, c.self.told)) t le taken)
