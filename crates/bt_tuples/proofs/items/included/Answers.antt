use Rattle.std.proofs.Common.{◌≡◌, ◌∙◌, ◌++◌, List, length, drop, sym, ap}
use Rattle.std.specs.Prelude.{Ok}
use Rattle.std.proofs.Math.Seq.{drop-append_seam}
use Rattle.key_orders.specs.declared.columns.Value.{Value}
use Rattle.key_attrs.specs.Keyed.{KeyValues}
use Rattle.bt_tuples.proofs.items.included.Goals as goal

same : (a b : List Value) → ◌≡◌ {A = KeyValues} (Ok a) (Ok b) → a ≡ b
same a b e = cc

pub returns-in-Ok : goal.returns-in-Ok
returns-in-Ok c key rest is count none =
    let both = same _ _ (sym c.in-Ok.ensures.value ∙ is) in
    sym (drop-append_seam c.read_covering.new.key c.in-Ok.rest)
    ∙ (λ i. drop (length c.read_covering.new.key) (both i))
    ∙ ap (λ n. drop n (key ++ rest)) (c.in-Ok.ensures.count ∙ sym count)
    ∙ drop-append_seam key rest
