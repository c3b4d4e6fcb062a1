use Rattle.std.proofs.Common.{◌≡◌, ◌∙◌, ap, refl, subst, sym, ◌++◌, List, ℕ}
use Rattle.std.specs.Prelude.{None, Ok}
use Rattle.key_attrs.specs.Keyed.{key_types, key_values, more_types}
use Rattle.bt_meta.specs.declared.records.TreeHead.{TreeHead}
use Rattle.bt_tuples.specs.Tuples.{plain_tid}
use Rattle.bt_tuples.proofs.Plain.{outcome, values-are}
use Rattle.bt_tuples.proofs.entries.plain_parts.Goals as goal

pub returns : goal.returns
returns c =
    let tuple = c.args.tuple.now in
    let head : TreeHead = c.in_ok-head.head in
    let h = c.in_ok-head.ensures in (
      record {
        kind = ap (λ (t : TreeHead). t.kind) (sym h.is) ∙ h.kind;
        tid_is = c.plain_tid.ensures ∙ ap plain_tid h.is;
        values = λ specs more. values-are specs more tuple head h c.requires.long ∙ ap (λ (body : List ℕ). key_values (key_types specs ++ more_types more) body None) (sym c.body_of.ensures);
        told = λ specs more key rest killed told count.
            outcome specs more tuple head h c.requires.long key rest
            (subst (λ (body : List ℕ). key_values (key_types specs ++ more_types more) body None ≡ Ok (key ++ rest)) c.body_of.ensures told) killed c.plain_tid.result count
            (ap plain_tid (sym h.is) ∙ sym c.plain_tid.ensures);
      },
      refl,
    )
