use Rattle.std.proofs.Common.{◌≡◌, ◌+◌, ◌<◌, Bor, List, ℕ, drop, length, refl, subst, sym, take, ◌∙◌}
use Rattle.std.specs.Prelude.{IfSome, Option, None, Some, false, is_some, slice_get}
use Rattle.std.specs.Option.{option_copied}
use Rattle.std.proofs.lemmas.Option.{IfSome_then}
use Rattle.key_orders.specs.declared.columns.ColType.{ColType}
use Rattle.varlena_attrs.specs.Forms.{Attribute, Plain}
use Rattle.varlena_attrs.specs.Inline.{IsLayout}
use Rattle.varlena_attrs.specs.InTurn.{AreRead, IsAttributeOf, TupleParts}
use Rattle.varlena_attrs.specs.declared.plain.PlainPiece.{PlainPiece}
use Rattle.varlena_attrs.proofs.InTurn.{plain_there}
use Rattle.varlena_attrs.proofs.in_turn.TupleColumns.plain_value.Goals as goal

no_nulls : (nulls : Option (Bor (List ℕ))) → is_some nulls ≡ false → option_copied nulls ≡ None
no_nulls None e = refl
no_nulls (Some bits) e = absurd cc

-- what holds of a value that was found
abbrev Holds : Option PlainPiece → (k start : ℕ) → TupleParts → Type 0
Holds found k start t = IfSome found (λ p. ((list : List Attribute) → IsLayout t.columns k start → AreRead t list → slice_get list k ≡ Some (Plain (take p.len (drop p.start t.body))))
    × ((ctype : ColType) → slice_get t.columns k ≡ Some ctype → IsAttributeOf ctype t.body (Plain (take p.len (drop p.start t.body)))))

both : (c : goal.After-plain_piece) → Holds c.plain_piece.result c.args.k c.args.start c.args.self.now
both c =
    let t : TupleParts = record { columns = c.self.inside.columns.now; body = c.self.inside.body.now; nulls = option_copied c.self.inside.nulls; natts = c.self.inside.natts } in
    let same : t ≡ c.args.self.now = c.self.view_is in
    let lt : c.args.k < length t.columns = subst (λ (s : TupleParts). c.args.k < length s.columns) (sym same) c.requires.inside in
    let none = no_nulls c.self.inside.nulls (sym c.is_some.ensures ∙ c.if-is_some.false) in
    subst (Holds c.plain_piece.result c.args.k c.args.start) same
    (IfSome_then c.plain_piece.result c.plain_piece.ensures.step (λ p step.
    plain_there t _ c.args.k c.args.start _ (p.start + p.len) lt none c.if-self-k.false c.if-self-start.false c.self.invariant.alignments step))

pub returns-clause-read : goal.returns-clause-read
returns-clause-read c = λ list layout are. IfSome_then c.plain_piece.result (both c) (λ p holds. holds.0 list layout are)

pub returns-clause-fits : goal.returns-clause-fits
returns-clause-fits c = IfSome_then c.plain_piece.result (both c) (λ p holds. holds.1)
