use Rattle.std.proofs.Common.{◌≡◌, ◌<◌, ℕ, length, subst, sym, arith}
use Rattle.std.proofs.lemmas.List.Elements.{All-get_or}
use Rattle.std.specs.Option.{option_copied}
use Rattle.key_orders.specs.Types.{HasAlignment}
use Rattle.varlena_attrs.specs.InTurn.{IsReadOn, TupleParts}
use Rattle.varlena_attrs.proofs.InTurn.{fits_there, read_next, read_there, unread}
use Rattle.varlena_attrs.proofs.in_turn.read_on.Goals as goal

pub returns-in-Err-clause-read : goal.returns-in-Err-clause-read
returns-in-Err-clause-read c =
    let t : TupleParts = record { columns = c.args.columns.now; body = c.args.body.now; nulls = option_copied c.args.nulls; natts = c.args.natts } in
    let lt : c.loop-j.j < length c.args.columns.now = omega (arith, c.loop-j-test.true, c.loop-j.auto.j-end, c.requires.inside) in
    unread t c.loop-j.j c.loop-j.place _ lt c.loop-j.invariant c.in-Err.field-0 (sym c.in-Err.ensures.fault)

pub loop-j-preserved : goal.loop-j-preserved
loop-j-preserved c =
    let t : TupleParts = record { columns = c.args.columns.now; body = c.args.body.now; nulls = option_copied c.args.nulls; natts = c.args.natts } in
    let lt : c.loop-j.j < length c.args.columns.now = omega (arith, c.loop-j-test.true, c.loop-j.auto.j-end, c.requires.inside) in
    read_next t c.loop-j.j c.loop-j.place _ lt c.loop-j.invariant c.in-Ok.ensures.next.0 c.in-Ok.next (sym c.in-Ok.ensures.next.1) c.in-Ok.ensures.within

pub returns-in-Ok-attribute_soon-clause-read : goal.returns-in-Ok-attribute_soon-clause-read
returns-in-Ok-attribute_soon-clause-read c =
    let t : TupleParts = record { columns = c.args.columns.now; body = c.args.body.now; nulls = option_copied c.args.nulls; natts = c.args.natts } in
    let last : c.loop-j.j ≡ c.args.k = omega (arith, c.loop-j-test.false, c.loop-j.auto.j-end) in
    let here = subst (λ (n : ℕ). IsReadOn t n c.loop-j.place) last c.loop-j.invariant in
    read_there t c.args.k c.loop-j.place _ c.requires.inside here _ c.in-Ok-attribute_soon.found.next c.in-Ok-attribute_soon.ensures.step

pub returns-in-Ok-attribute_soon-clause-next : goal.returns-in-Ok-attribute_soon-clause-next
returns-in-Ok-attribute_soon-clause-next c =
    let t : TupleParts = record { columns = c.args.columns.now; body = c.args.body.now; nulls = option_copied c.args.nulls; natts = c.args.natts } in
    let last : c.loop-j.j ≡ c.args.k = omega (arith, c.loop-j-test.false, c.loop-j.auto.j-end) in
    let here = subst (λ (n : ℕ). IsReadOn t n c.loop-j.place) last c.loop-j.invariant in
    read_next t c.args.k c.loop-j.place _ c.requires.inside here _ c.in-Ok-attribute_soon.found.next c.in-Ok-attribute_soon.ensures.step c.in-Ok-attribute_soon.ensures.within.next

pub returns-in-Ok-attribute_soon-clause-fits : goal.returns-in-Ok-attribute_soon-clause-fits
returns-in-Ok-attribute_soon-clause-fits c =
    let t : TupleParts = record { columns = c.args.columns.now; body = c.args.body.now; nulls = option_copied c.args.nulls; natts = c.args.natts } in
    let last : c.loop-j.j ≡ c.args.k = omega (arith, c.loop-j-test.false, c.loop-j.auto.j-end) in
    let here = subst (λ (n : ℕ). IsReadOn t n c.loop-j.place) last c.loop-j.invariant in
    fits_there t c.args.k c.loop-j.place _ c.requires.inside here _ c.in-Ok-attribute_soon.found.next (All-get_or HasAlignment c.args.columns.now c.args.k _ c.requires.inside c.requires.from.alignments) c.in-Ok-attribute_soon.ensures.step

pub returns-in-Err-attribute_soon-clause-read : goal.returns-in-Err-attribute_soon-clause-read
returns-in-Err-attribute_soon-clause-read c =
    let t : TupleParts = record { columns = c.args.columns.now; body = c.args.body.now; nulls = option_copied c.args.nulls; natts = c.args.natts } in
    let last : c.loop-j.j ≡ c.args.k = omega (arith, c.loop-j-test.false, c.loop-j.auto.j-end) in
    let here = subst (λ (n : ℕ). IsReadOn t n c.loop-j.place) last c.loop-j.invariant in
    unread t c.args.k c.loop-j.place _ c.requires.inside here c.in-Err-attribute_soon.field-0 c.in-Err-attribute_soon.ensures.step
