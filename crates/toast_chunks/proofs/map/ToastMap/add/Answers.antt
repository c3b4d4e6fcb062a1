use Rattle.std.proofs.Common.{◌≡◌, List, [], ◌∷◌, ◌++◌, of_z, to_z, w32, refl, sym, ap, subst, ◌∙◌, arith}
use Rattle.std.specs.Prelude.{ℕ, Option}
use Rattle.std.specs.BTreeMap.{get}
use Rattle.std.proofs.lemmas.Int.{to_z-of_z}
use Rattle.toast_chunks.specs.declared.map.Chunk.{Chunk}
use Rattle.toast_chunks.specs.declared.value_chunks.ValueChunks.{ValueChunks}
use Rattle.toast_chunks.specs.Index.{FindsPlace, IsIndexed, number_cmp}
use Rattle.toast_chunks.specs.ValueChunks.{Describes}
use Rattle.toast_chunks.proofs.Adding.{indexed_next, place_tells}
use Rattle.toast_chunks.proofs.map.ToastMap.add.Goals as goal

pub invariant_of-self-2 : goal.invariant_of-self-2
invariant_of-self-2 c =
    let seq : to_z w32 (of_z w32 c.args.seq) ≡ c.args.seq = to_z-of_z w32 c.args.seq c.ranges.seq in
    let chunks = c.self.inside.chunks.items in
    let chunk : Chunk = record { id = c.args.id; seq = c.args.seq; tid = c.args.tid; size = c.args.size } in
    let old : c.in_ok-insert.field-0 ≡ get number_cmp c.self.inside.places (record { id = c.args.id; seq = c.args.seq }) = rw seq at c.in_ok-insert.ensures.old in
    let R : Option ℕ → Type 0 = FindsPlace chunks c.args.id c.args.seq in
    let tells = place_tells chunks chunk c.args.id c.args.seq c.in_ok-insert.field-0 (subst R (sym old) (c.self.invariant.found c.args.id c.args.seq)) in
    let again = c.is_some-again.ensures in
    let P : List Chunk → Type 0 = λ xs. IsIndexed xs c.set_value.new.values c.insert.new.self in
    let Q : ValueChunks → Type 0 = Describes chunks c.args.id in
    let pushed : c.push_with_room.new.chunks.items ≡ chunks ++ chunk ∷ [] = (rw seq at c.push_with_room.ensures) ∙ ap (λ (xs : List Chunk). xs ++ chunk ∷ []) c.reserve.ensures.items in
    let now : Describes (chunks ++ chunk ∷ []) c.args.id c.with.result = c.with.ensures chunks chunk (subst Q (sym c.in_ok-value.ensures.value) (c.self.invariant.described c.args.id)) (sym seq) refl (λ e. tells.0 (sym again ∙ e), λ some. again ∙ tells.1 some) in
    subst P (sym pushed) (indexed_next chunks chunk c.self.inside.values c.value_with_room.new.values c.set_value.new.values c.self.inside.places c.insert.new.self c.with.result c.len.result c.self.invariant c.value_with_room.ensures.same now c.set_value.ensures (omega (arith, c.len.ensures, c.reserve.ensures.len, c.self.inside.chunks.ok.0)) (rw seq at c.in_ok-insert.ensures.updates))

pub returns-clause-ok : goal.returns-clause-ok
returns-clause-ok c =
    let seq : to_z w32 (of_z w32 c.args.seq) ≡ c.args.seq = to_z-of_z w32 c.args.seq c.ranges.seq in
    let chunk : Chunk = record { id = c.args.id; seq = c.args.seq; tid = c.args.tid; size = c.args.size } in
    (rw seq at c.push_with_room.ensures) ∙ ap (λ (xs : List Chunk). xs ++ chunk ∷ []) (c.reserve.ensures.items ∙ c.self.view_is)
