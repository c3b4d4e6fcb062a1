use Rattle.std.proofs.Common.{rules, ◌≡◌, ◌∙◌, ◌+◌, ◌-◌, ◌++◌, ◌==◌, ◌<◌, ℕ, List, Some, arith, cond, drop, get_or, inl, inr, length, subst, sym, ap}
use Rattle.std.proofs.lemmas.Bool.{cases_lt}
use Rattle.key_storage.specs.Stored.{key_read}
use Rattle.key_storage.specs.RowLists.{LiesAt, NUMBERS, keys_read, number_bytes}
use Rattle.join_slots.specs.BlockRows.{key_at}
use Rattle.join_slots.specs.Slots.{AreKept}
use Rattle.join_slots.proofs.PutLaws.{kept_grow}
use Rattle.join_slots.proofs.BlockRowLaws.{key_behind, lies_behind, lies_inside, no_rows, number_behind, one_row, still_there}
use Rattle.join_slots.proofs.block_rows.keep_in.Goals as goal

pub loop-i-init : goal.loop-i-init
loop-i-init c =
    let records = c.args.records.now in
    let arena = c.args.arena.now.items in
    let more = c.args.rows.bytes.now in
    record {
      kept = subst (AreKept records) (sym c.in_ok-extend_from_slice.ensures.items) (kept_grow records arena more c.requires.kept);
      keys = λ k.
          ap (λ (l : List ℕ). key_at records l k) c.in_ok-extend_from_slice.ensures.items
          ∙ still_there records arena more c.requires.kept k
          ∙ no_rows records arena c.args.slot (keys_read c.args.rows.starts.now more) k;
    }

pub put_row-requires-clause-lies : goal.put_row-requires-clause-lies
put_row-requires-clause-lies c = λ place.
    let arena = c.args.arena.now.items in
    let more = c.args.rows.bytes.now in
    let base : c.len-used.result ≡ length arena = search rules in
    let at : ℕ = get_or c.args.rows.starts.now c.loop-i.i 0 in
    subst (λ (l : List ℕ). LiesAt l (c.len-used.result + at)) (sym (c.deref.ensures.value ∙ c.in_ok-extend_from_slice.ensures.items))
    (subst (λ (n : ℕ). LiesAt (arena ++ more) (n + at)) (sym base)
    (lies_behind arena more at (c.requires.lie c.loop-i.i 0 c.loop-i-test.true place)))

pub put_row-requires-clause-low : goal.put_row-requires-clause-low
put_row-requires-clause-low c = λ place.
    let more = c.args.rows.bytes.now in
    let at : ℕ = get_or c.args.rows.starts.now c.loop-i.i 0 in
    let inside : at < length more = lies_inside more at (c.requires.lie c.loop-i.i 0 c.loop-i-test.true place) in
    omega (arith, c.if-used.false, c.if-used-rows.false, inside)

pub loop-i-preserved : goal.loop-i-preserved
loop-i-preserved c =
    let records = c.args.records.now in
    let arena = c.args.arena.now.items in
    let more = c.args.rows.bytes.now in
    let starts = c.args.rows.starts.now in
    let start : ℕ = get_or starts c.loop-i.i 0 in
    let base : c.len-used.result ≡ length arena = search rules in
    let now = c.deref.ensures.value in
    let same : c.deref.result.now ≡ arena ++ more = c.deref.ensures.value ∙ c.in_ok-extend_from_slice.ensures.items in
    record {
      kept = subst (AreKept c.put_row.new.records) now c.put_row.ensures.kept;
      keys = λ k. elim (cases_lt start NUMBERS) [
        | inl place ↦
            one_row records arena c.args.slot (keys_read starts more) c.loop-i.i k _ _ _
            ((λ i. Some (key_read (drop (base i + start) (same i)))) ∙ key_behind arena more starts c.loop-i.i c.loop-i-test.true place c.requires.lie)
            (c.loop-i.invariant.keys k)
            (subst (λ (l : List ℕ). key_at c.put_row.new.records l k ≡ cond (k == (c.args.slot + c.loop-i.i)) (Some (key_read (drop (c.len-used.result + start) c.deref.result.now))) (key_at c.loop-i.records l k)) now (c.put_row.ensures.place place k))
        | inr number ↦
            one_row records arena c.args.slot (keys_read starts more) c.loop-i.i k _ _ _
            (number_behind more starts c.loop-i.i c.loop-i-test.true number)
            (c.loop-i.invariant.keys k)
            (subst (λ (l : List ℕ). key_at c.put_row.new.records l k ≡ cond (k == (c.args.slot + c.loop-i.i)) (Some (key_read (number_bytes (start - NUMBERS)))) (key_at c.loop-i.records l k)) now (c.put_row.ensures.number number k))
      ];
    }
