use Rattle.std.proofs.Common.{◌≡◌, ◌∙◌, ℕ, List, ap, arith, length, length-take-le, map, subst, sym, take}
use Rattle.std.specs.Prelude.{OnOk}
use Rattle.std.specs.List.{AllByRecursion}
use Rattle.std.proofs.lemmas.List.{length-map}
use Rattle.std.proofs.lemmas.List.Elements.{All-from_recursion}
use Rattle.key_orders.specs.declared.columns.ColType.{ColType}
use Rattle.key_orders.specs.Types.{HasAlignment}
use Rattle.key_orders.specs.Values.{value_shown}
use Rattle.key_storage.specs.Stored.{values_read}
use Rattle.key_attrs.specs.Keyed.{key_types}
use Rattle.page_write.specs.Bodies.{IsShortEnough, body_flags, index_body}
use Rattle.page_write.specs.Tuples.{pivot_tuple}
use Rattle.laws_built_index.specs.Items.{kept_types}
use Rattle.bt_build.specs.Separators.{front_of}
use Rattle.bt_build.specs.Source.{entry_of}
use Rattle.bt_build.proofs.SeparatorLaws.{stand_aligned, types_kept, values_front}
use Rattle.bt_build.proofs.SourceLaws.{refs_short, stand_length}
use Rattle.bt_build.proofs.separators.put_kept.Goals as goal

pub put_body-requires-clause-few : goal.put_body-requires-clause-few
put_body-requires-clause-few c =
    let s = c.args.source in
    let is = ap (map value_shown) c.deref.ensures.value ∙ c.in_ok-read_values.ensures ∙ ap (values_read c.args.kept.count) c.behind_count.ensures
    ∙ values_front s.specs.now s.more.now s.arena.now c.args.right c.args.kept.count c.requires.right c.requires.count in
    let many = ap length is in
    omega (arith, many, length-map c.deref.result.now value_shown, c.requires.may.few)

pub put_body-requires-clause-count : goal.put_body-requires-clause-count
put_body-requires-clause-count c =
    let s = c.args.source in
    let is = ap (map value_shown) c.deref.ensures.value ∙ c.in_ok-read_values.ensures ∙ ap (values_read c.args.kept.count) c.behind_count.ensures
    ∙ values_front s.specs.now s.more.now s.arena.now c.args.right c.args.kept.count c.requires.right c.requires.count in
    let kept : length (front_of (entry_of s c.args.right) c.args.kept).kept ≡ c.args.kept.count =
    length-take-le c.args.kept.count (entry_of s c.args.right).entry.values (let w = c.requires.right.laid.whole in omega (arith, w, c.requires.count)) in
    let types : take c.args.kept.count s.types.now ≡ kept_types s.specs.now (front_of (entry_of s c.args.right) c.args.kept) =
    ap (take c.args.kept.count) c.requires.source.types_are ∙ types_kept s.specs.now s.more.now c.args.kept.count c.requires.count ∙ ap (λ (n : ℕ). key_types (take n s.specs.now)) (sym kept) in
    let stand = stand_length (kept_types s.specs.now (front_of (entry_of s c.args.right) c.args.kept)) (front_of (entry_of s c.args.right) c.args.kept).kept c.requires.may.stand in
    sym (length-map c.deref.result.now value_shown) ∙ ap length is ∙ stand ∙ ap length (sym types)

pub put_body-requires-clause-aligned : goal.put_body-requires-clause-aligned
put_body-requires-clause-aligned c =
    let s = c.args.source in
    let kept : length (front_of (entry_of s c.args.right) c.args.kept).kept ≡ c.args.kept.count =
    length-take-le c.args.kept.count (entry_of s c.args.right).entry.values (let w = c.requires.right.laid.whole in omega (arith, w, c.requires.count)) in
    let types : take c.args.kept.count s.types.now ≡ kept_types s.specs.now (front_of (entry_of s c.args.right) c.args.kept) =
    ap (take c.args.kept.count) c.requires.source.types_are ∙ types_kept s.specs.now s.more.now c.args.kept.count c.requires.count ∙ ap (λ (n : ℕ). key_types (take n s.specs.now)) (sym kept) in
    All-from_recursion HasAlignment (take c.args.kept.count s.types.now)
    (subst (λ (ts : List ColType). AllByRecursion HasAlignment ts) (sym types)
    (stand_aligned (kept_types s.specs.now (front_of (entry_of s c.args.right) c.args.kept)) (front_of (entry_of s c.args.right) c.args.kept).kept c.requires.may.stand))

pub put_body-requires-clause-short : goal.put_body-requires-clause-short
put_body-requires-clause-short c =
    let s = c.args.source in
    let is = ap (map value_shown) c.deref.ensures.value ∙ c.in_ok-read_values.ensures ∙ ap (values_read c.args.kept.count) c.behind_count.ensures
    ∙ values_front s.specs.now s.more.now s.arena.now c.args.right c.args.kept.count c.requires.right c.requires.count in
    All-from_recursion (λ v. IsShortEnough (value_shown v)) c.deref.result.now
    (refs_short (kept_types s.specs.now (front_of (entry_of s c.args.right) c.args.kept)) (front_of (entry_of s c.args.right) c.args.kept).kept c.deref.result.now is c.requires.may.stand)

pub put_pivot_tuple-requires-clause-short : goal.put_pivot_tuple-requires-clause-short
put_pivot_tuple-requires-clause-short c =
    let s = c.args.source in
    let is = ap (map value_shown) c.deref.ensures.value ∙ c.in_ok-read_values.ensures ∙ ap (values_read c.args.kept.count) c.behind_count.ensures
    ∙ values_front s.specs.now s.more.now s.arena.now c.args.right c.args.kept.count c.requires.right c.requires.count in
    let kept : length (front_of (entry_of s c.args.right) c.args.kept).kept ≡ c.args.kept.count =
    length-take-le c.args.kept.count (entry_of s c.args.right).entry.values (let w = c.requires.right.laid.whole in omega (arith, w, c.requires.count)) in
    let types : take c.args.kept.count s.types.now ≡ kept_types s.specs.now (front_of (entry_of s c.args.right) c.args.kept) =
    ap (take c.args.kept.count) c.requires.source.types_are ∙ types_kept s.specs.now s.more.now c.args.kept.count c.requires.count ∙ ap (λ (n : ℕ). key_types (take n s.specs.now)) (sym kept) in
    let body = c.deref-2.ensures.value ∙ c.in_ok-flags.ensures.body ∙ (λ i. index_body (types i) (is i)) in
    let long = ap length body in
    omega (arith, long, c.requires.may.short)

pub returns : goal.returns
returns c =
    let s = c.args.source in
    let is = ap (map value_shown) c.deref.ensures.value ∙ c.in_ok-read_values.ensures ∙ ap (values_read c.args.kept.count) c.behind_count.ensures
    ∙ values_front s.specs.now s.more.now s.arena.now c.args.right c.args.kept.count c.requires.right c.requires.count in
    let kept : length (front_of (entry_of s c.args.right) c.args.kept).kept ≡ c.args.kept.count =
    length-take-le c.args.kept.count (entry_of s c.args.right).entry.values (let w = c.requires.right.laid.whole in omega (arith, w, c.requires.count)) in
    let types : take c.args.kept.count s.types.now ≡ kept_types s.specs.now (front_of (entry_of s c.args.right) c.args.kept) =
    ap (take c.args.kept.count) c.requires.source.types_are ∙ types_kept s.specs.now s.more.now c.args.kept.count c.requires.count ∙ ap (λ (n : ℕ). key_types (take n s.specs.now)) (sym kept) in
    let body = c.deref-2.ensures.value ∙ c.in_ok-flags.ensures.body ∙ (λ i. index_body (types i) (is i)) in
    let flags = c.in_ok-flags.ensures.flags ∙ (λ i. body_flags (types i) (is i)) in
    subst (λ (w : List ℕ). OnOk c.put_pivot_tuple.result (c.put_pivot_tuple.new.out.items ≡ w))
    (λ i. pivot_tuple c.args.down (sym kept i) c.args.kept.tid (flags i) (body i)) c.put_pivot_tuple.ensures
