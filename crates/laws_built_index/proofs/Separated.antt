-- The separator of two entries may be laid.
use Rattle.std.proofs.Common.{◌≡◌, ◌≢◌, ◌≤◌, ◌<◌, ℕ, zero, suc, true, List, [], ◌∷◌, ◌++◌, length, take, refl, sym, ap, ◌∙◌, subst, arith}
use Rattle.std.specs.Prelude.{Option, Some, None, is_some}
use Rattle.std.specs.List.{AllByRecursion}
use Rattle.std.proofs.lemmas.List.{length-append}
use Rattle.std.proofs.lemmas.List.Elements.{All-from_recursion}
use Rattle.laws_search.specs.Keys.{Separator}
use Rattle.key_orders.specs.declared.columns.ColType.{ColType}
use Rattle.key_orders.specs.declared.columns.KeySpec.{KeySpec}
use Rattle.key_orders.specs.declared.columns.Value.{Value}
use Rattle.key_orders.specs.declared.more.MoreSpec.{MoreSpec}
use Rattle.key_orders.specs.declared.Tid.{Tid}
use Rattle.key_orders.specs.Keys.{columns_of, tid_order}
use Rattle.key_orders.specs.Scans.{order_of}
use Rattle.key_orders.specs.Types.{HasAlignment}
use Rattle.key_attrs.specs.Keyed.{key_types, more_types}
use Rattle.page_write.specs.Bodies.{MayAllStand, body_flags, index_body}
use Rattle.page_write.specs.Fields.{IsTid, MayKeep}
use Rattle.bt_image.specs.Image.{LeafEntry}
use Rattle.laws_building.specs.Splits.{IsPivotShape, IsShortest}
use Rattle.laws_building.proofs.Splits.{pivot_shape, shortest}
use Rattle.laws_built_index.specs.Items.{MayBeLaid, MaySplit, entry_types, kept_types, pivot_item, plain_item}
use Rattle.laws_built_index.specs.Sizes.{splitter_of}
use Rattle.laws_built_index.proofs.Keys.{HaveOrders, columns_total}
use Rattle.laws_built_index.proofs.Short.{length_more, length_pivot, length_types, short, types_front}

-- Values that may stand

stand_length : (cs : List ColType) (vs : List Value) → MayAllStand cs vs → length vs ≡ length cs
stand_length [] [] may = refl
stand_length [] (v ∷ vs) may = absurd may
stand_length (c ∷ cs) [] may = absurd may
stand_length (c ∷ cs) (v ∷ vs) may = ap suc (stand_length cs vs may.1)

aligned : (cs : List ColType) (vs : List Value) → MayAllStand cs vs → AllByRecursion HasAlignment cs
aligned [] vs may = tt
aligned (c ∷ cs) [] may = absurd may
aligned (c ∷ cs) (v ∷ vs) may = (may.0.aligned, aligned cs vs may.1)

front_stands : (n : ℕ) (cs ds : List ColType) (vs ws : List Value) → length vs ≡ length cs → MayAllStand (cs ++ ds) (vs ++ ws) → MayAllStand (take n cs) (take n vs)
front_stands zero cs ds vs ws long may = tt
front_stands (suc n) [] ds [] ws long may = tt
front_stands (suc n) [] ds (v ∷ vs) ws long may = absurd (omega (arith, long))
front_stands (suc n) (c ∷ cs) ds [] ws long may = absurd (omega (arith, long))
front_stands (suc n) (c ∷ cs) ds (v ∷ vs) ws long may = (may.0, front_stands n cs ds vs ws (omega (arith, long)) may.1)

-- there are as many included values as columns
pub more_there : (specs : List KeySpec) (more : List MoreSpec) (e : LeafEntry) → MayBeLaid specs more e → length e.more ≡ length more
more_there specs more e may =
    let a = stand_length (entry_types specs more) (e.entry.values ++ e.more) may.stand in
    let b = length-append e.entry.values e.more in
    let c = length-append (key_types specs) (more_types more) in
    let d = length_types specs in
    let f = length_more more in
    let whole = may.whole in
    omega (arith, a, b, c, d, f, whole)

not_none : {X : Type 0} (o : Option X) → is_some o ≡ true → o ≢ None
not_none None h = absurd cc
not_none (Some x) h = λ z. absurd cc

module _ (laws : HaveOrders) (specs : List KeySpec) (more : List MoreSpec) (d e : LeafEntry) (some : 0 < length specs) (left : MayBeLaid specs more d) (right : MayBeLaid specs more e)
    (small : length (plain_item specs more e.entry e.more) ≤ 2704) (below : (order_of specs).precedes d.entry e.entry ≡ true) where
  abbrev sep : Separator Value Tid
  sep = (splitter_of specs).split_key d.entry e.entry

  shape : IsPivotShape (length specs) sep
  shape = pivot_shape (columns_of specs) (columns_total laws specs) tid_order (length specs) d.entry e.entry some right.whole below

  least : IsShortest (columns_of specs) d.entry e.entry sep
  least = shortest (columns_of specs) (columns_total laws specs) tid_order d.entry e.entry below

  pub short_pivot : length (pivot_item specs 0 sep) ≤ 2712
  short_pivot =
      let known = All-from_recursion HasAlignment (entry_types specs more) (aligned (entry_types specs more) (e.entry.values ++ e.more) right.stand) in
      let a = short specs more d.entry e.entry e.more 0 some (columns_total laws specs) known right.whole (more_there specs more e right) below in
      omega (arith, a, small)

  few_kept : length sep.kept ≤ 32
  few_kept =
      let a = right.few in
      let b = length-append e.entry.values e.more in
      let c = right.whole in
      let n = shape.not_more in
      omega (arith, a, b, c, n)

  keeps : MayKeep (length specs) (length sep.kept) sep.tid
  keeps = record {
    some = λ z. let p = shape.some in absurd (omega (arith, z, p));
    most = shape.not_more;
    few = let n = few_kept in omega (arith, n);
    whole = λ is. shape.tid_with_all (not_none sep.tid is);
    fits = λ t is. subst IsTid (sym (least.with_tid t is).0) left.tid;
  }

  stands : MayAllStand (kept_types specs sep) sep.kept
  stands =
      let n : ℕ = length sep.kept in
      let may : MayAllStand (take (length sep.kept) (key_types specs)) (take (length sep.kept) e.entry.values) =
      front_stands (length sep.kept) (key_types specs) (more_types more) e.entry.values e.more (right.whole ∙ sym (length_types specs)) right.stand in
      subst (λ (cs : List ColType). MayAllStand cs sep.kept) (sym (types_front (length sep.kept) specs))
      (subst (λ (vs : List Value). MayAllStand (take (length sep.kept) (key_types specs)) vs) (sym least.front) may)

  pub may_split : MaySplit specs sep
  may_split = record {
    keeps = keeps;
    stand = stands;
    few = few_kept;
    short =
        let a = length_pivot 0 (length sep.kept) sep.tid (body_flags (kept_types specs sep) sep.kept) (index_body (kept_types specs sep) sep.kept) in
        let b = short_pivot in
        omega (arith, a, b);
  }
