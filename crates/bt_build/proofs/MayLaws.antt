-- Values that fit their columns may be laid.
use Rattle.std.proofs.Common.{◌≡◌, ◌≢◌, true, false, List, [], ◌∷◌, ◌++◌, length, refl, arith, length-append}
use Rattle.std.specs.Prelude.{All}
use Rattle.std.proofs.lemmas.Bool.{and_parts}
use Rattle.std.proofs.lemmas.List.Elements.{All-head, All-tail}
use Rattle.key_orders.specs.declared.columns.ColType.{ColType}
use Rattle.key_orders.specs.declared.columns.KeySpec.{KeySpec}
use Rattle.key_orders.specs.declared.columns.Value.{Value}
use Rattle.key_orders.specs.declared.more.MoreSpec.{MoreSpec}
use Rattle.key_orders.specs.declared.Tid.{Tid}
use Rattle.key_orders.specs.Keys.{fits_columns}
use Rattle.key_orders.specs.Orders.{fits_type}
use Rattle.key_orders.specs.Types.{HasAlignment}
use Rattle.key_attrs.specs.Keyed.{fits_more, key_types, more_types}
use Rattle.page_write.specs.Bodies.{IsShortEnough, MayAllStand, MayStand}
use Rattle.page_write.specs.Fields.{IsTid}
use Rattle.bt_image.specs.Image.{leaf_entry}
use Rattle.laws_built_index.specs.Items.{MayBeLaid}
use Rattle.bt_build.specs.Listed.{AreColumns, AreValues, Listed}

stand_more : (ms : List MoreSpec) (vs : List Value) → length vs ≡ length ms → fits_more ms vs ≡ true → All HasAlignment (more_types ms) → All IsShortEnough vs
    → MayAllStand (more_types ms) vs
stand_more [] [] same fits al short = tt
stand_more [] (v ∷ vs) same fits al short = absurd (omega (arith, same))
stand_more (m ∷ ms) [] same fits al short = absurd (omega (arith, same))
stand_more (m ∷ ms) (v ∷ vs) same fits al short =
    let parts = and_parts (fits_type m.ctype v) (fits_more ms vs) fits in
    let here : MayStand m.ctype v = record { aligned = All-head HasAlignment m.ctype (more_types ms) al; fits = parts.0; short = All-head IsShortEnough v vs short } in
    (here, stand_more ms vs (omega (arith, same)) parts.1 (All-tail HasAlignment m.ctype (more_types ms) al) (All-tail IsShortEnough v vs short))

-- with included values behind those of the key
stand_both : (ks : List KeySpec) (vs : List Value) (cs : List ColType) (ws : List Value) → length vs ≡ length ks → fits_columns ks vs ≡ true
    → All HasAlignment (key_types ks ++ cs) → All IsShortEnough vs → MayAllStand cs ws → MayAllStand (key_types ks ++ cs) (vs ++ ws)
stand_both [] [] cs ws same fits al short behind = behind
stand_both [] (v ∷ vs) cs ws same fits al short behind = absurd (omega (arith, same))
stand_both (k ∷ ks) [] cs ws same fits al short behind = absurd (omega (arith, same))
stand_both (k ∷ ks) (v ∷ vs) cs ws same fits al short behind =
    let parts = and_parts (fits_type k.ctype v) (fits_columns ks vs) fits in
    let here : MayStand k.ctype v = record { aligned = All-head HasAlignment k.ctype (key_types ks ++ cs) al; fits = parts.0; short = All-head IsShortEnough v vs short } in
    (here, stand_both ks vs cs ws (omega (arith, same)) parts.1 (All-tail HasAlignment k.ctype (key_types ks ++ cs) al) (All-tail IsShortEnough v vs short) behind)

-- of types of two lists those behind
behind_aligned : (ks : List KeySpec) (cs : List ColType) → All HasAlignment (key_types ks ++ cs) → All HasAlignment cs
behind_aligned [] cs al = al
behind_aligned (k ∷ ks) cs al = behind_aligned ks cs (All-tail HasAlignment k.ctype (key_types ks ++ cs) al)

pub may_be_laid : (l : Listed) (key more : List Value) (tid : Tid) → AreColumns l.specs l.more → AreValues l key more
    → All IsShortEnough key → All IsShortEnough more → IsTid tid → tid.item ≢ 0 → MayBeLaid l.specs l.more (leaf_entry key more tid false)
may_be_laid l key more tid columns values short short_more fits some = record {
  whole = values.key_fits.whole;
  stand =
      stand_both l.specs key (more_types l.more) more values.key_fits.whole values.key_fits.fits columns.aligned short
      (stand_more l.more more values.more_whole values.more_fits (behind_aligned l.specs (more_types l.more) columns.aligned) short_more);
  few = omega (arith, length-append key more, values.key_fits.whole, values.more_whole, columns.few, columns.few_more);
  tid = fits;
  some_item = some;
  alive = refl;
}
