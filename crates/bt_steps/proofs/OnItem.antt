-- An entry that is sought, in the item where it may stand.
use Rattle.std.proofs.Common.{◌≡◌, ◌∙◌, ℕ, zero, suc, Bool, false, true, List, [], ◌∷◌, ap, refl, sym}
use Rattle.std.specs.Prelude.{Some, slice_get}
use Rattle.std.specs.Ordering.{is_ne}
use Rattle.std.specs.declared.cmp.Ordering.{Ordering}
use Rattle.std.specs.declared.cmp.Ordering.TheVariants.{Less, Equal, Greater}
use Rattle.laws_search.specs.Keys.{Entry}
use Rattle.key_orders.specs.declared.columns.Value.{Value}
use Rattle.key_orders.specs.declared.Tid.{Tid}
use Rattle.bt_tuples.specs.Items.{Plain, Posting}
use Rattle.bt_image.specs.Image.{keys_in}
use Rattle.bt_steps.proofs.Items.{entry_with}
use Rattle.bt_steps.proofs.TidRises.{some-is}

pub ne-true : (o : Ordering) → is_ne o ≡ true → o ≡ Equal → ⊥
ne-true o h e = clash (sym h ∙ ap is_ne e)
  where
    clash : true ≡ false → ⊥
    clash h = cc

pub ne-false : (o : Ordering) → is_ne o ≡ false → o ≡ Equal
ne-false Less h = absurd cc
ne-false Equal h = refl
ne-false Greater h = absurd cc

-- an entry of a plain tuple, and of a list
pub one-is : (key more : List Value) (tid : Tid) (killed : Bool) (k : ℕ) (e : Entry Value Tid) → slice_get (keys_in (Plain key more tid killed)) k ≡ Some e → entry_with key killed tid ≡ e
one-is key more tid killed zero e is = some-is (entry_with key killed tid) e is
one-is key more tid killed (suc k) e is = absurd cc

pub list-tid : (key : List Value) (tids : List Tid) (killed : Bool) (k : ℕ) (e : Entry Value Tid) → slice_get (keys_in (Posting key tids killed)) k ≡ Some e → slice_get tids k ≡ Some e.tid
list-tid key [] killed k e is = absurd cc
list-tid key (t ∷ ts) killed zero e is = ap (λ (d : Entry Value Tid). Some d.tid) (some-is (entry_with key killed t) e is)
list-tid key (t ∷ ts) killed (suc k) e is = list-tid key ts killed k e is

pub list-has : (key : List Value) (tids : List Tid) (killed : Bool) (k : ℕ) (e : Entry Value Tid) → slice_get (keys_in (Posting key tids killed)) k ≡ Some e → (e.values ≡ key) × (e.killed ≡ killed)
list-has key [] killed k e is = absurd cc
list-has key (t ∷ ts) killed zero e is =
    let same = some-is (entry_with key killed t) e is in
    (sym (ap (λ (d : Entry Value Tid). d.values) same), sym (ap (λ (d : Entry Value Tid). d.killed) same))
list-has key (t ∷ ts) killed (suc k) e is = list-has key ts killed k e is
