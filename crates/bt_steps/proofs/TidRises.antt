-- The TIDs of a list that breaks no rule rise, and TIDs that compare equal are the same.
use Rattle.std.proofs.Common.{◌≡◌, ℕ, zero, suc, ◌<◌, ◌↔◌, false, List, [], ◌∷◌, ap, subst, arith}
use Rattle.std.specs.Prelude.{Option, Some, None, slice_get}
use Rattle.std.specs.declared.cmp.Ordering.TheVariants.{Less, Equal}
use Rattle.std.proofs.lemmas.Bool.{not-false, or_parts}
use Rattle.laws_search.specs.Keys.{Separator, compare_keys}
use Rattle.laws_search.proofs.Keys.{lt_less}
use Rattle.key_orders.specs.declared.columns.Value.{Value}
use Rattle.key_orders.specs.declared.Tid.{Tid}
use Rattle.key_orders.specs.Keys.{columns_of, tid_order}
use Rattle.bt_tuples.specs.Rules.{are_not_rising}
use Rattle.bt_steps.specs.WayLaws.{tids_total}

pub some-is : {X : Type 0} (x y : X) → ◌≡◌ {A = Option X} (Some x) (Some y) → x ≡ y
some-is x y e = cc

next-tid : (b t : Tid) (ts : List Tid) → are_not_rising (Some b) (t ∷ ts) ≡ false → (tid_order b t ≡ Less) × (are_not_rising (Some t) ts ≡ false)
unfolding are_not_rising
next-tid b t ts h =
    let both = or_parts _ _ h in
    let one = or_parts _ _ both.0 in
    (lt_less _ (not-false _ one.1), both.1)

first-tid : (t : Tid) (ts : List Tid) → are_not_rising None (t ∷ ts) ≡ false → are_not_rising (Some t) ts ≡ false
unfolding are_not_rising
first-tid t ts h = (or_parts _ _ h).1

above-first : (t : Tid) (ts : List Tid) → are_not_rising (Some t) ts ≡ false → (m : ℕ) (u : Tid) → slice_get ts m ≡ Some u → tid_order t u ≡ Less
above-first t [] h m u is = absurd (cc)
above-first t (v ∷ ts) h zero u is = subst (λ (w : Tid). tid_order t w ≡ Less) (some-is v u is) (next-tid t v ts h).0
above-first t (v ∷ ts) h (suc m) u is =
    let next = next-tid t v ts h in
    tids_total.trans t v u next.0 (above-first v ts next.1 m u is)

pairs : (t : Tid) (ts : List Tid) → are_not_rising (Some t) ts ≡ false → (k m : ℕ) (x y : Tid) → k < m → slice_get (t ∷ ts) k ≡ Some x → slice_get (t ∷ ts) m ≡ Some y → tid_order x y ≡ Less
pairs t ts h k zero x y less kx my = absurd (omega (arith, less))
pairs t ts h zero (suc m) x y less kx my = subst (λ (w : Tid). tid_order w y ≡ Less) (some-is t x kx) (above-first t ts h m y my)
pairs t [] h (suc k) (suc m) x y less kx my = absurd (cc)
pairs t (v ∷ ts) h (suc k) (suc m) x y less kx my = pairs v ts (next-tid t v ts h).1 k m x y (omega (arith, less)) kx my

pub tids-rise : (ts : List Tid) → are_not_rising None ts ≡ false → (k m : ℕ) (x y : Tid) → k < m → slice_get ts k ≡ Some x → slice_get ts m ≡ Some y → tid_order x y ≡ Less
tids-rise [] h k m x y less kx my = absurd (cc)
tids-rise (t ∷ ts) h k m x y less kx my = pairs t ts (first-tid t ts h) k m x y less kx my

-- Equal TIDs

abbrev pub alone : Tid → Separator Value Tid
alone t = record { kept = []; tid = Some t }

pub tids-same : (a b : Tid) → ((compare_keys (columns_of []) tid_order (alone a) (alone b) ≡ Equal) ↔ (alone a ≡ alone b)) → (tid_order a b ≡ Equal) ↔ (a ≡ b)
tids-same a b law = (λ e. some-is a b (ap (λ (s : Separator Value Tid). s.tid) (law.0 e)), λ e. law.1 (ap alone e))
