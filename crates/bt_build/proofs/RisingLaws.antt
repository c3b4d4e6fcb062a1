-- Lists that rise: there is one for a set of entries.
use Rattle.std.proofs.Common.{◌≡◌, ◌∙◌, Bool, true, false, cond, List, [], ◌∷◌, refl, sym, subst, inl, inr}
use Rattle.std.specs.Prelude.{◌⊎◌, ⊤}
use Rattle.std.specs.List.{AllByRecursion}
use Rattle.laws_search.specs.Order.{IsOrder}
use Rattle.key_orders.specs.declared.columns.KeySpec.{KeySpec}
use Rattle.key_orders.specs.Scans.{order_of}
use Rattle.bt_image.specs.Image.{LeafEntry}
use Rattle.bt_build.specs.Order.{in_order, is_before, put_in_order}

-- where the first of two entries isn't below the second, the second is below the first
abbrev pub Differ : List KeySpec → LeafEntry → LeafEntry → Type 0
Differ specs d e = is_before specs d e ≡ false → is_before specs e d ≡ true

abbrev pub IsUnder : List KeySpec → LeafEntry → LeafEntry → Type 0
IsUnder specs d e = is_before specs d e ≡ true

-- each entry is below all after it
abbrev pub Rise : List KeySpec → List LeafEntry → Type 0
Rise specs [] = ⊤
Rise specs (e ∷ es) = AllByRecursion (IsUnder specs e) es × Rise specs es

abbrev pub AllDiffer : List KeySpec → List LeafEntry → Type 0
AllDiffer specs [] = ⊤
AllDiffer specs (e ∷ es) = AllByRecursion (Differ specs e) es × AllDiffer specs es

abbrev pub Has : List LeafEntry → LeafEntry → Type 0
Has [] z = ⊥
Has (e ∷ es) z = (e ≡ z) ⊎ Has es z

module _ (specs : List KeySpec) (order : IsOrder (order_of specs)) where
  chain : (c d e : LeafEntry) → is_before specs c d ≡ true → is_before specs d e ≡ true → is_before specs c e ≡ true
  chain c d e p q = order.chained c.entry d.entry e.entry p q

  never : (d e : LeafEntry) → is_before specs d e ≡ true → is_before specs e d ≡ true → ⊥
  never d e p q = let t = chain d e d p q in let f = order.strict d.entry in absurd cc

  under_in : (d z : LeafEntry) (es : List LeafEntry) → AllByRecursion (IsUnder specs d) es → Has es z → is_before specs d z ≡ true
  under_in d z [] up has = absurd has
  under_in d z (e ∷ es) up (inl same) = subst (IsUnder specs d) same up.0
  under_in d z (e ∷ es) up (inr later) = under_in d z es up.1 later

  -- what is above an entry stands behind it
  behind : (d e : LeafEntry) (es zs : List LeafEntry) → d ≡ e → AllByRecursion (IsUnder specs d) zs → AllByRecursion (Has (e ∷ es)) zs → AllByRecursion (Has es) zs
  behind d e es [] same up has = tt
  behind d e es (z ∷ zs) same up has = (at has.0, behind d e es zs same up.1 has.1)
    where
      at : Has (e ∷ es) z → Has es z
      at (inl is) = absurd (never d z up.0 (subst (λ (x : LeafEntry). is_before specs x d ≡ true) (same ∙ is) (subst (λ (x : LeafEntry). is_before specs d x ≡ true) (sym (same ∙ is)) up.0)))
      at (inr later) = later

  heads : (d e : LeafEntry) (ds es : List LeafEntry) → AllByRecursion (IsUnder specs d) ds → AllByRecursion (IsUnder specs e) es → Has (e ∷ es) d → Has (d ∷ ds) e → d ≡ e
  heads d e ds es up over (inl same) there = sym same
  heads d e ds es up over (inr later) (inl same) = same
  heads d e ds es up over (inr later) (inr last) = absurd (never e d (under_in e d es over later) (under_in d e ds up last))

  pub one_way : (ds es : List LeafEntry) → Rise specs ds → Rise specs es → AllByRecursion (Has es) ds → AllByRecursion (Has ds) es → ds ≡ es
  one_way [] [] p q there back = refl
  one_way [] (e ∷ es) p q there back = absurd back.0
  one_way (d ∷ ds) [] p q there back = absurd there.0
  one_way (d ∷ ds) (e ∷ es) p q there back =
      let same : d ≡ e = heads d e ds es p.0 q.0 there.0 back.0 in
      let rest : ds ≡ es =
      one_way ds es p.1 q.1 (behind d e es ds same p.0 there.1) (behind e d ds es (sym same) q.0 back.1) in
      (λ i. same i ∷ rest i)

  -- Sorting by insertion

  all_by : (P : LeafEntry → Type 0) (e d : LeafEntry) (ds : List LeafEntry) (b : Bool) → P e → AllByRecursion P (d ∷ ds) → AllByRecursion P (put_in_order specs e ds)
      → AllByRecursion P (cond b (e ∷ d ∷ ds) (d ∷ put_in_order specs e ds))
  all_by P e d ds true here all deeper = (here, all)
  all_by P e d ds false here all deeper = (all.0, deeper)

  all_put : (P : LeafEntry → Type 0) (e : LeafEntry) (ds : List LeafEntry) → P e → AllByRecursion P ds → AllByRecursion P (put_in_order specs e ds)
  all_put P e [] here all = (here, tt)
  all_put P e (d ∷ ds) here all = all_by P e d ds (is_before specs e d) here all (all_put P e ds here all.1)

  pub over_all : (e d : LeafEntry) (ds : List LeafEntry) → is_before specs e d ≡ true → AllByRecursion (IsUnder specs d) ds → AllByRecursion (IsUnder specs e) ds
  over_all e d [] p up = tt
  over_all e d (x ∷ ds) p up = (chain e d x p up.0, over_all e d ds p up.1)

  rises_by : (e d : LeafEntry) (ds : List LeafEntry) (b : Bool) → is_before specs e d ≡ b → Differ specs e d → Rise specs (d ∷ ds) → Rise specs (put_in_order specs e ds)
      → Rise specs (cond b (e ∷ d ∷ ds) (d ∷ put_in_order specs e ds))
  rises_by e d ds true h differ up deeper = ((h, over_all e d ds h up.0), up)
  rises_by e d ds false h differ up deeper = (all_put (IsUnder specs d) e ds (differ h) up.0, deeper)

  put_rises : (e : LeafEntry) (ds : List LeafEntry) → AllByRecursion (Differ specs e) ds → Rise specs ds → Rise specs (put_in_order specs e ds)
  put_rises e [] differ up = (tt, tt)
  put_rises e (d ∷ ds) differ up = rises_by e d ds (is_before specs e d) refl differ.0 up (put_rises e ds differ.1 up.1)

  pub all_ordered : (P : LeafEntry → Type 0) (es : List LeafEntry) → AllByRecursion P es → AllByRecursion P (in_order specs es)
  all_ordered P [] all = tt
  all_ordered P (e ∷ es) all = all_put P e (in_order specs es) all.0 (all_ordered P es all.1)

  pub order_rises : (es : List LeafEntry) → AllDiffer specs es → Rise specs (in_order specs es)
  order_rises [] differ = tt
  order_rises (e ∷ es) differ = put_rises e (in_order specs es) (all_ordered (Differ specs e) es differ.0) (order_rises es differ.1)

  -- what is put in order is there

  all_later : (d : LeafEntry) (es zs : List LeafEntry) → AllByRecursion (Has es) zs → AllByRecursion (Has (d ∷ es)) zs
  all_later d es [] has = tt
  all_later d es (z ∷ zs) has = (inr has.0, all_later d es zs has.1)

  pub has_all : (es : List LeafEntry) → AllByRecursion (Has es) es
  has_all [] = tt
  has_all (e ∷ es) = (inl refl, all_later e es es (has_all es))

  has_by : (e d : LeafEntry) (ds : List LeafEntry) (b : Bool) → Has (put_in_order specs e ds) e → Has (cond b (e ∷ d ∷ ds) (d ∷ put_in_order specs e ds)) e
  has_by e d ds true deeper = inl refl
  has_by e d ds false deeper = inr deeper

  put_has : (e : LeafEntry) (ds : List LeafEntry) → Has (put_in_order specs e ds) e
  put_has e [] = inl refl
  put_has e (d ∷ ds) = has_by e d ds (is_before specs e d) (put_has e ds)

  keeps_by : (e z d : LeafEntry) (ds : List LeafEntry) (b : Bool) → Has (d ∷ ds) z → (Has ds z → Has (put_in_order specs e ds) z)
      → Has (cond b (e ∷ d ∷ ds) (d ∷ put_in_order specs e ds)) z
  keeps_by e z d ds true has deeper = inr has
  keeps_by e z d ds false (inl same) deeper = inl same
  keeps_by e z d ds false (inr later) deeper = inr (deeper later)

  put_keeps : (e z : LeafEntry) (ds : List LeafEntry) → Has ds z → Has (put_in_order specs e ds) z
  put_keeps e z [] has = absurd has
  put_keeps e z (d ∷ ds) has = keeps_by e z d ds (is_before specs e d) has (λ h. put_keeps e z ds h)

  all_kept : (e : LeafEntry) (ds zs : List LeafEntry) → AllByRecursion (Has ds) zs → AllByRecursion (Has (put_in_order specs e ds)) zs
  all_kept e ds [] has = tt
  all_kept e ds (z ∷ zs) has = (put_keeps e z ds has.0, all_kept e ds zs has.1)

  pub order_has : (es : List LeafEntry) → AllByRecursion (Has (in_order specs es)) es
  order_has [] = tt
  order_has (e ∷ es) = (put_has e (in_order specs es), all_kept e (in_order specs es) es (order_has es))

  found : (xs : List LeafEntry) (P : LeafEntry → Type 0) (z : LeafEntry) → AllByRecursion P xs → Has xs z → P z
  found [] P z all has = absurd has
  found (x ∷ xs) P z all (inl same) = subst P same all.0
  found (x ∷ xs) P z all (inr later) = found xs P z all.1 later

  all_found : (es zs : List LeafEntry) → AllByRecursion (Has es) zs → AllByRecursion (Has (in_order specs es)) zs
  all_found es [] has = tt
  all_found es (z ∷ zs) has = (found es (Has (in_order specs es)) z (order_has es) has.0, all_found es zs has.1)

  -- entries that rise and are the same as others are these in order
  pub is_in_order : (es sorted : List LeafEntry) → AllDiffer specs es → Rise specs sorted → AllByRecursion (Has sorted) es → AllByRecursion (Has es) sorted
      → sorted ≡ in_order specs es
  is_in_order es sorted differ up there back =
      one_way sorted (in_order specs es) up (order_rises es differ) (all_found es sorted back) (all_ordered (Has sorted) es there)
