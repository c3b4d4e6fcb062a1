-- An internal level over the level below it.
use Rattle.std.proofs.Common.{◌≡◌, ◌≢◌, ℕ, suc, ◌+◌, ◌≤◌, true, List, [], ◌∷◌, ◌++◌, length, map, refl, sym, ap, ◌∙◌, subst, arith, length-append}
use Rattle.std.specs.Prelude.{⊤, Option, Some, None, unwrap_or}
use Rattle.std.specs.List.{flat_map}
use Rattle.laws_search.specs.Order.{Order}
use Rattle.laws_search.specs.Tree.{Index}
use Rattle.laws_search.specs.Levels.{Downlink, page_downlinks}
use Rattle.laws_search.specs.Searchable.{IsInUse, KeyAbove}
use Rattle.laws_search.proofs.Lists.{Each, Each-front, Each-back}
use Rattle.laws_building.specs.Cuts.{joined, TwoButLast}
use Rattle.laws_building.specs.Built.{Splitter, Sheet, items_of, internal_sheet}
use Rattle.laws_building.specs.Fresh.{IsKeyOrder, Climbs}
use Rattle.laws_building.proofs.Level.{Content}

-- each has a separator, above the one before it
abbrev pub Rises : {S E : Type 0} → Order S E → (ds : List (Downlink S)) → Option S → Type 0
Rises o [] lo = ⊤
Rises {S} o (d ∷ ds) lo = (t : S) × (d.0 ≡ Some t) × KeyAbove o lo t × Rises o ds d.0

-- so after the first
abbrev pub RisesFrom : {S E : Type 0} → Order S E → List (Downlink S) → Type 0
RisesFrom o [] = ⊤
RisesFrom o (d ∷ ds) = Rises o ds d.0

-- a child's item with its separator
abbrev unwrapped : {S E : Type 0} → Splitter S E → Downlink S → S × ℕ
unwrapped k c = (unwrap_or c.0 k.nothing, c.1)

-- no more than half the items, and one
pub few_pages : {X : Type 0} (pages : List (List X)) → Each (λ page. page ≢ []) pages → TwoButLast pages → length pages + length pages ≤ suc (length (joined pages))
few_pages [] filled twos = omega arith
few_pages ([] ∷ pages) filled twos = absurd (filled.0 refl)
few_pages ((x ∷ xs) ∷ []) filled twos = omega (arith, length-append (x ∷ xs) [])
few_pages ((x ∷ []) ∷ next ∷ pages) filled twos = absurd twos.0
few_pages ((x ∷ y ∷ xs) ∷ next ∷ pages) filled twos =
    let ih : length (next ∷ pages) + length (next ∷ pages) ≤ suc (length (joined (next ∷ pages))) = few_pages (next ∷ pages) filled.1 twos.1 in
    let sum = length-append (x ∷ y ∷ xs) (joined (next ∷ pages)) in
    omega (arith, sum, ih)

module _ {S E : Type 0} (o : Order S E) (laws : IsKeyOrder o) (k : Splitter S E) (x : Index S E) where
  chain_keys : (lo : Option S) (t u : S) → KeyAbove o lo t → o.under t u ≡ true → KeyAbove o lo u
  chain_keys None t u a b = tt
  chain_keys (Some s) t u a b = laws.under_chained s t u a b

  above_some : (hi : Option S) (t u : S) → hi ≡ Some t → KeyAbove o hi u → o.under t u ≡ true
  above_some hi t u is h = subst (λ z. KeyAbove o z u) is h

  lower_start : (ds : List (Downlink S)) (lo hi : Option S) (t : S) → hi ≡ Some t → KeyAbove o lo t → Rises o ds hi → Rises o ds lo
  lower_start [] lo hi t is above r = tt
  lower_start (d ∷ ds) lo hi t is above r = (r.0, r.1, chain_keys lo t r.0 above (above_some hi t r.0 is r.2), r.3)

  pub skip : (ds es : List (Downlink S)) (lo : Option S) → Rises o (ds ++ es) lo → Rises o es lo
  skip [] es lo r = r
  skip (d ∷ ds) es lo r = lower_start es lo d.0 r.0 r.1 r.2 (skip ds es d.0 r.3)

  unwrap_is : (d : Downlink S) (t : S) → d.0 ≡ Some t → unwrap_or d.0 k.nothing ≡ t
  unwrap_is d t h = ap (λ z. unwrap_or z k.nothing) h

  -- the items of a page climb
  climbs_of : (ds es : List (Downlink S)) (lo high : Option S) → Rises o (ds ++ es) lo → ((lo : Option S) → Rises o es lo → (t : S) → high ≡ Some t → KeyAbove o lo t) → Climbs o (map (λ c. (unwrap_or c.0 k.nothing, c.1)) ds) lo high
  climbs_of [] es lo high r ends = ends lo r
  climbs_of (d ∷ ds) es lo high r ends =
      let is : unwrap_or d.0 k.nothing ≡ r.0 = unwrap_is d r.0 r.1 in
      let back : d.0 ≡ Some (unwrap_or d.0 k.nothing) = r.1 ∙ ap (λ z. Some z) (sym is) in
      (subst (KeyAbove o lo) (sym is) r.2, subst (λ z. Climbs o (map (λ c. (unwrap_or c.0 k.nothing, c.1)) ds) z high) back (climbs_of ds es d.0 high r.3 ends))

  -- the items of a page are the downlinks that it was made of
  back_is : (ds es : List (Downlink S)) (lo : Option S) → Rises o (ds ++ es) lo → map {A = S × ℕ} (λ c. (Some c.0, c.1)) (map (λ c. (unwrap_or c.0 k.nothing, c.1)) ds) ≡ ds
  back_is [] es lo r = refl
  back_is (d ∷ ds) es lo r =
      let is : Some (unwrap_or d.0 k.nothing) ≡ d.0 = ap (λ z. Some z) (unwrap_is d r.0 r.1) ∙ sym r.1 in
      let head : ◌≡◌ {A = Downlink S} (Some (unwrap_or d.0 k.nothing), d.1) d = λ i. (is i, d.1) in
      let tail = back_is ds es d.0 r.3 in
      cc

  pub downs_back : (pages : List (List (Downlink S))) → Each (λ page. page ≢ []) pages → RisesFrom o (joined pages) → flat_map (λ s. page_downlinks s.lower s.children) (map (internal_sheet k) pages) ≡ joined pages
  downs_back [] filled r = refl
  downs_back ([] ∷ pages) filled r = absurd (filled.0 refl)
  downs_back ((d ∷ ds) ∷ pages) filled r =
      ap (λ w. (d ∷ w) ++ flat_map (λ s. page_downlinks s.lower s.children) (map (internal_sheet k) pages)) (back_is ds (joined pages) d.0 r)
      ∙ ap (λ w. (d ∷ ds) ++ w) (downs_back pages filled.1 (from pages filled.1 d.0 (skip ds (joined pages) d.0 r)))
    where
      from : (pages : List (List (Downlink S))) → Each (λ page. page ≢ []) pages → (lo : Option S) → Rises o (joined pages) lo → RisesFrom o (joined pages)
      from [] filled lo r = tt
      from ([] ∷ pages) filled lo r = absurd (filled.0 refl)
      from ((e ∷ es) ∷ pages) filled lo r = r.3

  children_of : (P : ℕ → Type 0) (ds : List (Downlink S)) → Each (λ d. P d.1) ds → Each {X = S × ℕ} (λ c. P c.1) (map (λ c. (unwrap_or c.0 k.nothing, c.1)) ds)
  children_of P [] h = tt
  children_of P (d ∷ ds) h = (h.0, children_of P ds h.1)

  pub internal_content : (m : ℕ) (pages : List (List (Downlink S))) → Each (λ page. page ≢ []) pages → RisesFrom o (joined pages) → Each (λ d. IsInUse x d.1 × ((x.page d.1).level + 1 ≡ suc m)) (joined pages) → Content o k x (suc m) (map (internal_sheet k) pages)
  internal_content m [] filled r below = tt
  internal_content m ([] ∷ pages) filled r below = absurd (filled.0 refl)
  internal_content m ((d ∷ ds) ∷ []) filled r below = (
    record {
      key = λ t h. absurd cc;
      a_key = λ ne. absurd (ne refl);
      rising = tt;
      within = λ t h. absurd cc;
      above = λ e h. absurd cc;
      climb = λ h. (refl, climbs_of ds [] d.0 None r (λ lo r t h. absurd cc));
      child = λ h. (below.0, children_of (λ b. IsInUse x b × ((x.page b).level + 1 ≡ suc m)) ds (Each-front (λ d. IsInUse x d.1 × ((x.page d.1).level + 1 ≡ suc m)) ds [] below.1));
      bare = λ h. refl;
    },
    tt,
  )
  internal_content m ((d ∷ ds) ∷ [] ∷ pages) filled r below = absurd (filled.1.0 refl)
  internal_content m ((d ∷ ds) ∷ (e ∷ es) ∷ pages) filled r below =
      let rest : List (Downlink S) = joined ((e ∷ es) ∷ pages) in
      let next : Rises o rest d.0 = skip ds rest d.0 r in (
        record {
          key = λ t h. let same : next.0 ≡ t = some_is next.0 t (sym next.1 ∙ h) in subst (KeyAbove o d.0) same next.2;
          a_key = λ ne. (next.0, next.1);
          rising = tt;
          within = λ t h. λ e l. absurd cc;
          above = λ e h. absurd cc;
          climb = λ h. (refl, climbs_of ds rest d.0 e.0 r (λ lo r t h. subst (KeyAbove o lo) (some_is r.0 t (sym r.1 ∙ h)) r.2));
          child = λ h. (below.0, children_of (λ b. IsInUse x b × ((x.page b).level + 1 ≡ suc m)) ds (Each-front (λ d. IsInUse x d.1 × ((x.page d.1).level + 1 ≡ suc m)) ds rest below.1));
          bare = λ h. refl;
        },
        internal_content m ((e ∷ es) ∷ pages) filled.1 next.3 (Each-back (λ d. IsInUse x d.1 × ((x.page d.1).level + 1 ≡ suc m)) ds rest below.1),
      )
    where
      some_is : (t u : S) → Some t ≡ Some u → t ≡ u
      some_is t u h = cc

  -- the pages of a level, as items
  pub items_rise : (s : Sheet S E) (sheets : List (Sheet S E)) (m b : ℕ) → Content o k x m (s ∷ sheets) → Rises o (items_of sheets b) s.lower
  items_rise s [] m b content = tt
  items_rise s (t ∷ sheets) m b content =
      let a = content.0.a_key (λ e. absurd cc) in
      (a.0, a.1, content.0.key a.0 a.1, items_rise t sheets m (suc b) content.1)
