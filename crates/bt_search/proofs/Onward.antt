-- The way of an entry, from page to page.
use Rattle.std.proofs.Common.{◌≡◌, ◌≢◌, ℕ, zero, suc, ◌+◌, ◌<◌, Bool, true, false, List, [], ◌∷◌, refl, sym, subst, ◌∙◌, arith}
use Rattle.std.specs.Prelude.{Contains, IfSome, None, Option, Some, cond, if◌then◌else◌, not, nat_lt, option_map, ◌==◌, ◌&&◌, ◌||◌}
use Rattle.std.proofs.lemmas.Bool.{and_from, and_parts, both_ways, eq-eqb, ltb-true, not_from_false, not-true, or_parts}
use Rattle.outside.specs.Outside.{Names}
use Rattle.laws_search.specs.Keys.{Entry}
use Rattle.laws_search.specs.Probe.{child_for, leaf_after}
use Rattle.laws_search.specs.Search.{entries_of, right_of}
use Rattle.key_orders.specs.declared.columns.Value.{Value}
use Rattle.key_orders.specs.declared.Tid.{Tid}
use Rattle.key_attrs.specs.Columns.{TreeColumns}
use Rattle.bt_meta.specs.Flags.{is_half_dead, is_leaf}
use Rattle.bt_meta.specs.Pages.{is_idle, opaque_of}
use Rattle.bt_levels.specs.declared.sound.SoundTree.{SoundTree}
use Rattle.bt_levels.specs.Sound.{HoldsTree, block_count, fastroot_of, held_block, image_of, index_columns, specs_of}
use Rattle.bt_image.specs.Image.{TreeIndex, page_image, page_keys}
use Rattle.bt_steps.specs.Pages.{IsReadable}
use Rattle.bt_steps.specs.Sought.{HasSought, IsSought, is_below}
use Rattle.bt_steps.specs.Ways.{Goes, Key, Leads, down_to, is_left_behind, next_of}
use Rattle.bt_steps.specs.declared.inner.Step.{Step}
use Rattle.bt_steps.specs.declared.inner.Step.TheVariants.{Read}
use Rattle.bt_steps.specs.declared.leaf.Place.{Place}
use Rattle.bt_steps.proofs.OnLeaf.{page-readable}
use Rattle.bt_search.specs.Lookups.{HasLeaf, IsLookedUp, way_length}

none-some : {p : ℕ} → ◌≡◌ {A = Option ℕ} None (Some p) → ⊥
none-some h = cc

some-is : {m n : ℕ} → ◌≡◌ {A = Option ℕ} (Some m) (Some n) → m ≡ n
some-is h = cc

module _ (x : TreeIndex) (goes : Goes) where
  abbrev usable : ℕ → Bool
  usable b = not (b == 0) && (nat_lt b x.blocks && not (x.page b).idle)

  abbrev down-way : ℕ → List (Key × ℕ) → Option ℕ
  down-way n [] = None
  down-way n (c ∷ cs) = leaf_after x goes n (child_for goes c cs)

  abbrev step-by : (usable behind leaf : Bool) → (n b next : ℕ) → List (Key × ℕ) → Option ℕ
  step-by u behind leaf n b next cs =
      cond u (cond behind (leaf_after x goes n next) (cond (not leaf) (down-way n cs) (Some b))) None

  step-is : (n b : ℕ) → leaf_after x goes (suc n) b ≡ step-by (usable b) (right_of goes (x.page b).high_key || (x.page b).half_dead) (x.page b).leaf n b (x.page b).next (x.page b).children
  step-is n b = refl

  -- a page on the way is one that can be visited, and the way isn't over
  pub record OnWay (n b : ℕ) : Type 0 where
    pub left : ℕ
    pub more : n ≡ suc left
    pub not_meta : b ≢ 0
    pub inside : b < x.blocks
    pub used : (x.page b).idle ≡ false

  pub on-way : (n b p : ℕ) → leaf_after x goes n b ≡ Some p → OnWay n b
  on-way zero b p way = absurd (none-some way)
  on-way (suc n) b p way =
      let ok = go (usable b) _ _ (sym (step-is n b) ∙ way) in
      let parts = and_parts (not (b == 0)) _ ok in
      let rest = and_parts (nat_lt b x.blocks) _ parts.1 in
      record {
        left = n;
        more = refl;
        not_meta = λ none. both_ways (b == 0) (not-true _ parts.0) (eq-eqb b 0 none);
        inside = ltb-true b x.blocks rest.0;
        used = not-true _ rest.1;
      }
    where
      go : (u : Bool) (a : Option ℕ) (q : ℕ) → cond u a None ≡ Some q → u ≡ true
      go true a q h = refl
      go false a q h = absurd (none-some h)

  -- where a visit leads, the way goes
  pub goes-on : (n b p next : ℕ) → leaf_after x goes (suc n) b ≡ Some p → next_of goes (x.page b) ≡ Some next → leaf_after x goes n next ≡ Some p
  goes-on n b p next way to =
      go (usable b) (right_of goes (x.page b).high_key || (x.page b).half_dead) (x.page b).leaf (x.page b).next (x.page b).children (sym (step-is n b) ∙ way) to
    where
      from : (k : ℕ) → leaf_after x goes n k ≡ Some p → Some k ≡ Some next → leaf_after x goes n next ≡ Some p
      from k w e = subst (λ (j : ℕ). leaf_after x goes n j ≡ Some p) (some-is e) w

      go : (u behind leaf : Bool) (k : ℕ) (cs : List (Key × ℕ)) → step-by u behind leaf n b k cs ≡ Some p → cond behind (Some k) (cond leaf None (down_to goes cs)) ≡ Some next → leaf_after x goes n next ≡ Some p
      go false behind leaf k cs w e = absurd (none-some w)
      go true true leaf k cs w e = from k w e
      go true false true k cs w e = absurd (none-some e)
      go true false false k [] w e = absurd (none-some w)
      go true false false k (c ∷ cs) w e = from (child_for goes c cs) w e

  -- and where a leaf is read, it ends
  pub ends-here : (n b p : ℕ) → leaf_after x goes (suc n) b ≡ Some p → (right_of goes (x.page b).high_key || (x.page b).half_dead) ≡ false → (x.page b).leaf ≡ true → b ≡ p
  ends-here n b p way stays leaf =
      go (usable b) (right_of goes (x.page b).high_key || (x.page b).half_dead) (x.page b).leaf (x.page b).next (x.page b).children (sym (step-is n b) ∙ way) stays leaf
    where
      go : (u behind leaf : Bool) (k : ℕ) (cs : List (Key × ℕ)) → step-by u behind leaf n b k cs ≡ Some p → behind ≡ false → leaf ≡ true → b ≡ p
      go false behind leaf k cs w f t = absurd (none-some w)
      go true true leaf k cs w f t = absurd (both_ways true f refl)
      go true false true k cs w f t = some-is w
      go true false false k cs w f t = absurd (both_ways false refl t)

-- An entry of an index that the names hold

module _ (names : Names) (sound : SoundTree) (key : List Value) (tid : Tid) where
  abbrev way : ℕ → ℕ → ℕ → Type 0
  way n b p = leaf_after (image_of names sound) (is_below (specs_of sound) key tid) n b ≡ Some p

  -- so many visits were made, and the way goes on from a block
  pub record IsUnderWay (made b : ℕ) : Type 0 where
    pub leaf : ℕ
    pub short : ℕ
    pub wide : ℕ
    pub soon : way short b leaf
    pub inside : way wide b leaf
    pub short_is : made + short ≡ way_length names sound
    pub wide_is : made + wide ≡ block_count sound
    pub only : (e : Entry Value Tid) → Contains (entries_of (image_of names sound)) e → IsSought key tid e
        → Contains ((image_of names sound).page leaf).entries e

  pub begins : HasLeaf names sound key tid → IsUnderWay 0 (fastroot_of sound)
  begins l = record {
    leaf = l.leaf;
    short = way_length names sound;
    wide = block_count sound;
    soon = l.soon;
    inside = l.inside;
    short_is = omega arith;
    wide_is = omega arith;
    only = l.only;
  }

  -- the way can be gone on
  pub is-open : (made b : ℕ) → IsUnderWay made b → (made < block_count sound) × (made < way_length names sound) × (b ≢ 0) × (b < block_count sound) × (is_idle (held_block names sound b) ≡ false)
  is-open made b u =
      let s = on-way (image_of names sound) (is_below (specs_of sound) key tid) u.short b u.leaf u.soon in
      let w = on-way (image_of names sound) (is_below (specs_of sound) key tid) u.wide b u.leaf u.inside in
      let more = s.more in
      let most = w.more in
      let short_is = u.short_is in
      let wide_is = u.wide_is in
      (omega (arith, most, wide_is), omega (arith, more, short_is), w.not_meta, w.inside, w.used)

  -- one visit
  pub goes-to : (made b next : ℕ) → IsUnderWay made b → next_of (is_below (specs_of sound) key tid) (page_image (index_columns sound).specs (index_columns sound).more (held_block names sound b)) ≡ Some next → IsUnderWay (made + 1) next
  goes-to made b next u to =
      let x = image_of names sound in
      let goes = is_below (specs_of sound) key tid in
      let s = on-way x goes u.short b u.leaf u.soon in
      let w = on-way x goes u.wide b u.leaf u.inside in
      let more = s.more in
      let most = w.more in
      let short_is = u.short_is in
      let wide_is = u.wide_is in
      record {
        leaf = u.leaf;
        short = s.left;
        wide = w.left;
        soon = goes-on x goes s.left b u.leaf next (subst (λ (n : ℕ). way n b u.leaf) s.more u.soon) to;
        inside = goes-on x goes w.left b u.leaf next (subst (λ (n : ℕ). way n b u.leaf) w.more u.inside) to;
        short_is = omega (arith, more, short_is);
        wide_is = omega (arith, most, wide_is);
        only = u.only;
      }

  -- the leaf is read
  pub is-leaf-of : (made b : ℕ) → IsUnderWay made b → is_left_behind (index_columns sound) (is_below (specs_of sound) key tid) (held_block names sound b) ≡ false → is_leaf (opaque_of (held_block names sound b)) ≡ true → (u : IsUnderWay made b) → b ≡ u.leaf
  is-leaf-of made b v stays leaf u =
      let x = image_of names sound in
      let goes = is_below (specs_of sound) key tid in
      let s = on-way x goes u.short b u.leaf u.soon in
      ends-here x goes s.left b u.leaf (subst (λ (n : ℕ). way n b u.leaf) s.more u.soon) stays leaf

  -- the pages on the way can be read
  pub readable-on : HoldsTree names sound → (made b : ℕ) → IsUnderWay made b → IsReadable (index_columns sound) (held_block names sound b)
  readable-on holds made b u =
      let open-way = is-open made b u in
      page-readable (index_columns sound) (block_count sound) (held_block names sound) b (holds.pages.pages b open-way.2 open-way.3 open-way.4)

  abbrev goes-below : Goes
  goes-below = is_below (specs_of sound) key tid

  -- where a visit leads, by what is in hand
  pub led : HoldsTree names sound → (made b : ℕ) → IsUnderWay made b → (columns : TreeColumns) (page : List ℕ) (step : Step)
      → columns ≡ index_columns sound → page ≡ held_block names sound b
      → (IsReadable columns page → Leads columns (is_below columns.specs key tid) page step) → Leads (index_columns sound) goes-below (held_block names sound b) step
  led holds made b u columns page step same-specs same-page leads =
      let with-specs : IsReadable (index_columns sound) page → Leads (index_columns sound) goes-below page step =
      subst (λ (s : TreeColumns). IsReadable s page → Leads s (is_below s.specs key tid) page step) same-specs leads in
      subst (λ (p : List ℕ). IsReadable (index_columns sound) p → Leads (index_columns sound) goes-below p step) same-page with-specs
      (readable-on holds made b u)

  -- what is found on the leaf
  pub found-on : HoldsTree names sound → (made b : ℕ) → IsUnderWay made b → Leads (index_columns sound) goes-below (held_block names sound b) Read
      → (at : Option Place)
      → IfSome at (λ place. HasSought (index_columns sound) (held_block names sound b) key tid place.item place.nth)
      → (at ≡ None → IsReadable (index_columns sound) (held_block names sound b) → is_leaf (opaque_of (held_block names sound b)) ≡ true
      → is_half_dead (opaque_of (held_block names sound b)) ≡ false
      → (e : Entry Value Tid) → Contains (page_keys (index_columns sound).specs (index_columns sound).more (held_block names sound b)) e → IsSought key tid e → e.killed ≡ true)
      → IsLookedUp names sound key tid (option_map (λ place. record { block = b; item = place.item; nth = place.nth }) at)
  found-on holds made b u read (Some place) there none =
      let open-way = is-open made b u in
      record {
        not_meta = open-way.2;
        inside = open-way.3;
        used = open-way.4;
        leaf = read.1;
        alive = (or_parts _ _ read.0).1;
        there = there;
      }
  found-on holds made b u read None there none = λ e among sought.
      let page = held_block names sound b in
      let alive = (or_parts _ _ read.0).1 in
      let is : u.leaf ≡ b = sym (is-leaf-of made b u read.0 read.1 u) in
      let here : Contains ((image_of names sound).page b).entries e = subst (λ (k : ℕ). Contains ((image_of names sound).page k).entries e) is (u.only e among sought) in
      let keys : Contains (page_keys (index_columns sound).specs (index_columns sound).more page) e =
      subst (λ (shown : Bool). Contains (if shown then page_keys (index_columns sound).specs (index_columns sound).more page else []) e) (and_from _ _ read.1 (not_from_false _ alive)) here in
      none refl (readable-on holds made b u) read.1 alive e keys sought

-- what was found on a page, which is known by another name

pub there-on : (s t : TreeColumns) (p q : List ℕ) (key : List Value) (tid : Tid) (at : Option Place) → s ≡ t → p ≡ q
    → IfSome at (λ place. HasSought s p key tid place.item place.nth) → IfSome at (λ place. HasSought t q key tid place.item place.nth)
there-on s t p q key tid at same-specs same-page h =
    subst (λ (x : List ℕ). IfSome at (λ place. HasSought t x key tid place.item place.nth)) same-page
    (subst (λ (x : TreeColumns). IfSome at (λ place. HasSought x p key tid place.item place.nth)) same-specs h)

abbrev pub NoneOn : TreeColumns → List ℕ → List Value → Tid → Option Place → Type 0
NoneOn s p key tid at =
    at ≡ None → IsReadable s p → is_leaf (opaque_of p) ≡ true → is_half_dead (opaque_of p) ≡ false
    → (e : Entry Value Tid) → Contains (page_keys s.specs s.more p) e → IsSought key tid e → e.killed ≡ true

pub none-on : (s t : TreeColumns) (p q : List ℕ) (key : List Value) (tid : Tid) (at : Option Place) → s ≡ t → p ≡ q
    → NoneOn s p key tid at → NoneOn t q key tid at
none-on s t p q key tid at same-specs same-page h =
    subst (λ (x : List ℕ). NoneOn t x key tid at) same-page (subst (λ (x : TreeColumns). NoneOn x p key tid at) same-specs h)
