-- What is in hand of the downlinks to a level.
use Rattle.std.proofs.Common.{◌≡◌, ◌≢◌, ℕ, suc, ◌+◌, ◌-◌, ◌<◌, ◌≤◌, ◌⊎◌, inl, inr, Bool, true, false, List, [], ◌∷◌, drop, refl, sym, ap, subst, ◌∙◌, arith}
use Rattle.std.specs.Prelude.{Some, None, not, ◌==◌, slice_get, option_map, cond}
use Rattle.std.proofs.lemmas.Bool.{both_ways, cases_Bool, eq-eqb, eqb-true}
use Rattle.page_layout.specs.Page.{count_of}
use Rattle.laws_search.specs.Levels.{page_downlinks}
use Rattle.laws_levels.specs.Cursor.{turned_cursor}
use Rattle.laws_levels.specs.LevelWalk.{is_all_met}
use Rattle.laws_levels.specs.Meeting.{next_separator}
use Rattle.key_orders.specs.declared.columns.KeySpec.{KeySpec}
use Rattle.key_orders.specs.declared.more.MoreSpec.{MoreSpec}
use Rattle.bt_meta.specs.Flags.{is_half_dead, is_leaf}
use Rattle.bt_meta.specs.Pages.{opaque_of}
use Rattle.bt_image.specs.Image.{downlink_in, first_data, item_at, page_image}
use Rattle.bt_image.specs.Pages.{KeepsPage}
use Rattle.bt_image.proofs.PageFields.{half_dead_leaf, has_item, leaf_below}
use Rattle.bt_pages.specs.Trees.{Tree}
use Rattle.bt_level_check.specs.declared.downlinks.Downlinks.{Downlinks}
use Rattle.bt_level_check.specs.declared.downlinks.Hand.{Hand}
use Rattle.bt_level_check.specs.declared.downlinks.Hand.TheVariants.{Nothing, Root, Item}
use Rattle.bt_level_step.specs.Bounds.{Bound}
use Rattle.bt_level_step.specs.Pages.{TreeDownlink, downlinks_from}
use Rattle.bt_level_check.specs.Downlinks.{HasAdvanced, IsInner, IsSoundHand, Reads, cursor_of, hand_after, hand_bound, hand_downlinks, in_hand, is_held, is_settled, settled_by}
use Rattle.bt_level_check.specs.Reading.{IsOfLevel, IsReading}
use Rattle.bt_level_check.specs.Trees.{KeepsPages, image_of}
use Rattle.bt_level_step.proofs.Pages.{Next, hand_end, hand_next}
use Rattle.bt_level_check.proofs.Reading.{advances, empty_at, fewer, none_ahead, nothing_left, turns}

pub not_held : (hand : Hand) → is_held hand ≡ false → hand ≡ Nothing
not_held Nothing e = refl
not_held (Root b) e = absurd cc
not_held (Item i) e = absurd cc

pub tail_is : {X : Type 0} (x y : X) (xs ys : List X) → x ∷ xs ≡ y ∷ ys → xs ≡ ys
tail_is x y xs ys e = cc

module _ (specs : List KeySpec) (more : List MoreSpec) (old : Downlinks) (i : ℕ) (at : old.hand ≡ Item i) (hand : IsSoundHand specs more old.page old.hand) where
  pub inner : IsInner specs more old.page i
  inner = subst (IsSoundHand specs more old.page) at hand

  pub next : Next specs more old.page inner.inner old.lower i
  next = hand_next specs more old.page inner.inner old.lower i inner.data_item

  pub listed : in_hand specs more old ≡ (next.separator, downlink_in (item_at specs more old.page i)) ∷ downlinks_from specs more old.page old.lower (i + 1)
  listed = ap (hand_downlinks specs more old.page old.lower) at ∙ next.list

  pub target_is : option_map (λ d. d.1) (slice_get (in_hand specs more old) 0) ≡ Some (downlink_in (item_at specs more old.page i))
  target_is = ap (λ ds. option_map (λ d. d.1) (slice_get ds 0)) listed

  pub separator_is : next_separator (in_hand specs more old) ≡ next.separator
  separator_is = ap next_separator listed

  module _ (d : TreeDownlink) (ds : List TreeDownlink) (is : in_hand specs more old ≡ d ∷ ds) where
    rest_is : downlinks_from specs more old.page old.lower (i + 1) ≡ ds
    rest_is = tail_is _ d _ ds (sym listed ∙ is)

    bound_is : (cursor_of specs more old).lower ≡ (page_image specs more old.page).high_key
    bound_is = ap (hand_bound specs more old.page old.lower) at

    pub advanced_in : i < count_of old.page → HasAdvanced specs more old (record { page = old.page; hand = Item (i + 1); lower = old.lower; next = old.next; turns_left = old.turns_left }) ds
    advanced_in lt =
        let k = inner in
        let from = k.data_item.from in
        record {
          hand = record { data_item = record { from = omega (arith, from); to = omega (arith, lt) }; items = k.items; inner = k.inner; whole = k.whole };
          cursor = λ j. record { items = rest_is j; lower = sym bound_is j; block = old.next };
        }

    pub advanced_out : (lower : Bound) → i ≡ count_of old.page → lower ≡ (page_image specs more old.page).high_key → HasAdvanced specs more old (record { page = old.page; hand = Nothing; lower = lower; next = old.next; turns_left = old.turns_left }) ds
    advanced_out lower last key = record {
      hand = tt;
      cursor = λ j. record { items = (sym (hand_end specs more old.page inner.inner old.lower i inner.data_item.from last) ∙ rest_is) j; lower = (key ∙ sym bound_is) j; block = old.next };
    }

module _ (tree : Tree) (dead : ℕ → Bool) (level : ℕ) (keeps : KeepsPages tree) where
  -- a page above the leaves that keeps the rules
  pub record IsUpper (b : ℕ) : Type 0 where
    pub kept : KeepsPage tree.specs tree.more tree.blocks tree.block b
    pub inner : is_leaf (opaque_of (tree.block b)) ≡ false
    pub whole : is_half_dead (opaque_of (tree.block b)) ≡ false
    pub some : first_data (tree.block b) ≤ count_of (tree.block b)

  pub upper : (b : ℕ) → IsOfLevel (image_of tree) (suc level) b → IsUpper b
  upper b of_level =
      let used = of_level.0 in
      let at : (opaque_of (tree.block b)).level ≡ suc level = of_level.1 in
      let kept = keeps.pages b used.not_meta used.inside used.used in
      let inner : is_leaf (opaque_of (tree.block b)) ≡ false = elim (cases_Bool (is_leaf (opaque_of (tree.block b)))) [
        | inl leaf ↦ let low = leaf_below (tree.block b) kept.level leaf in absurd (omega (arith, at, low))
        | inr e ↦ e
      ] in
      let whole : is_half_dead (opaque_of (tree.block b)) ≡ false = elim (cases_Bool (is_half_dead (opaque_of (tree.block b)))) [
        | inl half ↦ absurd (let clash : true ≡ false = sym (half_dead_leaf (tree.block b) kept.half_dead half) ∙ inner in cc)
        | inr e ↦ e
      ] in
      record { kept = kept; inner = inner; whole = whole; some = has_item (tree.block b) kept.some_items inner }

  module _ (m : ℕ) (old : Downlinks) (left : List TreeDownlink) (nothing : is_held old.hand ≡ false) (ne : old.next ≢ 0) (reads : Reads tree dead (suc level) (suc m) old left) where
    before : cursor_of tree.specs tree.more old ≡ record { items = []; lower = old.lower; block = old.next }
    before = λ j. record {
      items = ap (hand_downlinks tree.specs tree.more old.page old.lower) (not_held old.hand nothing) j;
      lower = ap (hand_bound tree.specs tree.more old.page old.lower) (not_held old.hand nothing) j;
      block = old.next;
    }

    turned : IsOfLevel (image_of tree) (suc level) old.next × IsReading (image_of tree) dead (suc level) m (turned_cursor (image_of tree) dead (record { items = []; lower = old.lower; block = old.next })) left
    turned = turns (image_of tree) dead (suc level) m old.lower old.next left ne (subst (λ k. IsReading (image_of tree) dead (suc level) (suc m) k left) before reads.reading)

    pub next_upper : IsUpper old.next
    next_upper = upper old.next turned.0

    pub next_inside : old.next < tree.blocks
    next_inside = turned.0.0.inside

    pub turn_reads : (new : Downlinks) → new.page ≡ tree.block old.next → new.lower ≡ old.lower → new.next ≡ (opaque_of new.page).next → new.hand ≡ hand_after new.page (dead old.next) → Reads tree dead (suc level) m new left
    turn_reads new page lower link hand = by (dead old.next) refl
      where
        p : List ℕ
        p = tree.block old.next

        next_is : (opaque_of p).next ≡ new.next
        next_is = sym (link ∙ ap (λ (q : List ℕ). (opaque_of q).next) page)

        by : (t : Bool) → dead old.next ≡ t → Reads tree dead (suc level) m new left
        by true e =
            let none : new.hand ≡ Nothing = hand ∙ ap (hand_after new.page) e in
            let same : turned_cursor (image_of tree) dead (empty_at (image_of tree) dead (suc level) old.lower old.next) ≡ cursor_of tree.specs tree.more new =
            ap (λ (t : Bool). cond t (record { items = []; lower = old.lower; block = (opaque_of p).next }) (record { items = page_downlinks old.lower (page_image tree.specs tree.more p).children; lower = (page_image tree.specs tree.more p).high_key; block = (opaque_of p).next })) e
            ∙ (λ j. record { items = ap (hand_downlinks tree.specs tree.more new.page new.lower) (sym none) j; lower = (sym lower ∙ ap (hand_bound tree.specs tree.more new.page new.lower) (sym none)) j; block = next_is j }) in
            record {
              hand = subst (IsSoundHand tree.specs tree.more new.page) (sym none) tt;
              reading = subst (λ k. IsReading (image_of tree) dead (suc level) m k left) same turned.1;
            }
        by false e =
            let some : new.hand ≡ Item (first_data new.page) = hand ∙ ap (hand_after new.page) e in
            let zero_off : 0 ≡ first_data p - first_data p = omega arith in
            let items : page_downlinks old.lower (page_image tree.specs tree.more p).children ≡ in_hand tree.specs tree.more new =
            ap (λ (k : ℕ). drop k (page_downlinks old.lower (page_image tree.specs tree.more p).children)) zero_off
            ∙ (λ j. downlinks_from tree.specs tree.more (sym page j) (sym lower j) (first_data (sym page j)))
            ∙ ap (hand_downlinks tree.specs tree.more new.page new.lower) (sym some) in
            let bound : (page_image tree.specs tree.more p).high_key ≡ (cursor_of tree.specs tree.more new).lower =
            ap (λ (q : List ℕ). (page_image tree.specs tree.more q).high_key) (sym page) ∙ ap (hand_bound tree.specs tree.more new.page new.lower) (sym some) in
            let same : turned_cursor (image_of tree) dead (empty_at (image_of tree) dead (suc level) old.lower old.next) ≡ cursor_of tree.specs tree.more new =
            ap (λ (t : Bool). cond t (record { items = []; lower = old.lower; block = (opaque_of p).next }) (record { items = page_downlinks old.lower (page_image tree.specs tree.more p).children; lower = (page_image tree.specs tree.more p).high_key; block = (opaque_of p).next })) e
            ∙ (λ j. record { items = items j; lower = bound j; block = next_is j }) in
            let u = next_upper in
            let here : IsInner tree.specs tree.more p (first_data p) = record { data_item = record { from = omega arith; to = u.some }; items = record { some = u.kept.some_items; plain = u.kept.items }; inner = u.inner; whole = u.whole } in
            record {
              hand = subst (IsSoundHand tree.specs tree.more new.page) (sym some) (subst (λ (q : List ℕ). IsInner tree.specs tree.more q (first_data q)) (sym page) here);
              reading = subst (λ k. IsReading (image_of tree) dead (suc level) m k left) same turned.1;
            }

-- A CURSOR THAT IS SETTLED

pub not_settled : (d : Downlinks) → is_settled d ≡ false → (is_held d.hand ≡ false) × (d.next ≢ 0)
not_settled d e = by (is_held d.hand) refl e
  where
    by : (t : Bool) → is_held d.hand ≡ t → settled_by t d.next ≡ false → (is_held d.hand ≡ false) × (d.next ≢ 0)
    by true is none = absurd cc
    by false is none = (is, λ z. both_ways (d.next == 0) none (eq-eqb d.next 0 z))

pub more_reads : (tree : Tree) (dead : ℕ → Bool) (level m n : ℕ) (d : Downlinks) (left : List TreeDownlink) → m ≤ n → Reads tree dead level m d left → Reads tree dead level n d left
more_reads tree dead level m n d left le k = record { hand = k.hand; reading = fewer (image_of tree) dead level m n (cursor_of tree.specs tree.more d) left le k.reading }

-- where no page is left to be read
pub at_end : (tree : Tree) (dead : ℕ → Bool) (level m : ℕ) (d : Downlinks) (left : List TreeDownlink) → m ≡ 0 → Reads tree dead level m d left → is_settled d ≡ true
at_end tree dead level m d left none k =
    let z : d.next ≡ 0 = none_ahead (image_of tree) dead level m (cursor_of tree.specs tree.more d) left none k.reading in
    by (is_held d.hand) z
  where
    by : (t : Bool) → d.next ≡ 0 → settled_by t d.next ≡ true
    by true z = refl
    by false z = eq-eqb d.next 0 z

-- what is held is a downlink
pub record HasSome (specs : List KeySpec) (more : List MoreSpec) (d : Downlinks) : Type 0 where
  pub first : TreeDownlink
  pub later : List TreeDownlink
  pub is : in_hand specs more d ≡ first ∷ later

pub held_some : (specs : List KeySpec) (more : List MoreSpec) (d : Downlinks) (hand : Hand) → d.hand ≡ hand → IsSoundHand specs more d.page d.hand → is_held d.hand ≡ true → HasSome specs more d
held_some specs more d Nothing at sound held = absurd (let clash : false ≡ true = sym (ap is_held at) ∙ held in cc)
held_some specs more d (Root b) at sound held = record { first = (None, b); later = []; is = ap (hand_downlinks specs more d.page d.lower) at }
held_some specs more d (Item i) at sound held = record { first = _; later = _; is = listed specs more d i at sound }

pub settled_by_cases : (d : Downlinks) → is_settled d ≡ true → (is_held d.hand ≡ true) ⊎ ((is_held d.hand ≡ false) × (d.next ≡ 0))
settled_by_cases d settled = elim (cases_Bool (is_held d.hand)) [
  | inl e ↦ inl e
  | inr e ↦ inr (e, eqb-true d.next 0 (sym (ap (λ (t : Bool). settled_by t d.next) e) ∙ settled))
]

module _ (tree : Tree) (dead : ℕ → Bool) (level m : ℕ) (d : Downlinks) where
  -- nothing is left behind a cursor without a downlink at the end
  pub none_left : (left : List TreeDownlink) → is_held d.hand ≡ false → d.next ≡ 0 → Reads tree dead level m d left → left ≡ []
  none_left left nothing z k =
      let at : cursor_of tree.specs tree.more d ≡ record { items = []; lower = d.lower; block = 0 } = λ j. record {
        items = ap (hand_downlinks tree.specs tree.more d.page d.lower) (not_held d.hand nothing) j;
        lower = ap (hand_bound tree.specs tree.more d.page d.lower) (not_held d.hand nothing) j;
        block = z j;
      } in
      nothing_left (image_of tree) dead level m d.lower left (subst (λ c. IsReading (image_of tree) dead level m c left) at k.reading)

  -- what is in hand comes first
  pub record Behind (first : TreeDownlink) (later left : List TreeDownlink) : Type 0 where
    pub rest : List TreeDownlink
    pub is : left ≡ first ∷ rest
    pub reading : IsReading (image_of tree) dead level m (record { items = later; lower = (cursor_of tree.specs tree.more d).lower; block = d.next }) rest

  pub behind : (first : TreeDownlink) (later left : List TreeDownlink) → in_hand tree.specs tree.more d ≡ first ∷ later → Reads tree dead level m d left → Behind first later left
  behind first later left is k =
      let bound = (cursor_of tree.specs tree.more d).lower in
      let at : cursor_of tree.specs tree.more d ≡ record { items = first ∷ later; lower = bound; block = d.next } = λ j. record { items = is j; lower = bound; block = d.next } in
      let a = advances (image_of tree) dead level m first later bound d.next left (subst (λ c. IsReading (image_of tree) dead level m c left) at k.reading) in
      record { rest = a.later; is = a.first; reading = a.reading }

  -- past the downlink in hand
  pub pass_reads : (after : Downlinks) (first : TreeDownlink) (left : List TreeDownlink) → is_settled d ≡ true
      → ((e : TreeDownlink) (es : List TreeDownlink) → IsSoundHand tree.specs tree.more d.page d.hand → in_hand tree.specs tree.more d ≡ e ∷ es → HasAdvanced tree.specs tree.more d after es)
      → Reads tree dead level m d (first ∷ left) → Reads tree dead level m after left
  pass_reads after first left settled advanced k = elim (settled_by_cases d settled) [
    | inl held ↦
        let some = held_some tree.specs tree.more d d.hand refl k.hand held in
        let b = behind some.first some.later (first ∷ left) some.is k in
        let a = advanced some.first some.later k.hand some.is in
        let same : b.rest ≡ left = sym (tail_is first some.first left b.rest b.is) in
        record { hand = a.hand; reading = subst (λ ds. IsReading (image_of tree) dead level m (cursor_of tree.specs tree.more after) ds) same (subst (λ c. IsReading (image_of tree) dead level m c b.rest) (sym a.cursor) b.reading) }
    | inr done ↦ absurd (let none : first ∷ left ≡ [] = none_left (first ∷ left) done.0 done.1 k in cc)
  ]

  -- the first of what is left is in hand, if there is any
  pub in_front : (left : List TreeDownlink) → is_settled d ≡ true → Reads tree dead level m d left → slice_get (in_hand tree.specs tree.more d) 0 ≡ slice_get left 0
  in_front left settled k = elim (settled_by_cases d settled) [
    | inl held ↦
        let some = held_some tree.specs tree.more d d.hand refl k.hand held in
        let b = behind some.first some.later left some.is k in
        ap (λ (ds : List TreeDownlink). slice_get ds 0) some.is ∙ sym (ap (λ (ds : List TreeDownlink). slice_get ds 0) b.is)
    | inr done ↦
        ap (λ (h : Hand). slice_get (hand_downlinks tree.specs tree.more d.page d.lower h) 0) (not_held d.hand done.0)
        ∙ sym (ap (λ (ds : List TreeDownlink). slice_get ds 0) (none_left left done.0 done.1 k))
  ]

  pub separator_in_front : (left : List TreeDownlink) → is_settled d ≡ true → Reads tree dead level m d left → next_separator (in_hand tree.specs tree.more d) ≡ next_separator left
  separator_in_front left settled k = elim (settled_by_cases d settled) [
    | inl held ↦
        let some = held_some tree.specs tree.more d d.hand refl k.hand held in
        let b = behind some.first some.later left some.is k in
        ap next_separator some.is ∙ sym (ap next_separator b.is)
    | inr done ↦
        ap (λ (h : Hand). next_separator (hand_downlinks tree.specs tree.more d.page d.lower h)) (not_held d.hand done.0)
        ∙ sym (ap next_separator (none_left left done.0 done.1 k))
  ]

  -- all are met exactly where nothing is held
  pub all_met : (left : List TreeDownlink) → is_settled d ≡ true → Reads tree dead level m d left → is_all_met left ≡ not (is_held d.hand)
  all_met left settled k = elim (settled_by_cases d settled) [
    | inl held ↦
        let some = held_some tree.specs tree.more d d.hand refl k.hand held in
        let b = behind some.first some.later left some.is k in
        ap is_all_met b.is ∙ ap not (sym held)
    | inr done ↦ ap is_all_met (none_left left done.0 done.1 k) ∙ ap not (sym done.0)
  ]
