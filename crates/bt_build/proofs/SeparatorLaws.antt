-- A separator keeps first values of the entry on its right.
use Rattle.std.proofs.Common.{◌≡◌, ◌≢◌, ◌≤◌, ◌<◌, ◌+◌, ◌-◌, ◌∙◌, ℕ, zero, suc, true, false, List, [], ◌∷◌, length, map, take, drop, get_or, refl, sym, ap, subst, arith, length-drop, take-take, add-one}
use Rattle.std.specs.Prelude.{All, Some, None}
use Rattle.std.specs.List.{AllByRecursion}
use Rattle.std.specs.declared.cmp.Ordering.{Ordering}
use Rattle.std.specs.declared.cmp.Ordering.TheVariants.{Less, Equal, Greater}
use Rattle.std.proofs.lemmas.List.{take-append-le}
use Rattle.std.proofs.lemmas.List.Elements.{All-get_or}
use Rattle.laws_search.specs.Keys.{Columns, Separator}
use Rattle.laws_building.specs.Splits.{keep_by, split_values}
use Rattle.key_orders.specs.declared.columns.ColType.{ColType}
use Rattle.key_orders.specs.declared.columns.KeySpec.{KeySpec}
use Rattle.key_orders.specs.declared.columns.Value.{Value}
use Rattle.key_orders.specs.declared.more.MoreSpec.{MoreSpec}
use Rattle.key_orders.specs.declared.Tid.{Tid}
use Rattle.key_orders.specs.Keys.{columns_of}
use Rattle.key_orders.specs.Scans.{order_of}
use Rattle.key_orders.specs.Types.{HasAlignment}
use Rattle.key_storage.specs.Stored.{values_read}
use Rattle.key_storage.proofs.StoredLaws.{values_back}
use Rattle.key_storage.proofs.RowLaws.{read_there}
use Rattle.key_attrs.specs.Keyed.{key_types, more_types}
use Rattle.bt_image.specs.Image.{LeafEntry, minus_infinity}
use Rattle.page_write.specs.declared.index_tuples.BodyFlags.{BodyFlags}
use Rattle.page_write.specs.declared.index_tuples.Kept.{Kept}
use Rattle.page_write.specs.Bodies.{MayAllStand, body_flags, index_body, null_part, with_values}
use Rattle.page_write.specs.Tuples.{pivot_tuple}
use Rattle.laws_built_index.proofs.Short.{length_pivot, length_types, types_front}
use Rattle.laws_built_index.specs.Items.{MayBeLaid, MaySplit, entry_types, kept_types, pivot_item, plain_item}
use Rattle.laws_built_index.specs.Sizes.{AreIndexable, entry_in}
use Rattle.bt_build.specs.declared.entries.Place.{Place}
use Rattle.bt_build.specs.Kept.{IsKept, entries_at, entry_at}
use Rattle.bt_build.specs.Separators.{first_split, front_of, split_before, split_of}
use Rattle.bt_build.proofs.GroupLaws.{drop_entries, nowhere}
use Rattle.bt_build.proofs.SortedLaws.{behind_count, front_read}
use Rattle.std.proofs.Math.Seq.{drop-cons}
use Rattle.std.proofs.lemmas.List.{get_or-map, length-map}

prefix_by : (o : Ordering) (y : Value) (s : Separator Value Tid) (ys : List Value) → s.kept ≡ take (length s.kept) ys → (keep_by o y s).kept ≡ take (length (keep_by o y s).kept) (y ∷ ys)
prefix_by Less y s ys is = refl
prefix_by Equal y s ys is = ap (λ (w : List Value). y ∷ w) is
prefix_by Greater y s ys is = refl

keeps_front : (cs : Columns Value) (tid : Tid) (left right : List Value) (i : ℕ) → (split_values cs tid left right i).kept ≡ take (length (split_values cs tid left right i).kept) right
keeps_front cs tid left [] i = refl
keeps_front cs tid [] (y ∷ ys) i = refl
keeps_front cs tid (x ∷ xs) (y ∷ ys) i = prefix_by (cs i x y) y (split_values cs tid xs ys (suc i)) ys (keeps_front cs tid xs ys (suc i))

-- what is kept of two entries is the front of the right one
pub front_is : (specs : List KeySpec) (d e : LeafEntry) (kept : Kept) → kept.count ≡ length (split_of specs d e).kept → kept.tid ≡ (split_of specs d e).tid → front_of e kept ≡ split_of specs d e
front_is specs d e kept count tid =
    let values : take kept.count e.entry.values ≡ (split_of specs d e).kept =
    ap (λ (n : ℕ). take n e.entry.values) count ∙ sym (keeps_front (columns_of specs) d.entry.tid d.entry.values e.entry.values 0) in
    λ i. record { kept = values i; tid = tid i }

-- so many first values at a place
pub values_front : (specs : List KeySpec) (ms : List MoreSpec) (arena : List ℕ) (p : Place) (n : ℕ) → IsKept specs ms arena p → n ≤ length specs
    → values_read n (drop (p.at + 1) arena) ≡ take n (entry_at specs arena p).entry.values
values_front specs ms arena p n kept le =
    let lies = kept.lies in
    let read = read_there arena p.at lies in
    let whole : length (take (length specs) lies.key) ≡ length specs = subst (λ (k : List Value). length (take (length specs) k) ≡ length specs) read kept.laid.whole in
    let long : length specs ≤ length lies.key = long_enough (length specs) lies.key whole in
    ap (values_read n) (behind_count arena p.at lies)
    ∙ front_read n lies.key _ (omega (arith, le, long)) (values_back lies.key lies.rest lies.storable)
    ∙ sym (take-take n (length specs) lies.key le)
    ∙ ap (λ (k : List Value). take n (take (length specs) k)) (sym read)
  where
    long_enough : (n : ℕ) (vs : List Value) → length (take n vs) ≡ n → n ≤ length vs
    long_enough zero vs is = omega arith
    long_enough (suc n) [] is = absurd (omega (arith, is))
    long_enough (suc n) (v ∷ vs) is = let r = long_enough n vs (omega (arith, is)) in omega (arith, r)

-- its types
pub types_kept : (specs : List KeySpec) (ms : List MoreSpec) (n : ℕ) → n ≤ length specs → take n (entry_types specs ms) ≡ key_types (take n specs)
types_kept specs ms n le =
    let l = length_types specs in
    take-append-le n (key_types specs) (more_types ms) (omega (arith, le, l)) ∙ sym (types_front n specs)

pub stand_aligned : (cs : List ColType) (vs : List Value) → MayAllStand cs vs → AllByRecursion HasAlignment cs
stand_aligned [] [] stand = tt
stand_aligned [] (v ∷ vs) stand = absurd stand
stand_aligned (c ∷ cs) [] stand = absurd stand
stand_aligned (c ∷ cs) (v ∷ vs) stand = (stand.0.aligned, stand_aligned cs vs stand.1)

-- nothing
pub nothing_laid : (specs : List KeySpec) (down : ℕ) (flags : BodyFlags) → flags ≡ record { nulls = false; varwidth = false } → pivot_tuple down 0 None flags [] ≡ pivot_item specs down minus_infinity
unfolding body_flags index_body with_values null_part
nothing_laid specs down flags is = ap (λ (f : BodyFlags). pivot_tuple down 0 None f []) is

pub nothing_long : (specs : List KeySpec) (down : ℕ) → length (pivot_item specs down minus_infinity) ≡ 8
unfolding index_body with_values null_part
nothing_long specs down = length_pivot down 0 None (body_flags [] []) (index_body [] [])

-- a downlink takes no room
pub any_down : (specs : List KeySpec) (down other : ℕ) (s : Separator Value Tid) → length (pivot_item specs down s) ≡ length (pivot_item specs other s)
any_down specs down other s =
    length_pivot down (length s.kept) s.tid (body_flags (kept_types specs s) s.kept) (index_body (kept_types specs s) s.kept)
    ∙ sym (length_pivot other (length s.kept) s.tid (body_flags (kept_types specs s) s.kept) (index_body (kept_types specs s) s.kept))

-- What `separators_may_be_laid` says

abbrev pub SplitsLaw : Type 0
SplitsLaw = (specs : List KeySpec) (more : List MoreSpec) (d e : LeafEntry) → 0 < length specs → MayBeLaid specs more d → MayBeLaid specs more e
    → length (plain_item specs more e.entry e.more) ≤ 2704 → (order_of specs).precedes d.entry e.entry ≡ true → MaySplit specs (split_of specs d e)

abbrev pub ShortLaw : Type 0
ShortLaw = (specs : List KeySpec) (more : List MoreSpec) (d e : LeafEntry) → 0 < length specs → MayBeLaid specs more d → MayBeLaid specs more e
    → length (plain_item specs more e.entry e.more) ≤ 2704 → (order_of specs).precedes d.entry e.entry ≡ true → length (pivot_item specs 0 (split_of specs d e)) ≤ 2712

-- Which separator is before an entry

module _ (specs : List KeySpec) (ms : List MoreSpec) (arena : List ℕ) (places : List Place) where
  abbrev es : List LeafEntry
  es = entries_at specs arena places

  abbrev pub at : ℕ → LeafEntry
  at i = entry_at specs arena (get_or places i nowhere)

  entries_from : (i : ℕ) → i < length places → drop i es ≡ at i ∷ drop (suc i) es
  entries_from i lt =
      sym (drop_entries specs arena places i)
      ∙ ap (entries_at specs arena) (drop-cons places i nowhere lt)
      ∙ (λ j. at i ∷ drop_entries specs arena places (suc i) j)

  pub before_first : (j : ℕ) → j ≡ 0 → split_before specs es j ≡ None
  before_first j none = ap (split_before specs es) none

  pub behind_last : (j : ℕ) → length places ≤ j → split_before specs es j ≡ None
  behind_last zero le = refl
  behind_last (suc i) le = by_length (drop i es) (let l = length-map places (entry_at specs arena) in let d = length-drop i es in omega (arith, l, d, le))
    where
      by_length : (xs : List LeafEntry) → length xs ≤ 1 → first_split specs xs ≡ None
      by_length [] le = refl
      by_length (x ∷ []) le = refl
      by_length (x ∷ y ∷ xs) le = absurd (omega (arith, le))

  pub between : (i : ℕ) → suc i < length places → split_before specs es (suc i) ≡ Some (split_of specs (at i) (at (suc i)))
  between i lt =
      ap (first_split specs) (entries_from i (omega (arith, lt)) ∙ (λ j. at i ∷ entries_from (suc i) lt j))

  entry_there : (k : ℕ) → k < length places → get_or (map entry_in es) k (entry_at specs arena nowhere).entry ≡ (at k).entry
  entry_there k lt =
      let l = length-map places (entry_at specs arena) in
      get_or-map entry_in es k (entry_at specs arena nowhere) (entry_at specs arena nowhere).entry (omega (arith, l, lt))
      ∙ ap entry_in (get_or-map (entry_at specs arena) places k nowhere (entry_at specs arena nowhere) lt)

  pub rise_there : AreIndexable specs ms es → (i : ℕ) → suc i < length places → (order_of specs).precedes (at i).entry (at (suc i)).entry ≡ true
  rise_there may i lt =
      let l = length-map places (entry_at specs arena) in
      let m = length-map es entry_in in
      let next : get_or (map entry_in es) (i + 1) (entry_at specs arena nowhere).entry ≡ (at (suc i)).entry =
      ap (λ (k : ℕ). get_or (map entry_in es) k (entry_at specs arena nowhere).entry) (add-one i) ∙ entry_there (suc i) lt in
      (λ j. (order_of specs).precedes (sym (entry_there i (omega (arith, lt))) j) (sym next j))
      ∙ may.rising i (entry_at specs arena nowhere).entry (omega (arith, l, m, lt))

  small_there : AreIndexable specs ms es → (k : ℕ) → k < length places → length (plain_item specs ms (at k).entry (at k).more) ≤ 2704
  small_there may k lt =
      let l = length-map places (entry_at specs arena) in
      subst (λ (e : LeafEntry). length (plain_item specs ms e.entry e.more) ≤ 2704) (get_or-map (entry_at specs arena) places k nowhere (entry_at specs arena nowhere) lt)
      (All-get_or (λ e. length (plain_item specs ms e.entry e.more) ≤ 2704) es k (entry_at specs arena nowhere) (omega (arith, l, lt)) may.small)

  laid_there : All (IsKept specs ms arena) places → (k : ℕ) → k < length places → MayBeLaid specs ms (at k)
  laid_there kept k lt = (All-get_or (IsKept specs ms arena) places k nowhere lt kept).laid

  -- the separator before an entry that isn't the first
  module _ (kept : All (IsKept specs ms arena) places) (may : AreIndexable specs ms es) (j : ℕ) (later : j ≢ 0) (lt : j < length places) where
    one_less : suc (j - 1) ≡ j
    one_less = omega (arith, later)

    pub split_is : split_before specs es j ≡ Some (split_of specs (at (j - 1)) (at j))
    split_is = subst (λ (k : ℕ). split_before specs es k ≡ Some (split_of specs (at (j - 1)) (at k))) one_less (between (j - 1) (omega (arith, one_less, lt)))

    pub below : (order_of specs).precedes (at (j - 1)).entry (at j).entry ≡ true
    below = subst (λ (k : ℕ). (order_of specs).precedes (at (j - 1)).entry (at k).entry ≡ true) one_less (rise_there may (j - 1) (omega (arith, one_less, lt)))

    pub may_there : SplitsLaw → MaySplit specs (split_of specs (at (j - 1)) (at j))
    may_there law = law specs ms (at (j - 1)) (at j) may.columns (laid_there kept (j - 1) (omega (arith, one_less, lt))) (laid_there kept j lt) (small_there may j lt) below

    pub short_there : ShortLaw → (down : ℕ) → length (pivot_item specs down (split_of specs (at (j - 1)) (at j))) ≤ 2712
    short_there law down =
        let h = law specs ms (at (j - 1)) (at j) may.columns (laid_there kept (j - 1) (omega (arith, one_less, lt))) (laid_there kept j lt) (small_there may j lt) below in
        let same = any_down specs down 0 (split_of specs (at (j - 1)) (at j)) in
        omega (arith, h, same)
