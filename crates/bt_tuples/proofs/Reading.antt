-- A tuple whose values are read, and begin with those of its key.
use Rattle.std.proofs.Common.{◌≡◌, ℕ, ◌<◌, Bool, true, false, cond, List, [], ◌++◌, length, take, drop, refl, ap, sym, subst, ◌∙◌, append-nil, arith}
use Rattle.std.specs.Prelude.{Option, Some, None, Ok, Err}
use Rattle.std.proofs.Math.Seq.{drop-append_seam, take-append_seam}
use Rattle.page_layout.specs.declared.rules.Rule.TheVariants.{B9}
use Rattle.laws_search.specs.Keys.{Separator, is_without}
use Rattle.key_orders.specs.Keys.{IsKey, IsKeySeparator, fits_columns}
use Rattle.key_orders.specs.declared.columns.KeySpec.{KeySpec}
use Rattle.key_orders.specs.declared.columns.Value.{Value}
use Rattle.key_orders.specs.declared.more.MoreSpec.{MoreSpec}
use Rattle.key_orders.specs.declared.Tid.{Tid}
use Rattle.key_attrs.specs.Keyed.{KeyValues}
use Rattle.bt_meta.specs.declared.records.HeadKind.{HeadKind}
use Rattle.bt_meta.specs.declared.records.HeadKind.TheVariants as head
use Rattle.bt_meta.specs.declared.records.TreeHead.{TreeHead}
use Rattle.bt_meta.specs.Heads.{tree_head_of}
use Rattle.bt_tuples.specs.declared.items.ItemFault.TheVariants.{Broken}
use Rattle.bt_tuples.specs.Items.{Item, ItemFits, ItemOutcome, Pivot, Plain, Posting, meaning_by, meaning_of, outcome_by, values_or_none}
use Rattle.bt_tuples.specs.Keys.{BeginsWithKey, count_by, first_key, first_tid_in, key_count, last_key, last_tid_in}
use Rattle.bt_tuples.specs.Rules.{is_pivot}
use Rattle.bt_tuples.specs.Tuples.{keeps_tid, kept_tid, number_of, plain_tid, tids_in, values_in}
use Rattle.bt_tuples.proofs.TidLists.{length-tids_at}

-- all values are those of the key
pub begins-alone : (more : List MoreSpec) (kind : HeadKind) (told : KeyValues) (key : List Value) → told ≡ Ok key → BeginsWithKey more kind told key
begins-alone more kind told key is =
    record { rest = []; is = is ∙ ap Ok (sym (append-nil key)); kept = λ e. refl; alone = λ e. refl }

-- others follow
pub begins-others : (more : List MoreSpec) (kind : HeadKind) (told : KeyValues) (key rest : List Value) → told ≡ Ok (key ++ rest) → is_pivot kind ≡ false → (more ≡ [] → ⊥) → BeginsWithKey more kind told key
begins-others more kind told key rest is leaf some =
    record { rest = rest; is = is; kept = λ e. absurd (let both : true ≡ false = sym e ∙ leaf in cc); alone = λ e. absurd (some e) }

-- what is asked of a tuple whose values are told
pub outcome-read : (told : KeyValues) (values : List Value) (broken : Bool) (meaning : Item) → told ≡ Ok values → broken ≡ false → ◌≡◌ {A = ItemOutcome} (Ok meaning) (outcome_by told broken meaning)
outcome-read told values broken meaning is fine = sym (λ i. outcome_by (is i) (fine i) meaning)

pub outcome-broken : (told : KeyValues) (values : List Value) (broken : Bool) (meaning : Item) → told ≡ Ok values → broken ≡ true → ◌≡◌ {A = ItemOutcome} (Err (Broken B9)) (outcome_by told broken meaning)
outcome-broken told values broken meaning is wrong = sym (λ i. outcome_by (is i) (wrong i) meaning)

-- The meaning of such a tuple

pub meaning-is : (specs : List KeySpec) (more : List MoreSpec) (tuple : List ℕ) (killed : Bool) (values : List Value) → values_in specs more tuple ≡ Ok values → meaning_of specs more tuple killed ≡ meaning_by (tree_head_of tuple).kind (length specs) tuple killed values
unfolding meaning_of
meaning-is specs more tuple killed values is = ap (λ told. meaning_by (tree_head_of tuple).kind (length specs) tuple killed (values_or_none told)) is

abbrev key_and : Option Tid → List Value → Separator Value Tid
key_and tid key = record { kept = key; tid = tid }

abbrev pub record_pivot : Option Tid → List Value → (down : ℕ) → Item
record_pivot tid key down = Pivot (key_and tid key) down

first-by : (kind : HeadKind) (columns : ℕ) (tuple : List ℕ) (killed : Bool) (key rest : List Value)
    → (is_pivot kind ≡ true → rest ≡ []) → (is_pivot kind ≡ false → length key ≡ columns)
    → first_key (meaning_by kind columns tuple killed (key ++ rest)) ≡ record { kept = key; tid = first_tid_in kind tuple }
first-by head.Pivot columns tuple killed key rest none count =
    ap (λ (l : List Value). key_and (kept_tid tuple) l) (ap (λ r. key ++ r) (none refl) ∙ append-nil key)
first-by head.Plain columns tuple killed key rest none count =
    ap (λ (l : List Value). key_and (Some (plain_tid (tree_head_of tuple))) l) (ap (λ n. take n (key ++ rest)) (sym (count refl)) ∙ take-append_seam key rest)
first-by head.Posting columns tuple killed key rest none count =
    ap (λ (l : List Value). key_and (first_tid_in head.Posting tuple) l) (ap (λ n. take n (key ++ rest)) (sym (count refl)) ∙ take-append_seam key rest)

last-by : (kind : HeadKind) (columns : ℕ) (tuple : List ℕ) (killed : Bool) (key rest : List Value)
    → (is_pivot kind ≡ true → rest ≡ []) → (is_pivot kind ≡ false → length key ≡ columns)
    → last_key (meaning_by kind columns tuple killed (key ++ rest)) ≡ record { kept = key; tid = last_tid_in kind tuple }
last-by head.Pivot columns tuple killed key rest none count =
    ap (λ (l : List Value). key_and (kept_tid tuple) l) (ap (λ r. key ++ r) (none refl) ∙ append-nil key)
last-by head.Plain columns tuple killed key rest none count =
    ap (λ (l : List Value). key_and (Some (plain_tid (tree_head_of tuple))) l) (ap (λ n. take n (key ++ rest)) (sym (count refl)) ∙ take-append_seam key rest)
last-by head.Posting columns tuple killed key rest none count =
    ap (λ (l : List Value). key_and (last_tid_in head.Posting tuple) l) (ap (λ n. take n (key ++ rest)) (sym (count refl)) ∙ take-append_seam key rest)

-- it fits the columns
without-tid : (b : Bool) (t : Tid) → is_without (cond b (Some t) None) ≡ false → b ≡ true
without-tid true t e = refl
without-tid false t e = absurd cc

fits-by : (specs : List KeySpec) (kind : HeadKind) (tuple : List ℕ) (killed : Bool) (key rest : List Value)
    → (is_pivot kind ≡ true → rest ≡ []) → (is_pivot kind ≡ false → length key ≡ length specs) → fits_columns specs key ≡ true
    → (kind ≡ head.Pivot → keeps_tid (tree_head_of tuple) ≡ true → length key ≡ length specs) → (kind ≡ head.Posting → 0 < length (tids_in tuple))
    → ItemFits specs (meaning_by kind (length specs) tuple killed (key ++ rest))
fits-by specs head.Pivot tuple killed key rest none count fits whole some =
    subst (λ (l : List Value). IsKeySeparator specs (key_and (kept_tid tuple) l)) (sym (ap (λ r. key ++ r) (none refl) ∙ append-nil key))
    (record { fits = fits; whole = λ with. whole refl (without-tid _ _ with) })
fits-by specs head.Plain tuple killed key rest none count fits whole some =
    subst (IsKey specs) (sym (ap (λ n. take n (key ++ rest)) (sym (count refl)) ∙ take-append_seam key rest)) (record { fits = fits; whole = count refl })
fits-by specs head.Posting tuple killed key rest none count fits whole some =
    (subst (IsKey specs) (sym (ap (λ n. take n (key ++ rest)) (sym (count refl)) ∙ take-append_seam key rest)) (record { fits = fits; whole = count refl }), some refl)

-- what is known of a tuple that was read
pub record IsRead (specs : List KeySpec) (more : List MoreSpec) (tuple : List ℕ) (h : TreeHead) (key : List Value) : Type 0 where
  pub head_is : h ≡ tree_head_of tuple
  pub begins : BeginsWithKey more h.kind (values_in specs more tuple) key
  pub count : length key ≡ key_count h (length specs)
  pub fits : fits_columns specs key ≡ true
  pub whole : h.kind ≡ head.Pivot → keeps_tid h ≡ true → number_of h ≡ length specs
  pub some : h.kind ≡ head.Posting → 0 < number_of h

leaf-count : (kind : HeadKind) (h : TreeHead) (columns n : ℕ) → n ≡ count_by kind h columns → is_pivot kind ≡ false → n ≡ columns
leaf-count head.Pivot h columns n e leaf = absurd cc
leaf-count head.Plain h columns n e leaf = e
leaf-count head.Posting h columns n e leaf = e

pivot-count : (kind : HeadKind) (h : TreeHead) (columns n : ℕ) → n ≡ count_by kind h columns → kind ≡ head.Pivot → n ≡ number_of h
pivot-count kind h columns n e pivot = e ∙ ap (λ k. count_by k h columns) pivot

module _ (specs : List KeySpec) (more : List MoreSpec) (tuple : List ℕ) (key : List Value) (read : IsRead specs more tuple (tree_head_of tuple) key) (killed : Bool) where
  pub means : meaning_of specs more tuple killed ≡ meaning_by (tree_head_of tuple).kind (length specs) tuple killed (key ++ read.begins.rest)
  means = meaning-is specs more tuple killed (key ++ read.begins.rest) read.begins.is

  pub means-first : record { kept = key; tid = first_tid_in (tree_head_of tuple).kind tuple } ≡ first_key (meaning_of specs more tuple killed)
  means-first =
      sym (ap first_key means ∙ first-by (tree_head_of tuple).kind (length specs) tuple killed key read.begins.rest read.begins.kept (leaf-count _ (tree_head_of tuple) (length specs) _ read.count))

  pub means-last : record { kept = key; tid = last_tid_in (tree_head_of tuple).kind tuple } ≡ last_key (meaning_of specs more tuple killed)
  means-last =
      sym (ap last_key means ∙ last-by (tree_head_of tuple).kind (length specs) tuple killed key read.begins.rest read.begins.kept (leaf-count _ (tree_head_of tuple) (length specs) _ read.count))

  pub means-fits : ItemFits specs (meaning_of specs more tuple killed)
  means-fits =
      subst (ItemFits specs) (sym means)
      (fits-by specs (tree_head_of tuple).kind tuple killed key read.begins.rest read.begins.kept (leaf-count _ (tree_head_of tuple) (length specs) _ read.count) read.fits
      (λ pivot keeps. pivot-count _ (tree_head_of tuple) (length specs) _ read.count pivot ∙ read.whole pivot keeps)
      (λ posting. omega (arith, read.some posting, length-tids_at tuple (tree_head_of tuple).block (number_of (tree_head_of tuple)))))

  -- by its form
  pub means-pivot : (tree_head_of tuple).kind ≡ head.Pivot → record_pivot (kept_tid tuple) key (tree_head_of tuple).block ≡ meaning_of specs more tuple killed
  means-pivot is =
      sym (means ∙ ap (λ kind. meaning_by kind (length specs) tuple killed (key ++ read.begins.rest)) is
      ∙ ap (λ (l : List Value). record_pivot (kept_tid tuple) l (tree_head_of tuple).block) (ap (λ r. key ++ r) (read.begins.kept (ap is_pivot is)) ∙ append-nil key))

  leaf-length : is_pivot (tree_head_of tuple).kind ≡ false → length key ≡ length specs
  leaf-length = leaf-count _ (tree_head_of tuple) (length specs) _ read.count

  key-taken : is_pivot (tree_head_of tuple).kind ≡ false → take (length specs) (key ++ read.begins.rest) ≡ key
  key-taken leaf = ap (λ n. take n (key ++ read.begins.rest)) (sym (leaf-length leaf)) ∙ take-append_seam key read.begins.rest

  rest-left : is_pivot (tree_head_of tuple).kind ≡ false → drop (length specs) (key ++ read.begins.rest) ≡ read.begins.rest
  rest-left leaf = ap (λ n. drop n (key ++ read.begins.rest)) (sym (leaf-length leaf)) ∙ drop-append_seam key read.begins.rest

  pub means-plain : (tree_head_of tuple).kind ≡ head.Plain → (included : List Value) → included ≡ read.begins.rest → Plain key included (plain_tid (tree_head_of tuple)) killed ≡ meaning_of specs more tuple killed
  means-plain is included same =
      sym (means ∙ ap (λ kind. meaning_by kind (length specs) tuple killed (key ++ read.begins.rest)) is
      ∙ (λ i. Plain (key-taken (ap is_pivot is) i) (rest-left (ap is_pivot is) i) (plain_tid (tree_head_of tuple)) killed)
      ∙ ap (λ (l : List Value). Plain key l (plain_tid (tree_head_of tuple)) killed) (sym same))

  pub means-posting : (tree_head_of tuple).kind ≡ head.Posting → Posting key (tids_in tuple) killed ≡ meaning_of specs more tuple killed
  means-posting is =
      sym (means ∙ ap (λ kind. meaning_by kind (length specs) tuple killed (key ++ read.begins.rest)) is
      ∙ ap (λ (l : List Value). Posting l (tids_in tuple) killed) (key-taken (ap is_pivot is)))
