-- An entry that is put behind the others.
use Rattle.std.proofs.Common.{◌≡◌, ◌≢◌, ◌<◌, ◌∙◌, Less, true, false, ℕ, List, [], ◌∷◌, ◌++◌, length, drop, refl, sym, ap, subst}
use Rattle.std.specs.Prelude.{All}
use Rattle.std.proofs.lemmas.List.{map-append}
use Rattle.std.proofs.lemmas.List.Elements.{All-append, All-cons, All-head, All-nil, All-tail}
use Rattle.std.proofs.Math.Seq.{take-append_seam, drop-append_seam}
use Rattle.key_orders.specs.declared.columns.KeySpec.{KeySpec}
use Rattle.key_orders.specs.declared.columns.Value.{Value}
use Rattle.key_orders.specs.declared.more.MoreSpec.{MoreSpec}
use Rattle.key_orders.specs.declared.columns.ColType.{ColType}
use Rattle.laws_search.specs.Keys.{compare_values}
use Rattle.key_orders.specs.Keys.{columns_of, fits_columns}
use Rattle.key_orders.specs.Prefixes.{IsPrefix}
use Rattle.key_storage.specs.Stored.{IsStorable, key_read, stored_key}
use Rattle.key_storage.specs.RowLists.{LiesAt}
use Rattle.key_storage.proofs.RowLaws.{lies_last, lies_more, read_there}
use Rattle.bt_image.specs.Image.{LeafEntry, leaf_entry}
use Rattle.page_write.specs.Bodies.{IsShortEnough}
use Rattle.page_write.specs.Fields.{IsTid}
use Rattle.laws_built_index.specs.Items.{MayBeLaid, entry_types}
use Rattle.bt_build.specs.declared.entries.Place.{Place}
use Rattle.bt_build.specs.Kept.{AreKept, HasPrefix, IsKept, entries_at, entry_at, entry_with, listed_in, told_length}
use Rattle.bt_build.specs.Listed.{AreApart, AreColumns, AreValues, IsNewTid}
use Rattle.bt_build.specs.Places.{tid_of}
use Rattle.bt_build.proofs.MayLaws.{may_be_laid}

-- the number of a key, for columns that were lent
pub has_prefix : (lent specs : List KeySpec) (key : List Value) (number : ℕ) → lent ≡ specs → fits_columns specs key ≡ true → IsPrefix lent key number
    → ((other : List Value) (higher : ℕ) → IsPrefix lent other higher → number < higher → fits_columns lent key ≡ true → fits_columns lent other ≡ true
    → compare_values (columns_of lent) 0 key other ≡ Less) → HasPrefix specs key number
has_prefix lent specs key number same fits is below =
    let fits_lent = subst (λ (ks : List KeySpec). fits_columns ks key ≡ true) (sym same) fits in
    subst (λ (ks : List KeySpec). HasPrefix ks key number) same (record {
      fits = fits_lent;
      is = is;
      below = λ other higher given above fits_too. below other higher given above fits_lent fits_too;
    })

-- what lies is read as before
pub same_entry : (specs : List KeySpec) (arena more : List ℕ) (p : Place) → LiesAt arena p.at → entry_at specs (arena ++ more) p ≡ entry_at specs arena p
same_entry specs arena more p lies =
    ap (λ key. entry_with (length specs) key (tid_of p))
    (read_there (arena ++ more) p.at (lies_more arena more p.at lies) ∙ sym (read_there arena p.at lies))

pub same_entries : (specs : List KeySpec) (ms : List MoreSpec) (arena more : List ℕ) (places : List Place) → All (IsKept specs ms arena) places
    → entries_at specs (arena ++ more) places ≡ entries_at specs arena places
same_entries specs ms arena more [] kept = refl
same_entries specs ms arena more (p ∷ places) kept =
    (λ i. same_entry specs arena more p (All-head (IsKept specs ms arena) p places kept).lies i ∷ same_entries specs ms arena more places (All-tail (IsKept specs ms arena) p places kept) i)

kept_still : (specs : List KeySpec) (ms : List MoreSpec) (arena more : List ℕ) (p : Place) → IsKept specs ms arena p → IsKept specs ms (arena ++ more) p
kept_still specs ms arena more p kept = record {
  lies = lies_more arena more p.at kept.lies;
  prefix = subst (λ (e : LeafEntry). HasPrefix specs e.entry.values p.prefix) (sym (same_entry specs arena more p kept.lies)) kept.prefix;
  length_is = kept.length_is ∙ ap (told_length specs ms) (sym (same_entry specs arena more p kept.lies));
  laid = subst (MayBeLaid specs ms) (sym (same_entry specs arena more p kept.lies)) kept.laid;
}

all_still : (specs : List KeySpec) (ms : List MoreSpec) (arena more : List ℕ) (places : List Place) → All (IsKept specs ms arena) places → All (IsKept specs ms (arena ++ more)) places
all_still specs ms arena more [] kept = All-nil (IsKept specs ms (arena ++ more))
all_still specs ms arena more (p ∷ places) kept =
    All-cons (IsKept specs ms (arena ++ more)) p places
    (kept_still specs ms arena more p (All-head (IsKept specs ms arena) p places kept))
    (all_still specs ms arena more places (All-tail (IsKept specs ms arena) p places kept))

-- the entry that was put
pub new_entry : (specs : List KeySpec) (arena : List ℕ) (key more : List Value) (p : Place) → p.at ≡ length arena → length key ≡ length specs
    → All IsStorable (key ++ more) → entry_at specs (arena ++ stored_key (key ++ more)) p ≡ leaf_entry key more (tid_of p) false
new_entry specs arena key more p at whole storable =
    let stored : List ℕ = stored_key (key ++ more) in
    let there : LiesAt (arena ++ stored) p.at = subst (LiesAt (arena ++ stored)) (sym at) (lies_last arena (key ++ more) storable) in
    let read : key_read (drop p.at (arena ++ stored)) ≡ key ++ more =
    (λ i. key_read (drop (at i) (arena ++ stored))) ∙ read_there (arena ++ stored) (length arena) (lies_last arena (key ++ more) storable) in
    ap (λ values. entry_with (length specs) values (tid_of p)) read
    ∙ (λ i. entry_with (sym whole i) (key ++ more) (tid_of p))
    ∙ (λ i. leaf_entry (take-append_seam key more i) (drop-append_seam key more i) (tid_of p) false)

pub none_kept : (specs own : List KeySpec) (ms own_more : List MoreSpec) (types : List ColType) (arena : List ℕ) (places : List Place)
    → AreColumns specs ms → own ≡ specs → own_more ≡ ms → types ≡ entry_types specs ms → places ≡ [] → AreKept own own_more types arena places
none_kept specs own ms own_more types arena places columns p q e none = record {
  columns = subst (λ (t : List KeySpec × List MoreSpec). AreColumns t.0 t.1) (λ i. (sym p i, sym q i)) columns;
  types_are = e ∙ (λ i. entry_types (sym p i) (sym q i));
  each = subst (All (IsKept own own_more arena)) (sym none) (All-nil (IsKept own own_more arena));
  apart = subst (λ (ps : List Place). AreApart (entries_at own arena ps)) (sym none) AreApart.none;
}

module _ (specs : List KeySpec) (ms : List MoreSpec) (arena : List ℕ) (places : List Place) (key more : List Value) (p : Place)
    (kept : All (IsKept specs ms arena) places) (at : p.at ≡ length arena) (whole : length key ≡ length specs) (storable : All IsStorable (key ++ more)) where
  abbrev after : List ℕ
  after = arena ++ stored_key (key ++ more)

  pub entries_more : entries_at specs after (places ++ p ∷ []) ≡ entries_at specs arena places ++ leaf_entry key more (tid_of p) false ∷ []
  entries_more =
      map-append (entry_at specs after) places (p ∷ [])
      ∙ (λ i. same_entries specs ms arena (stored_key (key ++ more)) places kept i ++ new_entry specs arena key more p at whole storable i ∷ [])

  kept_last : HasPrefix specs key p.prefix → p.body_length ≡ told_length specs ms (leaf_entry key more (tid_of p) false) → MayBeLaid specs ms (leaf_entry key more (tid_of p) false)
      → IsKept specs ms after p
  kept_last prefix long may = record {
    lies = subst (LiesAt after) (sym at) (lies_last arena (key ++ more) storable);
    prefix = subst (λ (e : LeafEntry). HasPrefix specs e.entry.values p.prefix) (sym (new_entry specs arena key more p at whole storable)) prefix;
    length_is = long ∙ ap (told_length specs ms) (sym (new_entry specs arena key more p at whole storable));
    laid = subst (MayBeLaid specs ms) (sym (new_entry specs arena key more p at whole storable)) may;
  }

  pub all_kept : HasPrefix specs key p.prefix → p.body_length ≡ told_length specs ms (leaf_entry key more (tid_of p) false) → MayBeLaid specs ms (leaf_entry key more (tid_of p) false)
      → All (IsKept specs ms after) (places ++ p ∷ [])
  all_kept prefix long may =
      All-append (IsKept specs ms after) places (p ∷ []) (all_still specs ms arena (stored_key (key ++ more)) places kept)
      (All-cons (IsKept specs ms after) p [] (kept_last prefix long may) (All-nil (IsKept specs ms after)))

pub kept_more : (specs : List KeySpec) (ms : List MoreSpec) (types : List ColType) (arena : List ℕ) (places : List Place) (key more : List Value) (p : Place)
    → AreKept specs ms types arena places → AreValues (listed_in specs ms arena places) key more → All IsShortEnough key → All IsShortEnough more
    → IsTid (tid_of p) → (tid_of p).item ≢ 0 → IsNewTid (listed_in specs ms arena places) (tid_of p) → All IsStorable (key ++ more) → p.at ≡ length arena → HasPrefix specs key p.prefix
    → p.body_length ≡ told_length specs ms (leaf_entry key more (tid_of p) false) → AreKept specs ms types (arena ++ stored_key (key ++ more)) (places ++ p ∷ [])
kept_more specs ms types arena places key more p kept values short short_more fits some fresh storable at prefix long =
    let whole = values.key_fits.whole in
    let may = may_be_laid (listed_in specs ms arena places) key more (tid_of p) kept.columns values short short_more fits some in
    record {
      columns = kept.columns;
      types_are = kept.types_are;
      each = all_kept specs ms arena places key more p kept.each at whole storable prefix long may;
      apart =
          subst AreApart (sym (entries_more specs ms arena places key more p kept.each at whole storable))
          (AreApart.more (entries_at specs arena places) (leaf_entry key more (tid_of p) false) kept.apart fresh);
    }
