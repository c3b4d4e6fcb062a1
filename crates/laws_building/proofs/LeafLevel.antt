-- The separators between the leaves stand between their entries.
use Rattle.std.proofs.Common.{◌≡◌, ◌≢◌, ◌-◌, inl, inr, true, List, [], ◌∷◌, ◌++◌, length, refl, sym, ap, ◌∙◌, subst, arith}
use Rattle.std.specs.Prelude.{⊤, Option, Some, None, slice_get}
use Rattle.laws_search.specs.Order.{Order}
use Rattle.laws_search.specs.Tree.{Index}
use Rattle.laws_search.specs.Searchable.{IfFirst, IfLast, EntryAbove, KeyAbove}
use Rattle.laws_search.specs.Search.{last_or}
use Rattle.laws_search.proofs.Lists.{In, In-left, In-right, Each, Each-in, Each-front}
use Rattle.laws_search.proofs.Rising.{Rising, rising_across, each_above}
use Rattle.laws_search.proofs.Unique.{Contains-from_In}
use Rattle.laws_building.specs.Cuts.{joined}
use Rattle.laws_building.specs.Built.{Splitter, leaf_sheets}
use Rattle.laws_building.specs.Fresh.{IsKeyOrder, IsSplitter, IsBetween}
use Rattle.laws_building.proofs.Level.{Content, Lowers}

pub last_in : {X : Type 0} (d : X) (ds : List X) → In (last_or d ds) (d ∷ ds)
last_in d [] = inl refl
last_in d (y ∷ ys) = inr (last_in y ys)

last_at : {X : Type 0} (d : X) (ds : List X) → slice_get (d ∷ ds) (length ds) ≡ Some (last_or d ds)
last_at d [] = refl
last_at d (y ∷ ys) = last_at y ys

pub if_last : {X : Type 0} (P : X → Type 0) (d : X) (ds : List X) → P (last_or d ds) → IfLast (d ∷ ds) P
if_last P d ds h = λ e is.
    let n : length (d ∷ ds) - 1 ≡ length ds = omega arith in
    let at : slice_get (d ∷ ds) (length ds) ≡ Some e = ap (slice_get (d ∷ ds)) (sym n) ∙ is in
    let there = last_at d ds in
    let same : last_or d ds ≡ e = cc in
    subst P same h

pub if_first : {X : Type 0} (P : X → Type 0) (d : X) (ds : List X) → P d → IfFirst (d ∷ ds) P
if_first P d ds h = λ e is. let same : d ≡ e = cc in subst P same h

pub Rising-front : {S E : Type 0} (o : Order S E) (xs ys : List E) → Rising o (xs ++ ys) → Rising o xs
Rising-front o [] ys r = tt
Rising-front o (x ∷ xs) ys r = (Each-front (λ d. o.precedes x d ≡ true) xs ys r.0, Rising-front o xs ys r.1)

pub Rising-back : {S E : Type 0} (o : Order S E) (xs ys : List E) → Rising o (xs ++ ys) → Rising o ys
Rising-back o [] ys r = r
Rising-back o (x ∷ xs) ys r = Rising-back o xs ys r.1

-- the first entry is above the bound
abbrev pub FirstAbove : {S E : Type 0} → Order S E → List (List E) → Option S → Type 0
FirstAbove o [] lower = ⊤
FirstAbove o ([] ∷ leaves) lower = ⊤
FirstAbove o ((d ∷ ds) ∷ leaves) lower = EntryAbove o lower d

module _ {S E : Type 0} (o : Order S E) (laws : IsKeyOrder o) (k : Splitter S E) (splits : IsSplitter o k) (x : Index S E) where
  key_over : (lower : Option S) (e : E) (t : S) → EntryAbove o lower e → o.within e t ≡ true → KeyAbove o lower t
  key_over None e t above within = tt
  key_over (Some s) e t above within = laws.parted e s t above within

  pub leaf_content : (leaves : List (List E)) (lower : Option S) → Each (λ es. es ≢ []) leaves → Rising o (joined leaves) → FirstAbove o leaves lower → Content o k x 0 (leaf_sheets k leaves lower)
  leaf_content [] lower filled up above = tt
  leaf_content ([] ∷ leaves) lower filled up above = absurd (filled.0 refl)
  leaf_content ((d ∷ ds) ∷ []) lower filled up above = (
    record {
      key = λ t h. absurd cc;
      a_key = λ ne. absurd (ne refl);
      rising = Rising-front o (d ∷ ds) [] up;
      within = λ t h. absurd cc;
      above = if_first (EntryAbove o lower) d ds above;
      climb = λ h. absurd cc;
      child = λ h. absurd cc;
      bare = λ h. absurd cc;
    },
    tt,
  )
  leaf_content ((d ∷ ds) ∷ [] ∷ leaves) lower filled up above = absurd (filled.1.0 refl)
  leaf_content ((d ∷ ds) ∷ (e ∷ es) ∷ leaves) lower filled up above =
      let last : E = last_or d ds in
      let sep : S = k.split_key last e in
      let here : Rising o (d ∷ ds) = Rising-front o (d ∷ ds) (joined ((e ∷ es) ∷ leaves)) up in
      let pair : o.precedes last e ≡ true = (rising_across o (d ∷ ds) (joined ((e ∷ es) ∷ leaves)) last up (last_in d ds)).0 in
      let over : EntryAbove o lower last = Each-in (EntryAbove o lower) last (d ∷ ds) (each_above o laws.entries lower (d ∷ ds) here (if_first (EntryAbove o lower) d ds above)) (last_in d ds) in
      let low : o.within last sep ≡ true = splits.left_within last e pair in (
        record {
          key = λ t h. let same : sep ≡ t = cc in subst (KeyAbove o lower) same (key_over lower last sep over low);
          a_key = λ ne. (sep, refl);
          rising = here;
          within = λ t h. let same : sep ≡ t = cc in if_last (λ e. o.within e t ≡ true) d ds (subst (λ z. o.within last z ≡ true) same low);
          above = if_first (EntryAbove o lower) d ds above;
          climb = λ h. absurd cc;
          child = λ h. absurd cc;
          bare = λ h. absurd cc;
        },
        leaf_content ((e ∷ es) ∷ leaves) (Some sep) filled.1 (Rising-back o (d ∷ ds) (joined ((e ∷ es) ∷ leaves)) up) (splits.right_above last e pair),
      )

-- each separator of the leaves is one of two of their entries
module _ {S E : Type 0} (o : Order S E) (k : Splitter S E) (es : List E) where
  pub leaf_keys : (leaves : List (List E)) (lower : Option S) → Each (λ es. es ≢ []) leaves → Rising o (joined leaves) → ((e : E) → In e (joined leaves) → In e es) → ((s : S) → lower ≡ Some s → IsBetween o k es s) → Lowers (λ t. (s : S) → t ≡ Some s → IsBetween o k es s) (leaf_sheets k leaves lower)
  leaf_keys [] lower filled up part h = tt
  leaf_keys ([] ∷ leaves) lower filled up part h = absurd (filled.0 refl)
  leaf_keys ((d ∷ ds) ∷ []) lower filled up part h = (h, tt)
  leaf_keys ((d ∷ ds) ∷ [] ∷ leaves) lower filled up part h = absurd (filled.1.0 refl)
  leaf_keys ((d ∷ ds) ∷ (e ∷ ds') ∷ leaves) lower filled up part h =
      let last : E = last_or d ds in
      let rest : List E = joined ((e ∷ ds') ∷ leaves) in
      let pair : o.precedes last e ≡ true = (rising_across o (d ∷ ds) rest last up (last_in d ds)).0 in
      let between : IsBetween o k es (k.split_key last e) =
      record {
        left = last;
        right = e;
        left_in = Contains-from_In es last (part last (In-left last (d ∷ ds) rest (last_in d ds)));
        right_in = Contains-from_In es e (part e (In-right e (d ∷ ds) rest (inl refl)));
        apart = pair;
        is = refl;
      } in (
        h,
        leaf_keys ((e ∷ ds') ∷ leaves) (Some (k.split_key last e)) filled.1 (Rising-back o (d ∷ ds) rest up) (λ c i. part c (In-right c (d ∷ ds) rest i)) (λ s is. let same : k.split_key last e ≡ s = cc in subst (IsBetween o k es) same between),
      )
