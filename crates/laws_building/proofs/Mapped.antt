-- Entries that have more than the order of them looks at.
use Rattle.std.proofs.Common.{◌≡◌, true, inl, inr, List, [], ◌∷◌, map, refl, ap, ◌∙◌}
use Rattle.std.specs.Prelude.{Option, Some, None}
use Rattle.std.specs.List.{All}
use Rattle.std.proofs.lemmas.List.Elements.{recursion_from_All, All-from_recursion}
use Rattle.laws_search.specs.Order.{Order}
use Rattle.laws_search.specs.Tree.{Index}
use Rattle.laws_search.specs.Levels.{Downlink}
use Rattle.laws_search.specs.Search.{last_or}
use Rattle.laws_search.proofs.Lists.{In, Each, Each-map}
use Rattle.laws_search.proofs.Gather.{In-from_Contains}
use Rattle.laws_search.proofs.Rising.{Rising, rising_from_adjacent, adjacent_from_rising}
use Rattle.laws_search.proofs.Unique.{Contains-from_In}
use Rattle.laws_building.specs.Cuts.{IsCut}
use Rattle.laws_building.specs.Built.{Splitter, Sheet, gap, leaf_sheets, built, IsLaidAs}
use Rattle.laws_building.specs.Fresh.{IsGiven, IsBetween, IsItemOver}
use Rattle.laws_building.specs.Seen.{index_seen, order_by, splitter_by}
use Rattle.laws_building.proofs.Seen.{sheet_seen, seen_as_built}

module _ {D E : Type 0} (f : D → E) where
  last_seen : (d : D) (ds : List D) → last_or (f d) (map f ds) ≡ f (last_or d ds)
  last_seen d [] = refl
  last_seen d (e ∷ ds) = last_seen e ds

  pub each_back : (P : E → Type 0) (xs : List D) → Each P (map f xs) → Each (λ d. P (f d)) xs
  each_back P [] h = tt
  each_back P (x ∷ xs) h = (h.0, each_back P xs h.1)

  in_seen : (d : D) (ds : List D) → In d ds → In (f d) (map f ds)
  in_seen d [] h = absurd h
  in_seen d (e ∷ ds) h = elim h [ inl is ↦ inl (ap f is) | inr i ↦ inr (in_seen d ds i) ]

module _ {S D E : Type 0} (f : D → E) where
  gap_seen : (k : Splitter S E) (es : List D) (rest : List (List D)) → gap k (map f es) (map (map f) rest) ≡ gap (splitter_by f k) es rest
  gap_seen k [] rest = refl
  gap_seen k (d ∷ ds) [] = refl
  gap_seen k (d ∷ ds) ([] ∷ rest) = refl
  gap_seen k (d ∷ ds) ((e ∷ es) ∷ rest) = ap (λ z. Some (k.split_key z (f e))) (last_seen f d ds)

  pub leaves_seen : (k : Splitter S E) (leaves : List (List D)) (lower : Option S) → leaf_sheets k (map (map f) leaves) lower ≡ map (sheet_seen (map f)) (leaf_sheets (splitter_by f k) leaves lower)
  leaves_seen k [] lower = refl
  leaves_seen k (es ∷ leaves) lower =
      let here : Sheet S E = record { lower = lower; children = []; entries = map f es } in
      ap (λ z. here ∷ leaf_sheets k (map (map f) leaves) z) (gap_seen k es leaves)
      ∙ ap (λ w. here ∷ w) (leaves_seen k leaves (gap (splitter_by f k) es leaves))

  pub mapped_as_built : (k : Splitter S E) (cut : List (Downlink S) → List (List (Downlink S))) (leaves : List (List D)) (x : Index S D)
      → IsLaidAs x (built (splitter_by f k) cut leaves) → IsLaidAs (index_seen (map f) x) (built k cut (map (map f) leaves))
  mapped_as_built k cut leaves x same = seen_as_built (map f) refl (splitter_by f k) k refl cut leaves (leaves_seen k leaves None) x same

  -- what it is built from
  pub rising_back : (o : Order S E) (es : List D) → Rising o (map f es) → Rising (order_by f o) es
  rising_back o [] h = tt
  rising_back o (e ∷ es) h = (each_back f (λ d. o.precedes (f e) d ≡ true) es h.0, rising_back o es h.1)

  between_seen : (o : Order S E) (k : Splitter S E) (es : List D) (s : S) → IsBetween (order_by f o) (splitter_by f k) es s → IsBetween o k (map f es) s
  between_seen o k es s h =
      record {
        left = f h.left;
        right = f h.right;
        left_in = Contains-from_In (map f es) (f h.left) (in_seen f h.left es (In-from_Contains es h.left h.left_in));
        right_in = Contains-from_In (map f es) (f h.right) (in_seen f h.right es (In-from_Contains es h.right h.right_in));
        apart = h.apart;
        is = h.is;
      }

  pub given_back : (o : Order S E) (k : Splitter S E) (cut : List (Downlink S) → List (List (Downlink S))) (leaves : List (List D)) (es : List D)
      → IsGiven o k cut (map (map f) leaves) (map f es) → IsCut es leaves → IsGiven (order_by f o) (splitter_by f k) cut leaves es
  given_back o k cut leaves es g whole =
      let laws = g.order.entries in
      let P : Downlink S → Type 0 = IsItemOver (order_by f o) (splitter_by f k) es in
      let Q : Downlink S → Type 0 = IsItemOver o k (map f es) in
      let move : (xs : List (Downlink S)) → All P xs → All Q xs = λ xs h.
      All-from_recursion Q xs (Each-map P Q xs (λ d p s is. between_seen o k es s (p s is)) (recursion_from_All P xs h)) in
      record {
        order = record {
          entries = record {
            across = λ d e s. laws.across (f d) (f e) s;
            higher = λ e s t. laws.higher (f e) s t;
            lower = λ d e s. laws.lower (f d) (f e) s;
            strict = λ e. laws.strict (f e);
            chained = λ c d e. laws.chained (f c) (f d) (f e);
          };
          parted = λ e s t. g.order.parted (f e) s t;
          under_chained = g.order.under_chained;
        };
        splits = record { left_within = λ d e. g.splits.left_within (f d) (f e); right_above = λ d e. g.splits.right_above (f d) (f e) };
        cuts = record { cuts = λ xs h. g.cuts.cuts xs (move xs h); twos = λ xs h. g.cuts.twos xs (move xs h) };
        leaves_cut = whole;
        rising = adjacent_from_rising (order_by f o) es (rising_back o es (rising_from_adjacent o laws (map f es) g.rising));
      }
