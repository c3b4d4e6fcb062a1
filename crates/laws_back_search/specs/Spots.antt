-- What is left for the backward searcher at a place of a leaf, and what each of its steps does to that.
use Rattle.std.specs.Prelude.{◌≡◌, ◌≢◌, ◌≤◌, ◌<◌, ◌+◌, ◌⊎◌, ◌==◌, ℕ, zero, suc, Bool, true, false, not, ◌||◌, cond}
use Rattle.std.specs.Prelude.{List, [], ◌∷◌, reverse, take, drop, length, slice_get, Some}
use Rattle.std.specs.List.{filter, list_any, take_while}
use Rattle.laws_search.specs.Order.{Order, Scan}
use Rattle.laws_search.specs.Tree.{Index}
use Rattle.laws_search.specs.Search.{IsWanted, is_wanted, right_of}
use Rattle.laws_search.specs.Back.{Back, IsBack, BackState, Seeks, Reads, Over, Lost, can_visit, read_page, seek_page}
use Rattle.laws_search.specs.Back.{after_back, back_start}
use Rattle.laws_search.specs.Probe.{child_for}
use Rattle.laws_back_search.specs.Answers.{AnswersBack}

-- A place of a leaf is the number of its entries that are still to be read, from its first one on. From there the leaf
-- is read from the last of these down
unfoldable pub from_place_back : {S E : Type 0} → (E → Bool) → Index S E → Scan S E → Back S E → ℕ → ℕ → BackState E
from_place_back killed x scan back b k =
    cond (list_any back.before_low (take k (x.page b).entries) || (x.page b).prev == 0)
    (Over
    (filter (is_wanted killed scan) (take_while (λ e. not (back.before_low e)) (reverse (take k (x.page b).entries)))))
    (Reads (x.page b).prev
    (filter (is_wanted killed scan) (take_while (λ e. not (back.before_low e)) (reverse (take k (x.page b).entries)))))

-- the list so far
abbrev pub appended_of : {E : Type 0} → BackState E → List E
appended_of (Seeks b) = []
appended_of (Reads b ys) = ys
appended_of (Over ys) = ys
appended_of Lost = []

-- how many visits are made before the searcher has ended, at most n
abbrev pub visits_back : {S E : Type 0} → (E → Bool) → Index S E → Scan S E → Back S E → ℕ → BackState E → ℕ
visits_back killed x scan back zero s = 0
visits_back killed x scan back (suc n) (Seeks b) =
    suc (visits_back killed x scan back n (cond (can_visit x b) (seek_page killed scan back (x.page b)) Lost))
visits_back killed x scan back (suc n) (Reads b ys) =
    suc (visits_back killed x scan back n (cond (can_visit x b) (read_page killed scan back (x.page b) ys) Lost))
visits_back killed x scan back (suc n) (Over ys) = 0
visits_back killed x scan back (suc n) Lost = 0

-- what a state leads to, and by how many visits
unfoldable pub rest_back : {S E : Type 0} → (E → Bool) → Index S E → Scan S E → Back S E → BackState E → List E
rest_back killed x scan back s = appended_of (after_back killed x scan back (x.blocks + x.blocks) s)

unfoldable pub left_back : {S E : Type 0} → (E → Bool) → Index S E → Scan S E → Back S E → BackState E → ℕ
left_back killed x scan back s = visits_back killed x scan back (x.blocks + x.blocks) s

-- one state leads to another by n visits: what is left is the same, and each visit is one less
pub record LeadsBack {S E : Type 0} (killed : E → Bool) (x : Index S E) (scan : Scan S E) (back : Back S E) (n : ℕ)
    (from to : BackState E) : Type 0 where
  pub rest : rest_back killed x scan back from ≡ rest_back killed x scan back to
  pub left : left_back killed x scan back from ≡ n + left_back killed x scan back to

-- nothing is left, and no visit
pub record IsOver {S E : Type 0} (killed : E → Bool) (x : Index S E) (scan : Scan S E) (back : Back S E)
    (s : BackState E) : Type 0 where
  pub rest : rest_back killed x scan back s ≡ []
  pub left : left_back killed x scan back s ≡ 0

-- the first phase comes to this page
pub record SeeksAt {S E : Type 0} (killed : E → Bool) (x : Index S E) (scan : Scan S E) (back : Back S E) (b : ℕ)
    : Type 0 where
  pub visits : ℕ
  pub comes : after_back killed x scan back visits (back_start x) ≡ Seeks b

-- it ends there: the page is a leaf, and isn't left for its right sibling
pub record SeekEndsAt {S E : Type 0} (killed : E → Bool) (x : Index S E) (scan : Scan S E) (back : Back S E) (b : ℕ)
    : Type 0 where
  pub seeks : SeeksAt killed x scan back b
  pub stays : (right_of back.reaches (x.page b).high_key || (x.page b).half_dead) ≡ false
  pub leaf : (x.page b).leaf ≡ true

-- the second phase goes left to this page
pub record GoesLeftTo {S E : Type 0} (killed : E → Bool) (x : Index S E) (scan : Scan S E) (back : Back S E) (b : ℕ)
    : Type 0 where
  pub visits : ℕ
  pub so_far : List E
  pub comes : after_back killed x scan back visits (back_start x) ≡ Reads b so_far

-- the second phase reads this page: it begins there, or goes left to it
abbrev pub IsReadBack : {S E : Type 0} → (E → Bool) → Index S E → Scan S E → Back S E → ℕ → Type 0
IsReadBack killed x scan back b = SeekEndsAt killed x scan back b ⊎ GoesLeftTo killed x scan back b

-- The place stands at the scan: the second phase reads its page, and no entry behind the place is before the low bound.
pub record StandsBack {S E : Type 0} (killed : E → Bool) (x : Index S E) (scan : Scan S E) (back : Back S E) (b k : ℕ)
    : Type 0 where
  pub read : IsReadBack killed x scan back b
  pub within : k ≤ length (x.page b).entries
  pub none_before : list_any back.before_low (drop k (x.page b).entries) ≡ false

-- what each step of a reader along the leaves, to the left, may rely on. At place k the next entry is that of number
-- k - 1, counted from 0
pub record ReadsBack {S E : Type 0} (killed : E → Bool) (x : Index S E) (scan : Scan S E) (back : Back S E) (b k : ℕ)
    : Type 0 where
  -- an entry that is before the low bound ends it
  pub before : (j : ℕ) (e : E) → k ≡ j + 1 → slice_get (x.page b).entries j ≡ Some e → back.before_low e ≡ true
      → IsOver killed x scan back (from_place_back killed x scan back b k)
  -- one that is wanted comes first, and what is left before it follows
  pub wanted : (j : ℕ) (e : E) → k ≡ j + 1 → slice_get (x.page b).entries j ≡ Some e
      → back.before_low e ≡ false → is_wanted killed scan e ≡ true
      → (rest_back killed x scan back (from_place_back killed x scan back b k)
      ≡ e ∷ rest_back killed x scan back (from_place_back killed x scan back b j))
      × (left_back killed x scan back (from_place_back killed x scan back b k)
      ≡ left_back killed x scan back (from_place_back killed x scan back b j))
      × StandsBack killed x scan back b j
  -- those that aren't are passed over, one or many
  pub others : (j : ℕ) → j ≤ k
      → ((i : ℕ) (e : E) → j ≤ i → i < k → slice_get (x.page b).entries i ≡ Some e
      → (back.before_low e ≡ false) × (is_wanted killed scan e ≡ false))
      → LeadsBack killed x scan back 0 (from_place_back killed x scan back b k) (from_place_back killed x scan back b j)
      × StandsBack killed x scan back b j
  -- at the front of the first page nothing is left
  pub first : k ≡ 0 → (x.page b).prev ≡ 0 → IsOver killed x scan back (from_place_back killed x scan back b k)
  -- at that of another what is left is what the left sibling leads to
  pub previous : k ≡ 0 → (x.page b).prev ≢ 0
      → LeadsBack killed x scan back 0 (from_place_back killed x scan back b k) (Reads (x.page b).prev [])
      × GoesLeftTo killed x scan back (x.page b).prev

-- what a visit of the first phase does to what is left
pub record SeeksOn {S E : Type 0} (killed : E → Bool) (x : Index S E) (scan : Scan S E) (back : Back S E) (b : ℕ)
    : Type 0 where
  -- the page can be visited
  pub not_meta : b ≢ 0
  pub inside : b < x.blocks
  pub used : (x.page b).idle ≡ false
  -- to the right sibling
  pub right : (right_of back.reaches (x.page b).high_key || (x.page b).half_dead) ≡ true
      → LeadsBack killed x scan back 1 (Seeks b) (Seeks (x.page b).next)
      × SeeksAt killed x scan back (x.page b).next
  -- down to a child
  pub down : (right_of back.reaches (x.page b).high_key || (x.page b).half_dead) ≡ false → (x.page b).leaf ≡ false
      → (c : S × ℕ) (cs : List (S × ℕ)) → (x.page b).children ≡ c ∷ cs
      → LeadsBack killed x scan back 1 (Seeks b) (Seeks (child_for back.reaches c cs))
      × SeeksAt killed x scan back (child_for back.reaches c cs)
  -- a leaf on which the phase ends is read as a whole
  pub reads : (right_of back.reaches (x.page b).high_key || (x.page b).half_dead) ≡ false → (x.page b).leaf ≡ true
      → LeadsBack killed x scan back 1 (Seeks b) (from_place_back killed x scan back b (length (x.page b).entries))
      × StandsBack killed x scan back b (length (x.page b).entries)

-- and one of the second phase. Each of its pages is a leaf, and one that is half-dead has no entries
pub record VisitsBack {S E : Type 0} (killed : E → Bool) (x : Index S E) (scan : Scan S E) (back : Back S E) (b : ℕ)
    : Type 0 where
  pub not_meta : b ≢ 0
  pub inside : b < x.blocks
  pub used : (x.page b).idle ≡ false
  pub leaf : (x.page b).leaf ≡ true
  pub half_dead_empty : (x.page b).half_dead ≡ true → (x.page b).entries ≡ []
  pub leads : LeadsBack killed x scan back 1 (Reads b [])
      (from_place_back killed x scan back b (length (x.page b).entries))
  pub stands : StandsBack killed x scan back b (length (x.page b).entries)

-- a backward search, step by step, of a scan that is to find es
pub record GoesBack {S E : Type 0} (killed : E → Bool) (x : Index S E) (scan : Scan S E) (back : Back S E) (es : List E)
    : Type 0 where
  -- what is left at the start is the reverse of that
  pub whole : rest_back killed x scan back (back_start x) ≡ reverse es
  -- the searcher has ended after as many visits as are left at the start, and not before. They are at most twice the
  -- blocks, as those that are left at any state
  pub ends : AnswersBack killed x scan back (left_back killed x scan back (back_start x)) (reverse es)
  pub not_before : (n : ℕ) (zs : List E) → AnswersBack killed x scan back n zs
      → left_back killed x scan back (back_start x) ≤ n
  pub most : (s : BackState E) → left_back killed x scan back s ≤ x.blocks + x.blocks
  -- where it starts
  pub empty : x.fastroot ≡ 0 → back_start x ≡ Over []
  pub begins : x.fastroot ≢ 0 → (back_start x ≡ Seeks x.fastroot) × SeeksAt killed x scan back x.fastroot
  -- what each visit and each step does
  pub seeks : (b : ℕ) → SeeksAt killed x scan back b → SeeksOn killed x scan back b
  pub visits : (b : ℕ) → GoesLeftTo killed x scan back b → VisitsBack killed x scan back b
  pub reads : (b k : ℕ) → StandsBack killed x scan back b k → ReadsBack killed x scan back b k
  -- who has ended has nothing left
  pub over : IsOver killed x scan back (Over [])

-- for every scan
abbrev pub GoesBackInSteps : {S E : Type 0} → Order S E → Index S E → Type 0
GoesBackInSteps {S} {E} o x =
    (killed : E → Bool) (scan : Scan S E) (back : Back S E) → IsBack o scan back
    → (es : List E) → IsWanted o killed x scan es → GoesBack killed x scan back es
