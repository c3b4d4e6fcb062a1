-- The searcher that goes backward.
use Rattle.std.specs.Prelude.{◌≡◌, ◌+◌, ◌==◌, ℕ, zero, suc, Bool, true, false, not, ◌&&◌, ◌||◌, cond, nat_lt, List}
use Rattle.std.specs.Prelude.{[], ◌∷◌, ◌++◌, reverse}
use Rattle.std.specs.List.{filter, list_any, take_while}
use Rattle.laws_search.specs.Order.{Order, Scan}
use Rattle.laws_search.specs.Tree.{Page, Index}
use Rattle.laws_search.specs.Search.{is_wanted, IsWanted, right_of, last_or}

-- where a scan reaches beyond a separator, and where it is before its low bound
pub record Back (S E : Type 0) : Type 0 where
  pub reaches : S → Bool
  pub before_low : E → Bool

pub record IsBack {S E : Type 0} (o : Order S E) (scan : Scan S E) (back : Back S E) : Type 0 where
  -- where the scan doesn't reach beyond a separator, no entry above it matches
  pub none_right : (e : E) (s : S) → back.reaches s ≡ false → o.within e s ≡ false → scan.matches e ≡ false
  -- an entry that is before the low bound doesn't match, and none below it does
  pub none_before : (e : E) → back.before_low e ≡ true → scan.matches e ≡ false
  pub stays_before : (d e : E) → back.before_low e ≡ true → o.precedes d e ≡ true → back.before_low d ≡ true

pub data BackState (E : Type 0) : Type 0 where
  Seeks : (block : ℕ) → BackState E
  Reads : (block : ℕ) (yielded : List E) → BackState E
  Over : (yielded : List E) → BackState E
  Lost : BackState E

abbrev pub descend_back : {S E : Type 0} → Back S E → List (S × ℕ) → BackState E
descend_back back [] = Lost
descend_back back (c ∷ cs) = Seeks (last_or c (filter (λ d. back.reaches d.0) cs)).1

-- the entries of a page that the scan wants, from the last down to the first that is before the low bound.
-- A half-dead page has none
unfoldable pub found_back : {S E : Type 0} → (E → Bool) → Scan S E → Back S E → Page S E → List E
found_back killed scan back p =
    cond p.half_dead [] (filter (is_wanted killed scan) (take_while (λ e. not (back.before_low e)) (reverse p.entries)))

unfoldable pub read_page : {S E : Type 0} → (E → Bool) → Scan S E → Back S E → Page S E → List E → BackState E
read_page killed scan back p ys =
    cond (list_any back.before_low p.entries || p.prev == 0)
    (Over (ys ++ found_back killed scan back p))
    (Reads p.prev (ys ++ found_back killed scan back p))

unfoldable pub seek_page : {S E : Type 0} → (E → Bool) → Scan S E → Back S E → Page S E → BackState E
seek_page killed scan back p =
    cond (right_of back.reaches p.high_key || p.half_dead) (Seeks p.next)
    (cond (not p.leaf) (descend_back back p.children)
    (read_page killed scan back p []))

abbrev pub can_visit : {S E : Type 0} → Index S E → ℕ → Bool
can_visit x b = not (b == 0) && (nat_lt b x.blocks && not (x.page b).idle)

-- after at most n visits
abbrev pub after_back : {S E : Type 0} → (E → Bool) → Index S E → Scan S E → Back S E → ℕ → BackState E → BackState E
after_back killed x scan back zero s = s
after_back killed x scan back (suc n) (Seeks b) =
    after_back killed x scan back n (cond (can_visit x b) (seek_page killed scan back (x.page b)) Lost)
after_back killed x scan back (suc n) (Reads b ys) =
    after_back killed x scan back n (cond (can_visit x b) (read_page killed scan back (x.page b) ys) Lost)
after_back killed x scan back (suc n) (Over ys) = Over ys
after_back killed x scan back (suc n) Lost = Lost

unfoldable pub back_start : {S E : Type 0} → Index S E → BackState E
back_start x = cond (x.fastroot == 0) (Over []) (Seeks x.fastroot)

-- the searcher ends within twice the blocks, with the reverse of what the scan is to find
abbrev pub FindsBack : {S E : Type 0} → Order S E → Index S E → Type 0
FindsBack {S} {E} o x =
    (killed : E → Bool) (scan : Scan S E) (back : Back S E) → IsBack o scan back
    → (es : List E) × IsWanted o killed x scan es
    × (after_back killed x scan back (x.blocks + x.blocks) (back_start x) ≡ Over (reverse es))
