-- An index of which only a part is seen: entries that have more than an order of them looks at, or items of entries.
use Rattle.std.specs.Prelude.{◌≢◌, List, [], ◌∷◌}
use Rattle.std.specs.List.{All}
use Rattle.laws_search.specs.Order.{Order}
use Rattle.laws_search.specs.Tree.{Page, Index}
use Rattle.laws_search.specs.Search.{last_or}
use Rattle.laws_building.specs.Built.{Splitter}

-- g gives what is seen of a page's entries
abbrev pub page_seen : {S D E : Type 0} → (List D → List E) → Page S D → Page S E
page_seen g p =
    record {
      idle = p.idle;
      leaf = p.leaf;
      half_dead = p.half_dead;
      incomplete_split = p.incomplete_split;
      prev = p.prev;
      next = p.next;
      level = p.level;
      high_key = p.high_key;
      children = p.children;
      entries = g p.entries;
    }

abbrev pub index_seen : {S D E : Type 0} → (List D → List E) → Index S D → Index S E
index_seen g x =
    record {
      blocks = x.blocks;
      page = λ b. page_seen g (x.page b);
      root = x.root;
      level = x.level;
      fastroot = x.fastroot;
      fastlevel = x.fastlevel;
    }

-- Entries that have more: f gives what the order looks at

abbrev pub order_by : {S D E : Type 0} → (D → E) → Order S E → Order S D
order_by f o = record { precedes = λ d e. o.precedes (f d) (f e); within = λ e s. o.within (f e) s; under = o.under }

abbrev pub splitter_by : {S D E : Type 0} → (D → E) → Splitter S E → Splitter S D
splitter_by f k = record { split_key = λ d e. k.split_key (f d) (f e); nothing = k.nothing }

-- Items, each of one entry or more

-- the separator of two items is that of the last entry of the left one and the first of the right one
abbrev pub item_key : {S E : Type 0} → Splitter S E → List E → List E → S
item_key k [] right = k.nothing
item_key k (d ∷ ds) [] = k.nothing
item_key k (d ∷ ds) (e ∷ es) = k.split_key (last_or d ds) e

abbrev pub item_splitter : {S E : Type 0} → Splitter S E → Splitter S (List E)
item_splitter k = record { split_key = item_key k; nothing = k.nothing }

-- a page has an item, and each item an entry
pub record HasEntries {E : Type 0} (page : List (List E)) : Type 0 where
  pub some : page ≢ []
  pub each : All (λ item. item ≢ []) page
