-- Walks along the links of a chain: whether they come back, and where the chain begins.
use Rattle.std.specs.Prelude.{◌≡◌, ◌≢◌, ◌≤◌, ◌==◌, ℕ, zero, suc, Bool, false, ◌||◌, List, [], ◌∷◌, length}
use Rattle.std.specs.List.{All}
use Rattle.laws_search.specs.Tree.{Index, linked_from, chain_of}
use Rattle.laws_search.specs.Searchable.{IsInUse}
use Rattle.laws_search.specs.Search.{last_or}
use Rattle.laws_search.specs.Levels.{Downlink, entry_page}

abbrev pub to_left : {S E : Type 0} → Index S E → ℕ → ℕ
to_left x b = (x.page b).prev

abbrev pub to_right : {S E : Type 0} → Index S E → ℕ → ℕ
to_right x b = (x.page b).next

-- a walk of at most n links that begins at b comes to the page
abbrev pub walks_to : (ℕ → ℕ) → (page n b : ℕ) → Bool
walks_to link page zero b = false
walks_to link page (suc n) zero = false
walks_to link page (suc n) (suc b) = (suc b == page) || walks_to link page n (link (suc b))

-- the first page of the chain of a page, found by the links to the left
abbrev pub first_page : {S E : Type 0} → Index S E → ℕ → ℕ
first_page x b = last_or b (linked_from (to_left x) x.blocks (to_left x b))

-- the chain of the level below these downlinks, from its first page on by the links to the right
abbrev pub walked_chain : {S E : Type 0} → Index S E → List (Downlink S) → List ℕ
walked_chain x ds = linked_from (to_right x) x.blocks (first_page x (entry_page ds))

-- the links lead from b along this list to their end
abbrev pub Leads : (ℕ → ℕ) → ℕ → List ℕ → Type 0
Leads link b [] = b ≡ 0
Leads link b (q ∷ c) = (b ≡ q) × (q ≢ 0) × Leads link (link q) c

-- this is the whole chain of the page, and it isn't a circle
pub record IsOpenChain {S E : Type 0} (x : Index S E) (b : ℕ) (c : List ℕ) : Type 0 where
  pub whole : chain_of x b ≡ c
  pub leads : Leads (to_right x) (first_page x b) c
  pub short : length c ≤ x.blocks
  pub in_use : All (λ q. IsInUse x q × ((x.page q).level ≡ (x.page b).level)) c
