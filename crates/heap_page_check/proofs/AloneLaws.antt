-- What is found of a page by itself is what it breaks.
use Rattle.std.proofs.Common.{◌≡◌, ℕ, zero, suc, ◌≤◌, Bool, true, false, List, [], refl, sym, subst, ap, ◌∙◌, arith}
use Rattle.std.specs.Prelude.{Option, Some, None, if◌then◌else◌}
use Rattle.std.specs.List.{All}
use Rattle.std.proofs.lemmas.Bool.{both_ways}
use Rattle.page_layout.specs.Items.{is_misplaced_heap_item}
use Rattle.page_layout.specs.Page.{count_of, item_of, page_rule_of, upper_of}
use Rattle.page_layout.specs.declared.page.PageKind.TheVariants.{Heap}
use Rattle.page_layout.specs.declared.rules.Rule.{Rule}
use Rattle.page_layout.specs.declared.rules.Rule.TheVariants.{H1}
use Rattle.reports.proofs.Parts.{All-upto, among_upto}
use Rattle.reports.specs.Added.{IsListed, each_upto, finding_at, found, report_lists}
use Rattle.reports.specs.Lists.{Lists}
use Rattle.reports.specs.declared.places.Finding.{Finding}
use Rattle.reports.specs.declared.places.Place.{Place}
use Rattle.reports.specs.declared.places.Place.TheVariants.{Block, Item}
use Rattle.reports.specs.declared.places.Rel.TheVariants.{Heap as heap}
use Rattle.heap_page_check.specs.Alone.{BreaksAlone, header, misplaced, lone_item_found, lone_item_rule, lone_page_found}
use Rattle.heap_page_check.proofs.HeaderLaws.{All-finding_at, no_header_is_broken, page_rule_is_broken, place_of_header}
use Rattle.heap_page_check.proofs.PageLaws.{listed_at, listed_in}

abbrev by_rule : ℕ → List ℕ → Option Rule → Lists
by_rule block page (Some rule) = finding_at (Block heap block) (Some rule)
by_rule block page None = each_upto report_lists (lone_item_found block page) (count_of page)

as_by_rule : (block : ℕ) (page : List ℕ) (found : Option Rule) → page_rule_of Heap page ≡ found → lone_page_found block page ≡ by_rule block page found
unfolding lone_page_found
as_by_rule block page (Some rule) e = rw e refl
as_by_rule block page None e = rw e refl

item_is_broken : (t : Bool) (rule : Rule) → (if t then Some H1 else None) ≡ Some rule → (t ≡ true) × (H1 ≡ rule)
item_is_broken true rule e = (refl, cc)
item_is_broken false rule e = cc

no_item_is_broken : (t : Bool) → (if t then Some H1 else None) ≡ None → t ≡ false
no_item_is_broken true e = cc
no_item_is_broken false e = refl

abbrev Broken : ℕ → List ℕ → Finding → Type 0
Broken block page f = BreaksAlone block page f.rule f.place

-- each finding of an item is a broken rule
item_sound : (block : ℕ) (page : List ℕ) (i : ℕ) → page_rule_of Heap page ≡ None → 1 ≤ i → i ≤ count_of page → All (Broken block page) (lone_item_found block page i).findings
unfolding lone_item_found lone_item_rule
item_sound block page i keeps some le =
    All-finding_at (Broken block page) (Item heap block i) (lone_item_rule page i) (λ rule e.
    let broken = item_is_broken (is_misplaced_heap_item (upper_of page) (item_of page i)) rule e in
    subst (λ (q : Rule). BreaksAlone block page q (Item heap block i)) broken.1 (misplaced i keeps some le broken.0))

sound_by : (block : ℕ) (page : List ℕ) (found : Option Rule) → page_rule_of Heap page ≡ found → All (Broken block page) (by_rule block page found).findings
sound_by block page (Some rule) e =
    All-finding_at (Broken block page) (Block heap block) (Some rule) (λ q same. header q (Block heap block) (page_rule_is_broken Heap heap block page q (e ∙ same)))
sound_by block page None e =
    All-upto report_lists (λ l. l.findings) refl (λ a b. refl) (Broken block page) (lone_item_found block page) (count_of page) (λ i. item_sound block page i e)

-- each finding of a page is a broken rule
pub lone_page_sound : (block : ℕ) (page : List ℕ) → All (Broken block page) (lone_page_found block page).findings
lone_page_sound block page = rw (as_by_rule block page (page_rule_of Heap page) refl) (sound_by block page (page_rule_of Heap page) refl)

item_certain : (place : Place) (rule : Option Rule) → (finding_at place rule).unjudged ≡ []
item_certain place None = refl
item_certain place (Some rule) = refl

items_certain : (block : ℕ) (page : List ℕ) (n : ℕ) → (each_upto report_lists (lone_item_found block page) n).unjudged ≡ []
unfolding each_upto lone_item_found
items_certain block page zero = refl
items_certain block page (suc n) = rw (items_certain block page n) (item_certain (Item heap block (suc n)) (lone_item_rule page (suc n)))

certain_by : (block : ℕ) (page : List ℕ) (found : Option Rule) → (by_rule block page found).unjudged ≡ []
certain_by block page (Some rule) = refl
certain_by block page None = items_certain block page (count_of page)

-- nothing of a page is left unjudged
pub lone_page_certain : (block : ℕ) (page : List ℕ) → (lone_page_found block page).unjudged ≡ []
lone_page_certain block page = rw (as_by_rule block page (page_rule_of Heap page) refl) (certain_by block page (page_rule_of Heap page))

item_listed : (block : ℕ) (page : List ℕ) (i : ℕ) → is_misplaced_heap_item (upper_of page) (item_of page i) ≡ true → IsListed (lone_item_found block page i) (Item heap block i)
unfolding lone_item_found lone_item_rule
item_listed block page i broken =
    listed_at (Item heap block i) (lone_item_rule page i) (λ none. both_ways _ (no_item_is_broken (is_misplaced_heap_item (upper_of page) (item_of page i)) none) broken)

listed_by : (block : ℕ) (page : List ℕ) (rule_found : Option Rule) → page_rule_of Heap page ≡ rule_found → (rule : Rule) (place : Place) → BreaksAlone block page rule place → IsListed (by_rule block page rule_found) place
listed_by block page (Some r) e _ _ (header rule place broken) =
    subst (λ (p : Place). IsListed (finding_at (Block heap block) (Some r)) p) (sym (place_of_header Heap heap block page rule place broken)) (found r (0, omega arith, refl))
listed_by block page None e _ _ (header rule place broken) = absurd (no_header_is_broken Heap heap block page e rule place broken)
listed_by block page (Some r) e _ _ (misplaced i keeps some le t) = cc
listed_by block page None e _ _ (misplaced i keeps some le t) =
    listed_in (lone_item_found block page i) _ (Item heap block i)
    (λ f has. among_upto report_lists (λ l. l.findings) refl (λ a b. refl) (lone_item_found block page) (count_of page) i f some le has)
    (λ u has. among_upto report_lists (λ l. l.unjudged) refl (λ a b. refl) (lone_item_found block page) (count_of page) i u some le has)
    (item_listed block page i t)

-- where a page breaks a rule, the place is listed
pub lone_page_listed : (block : ℕ) (page : List ℕ) (rule : Rule) (place : Place) → BreaksAlone block page rule place → IsListed (lone_page_found block page) place
lone_page_listed block page rule place broken =
    subst (λ (l : Lists). IsListed l place) (sym (as_by_rule block page (page_rule_of Heap page) refl)) (listed_by block page (page_rule_of Heap page) refl rule place broken)

-- the finding of an item, by the rule that the code has found
pub lone_is : (block : ℕ) (page : List ℕ) (i : ℕ) (rule : Option Rule) → rule ≡ lone_item_rule page i → finding_at (Item heap block i) rule ≡ lone_item_found block page i
unfolding lone_item_found
lone_is block page i rule e = ap (finding_at (Item heap block i)) e
