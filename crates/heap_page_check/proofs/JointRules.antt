-- What is asked of all items of a page together, as the code finds it.
use Rattle.std.proofs.Common.{◌≡◌, ℕ, ◌+◌, ◌≤◌, true, false, List, [], ◌∷◌, ◌++◌, ◌∙◌, refl, sym, ap, length, arith, append-nil, add-one, zero, suc}
use Rattle.std.specs.Prelude.{Option, None, ◌==◌, ◌&&◌}
use Rattle.std.proofs.lemmas.Grind.{common_steps}
use Rattle.std.proofs.lemmas.List.{length-append, nil_from_length}
use Rattle.hot_chains.specs.Chains.{chain_rule}
use Rattle.hot_chains.specs.Table.{AreChains, rule_in}
use Rattle.hot_chains.specs.declared.table.Chains.{Chains}
use Rattle.liveness.specs.declared.states.ItemState.{ItemState}
use Rattle.page_layout.specs.declared.rules.Rule.{Rule}
use Rattle.reports.specs.Added.{each_upto, finding_at, joined, nothing, report_lists}
use Rattle.reports.specs.Lists.{Lists}
use Rattle.reports.specs.declared.places.Finding.{Finding}
use Rattle.reports.specs.declared.places.Place.TheVariants.{Item}
use Rattle.reports.specs.declared.places.Rel.{Rel}
use Rattle.reports.specs.declared.places.UnjudgedPlace.{UnjudgedPlace}
use Rattle.heap_page_check.specs.Found.{FoundLists, both_found, found_parts, only_listed}
use Rattle.heap_page_check.specs.Pages.{chain_found, if_silent, with_joint}

-- what the table says of item k + 1 is what its chains break
pub chain_is : (rel : Rel) (block k : ℕ) (items : List ItemState) (chains : Chains) (rule : Option Rule) → AreChains block items chains → k + 1 ≤ length items → rule ≡ rule_in chains (k + 1) → finding_at (Item rel block (k + 1)) rule ≡ chain_found rel block items (k + 1)
unfolding chain_found
chain_is rel block k items chains rule are le e = ap (finding_at (Item rel block (k + 1))) (e ∙ are.rules (k + 1) (omega arith) le)

-- where each place gives nothing, all give nothing
nothing_of_each : (f : ℕ → Lists) (n : ℕ) → ((i : ℕ) → f i ≡ nothing) → each_upto report_lists f n ≡ nothing
unfolding each_upto
nothing_of_each f zero none = refl
nothing_of_each f (suc n) none = rw (nothing_of_each f n none, none (suc n)) refl

nothing_here : (rel : Rel) (block : ℕ) (items : List ItemState) → ((i : ℕ) → chain_rule block items i ≡ None) → (i : ℕ) → chain_found rel block items i ≡ nothing
unfolding chain_found
nothing_here rel block items none i = ap (finding_at (Item rel block i)) (none i)

pub nothing_of_chains : (rel : Rel) (block : ℕ) (items : List ItemState) → ((i : ℕ) → chain_rule block items i ≡ None) → each_upto report_lists (chain_found rel block items) (length items) ≡ nothing
nothing_of_chains rel block items none = nothing_of_each (chain_found rel block items) (length items) (nothing_here rel block items none)

-- items without chains break no chain rule
pub no_chains_found : (rel : Rel) (block : ℕ) (items : List ItemState) (old : FoundLists) → ((i : ℕ) → chain_rule block items i ≡ None) → old ≡ both_found old (only_listed (each_upto report_lists (chain_found rel block items) (length items)))
no_chains_found rel block items old none =
    sym (ap (λ (l : Lists). both_found old (only_listed l)) (nothing_of_chains rel block items none) ∙ found_parts.with_none old)

-- Whether something was found of the items

-- where as much is listed as before, nothing was added
nothing_more : {X : Type 0} (old now more : List X) → now ≡ old ++ more → length now ≡ length old → more ≡ []
nothing_more old now more e same =
    let all : length now ≡ length old + length more = ap length e ∙ length-append old more in
    nil_from_length more (omega (arith, all, same))

no_longer : {X : Type 0} (old now more : List X) → now ≡ old ++ more → more ≡ [] → length now ≡ length old
no_longer old now more e none = ap length (e ∙ ap (λ xs. old ++ xs) none ∙ append-nil old)

first_agrees : (a b x y : ℕ) → true ≡ ((a == b) && (x == y)) → a ≡ b
first_agrees a b x y e = grind (arith, common_steps)

second_agrees : (a b x y : ℕ) → true ≡ ((a == b) && (x == y)) → x ≡ y
second_agrees a b x y e = grind (arith, common_steps)

both_agree : (a b x y : ℕ) → a ≡ b → x ≡ y → false ≡ ((a == b) && (x == y)) → ⊥
both_agree a b x y e f differs = absurd (grind (arith, common_steps))

abbrev pub Counts : Type 0
Counts = ℕ × ℕ

-- the counts of a report
abbrev pub counts_of : FoundLists → Counts
counts_of f = (length f.listed.findings, length f.listed.unjudged)

module _ (old found mid : FoundLists) (before now : Counts) (was : ◌≡◌ {A = Counts} before (counts_of old)) (is : ◌≡◌ {A = Counts} now (counts_of mid)) (added : mid ≡ both_found old found) where
  findings_added : mid.listed.findings ≡ old.listed.findings ++ found.listed.findings
  findings_added = ap (λ (f : FoundLists). f.listed.findings) added

  unjudged_added : mid.listed.unjudged ≡ old.listed.unjudged ++ found.listed.unjudged
  unjudged_added = ap (λ (f : FoundLists). f.listed.unjudged) added

  -- where the counts are the same, nothing is listed
  pub none_found : true ≡ ((now.0 == before.0) && (now.1 == before.1)) → found.listed.findings ≡ []
  none_found same =
      nothing_more old.listed.findings mid.listed.findings found.listed.findings findings_added
      (sym (ap (λ (d : Counts). d.0) is) ∙ first_agrees _ _ _ _ same ∙ ap (λ (d : Counts). d.0) was)

  pub none_doubted : true ≡ ((now.0 == before.0) && (now.1 == before.1)) → found.listed.unjudged ≡ []
  none_doubted same =
      nothing_more old.listed.unjudged mid.listed.unjudged found.listed.unjudged unjudged_added
      (sym (ap (λ (d : Counts). d.1) is) ∙ second_agrees _ _ _ _ same ∙ ap (λ (d : Counts). d.1) was)

  -- and where they differ, something is
  pub some_listed : false ≡ ((now.0 == before.0) && (now.1 == before.1)) → found.listed.findings ≡ [] → found.listed.unjudged ≡ [] → ⊥
  some_listed differs none sure =
      both_agree _ _ _ _
      (ap (λ (d : Counts). d.0) is ∙ no_longer old.listed.findings mid.listed.findings found.listed.findings findings_added none ∙ sym (ap (λ (d : Counts). d.0) was))
      (ap (λ (d : Counts). d.1) is ∙ no_longer old.listed.unjudged mid.listed.unjudged found.listed.unjudged unjudged_added sure ∙ sym (ap (λ (d : Counts). d.1) was))
      differs

-- lists that come where nothing was found
pub silent_is : (findings : List Finding) (unjudged : List UnjudgedPlace) (lists : Lists) → findings ≡ [] → unjudged ≡ [] → if_silent findings unjudged lists ≡ lists
silent_is [] [] lists e f = refl
silent_is [] (u ∷ unjudged) lists e f = cc
silent_is (g ∷ findings) unjudged lists e f = cc

pub loud_is : (findings : List Finding) (unjudged : List UnjudgedPlace) (lists : Lists) → (findings ≡ [] → unjudged ≡ [] → ⊥) → if_silent findings unjudged lists ≡ nothing
loud_is [] [] lists some = absurd (some refl refl)
loud_is [] (u ∷ unjudged) lists some = refl
loud_is (f ∷ findings) unjudged lists some = refl

-- what is asked of all items together is added where nothing is listed of each by itself
pub joint_added : (old found mid new : FoundLists) (joint : Lists) (before now : Counts) → ◌≡◌ {A = Counts} before (counts_of old) → ◌≡◌ {A = Counts} now (counts_of mid) → mid ≡ both_found old found → true ≡ ((now.0 == before.0) && (now.1 == before.1)) → new ≡ both_found mid (only_listed joint) → new ≡ both_found old (with_joint found joint)
joint_added old found mid new joint before now was is added same last =
    let silent = silent_is found.listed.findings found.listed.unjudged joint (none_found old found mid before now was is added same) (none_doubted old found mid before now was is added same) in
    last ∙ ap (λ (f : FoundLists). both_found f (only_listed joint)) added ∙ found_parts.in_turn old found (only_listed joint)
    ∙ ap (λ (l : Lists). both_found old (both_found found (only_listed l))) (sym silent)

-- and else nothing is
pub joint_passed : (old found mid : FoundLists) (joint : Lists) (before now : Counts) → ◌≡◌ {A = Counts} before (counts_of old) → ◌≡◌ {A = Counts} now (counts_of mid) → mid ≡ both_found old found → false ≡ ((now.0 == before.0) && (now.1 == before.1)) → mid ≡ both_found old (with_joint found joint)
joint_passed old found mid joint before now was is added differs =
    let loud = loud_is found.listed.findings found.listed.unjudged joint (some_listed old found mid before now was is added differs) in
    added ∙ ap (both_found old) (sym (found_parts.with_none found)) ∙ ap (λ (l : Lists). both_found old (both_found found (only_listed l))) (sym loud)

-- A loop over the chains of a page

pub chain_none : (f : ℕ → Lists) (old : FoundLists) → old ≡ both_found old (only_listed (each_upto report_lists f 0))
unfolding each_upto
chain_none f old = sym (found_parts.with_none old)

upto_next : (f : ℕ → Lists) (k : ℕ) → each_upto report_lists f (k + 1) ≡ joined (each_upto report_lists f k) (f (k + 1))
unfolding each_upto
upto_next f k = rw add-one refl

-- one more item
pub chain_next : (rel : Rel) (block k : ℕ) (items : List ItemState) (chains : Chains) (rule : Option Rule) (old mid new : FoundLists) → AreChains block items chains → k + 1 ≤ length items → rule ≡ rule_in chains (k + 1)
    → mid ≡ both_found old (only_listed (each_upto report_lists (chain_found rel block items) k)) → new ≡ both_found mid (only_listed (finding_at (Item rel block (k + 1)) rule))
    → new ≡ both_found old (only_listed (each_upto report_lists (chain_found rel block items) (k + 1)))
chain_next rel block k items chains rule old mid new are le e was now =
    now ∙ ap (λ (f : FoundLists). both_found f (only_listed (finding_at (Item rel block (k + 1)) rule))) was
    ∙ found_parts.in_turn old (only_listed (each_upto report_lists (chain_found rel block items) k)) (only_listed (finding_at (Item rel block (k + 1)) rule))
    ∙ ap (λ (l : Lists). both_found old (only_listed (joined (each_upto report_lists (chain_found rel block items) k) l))) (chain_is rel block k items chains rule are le e)
    ∙ ap (λ (l : Lists). both_found old (only_listed l)) (sym (upto_next (chain_found rel block items) k))
