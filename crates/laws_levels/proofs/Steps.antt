-- The laws of the walk's steps, as callers cite them.
use Rattle.std.proofs.Common.{◌≡◌, ◌≢◌, ℕ, ◌-◌, ◌<◌, ◌≤◌, false, List, [], ◌∷◌, length, map, refl, subst, arith}
use Rattle.std.specs.Prelude.{◌↔◌}
use Rattle.std.specs.List.{filter, All}
use Rattle.std.proofs.lemmas.List.Elements.{All-from_recursion}
use Rattle.laws_search.specs.Order.{Order}
use Rattle.laws_search.specs.Tree.{Index, chain_of, linked_from}
use Rattle.laws_search.specs.Levels.{Downlink, lead_to}
use Rattle.laws_search.specs.Searchable.{IsInUse}
use Rattle.laws_search.proofs.Lists.{Each, Each-map, length-no_repeats}
use Rattle.laws_search.proofs.Chains.{Follows, OnLevel}
use Rattle.laws_levels.specs.Rules.{entry_at}
use Rattle.laws_levels.specs.Tests.{are_roots_misplaced, comes_back}
use Rattle.laws_levels.specs.Sound.{HasSoundPages}
use Rattle.laws_levels.specs.Links.{IsOpenChain, Leads, first_page, to_left, to_right, walks_to}
use Rattle.laws_levels.specs.Meeting.{unmet}
use Rattle.laws_levels.proofs.Entries.{entry_is}
use Rattle.laws_levels.proofs.First.{roots_stand}
use Rattle.laws_levels.proofs.Circles.{a_chain, chain_from_first, first_is, walk_left}
use Rattle.laws_levels.proofs.Meets.{all_met, met_in_order}

leads_from : (f : ℕ → ℕ) (b : ℕ) (c : List ℕ) → Follows f b c → Leads f b c
leads_from f b [] h = h
leads_from f b (q ∷ c) h = (h.0, h.1, leads_from f (f q) c h.2)

module _ {S E : Type 0} (o : Order S E) (x : Index S E) (local : HasSoundPages o x) (e : ℕ) (used : IsInUse x e) where
  abbrev here : OnLevel x (x.page e).level e
  here = (used, refl)

  pub walk_back_left : walks_to (to_left x) e x.blocks (to_left x e) ≡ comes_back (to_right x) e x.blocks
  walk_back_left = walk_left o x local.pages (x.page e).level e here

  pub open_chain : comes_back (to_right x) e x.blocks ≡ false → IsOpenChain x e (linked_from (to_right x) x.blocks (first_page x e))
  open_chain stops =
      let m : ℕ = (x.page e).level in
      let chain = a_chain o x local.pages m e here stops in
      let is : chain_of x e ≡ linked_from (to_right x) x.blocks (first_page x e) = chain_from_first o x local.pages m e here stops in
      let follows : Follows (to_right x) (first_page x e) (chain_of x e) = subst (λ z. Follows (to_right x) z (chain_of x e)) (first_is o x local.pages m e here chain.first chain.follows) chain.follows in
      let bound : Each (λ b. b < x.blocks) (chain_of x e) = Each-map (OnLevel x m) (λ b. b < x.blocks) (chain_of x e) (λ b ok. ok.0.inside) chain.here in
      record {
        whole = is;
        leads = subst (Leads (to_right x) (first_page x e)) is (leads_from (to_right x) (first_page x e) (chain_of x e) follows);
        short = subst (λ c. length c ≤ x.blocks) is (length-no_repeats x.blocks (chain_of x e) chain.apart bound);
        in_use = subst (λ c. All (λ b. IsInUse x b × ((x.page b).level ≡ (x.page e).level)) c) is (All-from_recursion (λ b. IsInUse x b × ((x.page b).level ≡ (x.page e).level)) (chain_of x e) chain.here);
      }

  pub unmet_order :
      comes_back (to_right x) e x.blocks ≡ false → (ds : List (Downlink S))
      → (unmet (chain_of x e) ds ≡ []) ↔ (map (λ d. d.1) ds ≡ filter (lead_to ds) (chain_of x e))
  unmet_order stops ds =
      let chain = a_chain o x local.pages (x.page e).level e here stops in
      (λ h. met_in_order (chain_of x e) ds chain.apart h, λ h. all_met (lead_to ds) (chain_of x e) ds h)

pub entries_used :
    {S E : Type 0} (o : Order S E) (x : Index S E) → HasSoundPages o x → x.root ≢ 0 → are_roots_misplaced x ≡ false
    → (n : ℕ) → n ≤ x.level → IsInUse x (entry_at x n) × ((x.page (entry_at x n)).level ≡ x.level - n)
entries_used o x local ne h n le =
    let roots = roots_stand o x local ne h in
    entry_is o x local.pages roots.root n (x.level - n) (omega arith)
