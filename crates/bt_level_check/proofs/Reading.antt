-- The moves of a cursor over the downlinks to a level.
use Rattle.std.proofs.Common.{◌≡◌, ◌≢◌, ℕ, zero, suc, ◌+◌, ◌≤◌, Bool, true, false, cond, List, [], ◌∷◌, ◌++◌, length, refl, sym, ap, ◌∙◌, subst, arith}
use Rattle.std.proofs.lemmas.List.{nil_from_length}
use Rattle.std.specs.Prelude.{Option}
use Rattle.laws_search.specs.Levels.{Downlink, page_downlinks}
use Rattle.laws_search.specs.Tree.{Index, linked_from}
use Rattle.laws_search.proofs.Lists.{Each}
use Rattle.laws_levels.specs.Cursor.{Cursor, downlinks_along, downlinks_left, turned_cursor}
use Rattle.laws_levels.specs.Links.{Leads, to_right}
use Rattle.laws_levels.proofs.Cursors.{turn}
use Rattle.laws_levels.proofs.Loops.{along_same, linked_step, linked_zero}
use Rattle.bt_level_check.specs.Budget.{pages_below}
use Rattle.bt_level_check.specs.Reading.{IsOfLevel, IsReading}

module _ {S E : Type 0} (x : Index S E) (dead : ℕ → Bool) (level : ℕ) where
  abbrev pub Reading : ℕ → Cursor S → List (Downlink S) → Type 0
  Reading m k left = IsReading x dead level m k left

  pub fewer : (m n : ℕ) (k : Cursor S) (left : List (Downlink S)) → m ≤ n → Reading m k left → Reading n k left
  fewer m n k left le h = let few = h.few in record { pages = h.pages; few = omega (arith, few, le); leads = h.leads; of_level = h.of_level; is = h.is }

  -- where no page is left to be read
  pub none_ahead : (m : ℕ) (k : Cursor S) (left : List (Downlink S)) → m ≡ 0 → Reading m k left → k.block ≡ 0
  none_ahead m k left z h =
      let few = h.few in
      let none : linked_from (to_right x) h.pages k.block ≡ [] = nil_from_length (linked_from (to_right x) h.pages k.block) (omega (arith, few, z)) in
      subst (Leads (to_right x) k.block) none h.leads

  -- with nothing in hand
  abbrev pub empty_at : Option S → ℕ → Cursor S
  empty_at lower b = record { items = []; lower = lower; block = b }

  pub nothing_left : (m : ℕ) (lower : Option S) (left : List (Downlink S)) → Reading m (empty_at lower 0) left → left ≡ []
  nothing_left m lower left h = sym h.is ∙ ap (λ (c : List ℕ). downlinks_along x dead c lower) (linked_zero (to_right x) h.pages)

  -- the next page is in use and of this level, and past it the same downlinks are left
  pub turns : (m : ℕ) (lower : Option S) (b : ℕ) (left : List (Downlink S)) → b ≢ 0 → Reading (suc m) (empty_at lower b) left
      → IsOfLevel x level b × Reading m (turned_cursor x dead (empty_at lower b)) left
  turns m lower b left ne h = from h.pages refl
    where
      stays : Cursor S
      stays = record { items = []; lower = lower; block = (x.page b).next }

      goes : Cursor S
      goes = record { items = page_downlinks lower (x.page b).children; lower = (x.page b).high_key; block = (x.page b).next }

      block_is : (t : Bool) → (cond t stays goes).block ≡ (x.page b).next
      block_is true = refl
      block_is false = refl

      from : (p : ℕ) → h.pages ≡ p → IsOfLevel x level b × Reading m (turned_cursor x dead (empty_at lower b)) left
      from zero e = absurd (ne (subst (λ (p : ℕ). Leads (to_right x) b (linked_from (to_right x) p b)) e h.leads))
      from (suc p) e =
          let next : linked_from (to_right x) h.pages b ≡ b ∷ linked_from (to_right x) p (x.page b).next = ap (λ (n : ℕ). linked_from (to_right x) n b) e ∙ linked_step (to_right x) p b ne in
          let leads = subst (Leads (to_right x) b) next h.leads in
          let each = subst (Each (IsOfLevel x level)) next h.of_level in
          let at = block_is (dead b) in
          let count : suc (length (linked_from (to_right x) p (x.page b).next)) + pages_below x level ≤ suc m = subst (λ c. length c + pages_below x level ≤ suc m) next h.few in
          let few : length (linked_from (to_right x) p (x.page b).next) + pages_below x level ≤ m = omega (arith, count) in (
            each.0,
            record {
              pages = p;
              few = subst (λ (q : ℕ). length (linked_from (to_right x) p q) + pages_below x level ≤ m) (sym at) few;
              leads = subst (λ (q : ℕ). Leads (to_right x) q (linked_from (to_right x) p q)) (sym at) leads.2;
              of_level = subst (λ (q : ℕ). Each (IsOfLevel x level) (linked_from (to_right x) p q)) (sym at) each.1;
              is = sym (turn x dead p lower b ne) ∙ (ap (λ (n : ℕ). downlinks_left x dead n (empty_at lower b)) (sym e) ∙ h.is);
            },
          )

  -- past a downlink in hand
  pub record Advanced (m : ℕ) (d : Downlink S) (ds : List (Downlink S)) (lower : Option S) (b : ℕ) (left : List (Downlink S)) : Type 0 where
    pub later : List (Downlink S)
    pub first : left ≡ d ∷ later
    pub reading : Reading m (record { items = ds; lower = lower; block = b }) later

  pub advances : (m : ℕ) (d : Downlink S) (ds : List (Downlink S)) (lower : Option S) (b : ℕ) (left : List (Downlink S)) → Reading m (record { items = d ∷ ds; lower = lower; block = b }) left → Advanced m d ds lower b left
  advances m d ds lower b left h = record {
    later = ds ++ downlinks_along x dead (linked_from (to_right x) h.pages b) lower;
    first = sym h.is;
    reading = record { pages = h.pages; few = h.few; leads = h.leads; of_level = h.of_level; is = refl };
  }

  -- a set that says the same of the pages of this level
  pub same_dead : (other : ℕ → Bool) (m : ℕ) (k : Cursor S) (left : List (Downlink S)) → ((b : ℕ) → (x.page b).level ≡ level → dead b ≡ other b) → Reading m k left → IsReading x other level m k left
  same_dead other m k left same h =
      record {
        pages = h.pages;
        few = h.few;
        leads = h.leads;
        of_level = h.of_level;
        is = sym (ap (λ ds. k.items ++ ds) (along_same x dead other (linked_from (to_right x) h.pages k.block) k.lower (each _ h.of_level))) ∙ h.is;
      }
    where
      each : (c : List ℕ) → Each (IsOfLevel x level) c → Each (λ b. dead b ≡ other b) c
      each [] h = tt
      each (b ∷ c) h = (same b h.0.1, each c h.1)
