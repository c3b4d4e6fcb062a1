-- What the lists of an index say, each by its sentence.
use Rattle.std.proofs.Common.{◌≡◌, ℕ, zero, suc, ◌-◌, ◌<◌, ◌∙◌, ◌⊎◌, inl, inr, Bool, true, false, cond, List, [], ◌++◌, refl, sym, ap, subst, arith}
use Rattle.std.specs.Prelude.{All, is_none, ◌&&◌, ◌==◌, Option, Some, None}
use Rattle.std.specs.Option.{option_or}
use Rattle.std.proofs.lemmas.Bool.{both_ways, eqb-true, eq-eqb}
use Rattle.std.proofs.lemmas.List.Elements.{All-append, All-nil}
use Rattle.page_layout.specs.Page.{page_rule_of}
use Rattle.page_layout.specs.declared.page.PageKind.TheVariants.{Meta}
use Rattle.page_layout.specs.declared.rules.Rule.{Rule}
use Rattle.page_layout.specs.declared.rules.Rule.TheVariants.{M1, M2, P1, P2, P3, P4, S1}
use Rattle.page_layout.specs.Page.{has_bad_places, has_other_version, has_unknown_page_flag, is_new_but_written}
use Rattle.bt_meta.specs.Pages.{has_bad_root, is_no_metapage, meta_of, meta_rule_of}
use Rattle.reports.specs.Added.{doubt_at, finding_at, report_lists}
use Rattle.reports.specs.declared.places.UnjudgedPlace.{UnjudgedPlace}
use Rattle.reports.specs.declared.places.Place.TheVariants.{Segment}
use Rattle.reports.specs.declared.places.Rel.TheVariants.{Index}
use Rattle.reports.specs.declared.places.Reason.{Reason}
use Rattle.reports.specs.declared.places.Reason.TheVariants.{U4}
use Rattle.reports.proofs.Parts.{All-upto}
use Rattle.bt_pages.specs.Trees.{Tree}
use Rattle.bt_pages.specs.Found.{block_lists, block_place}
use Rattle.bt_pages.proofs.BlockLaws.{All-doubt_at, All-finding_at, block-doubts, block-sound, no_doubts, no_findings, or_none}
use Rattle.bt_levels.specs.Broken.{BreaksPages, long_segment, no_blocks, other_layout, unknown_flag, bad_places, stray_byte, no_metapage, bad_root, in_block, DoubtsTree, old_version, of_block}
use Rattle.bt_levels.specs.Lists.{blocks_lists, first_doubt, first_lists, first_rule, pages_lists, is_first_quiet, lists_where, old_version as old_by, other_lists, segment_lists}

-- Block 0: which rules its first one can be

header_by : (tree : Tree) (long : Option ℕ) (a b c d : Bool) → a ≡ has_other_version (tree.block 0) → b ≡ has_unknown_page_flag (tree.block 0) → c ≡ has_bad_places Meta (tree.block 0) → d ≡ is_new_but_written (tree.block 0)
    → 0 < tree.blocks → (rule : Rule) → cond a (Some P1) (cond b (Some P2) (cond c (Some P3) (cond d (Some P4) None))) ≡ Some rule → BreaksPages tree long rule (block_place tree 0)
header_by tree long true b c d p q r s some rule e = subst (λ (x : Rule). BreaksPages tree long x (block_place tree 0)) (let same : P1 ≡ rule = cc in same) (other_layout some (sym p))
header_by tree long false true c d p q r s some rule e = subst (λ (x : Rule). BreaksPages tree long x (block_place tree 0)) (let same : P2 ≡ rule = cc in same) (unknown_flag some (sym q))
header_by tree long false false true d p q r s some rule e = subst (λ (x : Rule). BreaksPages tree long x (block_place tree 0)) (let same : P3 ≡ rule = cc in same) (bad_places some (sym r))
header_by tree long false false false true p q r s some rule e = subst (λ (x : Rule). BreaksPages tree long x (block_place tree 0)) (let same : P4 ≡ rule = cc in same) (stray_byte some (sym s))
header_by tree long false false false false p q r s some rule e = absurd cc

header_broken : (tree : Tree) (long : Option ℕ) → 0 < tree.blocks → (rule : Rule) → page_rule_of Meta (tree.block 0) ≡ Some rule → BreaksPages tree long rule (block_place tree 0)
unfolding page_rule_of
header_broken tree long some rule e = header_by tree long _ _ _ _ refl refl refl refl some rule e

meta_by : (tree : Tree) (long : Option ℕ) (a b c : Bool) → a ≡ is_no_metapage (tree.block 0) → b ≡ ((meta_of (tree.block 0)).version == 4) → c ≡ has_bad_root tree.blocks (meta_of (tree.block 0))
    → 0 < tree.blocks → (rule : Rule) → cond a (Some M1) (cond (b && c) (Some M2) None) ≡ Some rule → BreaksPages tree long rule (block_place tree 0)
meta_by tree long true b c p q r some rule e = subst (λ (x : Rule). BreaksPages tree long x (block_place tree 0)) (let same : M1 ≡ rule = cc in same) (no_metapage some (sym p))
meta_by tree long false true true p q r some rule e = subst (λ (x : Rule). BreaksPages tree long x (block_place tree 0)) (let same : M2 ≡ rule = cc in same) (bad_root some (eqb-true _ _ (sym q)) (sym r))
meta_by tree long false true false p q r some rule e = absurd cc
meta_by tree long false false c p q r some rule e = absurd cc

meta_broken : (tree : Tree) (long : Option ℕ) → 0 < tree.blocks → (rule : Rule) → meta_rule_of (tree.block 0) tree.blocks ≡ Some rule → BreaksPages tree long rule (block_place tree 0)
unfolding meta_rule_of
meta_broken tree long some rule e = meta_by tree long _ _ _ refl refl refl some rule e

-- of a first option, or of a second
or_by : {X : Type 0} (o p : Option X) (x : X) → option_or o p ≡ Some x → (o ≡ Some x) ⊎ (p ≡ Some x)
or_by None p x e = inr e
or_by (Some y) p x e = inl e

first_is : (n : ℕ) (page : List ℕ) → 0 < n → first_rule n page ≡ option_or (page_rule_of Meta page) (meta_rule_of page n)
unfolding first_rule
first_is zero page some = absurd (omega arith)
first_is (suc n) page some = refl

first_zero : (n : ℕ) (page : List ℕ) → n ≡ 0 → first_rule n page ≡ Some M1
unfolding first_rule
first_zero zero page none = refl
first_zero (suc n) page none = absurd (omega arith)

zero_or_more : (n : ℕ) → (n ≡ 0) ⊎ (0 < n)
zero_or_more zero = inl refl
zero_or_more (suc n) = inr (omega arith)

pub first_broken : (tree : Tree) (long : Option ℕ) (rule : Rule) → first_rule tree.blocks (tree.block 0) ≡ Some rule → BreaksPages tree long rule (block_place tree 0)
first_broken tree long rule e = elim (zero_or_more tree.blocks) [
  | inl none ↦
      subst (λ (x : Rule). BreaksPages tree long x (block_place tree 0)) (let both : Some M1 ≡ Some rule = sym (first_zero tree.blocks (tree.block 0) none) ∙ e in let same : M1 ≡ rule = cc in same) (no_blocks none)
  | inr some ↦ elim (or_by (page_rule_of Meta (tree.block 0)) (meta_rule_of (tree.block 0) tree.blocks) rule (sym (first_is tree.blocks (tree.block 0) some) ∙ e)) [
    | inl own ↦ header_broken tree long some rule own
    | inr later ↦ meta_broken tree long some rule later
  ]
]

-- A sound metapage

pub record KeepsFirst (tree : Tree) : Type 0 where
  pub some : 0 < tree.blocks
  pub version : has_other_version (tree.block 0) ≡ false
  pub flags : has_unknown_page_flag (tree.block 0) ≡ false
  pub places : has_bad_places Meta (tree.block 0) ≡ false
  pub written : is_new_but_written (tree.block 0) ≡ false
  pub metapage : is_no_metapage (tree.block 0) ≡ false
  pub roots : (meta_of (tree.block 0)).version ≡ 4 → has_bad_root tree.blocks (meta_of (tree.block 0)) ≡ false

four_none : (a b c d : Bool) → cond a (Some P1) (cond b (Some P2) (cond c (Some P3) (cond d (Some P4) None))) ≡ None → (a ≡ false) × (b ≡ false) × (c ≡ false) × (d ≡ false)
four_none true b c d e = absurd cc
four_none false true c d e = absurd cc
four_none false false true d e = absurd cc
four_none false false false true e = absurd cc
four_none false false false false e = (refl, refl, refl, refl)

two_none : (a b c : Bool) → cond a (Some M1) (cond (b && c) (Some M2) None) ≡ None → (a ≡ false) × (b ≡ true → c ≡ false)
two_none true b c e = absurd cc
two_none false true true e = absurd cc
two_none false true false e = (refl, λ yes. refl)
two_none false false c e = (refl, λ yes. absurd cc)

page_none : (page : List ℕ) → page_rule_of Meta page ≡ None → (has_other_version page ≡ false) × (has_unknown_page_flag page ≡ false) × (has_bad_places Meta page ≡ false) × (is_new_but_written page ≡ false)
unfolding page_rule_of
page_none page e = four_none _ _ _ _ e

meta_none : (blocks : ℕ) (page : List ℕ) → meta_rule_of page blocks ≡ None → (is_no_metapage page ≡ false) × (((meta_of page).version == 4) ≡ true → has_bad_root blocks (meta_of page) ≡ false)
unfolding meta_rule_of
meta_none blocks page e = two_none _ _ _ e

pub first_keeps : (tree : Tree) → first_rule tree.blocks (tree.block 0) ≡ None → KeepsFirst tree
first_keeps tree e = elim (zero_or_more tree.blocks) [
  | inl none ↦ absurd (let both : Some M1 ≡ None = sym (first_zero tree.blocks (tree.block 0) none) ∙ e in cc)
  | inr some ↦
      (let parts = or_none (page_rule_of Meta (tree.block 0)) (meta_rule_of (tree.block 0) tree.blocks) (sym (first_is tree.blocks (tree.block 0) some) ∙ e) in
      let page = page_none (tree.block 0) parts.0 in
      let meta = meta_none tree.blocks (tree.block 0) parts.1 in
      record {
        some = some;
        version = page.0;
        flags = page.1;
        places = page.2;
        written = page.3;
        metapage = meta.0;
        roots = λ four. meta.1 (eq-eqb _ _ four);
      })
]

old_says : (keeps current : Bool) (reason : Reason) → old_by keeps current ≡ Some reason → (keeps ≡ true) × (current ≡ false) × (U4 ≡ reason)
old_says true false reason e = (refl, refl, cc)
old_says true true reason e = absurd cc
old_says false current reason e = absurd cc

is_none-true : {X : Type 0} (o : Option X) → is_none o ≡ true → o ≡ None
is_none-true None e = refl
is_none-true (Some x) e = absurd cc

pub is_none-of : {X : Type 0} (o : Option X) → o ≡ None → is_none o ≡ true
is_none-of o e = ap is_none e

pub both_yes : (a b : Bool) → a ≡ true → b ≡ true → (a && b) ≡ true
both_yes true b p q = q
both_yes false b p q = absurd cc

module _ (tree : Tree) (long : Option ℕ) where
  doubt_broken : (reason : Reason) → first_doubt tree.blocks (tree.block 0) ≡ Some reason → DoubtsTree tree reason (block_place tree 0)
  unfolding first_doubt
  doubt_broken reason e =
      let says = old_says (is_none (first_rule tree.blocks (tree.block 0))) ((meta_of (tree.block 0)).version == 4) reason e in
      subst (λ (r : Reason). DoubtsTree tree r (block_place tree 0)) says.2
      (old_version (is_none-true (first_rule tree.blocks (tree.block 0)) says.0) (λ four. both_ways _ says.1 (eq-eqb _ _ four)))

  -- The findings

  segment_sound : (o : Option ℕ) → long ≡ o → All (λ f. BreaksPages tree long f.rule f.place) (segment_lists tree.number o).findings
  segment_sound None e = All-nil (λ f. BreaksPages tree long f.rule f.place)
  segment_sound (Some k) e =
      All-finding_at (λ f. BreaksPages tree long f.rule f.place) (Segment (Index tree.number) k) (Some S1) (λ rule same.
      subst (λ (r : Rule). BreaksPages tree long r (Segment (Index tree.number) k)) (let is : S1 ≡ rule = cc in is) (long_segment k e))

  first_sound : All (λ f. BreaksPages tree long f.rule f.place) (first_lists tree).findings
  first_sound =
      All-append (λ f. BreaksPages tree long f.rule f.place) (finding_at (block_place tree 0) (first_rule tree.blocks (tree.block 0))).findings (doubt_at (block_place tree 0) (first_doubt tree.blocks (tree.block 0))).findings
      (All-finding_at (λ f. BreaksPages tree long f.rule f.place) (block_place tree 0) (first_rule tree.blocks (tree.block 0)) (first_broken tree long))
      (subst (All (λ f. BreaksPages tree long f.rule f.place)) (sym (no_findings (block_place tree 0) (first_doubt tree.blocks (tree.block 0)))) (All-nil (λ f. BreaksPages tree long f.rule f.place)))

  others_sound : is_first_quiet tree ≡ true → All (λ f. BreaksPages tree long f.rule f.place) (other_lists tree).findings
  unfolding other_lists
  others_sound quiet =
      All-upto report_lists (λ l. l.findings) refl (λ x y. refl) (λ f. BreaksPages tree long f.rule f.place) (block_lists tree) (tree.blocks - 1)
      (λ b first last k d lt. in_block b _ _ (record { first = first; inside = omega arith; quiet = quiet }) (block-sound tree b k d lt))

  where_sound : (q : Bool) → is_first_quiet tree ≡ q → All (λ f. BreaksPages tree long f.rule f.place) (lists_where q (other_lists tree)).findings
  where_sound true e = others_sound e
  where_sound false e = All-nil (λ f. BreaksPages tree long f.rule f.place)

  pub pages-sound : All (λ f. BreaksPages tree long f.rule f.place) (pages_lists tree long).findings
  unfolding pages_lists blocks_lists
  pages-sound =
      All-append (λ f. BreaksPages tree long f.rule f.place) (segment_lists tree.number long).findings (blocks_lists tree).findings (segment_sound long refl)
      (All-append (λ f. BreaksPages tree long f.rule f.place) (first_lists tree).findings (lists_where (is_first_quiet tree) (other_lists tree)).findings first_sound (where_sound (is_first_quiet tree) refl))

  -- The doubts

  no_segment : (o : Option ℕ) → (segment_lists tree.number o).unjudged ≡ []
  no_segment None = refl
  no_segment (Some k) = refl

  first_doubts : All (λ u. DoubtsTree tree u.reason u.place) (first_lists tree).unjudged
  first_doubts =
      subst (λ (us : List UnjudgedPlace). All (λ u. DoubtsTree tree u.reason u.place) (us ++ (doubt_at (block_place tree 0) (first_doubt tree.blocks (tree.block 0))).unjudged)) (sym (no_doubts (block_place tree 0) (first_rule tree.blocks (tree.block 0))))
      (All-doubt_at (λ u. DoubtsTree tree u.reason u.place) (block_place tree 0) (first_doubt tree.blocks (tree.block 0)) doubt_broken)

  others_doubts : is_first_quiet tree ≡ true → All (λ u. DoubtsTree tree u.reason u.place) (other_lists tree).unjudged
  unfolding other_lists
  others_doubts quiet =
      All-upto report_lists (λ l. l.unjudged) refl (λ x y. refl) (λ u. DoubtsTree tree u.reason u.place) (block_lists tree) (tree.blocks - 1)
      (λ b first last k d lt. of_block b _ _ (record { first = first; inside = omega arith; quiet = quiet }) (block-doubts tree b k d lt))

  where_doubts : (q : Bool) → is_first_quiet tree ≡ q → All (λ u. DoubtsTree tree u.reason u.place) (lists_where q (other_lists tree)).unjudged
  where_doubts true e = others_doubts e
  where_doubts false e = All-nil (λ u. DoubtsTree tree u.reason u.place)

  pub pages-doubts : All (λ u. DoubtsTree tree u.reason u.place) (pages_lists tree long).unjudged
  unfolding pages_lists blocks_lists
  pages-doubts =
      subst (λ (us : List UnjudgedPlace). All (λ u. DoubtsTree tree u.reason u.place) (us ++ (blocks_lists tree).unjudged)) (sym (no_segment long))
      (All-append (λ u. DoubtsTree tree u.reason u.place) (first_lists tree).unjudged (lists_where (is_first_quiet tree) (other_lists tree)).unjudged first_doubts (where_doubts (is_first_quiet tree) refl))
