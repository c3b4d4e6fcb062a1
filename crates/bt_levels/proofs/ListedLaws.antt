-- What an index breaks, or what of it can't be judged, is listed; and one of which nothing is listed keeps the rules.
use Rattle.std.proofs.Common.{◌≡◌, ◌≢◌, ℕ, ◌-◌, ◌≤◌, ◌<◌, inl, inr, Bool, true, false, [], refl, sym, subst, arith}
use Rattle.std.specs.Prelude.{Contains, is_none, ◌==◌, Option, Some, None}
use Rattle.std.proofs.lemmas.Bool.{both_ways, cases_Bool, eqb-true, eq-eqb}
use Rattle.std.proofs.lemmas.List.Elements.{Contains-append_left, Contains-append_right}
use Rattle.page_layout.specs.declared.rules.Rule.{Rule}
use Rattle.page_layout.specs.declared.rules.Rule.TheVariants.{S1}
use Rattle.bt_meta.specs.Pages.{is_idle, meta_of}
use Rattle.bt_image.specs.Pages.{KeepsPage, KeepsTreeRules}
use Rattle.reports.specs.Added.{doubt_at, finding_at, report_lists}
use Rattle.reports.specs.declared.places.Finding.{Finding}
use Rattle.reports.specs.declared.places.UnjudgedPlace.{UnjudgedPlace}
use Rattle.reports.specs.declared.places.Place.{Place}
use Rattle.reports.specs.declared.places.Place.TheVariants.{Segment}
use Rattle.reports.specs.declared.places.Rel.TheVariants.{Index}
use Rattle.reports.specs.declared.places.Reason.{Reason}
use Rattle.reports.specs.declared.places.Reason.TheVariants.{U4}
use Rattle.reports.proofs.Parts.{among_upto, second_is_empty, upto_is_empty}
use Rattle.bt_pages.specs.Trees.{Tree}
use Rattle.bt_pages.specs.Found.{block_lists, block_place}
use Rattle.bt_pages.specs.Broken.{AreEmpty, IsDoubtedAt, doubted, IsFoundAt, found}
use Rattle.bt_pages.proofs.BlockLaws.{among_doubt, among_finding, block-doubted, block-listed, none_doubted, none_found, some_or_none}
use Rattle.bt_pages.proofs.KeptLaws.{block-kept}
use Rattle.bt_levels.specs.Broken.{BreaksPages, long_segment, no_blocks, other_layout, unknown_flag, bad_places, stray_byte, no_metapage, bad_root, in_block, DoubtsTree, old_version, of_block, IsOther}
use Rattle.bt_levels.specs.Lists.{blocks_lists, first_doubt, first_lists, first_rule, pages_lists, is_first_quiet, lists_where, old_version as old_by, other_lists, segment_lists}
use Rattle.bt_levels.proofs.TreeLaws.{KeepsFirst, both_yes, first_broken, first_keeps, is_none-of}

module _ (tree : Tree) (long : Option ℕ) where
  -- the parts of the lists
  in_segment : (f : Finding) → Contains (segment_lists tree.number long).findings f → Contains (pages_lists tree long).findings f
  unfolding pages_lists
  in_segment f has = Contains-append_left (segment_lists tree.number long).findings (blocks_lists tree).findings f has

  in_first : (f : Finding) → Contains (finding_at (block_place tree 0) (first_rule tree.blocks (tree.block 0))).findings f → Contains (pages_lists tree long).findings f
  unfolding pages_lists blocks_lists
  in_first f has =
      Contains-append_right (segment_lists tree.number long).findings (blocks_lists tree).findings f
      (Contains-append_left (first_lists tree).findings (lists_where (is_first_quiet tree) (other_lists tree)).findings f
      (Contains-append_left (finding_at (block_place tree 0) (first_rule tree.blocks (tree.block 0))).findings (doubt_at (block_place tree 0) (first_doubt tree.blocks (tree.block 0))).findings f has))

  in_other : (b : ℕ) (f : Finding) → IsOther tree b → Contains (block_lists tree b).findings f → Contains (pages_lists tree long).findings f
  unfolding pages_lists blocks_lists other_lists
  in_other b f o has =
      Contains-append_right (segment_lists tree.number long).findings (blocks_lists tree).findings f
      (Contains-append_right (first_lists tree).findings (lists_where (is_first_quiet tree) (other_lists tree)).findings f
      (subst (λ (q : Bool). Contains (lists_where q (other_lists tree)).findings f) (sym o.quiet)
      (among_upto report_lists (λ l. l.findings) refl (λ x y. refl) (block_lists tree) (tree.blocks - 1) b f o.first (let inside = o.inside in omega arith) has)))

  first_doubted : (u : UnjudgedPlace) → Contains (doubt_at (block_place tree 0) (first_doubt tree.blocks (tree.block 0))).unjudged u → Contains (pages_lists tree long).unjudged u
  unfolding pages_lists blocks_lists
  first_doubted u has =
      Contains-append_right (segment_lists tree.number long).unjudged (blocks_lists tree).unjudged u
      (Contains-append_left (first_lists tree).unjudged (lists_where (is_first_quiet tree) (other_lists tree)).unjudged u
      (Contains-append_right (finding_at (block_place tree 0) (first_rule tree.blocks (tree.block 0))).unjudged (doubt_at (block_place tree 0) (first_doubt tree.blocks (tree.block 0))).unjudged u has))

  other_doubted : (b : ℕ) (u : UnjudgedPlace) → IsOther tree b → Contains (block_lists tree b).unjudged u → Contains (pages_lists tree long).unjudged u
  unfolding pages_lists blocks_lists other_lists
  other_doubted b u o has =
      Contains-append_right (segment_lists tree.number long).unjudged (blocks_lists tree).unjudged u
      (Contains-append_right (first_lists tree).unjudged (lists_where (is_first_quiet tree) (other_lists tree)).unjudged u
      (subst (λ (q : Bool). Contains (lists_where q (other_lists tree)).unjudged u) (sym o.quiet)
      (among_upto report_lists (λ l. l.unjudged) refl (λ x y. refl) (block_lists tree) (tree.blocks - 1) b u o.first (let inside = o.inside in omega arith) has)))

  -- block 0 has a first rule, unless it keeps them all
  first_listed : (KeepsFirst tree → ⊥) → IsFoundAt (pages_lists tree long) (block_place tree 0)
  first_listed broken = elim (some_or_none (first_rule tree.blocks (tree.block 0))) [
    | inl none ↦ absurd (broken (first_keeps tree none))
    | inr some ↦
        found some.it (in_first (record { rule = some.it; place = block_place tree 0 }) (among_finding (block_place tree 0) (first_rule tree.blocks (tree.block 0)) some.it some.is))
  ]

  found_other : (b : ℕ) (place : Place) → IsOther tree b → IsFoundAt (block_lists tree b) place → IsFoundAt (pages_lists tree long) place
  found_other b place o (found rule has) = found rule (in_other b (record { rule = rule; place = place }) o has)

  doubted_other : (b : ℕ) (place : Place) → IsOther tree b → IsDoubtedAt (block_lists tree b) place → IsDoubtedAt (pages_lists tree long) place
  doubted_other b place o (doubted reason has) = doubted reason (other_doubted b (record { reason = reason; place = place }) o has)

  segment_is : (k : ℕ) → long ≡ Some k → Contains (segment_lists tree.number long).findings (record { rule = S1; place = Segment (Index tree.number) k })
  segment_is k e =
      subst (λ (o : Option ℕ). Contains (segment_lists tree.number o).findings (record { rule = S1; place = Segment (Index tree.number) k })) (sym e)
      (among_finding (Segment (Index tree.number) k) (Some S1) S1 refl)

  pub pages-listed : (rule : Rule) (place : Place) → BreaksPages tree long rule place → IsFoundAt (pages_lists tree long) place
  pages-listed _ _ (long_segment k e) = found S1 (in_segment (record { rule = S1; place = Segment (Index tree.number) k }) (segment_is k e))
  pages-listed _ _ (no_blocks none) = first_listed (λ keeps. let some = keeps.some in omega arith)
  pages-listed _ _ (other_layout some broken) = first_listed (λ keeps. both_ways _ keeps.version broken)
  pages-listed _ _ (unknown_flag some broken) = first_listed (λ keeps. both_ways _ keeps.flags broken)
  pages-listed _ _ (bad_places some broken) = first_listed (λ keeps. both_ways _ keeps.places broken)
  pages-listed _ _ (stray_byte some broken) = first_listed (λ keeps. both_ways _ keeps.written broken)
  pages-listed _ _ (no_metapage some broken) = first_listed (λ keeps. both_ways _ keeps.metapage broken)
  pages-listed _ _ (bad_root some four broken) = first_listed (λ keeps. both_ways _ (keeps.roots four) broken)
  pages-listed _ _ (in_block b rule place o broken) = found_other b place o (block-listed tree b rule place broken)

  ne_is : (version : ℕ) → version ≢ 4 → (version == 4) ≡ false
  ne_is version other = elim (cases_Bool (version == 4)) [ inl e ↦ absurd (other (eqb-true _ _ e)) | inr e ↦ e ]

  doubt_is : first_rule tree.blocks (tree.block 0) ≡ None → (meta_of (tree.block 0)).version ≢ 4 → first_doubt tree.blocks (tree.block 0) ≡ Some U4
  unfolding first_doubt
  doubt_is keeps other = λ k. old_by (is_none-of (first_rule tree.blocks (tree.block 0)) keeps k) (ne_is (meta_of (tree.block 0)).version other k)

  pub pages-doubted : (reason : Reason) (place : Place) → DoubtsTree tree reason place → IsDoubtedAt (pages_lists tree long) place
  pages-doubted _ _ (old_version keeps other) =
      doubted U4 (first_doubted (record { reason = U4; place = block_place tree 0 }) (among_doubt (block_place tree 0) (first_doubt tree.blocks (tree.block 0)) U4 (doubt_is keeps other)))
  pages-doubted _ _ (of_block b reason place o doubt) = doubted_other b place o (block-doubted tree b reason place doubt)

  pub pages-complete : AreEmpty (pages_lists tree long) → (rule : Rule) (place : Place) → BreaksPages tree long rule place → ⊥
  pages-complete empty rule place broken = none_found (pages_lists tree long) place empty (pages-listed rule place broken)

  pub pages-certain : AreEmpty (pages_lists tree long) → (reason : Reason) (place : Place) → DoubtsTree tree reason place → ⊥
  pages-certain empty reason place doubt = none_doubted (pages_lists tree long) place empty (pages-doubted reason place doubt)

  -- What is kept where nothing is listed

  module _ (empty : AreEmpty (pages_lists tree long)) where
    rule_none : first_rule tree.blocks (tree.block 0) ≡ None
    rule_none = elim (some_or_none (first_rule tree.blocks (tree.block 0))) [
      | inl e ↦ e
      | inr some ↦ absurd (pages-complete empty some.it (block_place tree 0) (first_broken tree long some.it some.is))
    ]

    version_4 : (meta_of (tree.block 0)).version ≡ 4
    version_4 = elim (cases_Bool ((meta_of (tree.block 0)).version == 4)) [
      | inl e ↦ eqb-true _ _ e
      | inr e ↦ absurd (pages-certain empty U4 (block_place tree 0) (old_version rule_none (λ four. both_ways _ e (eq-eqb _ _ four))))
    ]

    doubt_none : first_doubt tree.blocks (tree.block 0) ≡ None
    unfolding first_doubt
    doubt_none = λ k. old_by (is_none-of (first_rule tree.blocks (tree.block 0)) rule_none k) (eq-eqb _ _ version_4 k)

    pub quiet : is_first_quiet tree ≡ true
    quiet = both_yes (is_none (first_rule tree.blocks (tree.block 0))) (is_none (first_doubt tree.blocks (tree.block 0))) (is_none-of _ rule_none) (is_none-of _ doubt_none)

    findings_none : (b : ℕ) → 1 ≤ b → b < tree.blocks → (block_lists tree b).findings ≡ []
    unfolding pages_lists blocks_lists other_lists
    findings_none b first inside =
        upto_is_empty report_lists (λ l. l.findings) refl (λ x y. refl) (block_lists tree) (tree.blocks - 1) b
        (subst (λ (q : Bool). (lists_where q (other_lists tree)).findings ≡ []) quiet
        (second_is_empty (first_lists tree).findings (lists_where (is_first_quiet tree) (other_lists tree)).findings (second_is_empty (segment_lists tree.number long).findings (blocks_lists tree).findings empty.findings)))
        first (omega arith)

    unjudged_none : (b : ℕ) → 1 ≤ b → b < tree.blocks → (block_lists tree b).unjudged ≡ []
    unfolding pages_lists blocks_lists other_lists
    unjudged_none b first inside =
        upto_is_empty report_lists (λ l. l.unjudged) refl (λ x y. refl) (block_lists tree) (tree.blocks - 1) b
        (subst (λ (q : Bool). (lists_where q (other_lists tree)).unjudged ≡ []) quiet
        (second_is_empty (first_lists tree).unjudged (lists_where (is_first_quiet tree) (other_lists tree)).unjudged (second_is_empty (segment_lists tree.number long).unjudged (blocks_lists tree).unjudged empty.unjudged)))
        first (omega arith)

    page_kept : (b : ℕ) → b ≢ 0 → b < tree.blocks → is_idle (tree.block b) ≡ false → KeepsPage tree.specs tree.more tree.blocks tree.block b
    page_kept b other inside used =
        let first : 1 ≤ b = omega (arith, other) in
        block-kept tree b (record { findings = findings_none b first inside; unjudged = unjudged_none b first inside }) used

    pub pages-kept : KeepsTreeRules tree.specs tree.more tree.blocks tree.block
    pages-kept =
        let keeps = first_keeps tree rule_none in
        record {
          some = keeps.some;
          metapage = record { metapage = keeps.metapage; roots = keeps.roots };
          version = version_4;
          pages = page_kept;
        }
