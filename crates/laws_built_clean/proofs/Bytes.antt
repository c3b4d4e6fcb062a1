-- The blocks of a tree, one behind the other, have 8192 bytes each.
use Rattle.std.proofs.Common.{◌≡◌, ◌≢◌, ◌≤◌, ◌<◌, ◌*◌, ◌∙◌, ℕ, zero, suc, Bool, cond, inl, inr, List, ◌++◌, length, take, drop, sym, ap, arith, length-append, length-drop, take_all}
use Rattle.std.proofs.Math.Seq.{drop-append_seam}
use Rattle.std.proofs.lemmas.Bool.{cases_eq, cases_lt, eq-eqb, ne_eqb}
use Rattle.std.proofs.lemmas.List.{drop-append-le, take-append-le}
use Rattle.key_orders.specs.declared.columns.KeySpec.{KeySpec}
use Rattle.key_orders.specs.declared.more.MoreSpec.{MoreSpec}
use Rattle.page_write.specs.Pages.{meta_page, opaque_bytes}
use Rattle.page_write.proofs.Laying.{length_opaque}
use Rattle.page_write.proofs.Reading.{length_meta_page, length_page}
use Rattle.laws_built_index.specs.Pages.{items_of, special_of}
use Rattle.laws_built_index.specs.Trees.{IsTreeFit, ItemTree, built_block, laid_of, meta_in, page_bytes}
use Rattle.bt_build.specs.Outcome.{blocks_below}

module _ (specs : List KeySpec) (ms : List MoreSpec) (x : ItemTree) (fit : IsTreeFit specs ms x) where
  page_long : (b : ℕ) → b ≢ 0 → b < x.blocks → length (page_bytes specs ms (x.page b)) ≡ 8192
  page_long b other lt =
      let p = laid_of specs ms (x.page b) in
      let l = length_page 8176 (items_of p) (opaque_bytes (special_of p)) (fit.pages b other lt).room in
      let o = length_opaque (special_of p) in
      l ∙ omega (arith, o)

  block_long : (b : ℕ) → b < x.blocks → length (built_block specs ms x b) ≡ 8192
  block_long b lt = elim (cases_eq b 0) [
    | inl first ↦ ap (λ (c : Bool). length (cond c (meta_page (meta_in x)) (page_bytes specs ms (x.page b)))) (eq-eqb b 0 first) ∙ length_meta_page (meta_in x)
    | inr other ↦ ap (λ (c : Bool). length (cond c (meta_page (meta_in x)) (page_bytes specs ms (x.page b)))) (ne_eqb b 0 other) ∙ page_long b other lt
  ]

  pub bytes_long : (n : ℕ) → n ≤ x.blocks → length (blocks_below specs ms x n) ≡ 8192 * n
  bytes_long zero le = omega arith
  bytes_long (suc n) le =
      let before = bytes_long n (omega (arith, le)) in
      let here = block_long n (omega (arith, le)) in
      length-append (blocks_below specs ms x n) (built_block specs ms x n) ∙ omega (arith, before, here)

  pub block_at : (n b : ℕ) → n ≤ x.blocks → b < n → take 8192 (drop (8192 * b) (blocks_below specs ms x n)) ≡ built_block specs ms x b
  block_at zero b le lt = absurd (omega (arith, lt))
  block_at (suc n) b le lt =
      let front = blocks_below specs ms x n in
      let one = built_block specs ms x n in
      let long = bytes_long n (omega (arith, le)) in
      elim (cases_lt b n) [
        | inl before ↦
            let d = length-drop (8192 * b) front in
            ap (take 8192) (drop-append-le (8192 * b) front one (omega (arith, long, before)))
            ∙ take-append-le 8192 (drop (8192 * b) front) one (omega (arith, d, long, before))
            ∙ block_at n b (omega (arith, le)) before
        | inr after ↦
            let here : b ≡ n = omega (arith, after, lt) in
            let end : 8192 * b ≡ length front = omega (arith, here, long) in
            let whole = block_long n (omega (arith, le)) in
            ap (λ (m : ℕ). take 8192 (drop m (front ++ one))) end
            ∙ ap (take 8192) (drop-append_seam front one)
            ∙ take_all 8192 one (omega (arith, whole))
            ∙ ap (built_block specs ms x) (sym here)
      ]
