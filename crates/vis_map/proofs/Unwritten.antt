-- A page without a byte other than 0 has no bits.
use Rattle.std.proofs.Common.{◌≡◌, inl, inr, ℕ, zero, suc, ◌+◌, ◌/◌, ◌%◌, Bool, true, false, not, ◌==◌, ◌&&◌, List, [], ◌∷◌, get_or, Some, None, refl}
use Rattle.std.specs.Prelude.{if◌then◌else◌}
use Rattle.std.proofs.lemmas.Bool.{and_cases, both_ways, eqb-true, not-false, or_parts}
use Rattle.page_layout.specs.declared.rules.Rule.TheVariants.{P1, P2, P3, P4}
use Rattle.page_layout.specs.declared.page.PageKind.TheVariants.{Map}
use Rattle.page_layout.specs.Page.{is_new, is_written, page_rule_of}
use Rattle.vis_map.specs.Bits.{blocks_per_map_page, map_byte_of}

last_kept : (a b c d : Bool) → (if a then Some P1 else if b then Some P2 else if c then Some P3 else if d then Some P4 else None) ≡ None → d ≡ false
last_kept true b c d e = absurd cc
last_kept false true c d e = absurd cc
last_kept false false true d e = absurd cc
last_kept false false false true e = absurd cc
last_kept false false false false e = refl

new_is_unwritten : (page : List ℕ) → page_rule_of Map page ≡ None → is_new page ≡ true → is_written page ≡ false
unfolding page_rule_of
new_is_unwritten page e new = elim (and_cases (is_new page) (is_written page) (last_kept _ _ _ (is_new page && is_written page) e)) [
  | inl old ↦ absurd (both_ways (is_new page) old new)
  | inr done ↦ done
]

each_byte : (bytes : List ℕ) (k : ℕ) → is_written bytes ≡ false → get_or bytes k 0 ≡ 0
each_byte [] k e = refl
each_byte (b ∷ bytes) zero e = eqb-true b 0 (not-false (b == 0) (or_parts (not (b == 0)) (is_written bytes) e).0)
each_byte (b ∷ bytes) (suc k) e = each_byte bytes k (or_parts (not (b == 0)) (is_written bytes) e).1

-- on a new page that breaks no rule the byte of a block's bits is 0
pub map_byte_of-new : (page : List ℕ) (block : ℕ) → page_rule_of Map page ≡ None → is_new page ≡ true → map_byte_of page block ≡ 0
map_byte_of-new page block e new = each_byte page (24 + block % blocks_per_map_page / 4) (new_is_unwritten page e new)
