-- Where an item that keeps B5 has its tuple.
use Rattle.std.proofs.Common.{◌≡◌, ℕ, ◌+◌, ◌≤◌, false}
use Rattle.std.specs.Prelude.{not, nat_lt}
use Rattle.std.proofs.lemmas.Bool.{ltb-false, or_parts}
use Rattle.page_layout.specs.Items.{has_bad_storage, is_misplaced_tree_item, is_normal_or_dead}
use Rattle.page_layout.specs.declared.page.LinePtr.{LinePtr}

pub record IsWithin (p : LinePtr) : Type 0 where
  pub within : p.off + p.len ≤ 8176
  pub long : 8 ≤ p.len

pub placed-within : (upper : ℕ) (p : LinePtr) → is_misplaced_tree_item upper p ≡ false → IsWithin p
unfolding is_misplaced_tree_item
placed-within upper p h =
    let storage = (or_parts (not (is_normal_or_dead p.flag)) (has_bad_storage upper 8176 8 p) h).1 in
    let last = or_parts _ (nat_lt p.len 8) storage in
    let end = or_parts _ (nat_lt 8176 (p.off + p.len)) last.0 in
    record { within = ltb-false 8176 (p.off + p.len) end.1; long = ltb-false p.len 8 last.1 }
