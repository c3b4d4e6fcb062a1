-- Room on a page.
use Rattle.std.proofs.Common.{◌≡◌, ◌≤◌, ◌+◌, ◌*◌, ◌%◌, ℕ, List, [], ◌∷◌, ◌++◌, length, refl, arith}
use Rattle.std.specs.Prelude.{Option, Some, None}
use Rattle.std.specs.List.{All, AllByRecursion}
use Rattle.std.proofs.lemmas.List.Elements.{recursion_from_All}
use Rattle.laws_search.specs.Keys.{Entry, Separator}
use Rattle.key_orders.specs.declared.columns.KeySpec.{KeySpec}
use Rattle.key_orders.specs.declared.columns.Value.{Value}
use Rattle.key_orders.specs.declared.more.MoreSpec.{MoreSpec}
use Rattle.key_orders.specs.declared.Tid.{Tid}
use Rattle.page_layout.specs.Page.{max_align}
use Rattle.page_write.specs.Bodies.{body_flags, index_body}
use Rattle.page_write.specs.Pages.{FitsBelow, room_for}
use Rattle.page_write.specs.Tuples.{tid_room}
use Rattle.page_write.proofs.Laying.{room-cons}
use Rattle.page_write.proofs.TupleReading.{length_plain}
use Rattle.laws_building.specs.Cuts.{size_sum}
use Rattle.laws_built_index.specs.Items.{entry_types, kept_types, pivot_item, plain_item}
use Rattle.laws_built_index.proofs.Short.{length_pivot}

room_cons : (t : List ℕ) (tuples : List (List ℕ)) → room_for (t ∷ tuples) ≡ max_align (length t) + room_for tuples
room_cons t tuples = room-cons t tuples

room_none : room_for [] ≡ 0
unfolding room_for
room_none = refl

room_sum : (tuples : List (List ℕ)) → AllByRecursion (λ t. length t % 8 ≡ 0) tuples → 4 * length tuples + room_for tuples ≡ size_sum (λ t. 4 + length t) tuples
room_sum [] words = let none = room_none in omega (arith, none)
room_sum (t ∷ tuples) words =
    let rest = room_sum tuples words.1 in
    let whole = words.0 in
    let one = room_cons t tuples in
    omega (arith, rest, whole, one)

pub without : (tuples : List (List ℕ)) → All (λ t. length t % 8 ≡ 0) tuples → size_sum (λ t. 4 + length t) tuples ≤ 5436 → FitsBelow 8176 tuples
without tuples words small =
    let a = room_sum tuples (recursion_from_All (λ t. length t % 8 ≡ 0) tuples words) in
    omega (arith, a, small)

room_next : (high : List ℕ) (tuples : List (List ℕ)) → length high % 8 ≡ 0 → room_for (high ∷ tuples) ≡ length high + room_for tuples
room_next high tuples whole = let one = room_cons high tuples in omega (arith, whole, one)

pub with_high_key : (high : List ℕ) (tuples : List (List ℕ)) → length high % 8 ≡ 0 → length high ≤ 2712 → All (λ t. length t % 8 ≡ 0) tuples
    → size_sum (λ t. 4 + length t) tuples ≤ 5436 → FitsBelow 8176 (high ∷ tuples)
with_high_key high tuples whole short words small =
    let a = room_sum tuples (recursion_from_All (λ t. length t % 8 ≡ 0) tuples words) in
    let b = room_next high tuples whole in
    omega (arith, a, b, small, short)

pub entry_words : (specs : List KeySpec) (more : List MoreSpec) (e : Entry Value Tid) (included : List Value) → length (plain_item specs more e included) % 8 ≡ 0
entry_words specs more e included =
    let a = length_plain e.tid (body_flags (entry_types specs more) (e.values ++ included)) (index_body (entry_types specs more) (e.values ++ included)) in
    omega (arith, a)

words_by : (tid : Option Tid) → tid_room tid % 8 ≡ 0
words_by None = refl
words_by (Some tid) = refl

pub separator_words : (specs : List KeySpec) (down : ℕ) (s : Separator Value Tid) → length (pivot_item specs down s) % 8 ≡ 0
separator_words specs down s =
    let a = length_pivot down (length s.kept) s.tid (body_flags (kept_types specs s) s.kept) (index_body (kept_types specs s) s.kept) in
    let b = words_by s.tid in
    omega (arith, a, b)
