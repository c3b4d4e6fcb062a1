use Rattle.std.proofs.Common.{◌≡◌, ◌+◌, ◌-◌, ℕ, List, drop, length, refl, arith, append_assoc}
use Rattle.std.proofs.lemmas.List.{drop-drop}
use borrow.Rule.Slice.PartMut.{put_mid}
use Rattle.page_layout.specs.Writes.{with_bytes}
use Rattle.page_write.proofs.page.put_bytes.Goals as goal

-- a part that is put in the place of as many bytes
part_put : (at : ℕ) (xs piece part : List ℕ) → part ≡ piece → put_mid at (at + length piece - at) xs part ≡ with_bytes xs at piece
unfolding with_bytes
part_put at xs piece part e =
    let n : at + length piece - at ≡ length piece = omega arith in
    let there : drop (length piece) (drop at xs) ≡ drop (at + length piece) xs = drop-drop (length piece) at xs in
    rw (e, n, there, append_assoc) refl

pub returns : goal.returns
returns c = part_put c.args.at c.args.page.now c.args.bytes.now _ c.copy_from_slice.ensures.after
