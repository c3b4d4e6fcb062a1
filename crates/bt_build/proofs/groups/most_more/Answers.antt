use Rattle.std.proofs.Common.{◌≡◌, ◌∙◌, ◌-◌, ◌/◌, ℕ, min, ap, arith, sym}
use Rattle.std.specs.Prelude.{Bool, nat_le, if◌then◌else◌, suc}
use Rattle.laws_building.specs.Groups.{greatest}
use Rattle.page_write.specs.Posting.{posting_size}
use Rattle.bt_build.proofs.GroupLaws.{most_is, room_more}
use Rattle.bt_build.proofs.groups.most_more.Goals as goal

pub returns : goal.returns
returns c =
    let len = c.args.len in
    let room : (2704 - c.max_align.result) / 6 - 1 ≡ room_more len = ap (λ (n : ℕ). (2704 - n) / 6 - 1) c.max_align.ensures.value in
    let least : c.min.result ≡ min 63 (room_more len) = omega (arith, c.min.ensures, c.saturating_sub.ensures, room) in
    least ∙ sym (most_is len 63)
    ∙ ap (λ (b : Bool). greatest (λ n. nat_le (posting_size len (suc n)) 2704) (if b then 0 else 63)) (sym c.if-includes.false)
