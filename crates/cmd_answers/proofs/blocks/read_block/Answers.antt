use Rattle.std.proofs.Common.{◌≡◌, ℕ, ◌*◌, ◌∙◌, ap, arith, drop, length, take}
use Rattle.cmd_answers.proofs.blocks.read_block.Goals as goal

pub returns-clause-bytes : goal.returns-clause-bytes
returns-clause-bytes g c names bytes told there =
    let long : length c.args.page.now ≡ 8192 = omega arith in
    c.in_ok-read_at.ensures.bytes names bytes told there ∙ ap (λ (n : ℕ). take n (drop (8192 * c.args.block) bytes)) long
