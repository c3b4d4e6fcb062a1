use Rattle.std.proofs.Common.{◌≡◌, ℕ, ◌≤◌, List, ◌∙◌, arith, length, take}
use Rattle.std.proofs.lemmas.List.{take_all}
use Rattle.cmd_answers.proofs.text.read_text.Goals as goal

-- all of a file
all_of : (text bytes : List ℕ) (done len : ℕ) → text ≡ take done bytes → len ≤ done → done ≤ len → length bytes ≡ len → text ≡ bytes
all_of text bytes done len is past within long = is ∙ take_all done bytes (omega (arith, long))

pub returns-clause-text : goal.returns-clause-text
returns-clause-text g c names bytes told there =
    let long : length bytes ≡ c.args.len = rw there at (c.requires names told) in
    all_of _ bytes _ _ (c.loop-done.invariant.text names bytes told there) (omega arith) c.loop-done.invariant.within long
