use Rattle.std.proofs.Common.{◌≡◌, ℕ, ◌+◌, List, ◌++◌, ◌∙◌, sym, drop, take}
use Rattle.std.proofs.Math.Seq.{take-add}
use Rattle.cmd_answers.proofs.text.add_piece.Goals as goal

-- one more piece of a file
joined : (old new read bytes : List ℕ) (at count : ℕ) → new ≡ old ++ read → read ≡ take count (drop at bytes) → old ≡ take at bytes → new ≡ take (at + count) bytes
joined old new read bytes at count pushed is was = pushed ∙ rw (was, is) (sym (take-add at count bytes))

pub returns-clause-text : goal.returns-clause-text
returns-clause-text g c names bytes told there was =
    joined _ _ _ bytes _ _ c.in_ok-push_slice.ensures.ok (c.in_ok-read_at.ensures.bytes names bytes told there) was
