-- The table grows by pages without bytes.
use Rattle.std.proofs.Common.{◌≡◌, ℕ, ◌+◌, ◌-◌, vec_len}
use Rattle.disk_files.specs.Pages.{kept_page}
use Rattle.disk_files.proofs.opened.KeptPages.make_place.Given as goal

abbrev pub invariant-loop-self : goal.invariant-loop-self
invariant-loop-self l = (other : ℕ) → kept_page l.self other ≡ kept_page l.fn.self other

abbrev pub decreases-loop-self : goal.decreases-loop-self
decreases-loop-self l = l.number + 1 - vec_len l.self.pages
