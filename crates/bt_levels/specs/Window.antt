-- Two pages in hand.
use Rattle.std.specs.Prelude.{ℕ, List, if◌then◌else◌}
use Rattle.bt_levels.specs.declared.window.Window.{Window}

-- the one that is judged next
abbrev pub held_page : Window → List ℕ
held_page window = if window.is_right then window.right else window.left
