use Rattle.std.proofs.Common.{◌≡◌, ◌++◌, map, take}
use Rattle.std.specs.List.{flat_map}
use Rattle.key_orders.specs.Values.{value_shown}
use Rattle.back_scan.specs.Texts.{next_text}
use Rattle.back_scan.proofs.text.push_others.Given as goal

abbrev pub invariant-loop-v : goal.invariant-loop-v
invariant-loop-v l = l.text ≡ l.initial.text ++ flat_map next_text (map value_shown (take l.v-index l.values))
