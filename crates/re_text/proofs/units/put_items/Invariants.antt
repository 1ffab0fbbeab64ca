use Rattle.std.proofs.Common.{◌≡◌, ◌++◌, drop}
use Rattle.sre_code.specs.Spelling.{items_words}
use Rattle.re_text.specs.Trees.{set_items}
use Rattle.re_text.proofs.units.put_items.Given as goal

abbrev pub invariant-loop-i : goal.invariant-loop-i
invariant-loop-i l = l.code ≡ items_words (set_items (drop l.i l.items)) ++ l.initial.code
