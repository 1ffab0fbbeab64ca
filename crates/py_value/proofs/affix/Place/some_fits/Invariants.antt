use Rattle.std.proofs.Common.{◌≡◌, drop}
use Rattle.py_value.specs.Affix.{some_passes}
use Rattle.py_value.specs.Sides.{fits}
use Rattle.py_value.specs.ValueView.{values_of}
use Rattle.py_value.proofs.affix.Place.some_fits.Given as goal

abbrev pub invariant-loop-affix : goal.invariant-loop-affix
invariant-loop-affix l = (some_passes (fits l.self l.text) (values_of (drop l.affix-index l.affix-items)) ≡ some_passes (fits l.self l.text) l.affixes) × (values_of l.affix-items ≡ l.affixes)
