-- Templates, values and what they make.
use Rattle.std.specs.Prelude.{◌≡◌, codes, Ok, Err, [], ◌∷◌, pos, negsuc, false}
use Rattle.std.proofs.Common.{refl}
use Rattle.std.specs.Fmt.{digits}
use Rattle.py_base.specs.declared.error.percent.PercentCause.TheVariants.{NeedsMapping, NotEnough, LeftOver, StarNotInt, NumberRequired}
use Rattle.py_base.specs.declared.error.PyError.TheVariants.{PercentArgs, CharRange}
use Rattle.py_base.specs.declared.error.type_names.ClassName.TheVariants.{Str as StrClass}
use Rattle.py_value.specs.declared.value.DictKey.TheVariants.{Str}
use Rattle.py_value.specs.Asking.{gives}
use Rattle.py_value.specs.Plain.{int, str, tuple, dict, entry, no_entries, empty, ◌then◌}
use Rattle.py_format.specs.declared.percent.kind.Kind.TheVariants.{Text, Binary}
use Rattle.py_format.specs.Percent.Fold.{percent}

two_values : percent Text (codes "%05d|%s") (tuple (int (pos 42) then str (codes "ab") then empty)) ≡ gives (Ok (codes "00042|ab"))
unfolding digits
two_values = refl

star_width : percent Text (codes "%*d|") (tuple (int (negsuc 3) then int (pos 7) then empty)) ≡ gives (Ok (codes "7   |"))
unfolding digits
star_width = refl

negative_precision : percent Text (codes "%.*d") (tuple (int (negsuc 2) then int (pos 7) then empty)) ≡ gives (Ok (codes "7"))
unfolding digits
negative_precision = refl

star_first : percent Text (codes "%*d") (tuple (str (codes "x") then empty)) ≡ gives (Err (PercentArgs StarNotInt))
star_first = refl

too_few : percent Text (codes "%d%d") (int (pos 1)) ≡ gives (Err (PercentArgs NotEnough))
too_few = refl

left_over : percent Text (codes "%d") (tuple (int (pos 1) then int (pos 2) then empty)) ≡ gives (Err (PercentArgs (LeftOver false)))
left_over = refl

number_needed : percent Text (codes "%d") (str (codes "x")) ≡ gives (Err (PercentArgs (NumberRequired 100 StrClass)))
number_needed = refl

keyed : percent Text (codes "%(a(b))d") (dict (entry (Str (codes "a(b)")) (int (pos 3)) no_entries)) ≡ gives (Ok (codes "3"))
unfolding digits
keyed = refl

keyed_star : percent Text (codes "%(a)*d") (dict (entry (Str (codes "a")) (int (pos 1)) no_entries)) ≡ gives (Err (PercentArgs StarNotInt))
keyed_star = refl

mixed : percent Text (codes "%(a)d%d") (int (pos 1)) ≡ gives (Err (PercentArgs NeedsMapping))
mixed = refl

one_byte : percent Binary (codes "%c") (int (pos 200)) ≡ gives (Ok (200 ∷ []))
one_byte = refl

no_byte : percent Binary (codes "%c") (int (pos 256)) ≡ gives (Err (CharRange 256))
no_byte = refl
