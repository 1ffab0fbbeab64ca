-- What is printed of the causes of errors that have more than one.
use Rattle.std.specs.Prelude.{ℕ, List, ◌++◌, codes, encode_utf8}
use Rattle.py_base.specs.declared.error.causes.ZeroKind.{ZeroKind}
use Rattle.py_base.specs.declared.error.causes.ZeroKind.TheVariants.{Division, Modulo, Both}
use Rattle.py_base.specs.declared.error.causes.SwitchKind.{SwitchKind}
use Rattle.py_base.specs.declared.error.causes.SwitchKind.TheVariants.{ToAuto, ToManual}
use Rattle.py_base.specs.declared.error.causes.MaketransKind.{MaketransKind}
use Rattle.py_base.specs.declared.error.causes.MaketransKind.TheVariants.{EqualLength, KeyLength, NeedsDict, NeedsString}
use Rattle.py_base.specs.declared.error.causes.TranslateKind.{TranslateKind}
use Rattle.py_base.specs.declared.error.causes.TranslateKind.TheVariants.{Range, Kind}
use Rattle.py_base.specs.declared.error.causes.CarryKind.{CarryKind}
use Rattle.py_base.specs.declared.error.causes.CarryKind.TheVariants.{Code, NegativePower}
use Rattle.py_base.specs.declared.error.causes.IntArgsKind.{IntArgsKind}
use Rattle.py_base.specs.declared.error.causes.IntArgsKind.TheVariants.{MissingString, NonString}

abbrev pub zero_text : ZeroKind → List ℕ
zero_text Division = codes "integer division by zero"
zero_text Modulo = codes "integer modulo by zero"
zero_text Both = codes "integer division or modulo by zero"

abbrev pub switch_text : SwitchKind → List ℕ
switch_text ToAuto =
    codes "cannot switch from manual field specification to automatic field numbering"
switch_text ToManual =
    codes "cannot switch from automatic field numbering to manual field specification"

abbrev pub maketrans_text : MaketransKind → List ℕ
maketrans_text EqualLength = codes "the first two maketrans arguments must have equal length"
maketrans_text KeyLength = codes "string keys in translate table must be of length 1"
maketrans_text NeedsDict = codes "if you give only one argument to maketrans it must be a dict"
maketrans_text NeedsString =
    codes "first maketrans argument must be a string if there is a second argument"

abbrev pub translate_text : TranslateKind → List ℕ
translate_text Range = codes "character mapping must be in range(0x110000)"
translate_text Kind = codes "character mapping must return integer, None or str"

abbrev pub carry_text : CarryKind → List ℕ
carry_text (Code code) = codes "format code '" ++ (encode_utf8 code ++ codes "' is not carried")
carry_text NegativePower = codes "negative power is not carried"

abbrev pub int_args_text : IntArgsKind → List ℕ
int_args_text MissingString = codes "int() missing string argument"
int_args_text NonString = codes "int() can't convert non-string with explicit base"
