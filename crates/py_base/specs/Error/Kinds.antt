-- The Python class of each error.
use Rattle.py_base.specs.declared.error.kinds.ErrorKind.{ErrorKind}
use Rattle.py_base.specs.declared.error.kinds.ErrorKind.TheVariants.{AttributeError, IndexError, KeyError, LookupError, MemoryError, OverflowError, RuntimeError, TypeError, ValueError, ZeroDivisionError}
use Rattle.py_base.specs.declared.error.brace.FormatSpecError.TheVariants.{CodeNotInRange}
use Rattle.py_base.specs.declared.error.causes.MaketransKind.TheVariants.{NeedsString}
use Rattle.py_base.specs.declared.error.causes.TranslateKind.TheVariants.{Range, Kind}
use Rattle.py_base.specs.declared.error.PyError.{PyError}
use Rattle.py_base.specs.declared.error.PyError.TheVariants.{NoMemory, InvalidCode, InvalidTemplate, ExpectedUsize, IntTooLargeFor, TemplateGroup, TemplatePiece, ExpectedString, ExpectedBytes, NoSuchGroup, IntTooWide, ZeroDivision, NegativeShift, ModulusZero, NotInvertible, NegativeToUnsigned, IntTooBig, BadBase, InvalidLiteral, EmptySeparator, SubstringNotFound, IndexOutOfRange, StepZero, FillChar, Downcast, PercentParse, PercentArgs, CharRange, FormatParse, FormatSpec, NumberingSwitch, TupleIndex, Key, PositionalInMap, Maketrans, Translate, NotSubscriptable, TooDeep, HostFault, NotCarried, UnknownEncoding, InvalidUtf8, NoAttribute, BoolType, NegativeLen, NotAnIndex, IntArgs, Unsupported, DurationRange}

-- the class of the exception that Python raises in its place
abbrev pub kind_of : PyError → ErrorKind
kind_of NoMemory = MemoryError
kind_of InvalidCode = RuntimeError
kind_of InvalidTemplate = TypeError
kind_of ExpectedUsize = TypeError
kind_of (IntTooLargeFor _) = OverflowError
kind_of (TemplateGroup _ _) = IndexError
kind_of (TemplatePiece _ _) = TypeError
kind_of (ExpectedString _) = TypeError
kind_of (ExpectedBytes _) = TypeError
kind_of NoSuchGroup = IndexError
kind_of IntTooWide = OverflowError
kind_of (ZeroDivision _) = ZeroDivisionError
kind_of NegativeShift = ValueError
kind_of ModulusZero = ValueError
kind_of NotInvertible = ValueError
kind_of NegativeToUnsigned = OverflowError
kind_of IntTooBig = OverflowError
kind_of BadBase = ValueError
kind_of (InvalidLiteral _) = ValueError
kind_of EmptySeparator = ValueError
kind_of SubstringNotFound = ValueError
kind_of IndexOutOfRange = IndexError
kind_of StepZero = ValueError
kind_of FillChar = TypeError
kind_of (Downcast _ _) = TypeError
kind_of (PercentParse _ _) = ValueError
kind_of (PercentArgs _) = TypeError
kind_of (CharRange _) = OverflowError
kind_of (FormatParse _) = ValueError
kind_of (FormatSpec CodeNotInRange) = OverflowError
kind_of (FormatSpec _) = ValueError
kind_of (NumberingSwitch _) = ValueError
kind_of TupleIndex = IndexError
kind_of (Key _) = KeyError
kind_of PositionalInMap = ValueError
kind_of (Maketrans NeedsString) = TypeError
kind_of (Maketrans _) = ValueError
kind_of (Translate Range) = ValueError
kind_of (Translate Kind) = TypeError
kind_of (NotSubscriptable _) = TypeError
kind_of TooDeep = RuntimeError
kind_of HostFault = RuntimeError
kind_of (NotCarried _) = ValueError
kind_of UnknownEncoding = LookupError
kind_of InvalidUtf8 = ValueError
kind_of (NoAttribute _) = AttributeError
kind_of (BoolType _) = TypeError
kind_of NegativeLen = ValueError
kind_of (NotAnIndex _) = TypeError
kind_of (IntArgs _) = TypeError
kind_of (Unsupported _) = TypeError
kind_of DurationRange = ValueError
