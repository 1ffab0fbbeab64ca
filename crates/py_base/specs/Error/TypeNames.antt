-- How the classes of values and the number types are called.
use Rattle.std.specs.Prelude.{ℕ, List, codes}
use Rattle.py_base.specs.declared.error.type_names.ClassName.{ClassName}
use Rattle.py_base.specs.declared.error.type_names.ClassName.TheVariants.{NoneType, Bool, Int, Str, Bytes, Tuple, List as ListClass, Dict, Object}
use Rattle.py_base.specs.declared.error.type_names.PrimitiveName.{PrimitiveName}
use Rattle.py_base.specs.declared.error.type_names.PrimitiveName.TheVariants.{I8, I16, I32, I64, I128, U8, U16, U32, U64, U128, Isize, Usize}

-- a class is called as `type(x).__name__` calls it, and a handle's class `object`
abbrev pub class_text : ClassName → List ℕ
class_text NoneType = codes "NoneType"
class_text Bool = codes "bool"
class_text Int = codes "int"
class_text Str = codes "str"
class_text Bytes = codes "bytes"
class_text Tuple = codes "tuple"
class_text ListClass = codes "list"
class_text Dict = codes "dict"
class_text Object = codes "object"

-- a number type is called by its Rust name
abbrev pub primitive_text : PrimitiveName → List ℕ
primitive_text I8 = codes "i8"
primitive_text I16 = codes "i16"
primitive_text I32 = codes "i32"
primitive_text I64 = codes "i64"
primitive_text I128 = codes "i128"
primitive_text U8 = codes "u8"
primitive_text U16 = codes "u16"
primitive_text U32 = codes "u32"
primitive_text U64 = codes "u64"
primitive_text U128 = codes "u128"
primitive_text Isize = codes "isize"
primitive_text Usize = codes "usize"
