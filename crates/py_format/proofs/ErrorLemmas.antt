-- Which errors a template may come to, once it has been read.
use Rattle.std.proofs.Common.{◌≡◌, ℕ, ℤ, Bool, true, false, ◌||◌, cond, List, [], ◌∷◌, ◌++◌, encode_utf8_all, Option, Some, None, Result, Ok, Err, refl}
use Rattle.py_base.specs.declared.error.PyError.{PyError}
use Rattle.py_base.specs.declared.error.PyError.TheVariants.{CharRange}
use Rattle.py_spec.specs.declared.percent.parts.CConversionFlags.{CConversionFlags}
use Rattle.py_spec.specs.declared.percent.parts.CFormatConversion.{CFormatConversion}
use Rattle.py_spec.specs.declared.percent.parts.CFormatConversion.TheVariants.{Str, Repr, Ascii, Bytes}
use Rattle.py_spec.specs.declared.percent.parts.CFormatPart.{CFormatPart}
use Rattle.py_spec.specs.declared.percent.parts.CFormatPart.TheVariants.{Literal, LiteralBytes, Spec}
use Rattle.py_spec.specs.declared.percent.parts.CFormatPrecision.{CFormatPrecision}
use Rattle.py_spec.specs.declared.percent.parts.CFormatPrecision.TheVariants.{Quantity, Dot}
use Rattle.py_spec.specs.declared.percent.parts.CFormatQuantity.{CFormatQuantity}
use Rattle.py_spec.specs.declared.percent.parts.CFormatQuantity.TheVariants.{Amount, FromValuesTuple}
use Rattle.py_spec.specs.declared.percent.parts.CFormatSpec.{CFormatSpec}
use Rattle.py_spec.specs.declared.percent.parts.CFormatType.{CFormatType}
use Rattle.py_spec.specs.declared.percent.parts.CFormatType.TheVariants.{Number, Character, String}
use Rattle.py_spec.specs.declared.percent.parts.CNumberType.{CNumberType}
use Rattle.py_spec.specs.declared.percent.parts.CNumberType.TheVariants.{Decimal, Octal, Hex, HexUpper}
use Rattle.py_spec.specs.Percent.Specifiers.{specifiers_of}
use Rattle.py_spec.specs.Percent.Template.{Parts}
use Rattle.py_spec.specs.Percent.Writing.{filled, number_text, string_units}
use Rattle.py_value.specs.Asking.{Asking, gives, asks, tests, ◌and_then◌, Fails}
use Rattle.py_value.specs.Classes.{integer_of}
use Rattle.py_value.specs.Lookup.{item, item_error}
use Rattle.py_value.specs.Plain.{Plain, Plains, none, bool, int, str, bytes, tuple, list, dict, handle, empty, ◌then◌}
use Rattle.py_value.specs.Printing.{str_of, repr_of, ascii_of, print_error}
use Rattle.py_value.specs.Translate.{char_of}
use Rattle.py_value.proofs.ErrorLemmas.{fails_then, fails_or, item_errors}
use Rattle.py_value.proofs.PrintErrorLemmas.{print_errors}
use Rattle.py_int.specs.Boolean.{int_of_bool}
use Rattle.py_format.specs.declared.percent.kind.Kind.{Kind}
use Rattle.py_format.specs.declared.percent.kind.Kind.TheVariants.{Text, Binary}
use Rattle.py_format.specs.Laws.{own_error, value_error}
use Rattle.py_format.specs.Percent.Fold.{is_mapping, put_next, put_part, put_parts, put_keyed, put_keyed_part, put_keyed_parts, put_all, put_all_by, none_left, has_star, key_value}
use Rattle.py_format.specs.Percent.Taking.{◌if_ok◌, fits_star, next_value, star_number, take_star, take_width, take_precision, settled, values_in, width_of, precision_of}
use Rattle.py_format.specs.Percent.Values.{answered_bytes, ascii_bytes, byte_of, bytes_of, char_in, decimal_of, in_units, map_ok, no_integer, no_number, number_of, only_unit, put_value, string_of, told_bytes, told_number, unit_of, write, write_as}

-- errors that pass one test pass a weaker one
weaker : {A : Type 0} (p q : PyError → Bool) (call : Asking A) → ((e : PyError) → p e ≡ true → q e ≡ true) → Fails p call → Fails q call
weaker p q (gives (Ok a)) w h = tt
weaker p q (gives (Err e)) w h = w e h
weaker p q (asks i m k next) w h = λ a. weaker p q (next a) w (h a)
weaker p q (tests i next) w h = λ b. weaker p q (next b) w (h b)

second_of : (a b c : Bool) → b ≡ true → (a || b || c) ≡ true
second_of true b c h = refl
second_of false true c h = refl
second_of false false c h = absurd (cc)

third_of : (a b c : Bool) → c ≡ true → (a || b || c) ≡ true
third_of true b c h = refl
third_of false true c h = refl
third_of false false true h = refl
third_of false false false h = absurd (cc)

looked_up : (v k : Plain) → Fails value_error (item v k)
looked_up v k = weaker item_error value_error (item v k) (λ e h. second_of (own_error e) (item_error e) (print_error e) h) (item_errors v k)

printed : (call : Asking (List ℕ)) → Fails print_error call → Fails value_error call
printed call h = weaker print_error value_error call (λ e is. third_of (own_error e) (item_error e) (print_error e) is) h

-- what is written

told : (s : CFormatSpec) (h : ℕ) (a : Option Plain) → Fails value_error (gives (told_number s h a))
told s h None = refl
told s h (Some a) = fails_or value_error (integer_of a) (no_number s (handle h)) refl

decimal_named : (s : CFormatSpec) (v : Plain) → Fails value_error (decimal_of s v)
decimal_named s (handle h) = λ a. told s h a
decimal_named s none = refl
decimal_named s (bool b) = tt
decimal_named s (int z) = tt
decimal_named s (str cs) = refl
decimal_named s (bytes bs) = refl
decimal_named s (tuple vs) = refl
decimal_named s (list vs) = refl
decimal_named s (dict es) = refl

number_named : (type : CNumberType) (s : CFormatSpec) (v : Plain) → Fails value_error (number_of type s v)
number_named Decimal s v = decimal_named s v
number_named Octal s v = fails_or value_error (integer_of v) (no_integer s v) refl
number_named Hex s v = fails_or value_error (integer_of v) (no_integer s v) refl
number_named HexUpper s v = fails_or value_error (integer_of v) (no_integer s v) refl

unit_named : (kind : Kind) (z : ℤ) → Fails value_error (gives (unit_of kind z))
unit_named Text z = fails_or value_error (char_of z) (CharRange 1114112) refl
unit_named Binary z = fails_or value_error (byte_of z) (CharRange 256) refl

only_named : (kind : Kind) (cs : List ℕ) → Fails value_error (gives (only_unit kind cs))
only_named kind [] = refl
only_named kind (c ∷ []) = tt
only_named kind (c ∷ d ∷ cs) = refl

char_named : (kind : Kind) (v : Plain) → Fails value_error (gives (char_in kind v))
char_named kind (bool b) = unit_named kind (int_of_bool b)
char_named kind (int z) = unit_named kind z
char_named Text (str cs) = only_named Text cs
char_named Binary (str cs) = refl
char_named Text (bytes bs) = refl
char_named Binary (bytes bs) = only_named Binary bs
char_named Text none = refl
char_named Binary none = refl
char_named Text (tuple vs) = refl
char_named Binary (tuple vs) = refl
char_named Text (list vs) = refl
char_named Binary (list vs) = refl
char_named Text (dict es) = refl
char_named Binary (dict es) = refl
char_named Text (handle h) = refl
char_named Binary (handle h) = refl

map_named : {A B : Type 0} (f : A → B) (r : Result A PyError) → Fails value_error (gives r) → Fails value_error (gives (map_ok f r))
map_named f (Ok a) h = tt
map_named f (Err e) h = h

answered_named : (v : Plain) → Fails value_error (gives (answered_bytes v))
answered_named (bytes bs) = tt
answered_named none = refl
answered_named (bool b) = refl
answered_named (int z) = refl
answered_named (str cs) = refl
answered_named (tuple vs) = refl
answered_named (list vs) = refl
answered_named (dict es) = refl
answered_named (handle h) = refl

told_bytes_named : (h : ℕ) (a : Option Plain) → Fails value_error (gives (told_bytes h a))
told_bytes_named h None = refl
told_bytes_named h (Some v) = answered_named v

bytes_named : (v : Plain) → Fails value_error (bytes_of v)
bytes_named (bytes bs) = tt
bytes_named (handle h) = λ a. told_bytes_named h a
bytes_named none = refl
bytes_named (bool b) = refl
bytes_named (int z) = refl
bytes_named (str cs) = refl
bytes_named (tuple vs) = refl
bytes_named (list vs) = refl
bytes_named (dict es) = refl

ascii_named : (v : Plain) → Fails value_error (ascii_bytes v)
ascii_named v = fails_then value_error (ascii_of v) (λ t. gives (Ok (encode_utf8_all t))) (printed (ascii_of v) (print_errors v).2) (λ t. tt)

string_named : (kind : Kind) (type : CFormatConversion) (place : ℕ) (v : Plain) → Fails value_error (string_of kind type place v)
string_named Text Str place v = printed (str_of v) (print_errors v).1
string_named Text Repr place v = printed (repr_of v) (print_errors v).0
string_named Text Ascii place v = printed (ascii_of v) (print_errors v).2
string_named Text Bytes place v = refl
string_named Binary Str place v = bytes_named v
string_named Binary Bytes place v = bytes_named v
string_named Binary Repr place v = ascii_named v
string_named Binary Ascii place v = ascii_named v

write_named : (type : CFormatType) (kind : Kind) (s : CFormatSpec) (place : ℕ) (v : Plain) → Fails value_error (write_as type kind s place v)
write_named (Number n) kind s place v = fails_then value_error (number_of n s v) (λ z. gives (Ok (in_units kind (number_text s z)))) (number_named n s v) (λ z. tt)
write_named Character kind s place v = map_named (λ c. filled s (c ∷ [])) (char_in kind v) (char_named kind v)
write_named (String c) kind s place v = fails_then value_error (string_of kind c place v) (λ t. gives (Ok (string_units s t))) (string_named kind c place v) (λ t. tt)

put_named : (kind : Kind) (s : CFormatSpec) (place : ℕ) (v : Plain) (out : List ℕ) → Fails value_error (put_value kind s place v out)
put_named kind s place v out = fails_then value_error (write kind s place v) (λ t. gives (Ok (out ++ t))) (write_named s.format_type kind s place v) (λ t. tt)

-- what is taken

in_range : (b : Bool) (z : ℤ) (e : PyError) → value_error e ≡ true → Fails value_error (gives (cond b (Ok z) (Err e)))
in_range true z e h = tt
in_range false z e h = h

star_named : (o : Option ℤ) → Fails value_error (gives (star_number o))
star_named None = refl
star_named (Some z) = in_range (fits_star z) z _ refl

if_named : {A B : Type 0} (r : Result A PyError) (f : A → Result B PyError) → Fails value_error (gives r) → ((a : A) → Fails value_error (gives (f a))) → Fails value_error (gives (r if_ok f))
if_named (Ok a) f h more = more a
if_named (Err e) f h more = h

next_named : (vs : Plains) → Fails value_error (gives (next_value vs))
next_named empty = refl
next_named (v then vs) = tt

take_named : (vs : Plains) → Fails value_error (gives (take_star vs))
take_named vs = if_named (next_value vs) (λ v. star_number (integer_of v.0) if_ok λ z. Ok (z, v.1)) (next_named vs) (λ v. if_named (star_number (integer_of v.0)) (λ z. Ok (z, v.1)) (star_named (integer_of v.0)) (λ z. tt))

width_named : (flags : CConversionFlags) (w : Option CFormatQuantity) (vs : Plains) → Fails value_error (gives (take_width flags w vs))
width_named flags None vs = tt
width_named flags (Some (Amount n)) vs = tt
width_named flags (Some FromValuesTuple) vs = if_named (take_star vs) (λ z. Ok (width_of flags z.0, z.1)) (take_named vs) (λ z. tt)

precision_named : (p : Option CFormatPrecision) (vs : Plains) → Fails value_error (gives (take_precision p vs))
precision_named None vs = tt
precision_named (Some Dot) vs = tt
precision_named (Some (Quantity (Amount n))) vs = tt
precision_named (Some (Quantity FromValuesTuple)) vs = if_named (take_star vs) (λ z. Ok (Some (Quantity (Amount (precision_of z.0))), z.1)) (take_named vs) (λ z. tt)

-- the parts

bare_named : (kind : Kind) (s : CFormatSpec) (place : ℕ) (vs : Plains) (out : List ℕ) → Fails value_error (put_next kind s place vs out)
bare_named kind s place vs out =
    fails_then value_error (gives (take_width s.flags s.min_field_width vs)) (λ w. gives (take_precision s.precision w.1) and_then λ p. gives (next_value p.1) and_then λ v. put_value kind (settled s w.0 p.0) place v.0 out and_then λ t. gives (Ok (t, v.1))) (width_named s.flags s.min_field_width vs)
    (λ w. fails_then value_error (gives (take_precision s.precision w.1)) (λ p. gives (next_value p.1) and_then λ v. put_value kind (settled s w.0 p.0) place v.0 out and_then λ t. gives (Ok (t, v.1))) (precision_named s.precision w.1)
    (λ p. fails_then value_error (gives (next_value p.1)) (λ v. put_value kind (settled s w.0 p.0) place v.0 out and_then λ t. gives (Ok (t, v.1))) (next_named p.1)
    (λ v. fails_then value_error (put_value kind (settled s w.0 p.0) place v.0 out) (λ t. gives (Ok (t, v.1))) (put_named kind (settled s w.0 p.0) place v.0 out) (λ t. tt))))

part_named : (kind : Kind) (place : ℕ) (p : CFormatPart) (vs : Plains) (out : List ℕ) → Fails value_error (put_part kind place p vs out)
part_named kind place (Literal t) vs out = tt
part_named kind place (LiteralBytes t) vs out = tt
part_named kind place (Spec s) vs out = bare_named kind s place vs out

mapping_ends : (mapping : Bool) (u : Unit {0}) (e : PyError) → value_error e ≡ true → Fails value_error (gives (cond mapping (Ok u) (Err e)))
mapping_ends true u e h = tt
mapping_ends false u e h = h

left_named : (kind : Kind) (mapping : Bool) (vs : Plains) → Fails value_error (gives (none_left kind mapping vs))
left_named kind mapping empty = tt
left_named kind mapping (v then vs) = mapping_ends mapping tt _ refl

parts_named : (kind : Kind) (mapping : Bool) (ps : Parts) (vs : Plains) (out : List ℕ) → Fails value_error (put_parts kind mapping ps vs out)
parts_named kind mapping [] vs out = fails_then value_error (gives (none_left kind mapping vs)) (λ u. gives (Ok out)) (left_named kind mapping vs) (λ u. tt)
parts_named kind mapping (p ∷ ps) vs out = fails_then value_error (put_part kind p.0 p.1 vs out) (λ r. put_parts kind mapping ps r.1 r.0) (part_named kind p.0 p.1 vs out) (λ r. parts_named kind mapping ps r.1 r.0)

star_or : (b : Bool) (e : PyError) (call : Asking (List ℕ)) → value_error e ≡ true → Fails value_error call → Fails value_error (cond b (gives (Err e)) call)
star_or true e call h more = h
star_or false e call h more = more

keyed_named : (kind : Kind) (s : CFormatSpec) (place : ℕ) (v : Plain) (out : List ℕ) → Fails value_error (put_keyed kind s place v out)
keyed_named kind s place v out =
    star_or (has_star s) _ (item v (key_value s.mapping_key) and_then λ w. put_value kind s place w out) refl
    (fails_then value_error (item v (key_value s.mapping_key)) (λ w. put_value kind s place w out) (looked_up v (key_value s.mapping_key)) (λ w. put_named kind s place w out))

keyed_part_named : (kind : Kind) (place : ℕ) (p : CFormatPart) (v : Plain) (out : List ℕ) → Fails value_error (put_keyed_part kind place p v out)
keyed_part_named kind place (Literal t) v out = tt
keyed_part_named kind place (LiteralBytes t) v out = tt
keyed_part_named kind place (Spec s) v out = keyed_named kind s place v out

keyed_parts_named : (kind : Kind) (ps : Parts) (v : Plain) (out : List ℕ) → Fails value_error (put_keyed_parts kind ps v out)
keyed_parts_named kind [] v out = tt
keyed_parts_named kind (p ∷ ps) v out = fails_then value_error (put_keyed_part kind p.0 p.1 v out) (λ t. put_keyed_parts kind ps v t) (keyed_part_named kind p.0 p.1 v out) (λ t. keyed_parts_named kind ps v t)

mapping_named : (kind : Kind) (v : Plain) → Fails value_error (is_mapping kind v)
mapping_named Text none = tt
mapping_named Binary none = tt
mapping_named Text (bool b) = tt
mapping_named Binary (bool b) = tt
mapping_named Text (int z) = tt
mapping_named Binary (int z) = tt
mapping_named Text (str cs) = tt
mapping_named Binary (str cs) = tt
mapping_named Text (bytes bs) = tt
mapping_named Binary (bytes bs) = tt
mapping_named Text (tuple vs) = tt
mapping_named Binary (tuple vs) = tt
mapping_named kind (list vs) = tt
mapping_named kind (dict es) = tt
mapping_named kind (handle h) = λ has. tt

all_by_named : (specifiers : Option (ℕ × Bool)) (kind : Kind) (mapping : Bool) (ps : Parts) (v : Plain) (out : List ℕ) → Fails value_error (put_all_by specifiers kind mapping ps v out)
all_by_named None kind mapping ps v out = refl
all_by_named (Some (n, true)) kind true ps v out = keyed_parts_named kind ps v out
all_by_named (Some (n, true)) kind false ps v out = refl
all_by_named (Some (n, false)) kind mapping ps v out = parts_named kind mapping ps (values_in v) out

pub all_named : (kind : Kind) (ps : Parts) (v : Plain) (out : List ℕ) → Fails value_error (put_all kind ps v out)
all_named kind ps v out = fails_then value_error (is_mapping kind v) (λ mapping. put_all_by (specifiers_of ps) kind mapping ps v out) (mapping_named kind v) (λ mapping. all_by_named (specifiers_of ps) kind mapping ps v out)
