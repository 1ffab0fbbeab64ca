-- A template that is filled with a value without handles asks no host.
use Rattle.std.proofs.Common.{◌≡◌, ℕ, zero, suc, ℤ, pos, Bool, true, false, ◌&&◌, cond, List, [], ◌∷◌, ◌++◌, length, encode_utf8_all, Option, Some, None, option_map, Result, Ok, Err, refl, ok_or}
use Rattle.py_base.specs.declared.error.PyError.{PyError}
use Rattle.py_base.specs.declared.error.PyError.TheVariants.{IndexOutOfRange, TupleIndex}
use Rattle.py_spec.specs.declared.percent.parts.CConversionFlags.{CConversionFlags}
use Rattle.py_spec.specs.declared.percent.parts.CFormatConversion.{CFormatConversion}
use Rattle.py_spec.specs.declared.percent.parts.CFormatConversion.TheVariants.{Str, Repr, Ascii, Bytes}
use Rattle.py_spec.specs.declared.percent.parts.CFormatPart.TheVariants.{Literal, LiteralBytes, Spec}
use Rattle.py_spec.specs.declared.percent.parts.CFormatPrecision.{CFormatPrecision}
use Rattle.py_spec.specs.declared.percent.parts.CFormatPrecision.TheVariants.{Quantity, Dot}
use Rattle.py_spec.specs.declared.percent.parts.CFormatQuantity.{CFormatQuantity}
use Rattle.py_spec.specs.declared.percent.parts.CFormatQuantity.TheVariants.{Amount, FromValuesTuple}
use Rattle.py_spec.specs.declared.percent.parts.CFormatSpec.{CFormatSpec}
use Rattle.py_spec.specs.declared.percent.parts.CFormatType.{CFormatType}
use Rattle.py_spec.specs.declared.percent.parts.CFormatType.TheVariants.{Number, Character, String}
use Rattle.py_spec.specs.declared.percent.parts.CNumberType.{CNumberType}
use Rattle.py_spec.specs.declared.percent.parts.CNumberType.TheVariants.{Decimal, Octal, Hex, HexUpper}
use Rattle.py_spec.specs.Percent.Specifiers.{specifiers_of}
use Rattle.py_spec.specs.Percent.Template.{Parts}
use Rattle.py_spec.specs.Percent.Writing.{number_text, string_units}
use Rattle.py_spec.specs.declared.percent.parts.CFormatPart.{CFormatPart}
use Rattle.py_text.specs.Subscript.{item_of}
use Rattle.py_value.specs.declared.value.DictKey.{DictKey}
use Rattle.py_value.specs.Asking.{Asking, gives, asks, tests, ◌and_then◌, silent}
use Rattle.py_value.specs.Classes.{integer_of}
use Rattle.py_value.specs.Dict.{lookup, same_key}
use Rattle.py_value.specs.Lookup.{item, index_of, text_item, bytes_item, list_item, key_of_value, found_under, value_in, place_in, byte_in}
use Rattle.py_value.specs.Plain.{Plain, Plains, Entries, none, bool, int, str, bytes, tuple, list, dict, handle, empty, ◌then◌, no_entries, entry, bare, values_bare, entries_bare, size_of_values}
use Rattle.py_value.specs.Printing.{ascii_of}
use Rattle.py_value.proofs.PrintSilenceLemmas.{repr_of_silent, str_of_silent, ascii_of_silent}
use Rattle.py_value.proofs.SilenceLemmas.{silent_then}
use Rattle.py_format.specs.declared.percent.kind.Kind.{Kind}
use Rattle.py_format.specs.declared.percent.kind.Kind.TheVariants.{Text, Binary}
use Rattle.py_format.specs.Percent.Fold.{is_mapping, put_next, put_part, put_parts, put_keyed, put_keyed_part, put_keyed_parts, put_all, put_all_by, percent, parts_of, none_left, has_star, key_value}
use Rattle.py_format.specs.Percent.Taking.{Taken, ◌if_ok◌, next_value, star_number, take_star, take_width, take_precision, settled, values_in, width_of, precision_of}
use Rattle.py_format.specs.Percent.Values.{ascii_bytes, bytes_of, decimal_of, in_units, number_of, put_value, string_of, write, write_as}

-- a call asks nothing, and what it gives passes a test
abbrev quiet : {A : Type 0} → (A → Bool) → Asking A → Type 0
quiet p (gives (Ok a)) = p a ≡ true
quiet p (gives (Err e)) = Unit {0}
quiet p (asks h m k next) = ⊥
quiet p (tests h next) = ⊥

quiet_then : {A B : Type 0} (p : A → Bool) (call : Asking A) (f : A → Asking B) → quiet p call → ((a : A) → p a ≡ true → silent (f a) ≡ true) → silent (call and_then f) ≡ true
quiet_then p (gives (Ok a)) f h more = more a h
quiet_then p (gives (Err e)) f h more = refl
quiet_then p (asks q m k next) f h more = absurd h
quiet_then p (tests q next) f h more = absurd h

quiet_on : {A B : Type 0} (p : A → Bool) (q : B → Bool) (call : Asking A) (f : A → Asking B) → quiet p call → ((a : A) → p a ≡ true → quiet q (f a)) → quiet q (call and_then f)
quiet_on p q (gives (Ok a)) f h more = more a h
quiet_on p q (gives (Err e)) f h more = tt
quiet_on p q (asks h m k next) f never more = absurd never
quiet_on p q (tests h next) f never more = absurd never

silent_on : {A B : Type 0} (q : B → Bool) (call : Asking A) (f : A → Asking B) → silent call ≡ true → ((a : A) → quiet q (f a)) → quiet q (call and_then f)
silent_on q (gives (Ok a)) f h more = more a
silent_on q (gives (Err e)) f h more = tt
silent_on q (asks h m k next) f is more = absurd (cc)
silent_on q (tests h next) f is more = absurd (cc)

both_true : (a b : Bool) → (a && b) ≡ true → (a ≡ true) × (b ≡ true)
both_true true true h = (refl, refl)
both_true true false h = absurd (cc)
both_true false b h = absurd (cc)

-- what is looked up

found_text : (o : Option ℕ) → quiet bare (gives (ok_or (option_map (λ c. str (c ∷ [])) o) IndexOutOfRange))
found_text None = tt
found_text (Some c) = refl

found_byte : (o : Option ℕ) → quiet bare (gives (ok_or (option_map (λ b. int (pos b)) o) TupleIndex))
found_byte None = tt
found_byte (Some b) = refl

value_bare : (vs : Plains) (o : Option ℕ) → values_bare vs ≡ true → quiet bare (gives (ok_or (value_in vs o) TupleIndex))
value_bare vs None h = tt
value_bare empty (Some i) h = tt
value_bare (v then vs) (Some zero) h = (both_true (bare v) (values_bare vs) h).0
value_bare (v then vs) (Some (suc i)) h = value_bare vs (Some i) (both_true (bare v) (values_bare vs) h).1

found_in : (b : Bool) (key : DictKey) (v : Plain) (o : Option Plain) → bare v ≡ true → quiet bare (gives (found_under key o)) → quiet bare (gives (found_under key (cond b (Some v) o)))
found_in true key v o h more = h
found_in false key v o h more = more

found_bare : (es : Entries) (key : DictKey) → entries_bare es ≡ true → quiet bare (gives (found_under key (lookup key es)))
found_bare no_entries key h = tt
found_bare (entry k v es) key h =
    let p = both_true (bare v) (entries_bare es) h in
    found_in (same_key k key) key v (lookup key es) p.0 (found_bare es key p.1)

given_on : {A B : Type 0} (q : B → Bool) (r : Result A PyError) (f : A → Asking B) → ((a : A) → quiet q (f a)) → quiet q (gives r and_then f)
given_on q (Ok a) f more = more a
given_on q (Err e) f more = tt

item_quiet : (v k : Plain) → bare v ≡ true → quiet bare (item v k)
item_quiet none k h = tt
item_quiet (bool b) k h = tt
item_quiet (int z) k h = tt
item_quiet (str cs) k h = given_on bare (index_of k) (λ z. gives (text_item cs z)) (λ z. found_text (item_of cs z))
item_quiet (bytes bs) k h = given_on bare (index_of k) (λ z. gives (bytes_item bs z)) (λ z. found_byte (byte_in bs (place_in (length bs) z)))
item_quiet (tuple vs) k h = given_on bare (index_of k) (λ z. gives (list_item vs z)) (λ z. value_bare vs (place_in (size_of_values vs) z) h)
item_quiet (list vs) k h = given_on bare (index_of k) (λ z. gives (list_item vs z)) (λ z. value_bare vs (place_in (size_of_values vs) z) h)
item_quiet (dict es) k h = given_on bare (key_of_value k) (λ key. gives (found_under key (lookup key es))) (λ key. found_bare es key h)
item_quiet (handle x) k h = absurd (cc)

-- what is written

decimal_silent : (s : CFormatSpec) (v : Plain) → bare v ≡ true → silent (decimal_of s v) ≡ true
decimal_silent s none h = refl
decimal_silent s (bool b) h = refl
decimal_silent s (int z) h = refl
decimal_silent s (str cs) h = refl
decimal_silent s (bytes bs) h = refl
decimal_silent s (tuple vs) h = refl
decimal_silent s (list vs) h = refl
decimal_silent s (dict es) h = refl
decimal_silent s (handle x) h = absurd (cc)

number_silent : (type : CNumberType) (s : CFormatSpec) (v : Plain) → bare v ≡ true → silent (number_of type s v) ≡ true
number_silent Decimal s v h = decimal_silent s v h
number_silent Octal s v h = refl
number_silent Hex s v h = refl
number_silent HexUpper s v h = refl

bytes_silent : (v : Plain) → bare v ≡ true → silent (bytes_of v) ≡ true
bytes_silent none h = refl
bytes_silent (bool b) h = refl
bytes_silent (int z) h = refl
bytes_silent (str cs) h = refl
bytes_silent (bytes bs) h = refl
bytes_silent (tuple vs) h = refl
bytes_silent (list vs) h = refl
bytes_silent (dict es) h = refl
bytes_silent (handle x) h = absurd (cc)

ascii_silent : (v : Plain) → bare v ≡ true → silent (ascii_bytes v) ≡ true
ascii_silent v h = silent_then (ascii_of v) (λ t. gives (Ok (encode_utf8_all t))) (ascii_of_silent v h) (λ t. refl)

string_silent : (kind : Kind) (type : CFormatConversion) (place : ℕ) (v : Plain) → bare v ≡ true → silent (string_of kind type place v) ≡ true
string_silent Text Str place v h = str_of_silent v h
string_silent Text Repr place v h = repr_of_silent v h
string_silent Text Ascii place v h = ascii_of_silent v h
string_silent Text Bytes place v h = refl
string_silent Binary Str place v h = bytes_silent v h
string_silent Binary Bytes place v h = bytes_silent v h
string_silent Binary Repr place v h = ascii_silent v h
string_silent Binary Ascii place v h = ascii_silent v h

write_silent : (type : CFormatType) (kind : Kind) (s : CFormatSpec) (place : ℕ) (v : Plain) → bare v ≡ true → silent (write_as type kind s place v) ≡ true
write_silent (Number n) kind s place v h = silent_then (number_of n s v) (λ z. gives (Ok (in_units kind (number_text s z)))) (number_silent n s v h) (λ z. refl)
write_silent Character kind s place v h = refl
write_silent (String c) kind s place v h = silent_then (string_of kind c place v) (λ t. gives (Ok (string_units s t))) (string_silent kind c place v h) (λ t. refl)

put_silent : (kind : Kind) (s : CFormatSpec) (place : ℕ) (v : Plain) (out : List ℕ) → bare v ≡ true → silent (put_value kind s place v out) ≡ true
put_silent kind s place v out h = silent_then (write kind s place v) (λ t. gives (Ok (out ++ t))) (write_silent s.format_type kind s place v h) (λ t. refl)

-- what is taken: the values that are left are without handles

abbrev rest_bare : {A : Type 0} → A × Plains → Bool
rest_bare r = values_bare r.1

star_on : (r : Result ℤ PyError) (vs : Plains) → values_bare vs ≡ true → quiet rest_bare (gives (r if_ok λ z. Ok (z, vs)))
star_on (Ok z) vs h = h
star_on (Err e) vs h = tt

star_quiet : (vs : Plains) → values_bare vs ≡ true → quiet rest_bare (gives (take_star vs))
star_quiet empty h = tt
star_quiet (v then vs) h = star_on (star_number (integer_of v)) vs (both_true (bare v) (values_bare vs) h).1

taken_on : {A B : Type 0} (r : Taken A) (f : A → B) → quiet rest_bare (gives r) → quiet rest_bare (gives (r if_ok λ z. Ok (f z.0, z.1)))
taken_on (Ok r) f h = h
taken_on (Err e) f h = tt

width_quiet : (flags : CConversionFlags) (w : Option CFormatQuantity) (vs : Plains) → values_bare vs ≡ true → quiet rest_bare (gives (take_width flags w vs))
width_quiet flags None vs h = h
width_quiet flags (Some (Amount n)) vs h = h
width_quiet flags (Some FromValuesTuple) vs h = taken_on (take_star vs) (width_of flags) (star_quiet vs h)

precision_quiet : (p : Option CFormatPrecision) (vs : Plains) → values_bare vs ≡ true → quiet rest_bare (gives (take_precision p vs))
precision_quiet None vs h = h
precision_quiet (Some Dot) vs h = h
precision_quiet (Some (Quantity (Amount n))) vs h = h
precision_quiet (Some (Quantity FromValuesTuple)) vs h = taken_on (take_star vs) (λ z. Some (Quantity (Amount (precision_of z)))) (star_quiet vs h)

abbrev pair_bare : Plain × Plains → Bool
pair_bare r = bare r.0 && values_bare r.1

next_quiet : (vs : Plains) → values_bare vs ≡ true → quiet pair_bare (gives (next_value vs))
next_quiet empty h = tt
next_quiet (v then vs) h = h

-- parts without keys

bare_quiet : (kind : Kind) (s : CFormatSpec) (place : ℕ) (vs : Plains) (out : List ℕ) → values_bare vs ≡ true → quiet rest_bare (put_next kind s place vs out)
bare_quiet kind s place vs out h =
    quiet_on rest_bare rest_bare (gives (take_width s.flags s.min_field_width vs)) (λ w. gives (take_precision s.precision w.1) and_then λ p. gives (next_value p.1) and_then λ v. put_value kind (settled s w.0 p.0) place v.0 out and_then λ t. gives (Ok (t, v.1))) (width_quiet s.flags s.min_field_width vs h)
    (λ w hw. quiet_on rest_bare rest_bare (gives (take_precision s.precision w.1)) (λ p. gives (next_value p.1) and_then λ v. put_value kind (settled s w.0 p.0) place v.0 out and_then λ t. gives (Ok (t, v.1))) (precision_quiet s.precision w.1 hw)
    (λ p hp. quiet_on pair_bare rest_bare (gives (next_value p.1)) (λ v. put_value kind (settled s w.0 p.0) place v.0 out and_then λ t. gives (Ok (t, v.1))) (next_quiet p.1 hp)
    (λ v hv. let q = both_true (bare v.0) (values_bare v.1) hv in silent_on rest_bare (put_value kind (settled s w.0 p.0) place v.0 out) (λ t. gives (Ok (t, v.1))) (put_silent kind (settled s w.0 p.0) place v.0 out q.0) (λ t. q.1))))

part_quiet : (kind : Kind) (place : ℕ) (p : CFormatPart) (vs : Plains) (out : List ℕ) → values_bare vs ≡ true → quiet rest_bare (put_part kind place p vs out)
part_quiet kind place (Literal t) vs out h = h
part_quiet kind place (LiteralBytes t) vs out h = h
part_quiet kind place (Spec s) vs out h = bare_quiet kind s place vs out h

left_silent : (kind : Kind) (mapping : Bool) (r : Result (Unit {0}) PyError) (out : List ℕ) → silent (gives r and_then λ u. gives (Ok out)) ≡ true
left_silent kind mapping (Ok u) out = refl
left_silent kind mapping (Err e) out = refl

parts_silent : (kind : Kind) (mapping : Bool) (ps : Parts) (vs : Plains) (out : List ℕ) → values_bare vs ≡ true → silent (put_parts kind mapping ps vs out) ≡ true
parts_silent kind mapping [] vs out h = left_silent kind mapping (none_left kind mapping vs) out
parts_silent kind mapping (p ∷ ps) vs out h = quiet_then rest_bare (put_part kind p.0 p.1 vs out) (λ r. put_parts kind mapping ps r.1 r.0) (part_quiet kind p.0 p.1 vs out h) (λ r hr. parts_silent kind mapping ps r.1 r.0 hr)

-- parts with keys

unless_star : (b : Bool) (e : PyError) (call : Asking (List ℕ)) → silent call ≡ true → silent (cond b (gives (Err e)) call) ≡ true
unless_star true e call h = refl
unless_star false e call h = h

keyed_silent : (kind : Kind) (s : CFormatSpec) (place : ℕ) (v : Plain) (out : List ℕ) → bare v ≡ true → silent (put_keyed kind s place v out) ≡ true
keyed_silent kind s place v out h =
    unless_star (has_star s) _ (item v (key_value s.mapping_key) and_then λ w. put_value kind s place w out)
    (quiet_then bare (item v (key_value s.mapping_key)) (λ w. put_value kind s place w out) (item_quiet v (key_value s.mapping_key) h) (λ w hw. put_silent kind s place w out hw))

keyed_part_silent : (kind : Kind) (place : ℕ) (p : CFormatPart) (v : Plain) (out : List ℕ) → bare v ≡ true → silent (put_keyed_part kind place p v out) ≡ true
keyed_part_silent kind place (Literal t) v out h = refl
keyed_part_silent kind place (LiteralBytes t) v out h = refl
keyed_part_silent kind place (Spec s) v out h = keyed_silent kind s place v out h

keyed_parts_silent : (kind : Kind) (ps : Parts) (v : Plain) (out : List ℕ) → bare v ≡ true → silent (put_keyed_parts kind ps v out) ≡ true
keyed_parts_silent kind [] v out h = refl
keyed_parts_silent kind (p ∷ ps) v out h = silent_then (put_keyed_part kind p.0 p.1 v out) (λ t. put_keyed_parts kind ps v t) (keyed_part_silent kind p.0 p.1 v out h) (λ t. keyed_parts_silent kind ps v t h)

-- the template

mapping_silent : (kind : Kind) (v : Plain) → bare v ≡ true → silent (is_mapping kind v) ≡ true
mapping_silent Text none h = refl
mapping_silent Binary none h = refl
mapping_silent Text (bool b) h = refl
mapping_silent Binary (bool b) h = refl
mapping_silent Text (int z) h = refl
mapping_silent Binary (int z) h = refl
mapping_silent Text (str cs) h = refl
mapping_silent Binary (str cs) h = refl
mapping_silent Text (bytes bs) h = refl
mapping_silent Binary (bytes bs) h = refl
mapping_silent Text (tuple vs) h = refl
mapping_silent Binary (tuple vs) h = refl
mapping_silent kind (list vs) h = refl
mapping_silent kind (dict es) h = refl
mapping_silent kind (handle x) h = absurd (cc)

values_in_bare : (v : Plain) → bare v ≡ true → values_bare (values_in v) ≡ true
values_in_bare none h = refl
values_in_bare (bool b) h = refl
values_in_bare (int z) h = refl
values_in_bare (str cs) h = refl
values_in_bare (bytes bs) h = refl
values_in_bare (tuple vs) h = h
values_in_bare (list vs) h = rw h
values_in_bare (dict es) h = rw h
values_in_bare (handle x) h = absurd (cc)

all_by_silent : (specifiers : Option (ℕ × Bool)) (kind : Kind) (mapping : Bool) (ps : Parts) (v : Plain) (out : List ℕ) → bare v ≡ true → silent (put_all_by specifiers kind mapping ps v out) ≡ true
all_by_silent None kind mapping ps v out h = refl
all_by_silent (Some (n, true)) kind true ps v out h = keyed_parts_silent kind ps v out h
all_by_silent (Some (n, true)) kind false ps v out h = refl
all_by_silent (Some (n, false)) kind mapping ps v out h = parts_silent kind mapping ps (values_in v) out (values_in_bare v h)

all_silent : (kind : Kind) (ps : Parts) (v : Plain) (out : List ℕ) → bare v ≡ true → silent (put_all kind ps v out) ≡ true
all_silent kind ps v out h = silent_then (is_mapping kind v) (λ mapping. put_all_by (specifiers_of ps) kind mapping ps v out) (mapping_silent kind v h) (λ mapping. all_by_silent (specifiers_of ps) kind mapping ps v out h)

read_silent : (r : Result Parts PyError) (f : Parts → Asking (List ℕ)) → ((ps : Parts) → silent (f ps) ≡ true) → silent (gives r and_then f) ≡ true
read_silent (Ok ps) f more = more ps
read_silent (Err e) f more = refl

pub percent_silent : (kind : Kind) (template : List ℕ) (v : Plain) → bare v ≡ true → silent (percent kind template v) ≡ true
percent_silent kind template v h = read_silent (parts_of kind template) (λ ps. put_all kind ps v []) (λ ps. all_silent kind ps v [] h)
