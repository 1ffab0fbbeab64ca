-- What is found after a value was put.
use Rattle.std.proofs.Common.{◌≡◌, Bool, true, false, cond, refl, ap, sym, ◌∙◌, subst, Option, Some}
use Rattle.std.proofs.lemmas.Cmp.{int_eq_equiv, nat_list_eq_equiv}
use Rattle.std.proofs.lemmas.Bool.Decides.{Decides-int_eq, Decides-eqb}
use Rattle.std.proofs.lemmas.Slice.Eq.{slice_eq-Decides}
use Rattle.std.specs.Cmp.Lexicographic.{pointwise}
use Rattle.std.specs.Prelude.{◌==◌}
use Rattle.std.specs.Ordering.{int_eq}
use Rattle.py_value.specs.declared.value.DictKey.{DictKey}
use Rattle.py_value.specs.declared.value.DictKey.TheVariants.{Int, Str, Bytes}
use Rattle.py_value.specs.Dict.{same_key, lookup, put}
use Rattle.py_value.specs.Plain.{Plain, Entries, no_entries, entry}

same_self : (k : DictKey) → same_key k k ≡ true
same_self (Int z) = int_eq_equiv.refl z
same_self (Str cs) = nat_list_eq_equiv.refl cs
same_self (Bytes bs) = nat_list_eq_equiv.refl bs

-- keys that are the same are one
same_is : (j k : DictKey) → same_key j k ≡ true → j ≡ k
same_is (Int a) (Int b) h = ap Int ((Decides-int_eq a b).0 h)
same_is (Str a) (Str b) h = ap Str ((slice_eq-Decides Decides-eqb a b (pointwise ◌==◌ a b) refl).0 h)
same_is (Bytes a) (Bytes b) h = ap Bytes ((slice_eq-Decides Decides-eqb a b (pointwise ◌==◌ a b) refl).0 h)
same_is (Int a) (Str b) h = absurd (cc)
same_is (Int a) (Bytes b) h = absurd (cc)
same_is (Str a) (Int b) h = absurd (cc)
same_is (Str a) (Bytes b) h = absurd (cc)
same_is (Bytes a) (Int b) h = absurd (cc)
same_is (Bytes a) (Str b) h = absurd (cc)

found_case : (b : Bool) (j k : DictKey) (v w : Plain) (es : Entries) → same_key j k ≡ b → lookup k (put k v es) ≡ Some v → lookup k (cond b (entry j v es) (entry j w (put k v es))) ≡ Some v
found_case true j k v w es h more = rw h refl
found_case false j k v w es h more = rw h more

pub put_is_found : (k : DictKey) (v : Plain) (es : Entries) → lookup k (put k v es) ≡ Some v
put_is_found k v no_entries = rw (same_self k) refl
put_is_found k v (entry j w es) = found_case (same_key j k) j k v w es refl (put_is_found k v es)

-- the entry under the key itself is not that of another
other_here : (i j k : DictKey) → same_key j k ≡ true → same_key k i ≡ false → same_key j i ≡ false
other_here i j k h o = ap (λ l. same_key l i) (same_is j k h) ∙ o

stay_case : (b : Bool) (i j k : DictKey) (v w : Plain) (es : Entries) → same_key j k ≡ b → same_key k i ≡ false → lookup i (put k v es) ≡ lookup i es → lookup i (cond b (entry j v es) (entry j w (put k v es))) ≡ cond (same_key j i) (Some w) (lookup i es)
stay_case true i j k v w es h o more = rw (other_here i j k h o) refl
stay_case false i j k v w es h o more = ap (λ found. cond (same_key j i) (Some w) found) more

pub others_stay : (i k : DictKey) (v : Plain) (es : Entries) → same_key k i ≡ false → lookup i (put k v es) ≡ lookup i es
others_stay i k v no_entries o = rw o refl
others_stay i k v (entry j w es) o = stay_case (same_key j k) i j k v w es refl o (others_stay i k v es o)
