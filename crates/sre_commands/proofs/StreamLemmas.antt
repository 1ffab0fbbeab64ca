-- One call on known bytes after another, and counts that rise.
use Rattle.std.proofs.Common.{ℕ, ◌≡◌, ◌-◌, ◌<◌, ◌≤◌, List, [], ◌++◌, length, take, drop, Option, Some, None, refl, sym, ap, ◌∙◌, append_assoc, arith}
use Rattle.std.specs.Io.KnownBytes.{Consumes, IsAtEnd, Appends, Keeps}
use Rattle.std.proofs.lemmas.List.{append-nil, length-append, length-drop, length-take, take_all}
use Rattle.py_base.specs.Stream.Faults.{Rose}
use Rattle.sre_commands.specs.Streams.{Reading, TookAtMost, TookMoreThan, ReadWhole}

pub Consumes-none : (a : Option (List ℕ)) → Consumes a a []
Consumes-none None = tt
Consumes-none (Some xs) = refl

pub Consumes-then : (a b c : Option (List ℕ)) (xs ys : List ℕ) → Consumes a b xs → Consumes b c ys → Consumes a c (xs ++ ys)
Consumes-then None b c xs ys p q = tt
Consumes-then (Some l) None c xs ys p q = absurd p
Consumes-then (Some l) (Some m) None xs ys p q = absurd q
Consumes-then (Some l) (Some m) (Some n) xs ys p q = p ∙ ap (λ (z : List ℕ). xs ++ z) q ∙ sym (append_assoc xs ys n)

pub Appends-none : (a : Option (List ℕ)) → Appends a a []
Appends-none None = tt
Appends-none (Some xs) = sym (append-nil xs)

pub Appends-then : (a b c : Option (List ℕ)) (xs ys : List ℕ) → Appends a b xs → Appends b c ys → Appends a c (xs ++ ys)
Appends-then None b c xs ys p q = tt
Appends-then (Some l) None c xs ys p q = absurd p
Appends-then (Some l) (Some m) None xs ys p q = absurd q
Appends-then (Some l) (Some m) (Some n) xs ys p q = q ∙ ap (λ (z : List ℕ). z ++ ys) p ∙ append_assoc l xs ys

pub Appends-keeps : (a b c : Option (List ℕ)) (xs : List ℕ) → Appends a b xs → Keeps b c → Appends a c xs
Appends-keeps None b c xs p q = tt
Appends-keeps (Some l) None c xs p q = absurd p
Appends-keeps (Some l) (Some m) None xs p q = absurd q
Appends-keeps (Some l) (Some m) (Some n) xs p q = q ∙ p

pub Rose-later : (a b c : ℕ) → a ≤ b → Rose b c → Rose a c
Rose-later a b c le rose = omega arith

-- what was read to the end is all that was left
pub Consumes-whole : (xs : List ℕ) (b : Option (List ℕ)) (bytes : List ℕ) → Consumes (Some xs) b bytes → IsAtEnd b → xs ≡ bytes
Consumes-whole xs None bytes p end = absurd p
Consumes-whole xs (Some ys) bytes p end = p ∙ ap (λ (z : List ℕ). bytes ++ z) end ∙ append-nil bytes

-- no more is read than was left
pub Consumes-within : (xs : List ℕ) (b : Option (List ℕ)) (bytes : List ℕ) → Consumes (Some xs) b bytes → length bytes ≤ length xs
Consumes-within xs None bytes p = absurd p
Consumes-within xs (Some ys) bytes p = let same : length xs ≡ length (bytes ++ ys) = ap length p in omega (arith, same, length-append bytes ys)

-- `&bytes[n..]`
pub rest_whole : (n : ℕ) (bytes : List ℕ) → take (length bytes - n) (drop n bytes) ≡ drop n bytes
rest_whole n bytes = take_all (length bytes - n) (drop n bytes) (omega (arith, length-drop n bytes))

-- what one more call brings, where it comes to more than this in all, and where it does not
pub more_than : (most count : ℕ) (r : Reading) (mid : Option (List ℕ)) (bytes buffer : List ℕ) → Consumes r.left_old mid bytes → Consumes mid r.left_new (take count buffer) → count ≤ length buffer → length bytes ≤ most → most - length bytes < count → TookMoreThan most r
more_than most count r mid bytes buffer first next fits within more = record {
  bytes = bytes ++ take count buffer;
  read = Consumes-then r.left_old mid r.left_new bytes (take count buffer) first next;
  more = omega (arith, length-append bytes (take count buffer), length-take count buffer);
}

pub at_most : (most count : ℕ) (r : Reading) (mid : Option (List ℕ)) (bytes buffer : List ℕ) → Consumes r.left_old mid bytes → Consumes mid r.left_new (take count buffer) → count ≤ length buffer → length bytes ≤ most → count ≤ most - length bytes → TookAtMost most r
at_most most count r mid bytes buffer first next fits within more = record {
  bytes = bytes ++ take count buffer;
  read = Consumes-then r.left_old mid r.left_new bytes (take count buffer) first next;
  within = omega (arith, length-append bytes (take count buffer), length-take count buffer);
}
