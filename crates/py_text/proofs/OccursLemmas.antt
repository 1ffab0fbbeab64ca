-- Where a text occurs in a text, in code points and in bytes.
use Rattle.std.proofs.Common.{◌≡◌, ℕ, ◌+◌, ◌<◌, ◌≤◌, ◌&&◌, ◌⊎◌, inl, inr, Bool, true, false, nat_eq, nat_le, if◌then◌else◌, List, [], ◌∷◌, ◌++◌, length, take, drop, suc, zero, refl, ap, sym, ◌∙◌, arith, length-append, length-drop, subst, Some, None, le-leb, leb-true, IsCharBoundary, IsUtf8, chars, encode_utf8, encode_utf8_all}
use Rattle.std.proofs.Math.Seq.{take-append_seam, drop-append_seam, drop-append-add}
use Rattle.std.proofs.lemmas.List.{take-append-drop, length-take-le}
use Rattle.std.proofs.lemmas.Bool.Decides.{nat_tests}
use Rattle.std.specs.List.{starts_with}
use Rattle.std.specs.Prelude.{is_some, MatchOption, Option}
use Rattle.std.specs.Option.{option_or}
use Rattle.std.specs.Cmp.Lexicographic.{bytes_decides}
use Rattle.std.specs.Str.Pattern.{FindsText, RFindsText, HasTextAt, MatchBeginsAt}
use Rattle.std.proofs.lemmas.Str.{length-encode, len_utf8_bounds, encodes-chars, chars-append, encodes-append, IsUtf8-take, IsUtf8-drop, IsCharBoundary-from_drop}
use Rattle.py_text.specs.Occurrences.{occurs_at, least, greatest, first_in, last_in, IsAround}

-- x occurs in L at a
abbrev pub Occurs : List ℕ → List ℕ → ℕ → Type 0
Occurs x L a = (rest : List ℕ) × (drop a L ≡ x ++ rest)

pub not_true : (b : Bool) → ¬ (b ≡ true) → b ≡ false
not_true true n = absurd (n refl)
not_true false n = refl

pub both : (a b : Bool) → a ≡ true → b ≡ true → (a && b) ≡ true
both true b p q = q
both false b p q = p

left_of : (a b : Bool) → (a && b) ≡ true → a ≡ true
left_of true b h = refl
left_of false b h = h

right_of : (a b : Bool) → (a && b) ≡ true → b ≡ true
right_of true b h = h
right_of false b h = absurd (cc)

pub starts_true : (L x rest : List ℕ) → L ≡ x ++ rest → starts_with nat_eq L x ≡ true
starts_true L x rest e = let t : take (length x) L ≡ x = rw e (take-append_seam x rest) in (bytes_decides x (take (length x) L)).1 (sym t)

pub starts_means : (L x : List ℕ) → starts_with nat_eq L x ≡ true → (rest : List ℕ) × (L ≡ x ++ rest)
starts_means L x h =
    let e : x ≡ take (length x) L = (bytes_decides x (take (length x) L)).0 h in
    (drop (length x) L, sym (take-append-drop (length x) L) ∙ ap (λ t. t ++ drop (length x) L) (sym e))

pub occurs_true : (x L : List ℕ) (b e a : ℕ) → b ≤ a → a + length x ≤ e → Occurs x L a → occurs_at x L b e a ≡ true
occurs_true x L b e a p q s =
    both (nat_le b a && nat_le (a + length x) e) (starts_with nat_eq (drop a L) x) (both (nat_le b a) (nat_le (a + length x) e) (le-leb _ _ p) (le-leb _ _ q)) (starts_true (drop a L) x s.0 s.1)

pub record OccursAt (x L : List ℕ) (b e a : ℕ) : Type 0 where
  pub from : b ≤ a
  pub to : a + length x ≤ e
  pub there : Occurs x L a

pub occurs_means : (x L : List ℕ) (b e a : ℕ) → occurs_at x L b e a ≡ true → OccursAt x L b e a
occurs_means x L b e a h =
    let in_part : (nat_le b a && nat_le (a + length x) e) ≡ true = left_of (nat_le b a && nat_le (a + length x) e) (starts_with nat_eq (drop a L) x) h in
    record {
      from = leb-true _ _ (left_of (nat_le b a) (nat_le (a + length x) e) in_part);
      to = leb-true _ _ (right_of (nat_le b a) (nat_le (a + length x) e) in_part);
      there = starts_means (drop a L) x (right_of (nat_le b a && nat_le (a + length x) e) (starts_with nat_eq (drop a L) x) h);
    }

-- the least and the greatest number that passes
pub least_none : (p : ℕ → Bool) (n : ℕ) → ((c : ℕ) → c < n → p c ≡ false) → least p n ≡ None
least_none p zero f = refl
least_none p (suc n) f = rw (least_none p n (λ c h. f c (omega arith)), f n (omega arith)) refl

pub below_or_last : (a n : ℕ) → a < suc n → (a < n) ⊎ (a ≡ n)
below_or_last a n h = elim (nat_le n a) as (λ b. nat_le n a ≡ b → (a < n) ⊎ (a ≡ n)) [ true ↦ λ e. inr (grind (arith, nat_tests)) | false ↦ λ e. inl (grind (arith, nat_tests)) ] refl

pub least_is : (p : ℕ → Bool) (n a : ℕ) → a < n → p a ≡ true → ((c : ℕ) → c < a → p c ≡ false) → least p n ≡ Some a
least_is p zero a lt t f = absurd (omega arith)
least_is p (suc n) a lt t f =
    elim (below_or_last a n lt) [
      | inl below ↦ ap (λ o. option_or o (if p n then Some n else None)) (least_is p n a below t f)
      | inr last ↦ let now : p n ≡ true = subst (λ (m : ℕ). p m ≡ true) last t in
          rw (least_none p n (λ c h. f c (omega arith)), now) (ap Some (sym last))
    ]

pub greatest_none : (p : ℕ → Bool) (n : ℕ) → ((c : ℕ) → c < n → p c ≡ false) → greatest p n ≡ None
greatest_none p zero f = refl
greatest_none p (suc n) f = rw (f n (omega arith)) (greatest_none p n (λ c h. f c (omega arith)))

pub greatest_is : (p : ℕ → Bool) (n a : ℕ) → a < n → p a ≡ true → ((c : ℕ) → a < c → c < n → p c ≡ false) → greatest p n ≡ Some a
greatest_is p zero a lt t f = absurd (omega arith)
greatest_is p (suc n) a lt t f =
    elim (below_or_last a n lt) [
      | inl below ↦ rw (f n below (omega arith)) (greatest_is p n a below t (λ c h k. f c h (omega arith)))
      | inr last ↦ let now : p n ≡ true = subst (λ (m : ℕ). p m ≡ true) last t in rw now (ap Some (sym last))
    ]

-- a place is within the text with all of x
fits : (x L : List ℕ) (a : ℕ) → a ≤ length L → Occurs x L a → a + length x ≤ length L
fits x L a l s = omega (arith, ap length s.1, length-append x s.0, length-drop a L)

pub first_is : (x L : List ℕ) (a : ℕ) → a ≤ length L → Occurs x L a → ((c : ℕ) → c < a → ¬ (Occurs x L c)) → first_in x L 0 (length L) ≡ Some a
first_is x L a l s none =
    least_is (occurs_at x L 0 (length L)) (suc (length L)) a (omega arith) (occurs_true x L 0 (length L) a (omega arith) (fits x L a l s) s)
    (λ c h. not_true _ (λ t. none c h (occurs_means x L 0 (length L) c t).there))

pub last_is : (x L : List ℕ) (a : ℕ) → a ≤ length L → Occurs x L a → ((c : ℕ) → a < c → c ≤ length L → ¬ (Occurs x L c)) → last_in x L 0 (length L) ≡ Some a
last_is x L a l s none =
    greatest_is (occurs_at x L 0 (length L)) (suc (length L)) a (omega arith) (occurs_true x L 0 (length L) a (omega arith) (fits x L a l s) s)
    (λ c h k. not_true _ (λ t. none c h (omega arith) (occurs_means x L 0 (length L) c t).there))

pub first_none : (x L : List ℕ) → ((c : ℕ) → c ≤ length L → ¬ (Occurs x L c)) → first_in x L 0 (length L) ≡ None
first_none x L none =
    least_none (occurs_at x L 0 (length L)) (suc (length L)) (λ c h. not_true _ (λ t. none c (omega arith) (occurs_means x L 0 (length L) c t).there))

pub last_none : (x L : List ℕ) → ((c : ℕ) → c ≤ length L → ¬ (Occurs x L c)) → last_in x L 0 (length L) ≡ None
last_none x L none =
    greatest_none (occurs_at x L 0 (length L)) (suc (length L)) (λ c h. not_true _ (λ t. none c (omega arith) (occurs_means x L 0 (length L) c t).there))

-- more code points take more bytes
grows : (cs : List ℕ) (a b : ℕ) → b < a → a ≤ length cs → length (encode_utf8_all (take b cs)) < length (encode_utf8_all (take a cs))
grows [] a b lt le = absurd (omega arith)
grows (c ∷ cs) zero b lt le = absurd (omega arith)
grows (c ∷ cs) (suc a) zero lt le = omega (arith, length-append (encode_utf8 c) (encode_utf8_all (take a cs)), length-encode c, len_utf8_bounds c)
grows (c ∷ cs) (suc a) (suc b) lt le = omega (arith, length-append (encode_utf8 c) (encode_utf8_all (take a cs)), length-append (encode_utf8 c) (encode_utf8_all (take b cs)), grows cs a b (omega arith) (omega arith))

within : (cs : List ℕ) (a : ℕ) → length (encode_utf8_all (take a cs)) ≤ length (encode_utf8_all cs)
within cs a = omega (arith, ap length (encodes-append (take a cs) (drop a cs)), length-append (encode_utf8_all (take a cs)) (encode_utf8_all (drop a cs)), ap (λ l. length (encode_utf8_all l)) (take-append-drop a cs))

-- what occurs among the code points occurs among the bytes
pub in_bytes : (n s : List ℕ) (b : ℕ) → IsUtf8 n → IsUtf8 s → Occurs (chars n) (chars s) b → (rest : List ℕ) × (drop (length (encode_utf8_all (take b (chars s)))) s ≡ n ++ rest)
in_bytes n s b u v t =
    let whole : s ≡ encode_utf8_all (take b (chars s)) ++ (n ++ encode_utf8_all t.0) =
    sym (encodes-chars s v) ∙ ap encode_utf8_all (sym (take-append-drop b (chars s)) ∙ ap (λ r. take b (chars s) ++ r) t.1)
    ∙ encodes-append (take b (chars s)) (chars n ++ t.0) ∙ ap (λ r. encode_utf8_all (take b (chars s)) ++ r) (encodes-append (chars n) t.0 ∙ ap (λ r. r ++ encode_utf8_all t.0) (encodes-chars n u)) in
    (encode_utf8_all t.0, ap (λ r. drop (length (encode_utf8_all (take b (chars s)))) r) whole ∙ drop-append_seam (encode_utf8_all (take b (chars s))) (n ++ encode_utf8_all t.0))

-- n occurs in s at the byte i, which is the place a
pub record Seen (n s : List ℕ) (i a : ℕ) : Type 0 where
  pub stands : Occurs (chars n) (chars s) a
  pub inside : a ≤ length (chars s)
  pub front : chars (take i s) ≡ take a (chars s)
  pub after : chars (drop (length n) (drop i s)) ≡ drop (a + length (chars n)) (chars s)
  pub byte : length (encode_utf8_all (take a (chars s))) ≡ i
  pub seam : IsCharBoundary (drop i s) (length n)
  pub middle : take (length n) (drop i s) ≡ n

rest_after : (n s : List ℕ) (i j : ℕ) → drop i s ≡ n ++ drop j s → drop (length n) (drop i s) ≡ drop j s
rest_after n s i j e = ap (drop (length n)) e ∙ drop-append_seam n (drop j s)

pub seen : (n s : List ℕ) (i j : ℕ) → IsUtf8 n → IsUtf8 s → HasTextAt n s i j → IsCharBoundary s i → IsCharBoundary s j → Seen n s i (length (chars (take i s)))
seen n s i j u v at cut_i cut_j =
    let before : IsUtf8 (take i s) = IsUtf8-take s i v cut_i in
    let rest : IsUtf8 (drop j s) = IsUtf8-drop s j v cut_j in
    let points : chars s ≡ chars (take i s) ++ (chars n ++ chars (drop j s)) =
    ap chars (sym (take-append-drop i s)) ∙ chars-append (take i s) (drop i s) before ∙ ap (λ r. chars (take i s) ++ r) (ap chars at.split ∙ chars-append n (drop j s) u) in
    let same : take (length (chars (take i s))) (chars s) ≡ chars (take i s) =
    ap (λ r. take (length (chars (take i s))) r) points ∙ take-append_seam (chars (take i s)) (chars n ++ chars (drop j s)) in
    record {
      stands = (chars (drop j s), ap (λ r. drop (length (chars (take i s))) r) points ∙ drop-append_seam (chars (take i s)) (chars n ++ chars (drop j s)));
      inside = omega (arith, ap length points, length-append (chars (take i s)) (chars n ++ chars (drop j s)));
      front = sym same;
      after = ap chars (rest_after n s i j at.split) ∙ sym (ap (drop (length (chars (take i s)) + length (chars n))) points ∙ drop-append-add (chars (take i s)) (chars n ++ chars (drop j s)) (length (chars n)) ∙ drop-append_seam (chars n) (chars (drop j s)));
      byte = ap (λ r. length (encode_utf8_all r)) same ∙ ap length (encodes-chars (take i s) before) ∙ length-take-le i s cut_i.0;
      seam = IsCharBoundary-from_drop (drop i s) (length n) (omega (arith, ap length at.split, length-append n (drop j s))) (subst IsUtf8 (sym (rest_after n s i j at.split)) rest);
      middle = ap (take (length n)) at.split ∙ take-append_seam n (drop j s);
    }

-- std's searches among the bytes
pub none_found : (n s : List ℕ) → IsUtf8 n → IsUtf8 s → FindsText n s None → first_in (chars n) (chars s) 0 (length (chars s)) ≡ None
none_found n s u v none =
    first_none (chars n) (chars s) (λ b h t. let r = in_bytes n s b u v t in
    none (length (encode_utf8_all (take b (chars s)))) (omega (arith, within (chars s) b, ap length (encodes-chars s v))) r.0 r.1)

pub none_found_last : (n s : List ℕ) → IsUtf8 n → IsUtf8 s → RFindsText n s None → last_in (chars n) (chars s) 0 (length (chars s)) ≡ None
none_found_last n s u v none =
    last_none (chars n) (chars s) (λ b h t. let r = in_bytes n s b u v t in
    none (length (encode_utf8_all (take b (chars s)))) (omega (arith, within (chars s) b, ap length (encodes-chars s v))) r.0 r.1)

pub seen_first : (n s : List ℕ) (i : ℕ) → IsUtf8 n → IsUtf8 s → MatchBeginsAt (FindsText n) s i → Seen n s i (length (chars (take i s)))
seen_first n s i u v m = seen n s i m.0 u v m.1.1 m.3 m.4

pub seen_last : (n s : List ℕ) (i : ℕ) → IsUtf8 n → IsUtf8 s → MatchBeginsAt (RFindsText n) s i → Seen n s i (length (chars (take i s)))
seen_last n s i u v m = seen n s i m.0 u v m.1.1 m.3 m.4

pub some_found : (n s : List ℕ) (i : ℕ) → IsUtf8 n → IsUtf8 s → MatchBeginsAt (FindsText n) s i → first_in (chars n) (chars s) 0 (length (chars s)) ≡ Some (length (chars (take i s)))
some_found n s i u v m =
    let w = seen_first n s i u v m in
    first_is (chars n) (chars s) (length (chars (take i s))) w.inside w.stands
    (λ b lt t. let r = in_bytes n s b u v t in
    m.1.0 (length (encode_utf8_all (take b (chars s)))) (omega (arith, grows (chars s) (length (chars (take i s))) b lt w.inside, w.byte)) r.0 r.1)

pub some_found_last : (n s : List ℕ) (i : ℕ) → IsUtf8 n → IsUtf8 s → MatchBeginsAt (RFindsText n) s i → last_in (chars n) (chars s) 0 (length (chars s)) ≡ Some (length (chars (take i s)))
some_found_last n s i u v m =
    let w = seen_last n s i u v m in
    last_is (chars n) (chars s) (length (chars (take i s))) w.inside w.stands
    (λ b lt le t. let r = in_bytes n s b u v t in
    m.1.0 (length (encode_utf8_all (take b (chars s)))) (omega (arith, grows (chars s) b (length (chars (take i s))) lt le, w.byte)) (omega (arith, within (chars s) b, ap length (encodes-chars s v))) r.0 r.1)

-- a cut in bytes is a cut in code points
pub some_cut : (n s : List ℕ) (i : ℕ) → IsUtf8 n → IsUtf8 s → MatchBeginsAt (FindsText n) s i → IsAround (chars n) (chars s) (first_in (chars n) (chars s) 0 (length (chars s))) (chars (take i s)) (chars (drop (length n) (drop i s)))
some_cut n s i u v m = let w = seen_first n s i u v m in (length (chars (take i s)), some_found n s i u v m, w.front, w.after)

pub some_cut_last : (n s : List ℕ) (i : ℕ) → IsUtf8 n → IsUtf8 s → MatchBeginsAt (RFindsText n) s i → IsAround (chars n) (chars s) (last_in (chars n) (chars s) 0 (length (chars s))) (chars (take i s)) (chars (drop (length n) (drop i s)))
some_cut_last n s i u v m = let w = seen_last n s i u v m in (length (chars (take i s)), some_found_last n s i u v m, w.front, w.after)

-- a text contains another where that has a first place
pub contained : (o : Option ℕ) (n s : List ℕ) → IsUtf8 n → IsUtf8 s → MatchOption o (FindsText n s None) (MatchBeginsAt (FindsText n) s) → is_some o ≡ is_some (first_in (chars n) (chars s) 0 (length (chars s)))
contained (Some i) n s u v m = sym (ap is_some (some_found n s i u v m))
contained None n s u v m = sym (ap is_some (none_found n s u v m))
