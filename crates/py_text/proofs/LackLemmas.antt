-- The pieces of a split lack the separator.
use Rattle.std.proofs.Common.{◌≡◌, ℕ, ℤ, pos, negsuc, ◌<ℤ◌, ◌+◌, ◌<◌, ◌≤◌, max, false, All, List, [], ◌∷◌, ◌++◌, reverse, length, take, drop, slice_range, suc, zero, refl, ap, sym, ◌∙◌, arith, subst, Option, Some, None, option_map, append-nil, take-append-drop, length-drop}
use Rattle.std.proofs.lemmas.Int.{ints}
use Rattle.std.proofs.lemmas.List.{length-take-le, length-reverse, reverse-reverse}
use Rattle.std.proofs.lemmas.List.Elements.{All-nil, All-cons}
use Rattle.py_text.specs.Laws.{AllButLast, Lacks, PiecesLackTheSeparator, PiecesFromRightLackTheSeparator}
use Rattle.py_text.specs.Occurrences.{occurs_at, occurrences, first_in, last_in}
use Rattle.py_text.specs.Pieces.{pieces, limit}
use Rattle.py_text.proofs.LeastLemmas.{first_is_least, last_is_greatest}
use Rattle.py_text.proofs.MirrorLemmas.{mirror_none}
use Rattle.py_text.proofs.LawLemmas.{some_length}
use Rattle.py_text.proofs.BetweenLemmas.{but_last_more, but_last_turned, each_turned}
use Rattle.py_text.proofs.OccursLemmas.{occurs_means, occurs_true, least_none, not_true}
use Rattle.py_text.proofs.OccurrenceLemmas.{cuts_some, cuts_none, max_one}
use Rattle.py_text.proofs.WindowLemmas.{Inside, slice_inside, first_inside, first_means}

map_none : (b : ℕ) (o : Option ℕ) → option_map (λ a. b + a) o ≡ None → o ≡ None
map_none b None h = refl
map_none b (Some a) h = absurd (cc)

lacks_inside : (x L W : List ℕ) (b e : ℕ) → Inside L W b e → first_in x L b e ≡ None → Lacks x W
lacks_inside x L W b e i h = map_none b (first_in x W 0 (length W)) (sym (first_inside x L W b e i) ∙ h)

-- before its first place x does not occur
none_before : (x L : List ℕ) (p e a : ℕ) → 0 < length x → a ≤ e → first_in x L p e ≡ Some a → first_in x L p a ≡ None
none_before x L p e a some h f =
    least_none (occurs_at x L p a) (suc a) (λ c lt. not_true (occurs_at x L p a c) (λ t.
    let o = occurs_means x L p a c t in
    let early : a ≤ c = (((first_is_least x L p e).some a).0 f).1 c (occurs_true x L p e c o.from (omega (arith, o.to)) o.there) in
    absurd (omega (arith, o.to, early))))

lacks_piece : (x L : List ℕ) (p a : ℕ) → 0 < length x → first_in x L p (length L) ≡ Some a → Lacks x (slice_range L p a)
lacks_piece x L p a some f =
    let o = first_means x L p (length L) a f in
    lacks_inside x L (slice_range L p a) p a (slice_inside L p a o.from (omega (arith, o.to))) (none_before x L p (length L) a some (omega (arith, o.to)) f)

rest_inside : (L : List ℕ) (p : ℕ) → p ≤ length L → Inside L (drop p L) p (length L)
rest_inside L p h = record {
  before = take p L;
  after = [];
  parts = sym (ap (λ r. take p L ++ r) (append-nil (drop p L)) ∙ take-append-drop p L);
  begins = length-take-le p L h;
  ends = omega (arith, length-drop p L);
}

-- the places after the first one
on_from : (k : ℕ) (x L : List ℕ) (p a : ℕ) → 0 < length x → first_in x L p (length L) ≡ Some a → pieces L (length x) p (occurrences (suc k) x L p (length L)) ≡ slice_range L p a ∷ pieces L (length x) (a + length x) (occurrences k x L (a + length x) (length L))
on_from k x L p a some h =
    let on : a + max 1 (length x) ≡ a + length x = omega (arith, max_one (length x) some) in
    ap (pieces L (length x) p) (cuts_some k x L p (length L) a h ∙ ap (λ q. a ∷ occurrences k x L q (length L)) on)

no_more : (k : ℕ) (x L : List ℕ) (p : ℕ) → first_in x L p (length L) ≡ None → pieces L (length x) p (occurrences k x L p (length L)) ≡ drop p L ∷ []
no_more k x L p h = ap (pieces L (length x) p) (cuts_none k x L p (length L) h)

-- with a limit, each but the last
but_last_case : (k : ℕ) (x L : List ℕ) (p : ℕ) (o : Option ℕ) → 0 < length x → first_in x L p (length L) ≡ o → ((q : ℕ) → AllButLast (Lacks x) (pieces L (length x) q (occurrences k x L q (length L)))) → AllButLast (Lacks x) (pieces L (length x) p (occurrences (suc k) x L p (length L)))
but_last_case k x L p None some h more = subst (AllButLast (Lacks x)) (sym (no_more (suc k) x L p h)) tt
but_last_case k x L p (Some a) some h more =
    subst (AllButLast (Lacks x)) (sym (on_from k x L p a some h)) (but_last_more (Lacks x) (slice_range L p a) _ (lacks_piece x L p a some h) (more (a + length x)))

but_last : (k : ℕ) (x L : List ℕ) (p : ℕ) → 0 < length x → AllButLast (Lacks x) (pieces L (length x) p (occurrences k x L p (length L)))
but_last zero x L p some = tt
but_last (suc k) x L p some = but_last_case k x L p (first_in x L p (length L)) some refl (λ q. but_last k x L q some)

-- with none, each
each_case : (k : ℕ) (x L : List ℕ) (p : ℕ) (o : Option ℕ) → 0 < length x → p ≤ length L → first_in x L p (length L) ≡ o → ((q : ℕ) → p < q → q ≤ length L → All (Lacks x) (pieces L (length x) q (occurrences k x L q (length L)))) → All (Lacks x) (pieces L (length x) p (occurrences (suc k) x L p (length L)))
each_case k x L p None some le h more =
    subst (All (Lacks x)) (sym (no_more (suc k) x L p h)) (All-cons (Lacks x) (drop p L) [] (lacks_inside x L (drop p L) p (length L) (rest_inside L p le) h) (All-nil (Lacks x)))
each_case k x L p (Some a) some le h more =
    let o = first_means x L p (length L) a h in
    subst (All (Lacks x)) (sym (on_from k x L p a some h)) (All-cons (Lacks x) (slice_range L p a) _ (lacks_piece x L p a some h) (more (a + length x) (omega (arith, o.from)) o.to))

each : (k : ℕ) (x L : List ℕ) (p : ℕ) → 0 < length x → p ≤ length L → length L < p + k → All (Lacks x) (pieces L (length x) p (occurrences k x L p (length L)))
each zero x L p some le far = absurd (omega arith)
each (suc k) x L p some le far = each_case k x L p (first_in x L p (length L)) some le refl (λ q more to. each k x L q some to (omega arith))

without_limit : (x L : List ℕ) (m : ℤ) → 0 < length x → m <ℤ pos 0 → All (Lacks x) (pieces L (length x) 0 (occurrences (limit (length L) m) x L 0 (length L)))
without_limit x L (pos k) some h = absurd (omega (arith, ints))
without_limit x L (negsuc k) some h = each (length L + 1) x L 0 some (omega arith) (omega arith)

turned_without_limit : (x L : List ℕ) (m : ℤ) → 0 < length x → m <ℤ pos 0 → All (Lacks x) (pieces (reverse L) (length x) 0 (occurrences (limit (length L) m) x (reverse L) 0 (length (reverse L))))
turned_without_limit x L (pos k) some h = absurd (omega (arith, ints))
turned_without_limit x L (negsuc k) some h = each (length L + 1) x (reverse L) 0 some (omega arith) (omega (arith, length-reverse L))

pub pieces_lack : PiecesLackTheSeparator
pieces_lack = λ x L m n.
    (but_last (limit (length L) m) x L 0 (some_length x n), without_limit x L m (some_length x n))

-- what lacks a text lacks it turned round, too
lacks_turned : (x p : List ℕ) → Lacks (reverse x) p → Lacks x (reverse p)
lacks_turned x p h =
    let nowhere : (a : ℕ) → occurs_at (reverse x) p 0 (length p) a ≡ false = ((first_is_least (reverse x) p 0 (length p)).none).0 h in
    let last : last_in (reverse x) p 0 (length p) ≡ None = ((last_is_greatest (reverse x) p 0 (length p)).none).1 nowhere in
    subst (λ (y : List ℕ). Lacks y (reverse p)) (reverse-reverse x) (mirror_none (reverse x) p last)

pub pieces_from_right_lack : PiecesFromRightLackTheSeparator
pieces_from_right_lack = λ x L m n.
    let some : 0 < length (reverse x) = omega (arith, length-reverse x, some_length x n) in
    let turn : (p : List ℕ) → Lacks (reverse x) p → Lacks x (reverse p) = lacks_turned x in (
      but_last_turned (Lacks (reverse x)) (Lacks x) turn _ (but_last (limit (length L) m) (reverse x) (reverse L) 0 some),
      λ h. each_turned (Lacks (reverse x)) (Lacks x) turn _ (turned_without_limit (reverse x) L m some h),
    )
