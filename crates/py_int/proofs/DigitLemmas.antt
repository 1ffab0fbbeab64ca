-- Digits in runs, with single underscores between.
use Rattle.std.specs.Prelude.{◌≢◌, All}
use Rattle.std.specs.List.{concat}
use Rattle.std.specs.Str.Parse.{AllDigits, digits_value, digits_value_after}
use Rattle.std.proofs.Common.{◌≡◌, ℕ, ◌+◌, ◌*◌, ◌<◌, ◌≤◌, ◌++◌, Bool, true, false, ◌&&◌, nat_lt, eqb, List, [], ◌∷◌, Option, None, Some, inl, inr, refl, ap, sym, ◌∙◌, arith}
use Rattle.std.specs.Char.{digit_value}
use Rattle.std.proofs.lemmas.Bool.{cases_Bool, false≢true}
use Rattle.std.proofs.lemmas.Bool.Decides.{nat_tests}
use Rattle.std.proofs.lemmas.List.{append-nil}
use Rattle.std.proofs.lemmas.List.Elements.{All-nil, All-cons, All-head, All-tail}
use Rattle.py_text.specs.Replacing.{join}
use Rattle.py_int.specs.Laws.{IsRun, AreRuns, DigitsAreRuns}
use Rattle.py_int.specs.Literal.{digits_after, digits, greatest_base}

-- runs, each after an underscore
abbrev later_runs : List (List ℕ) → List ℕ
later_runs [] = []
later_runs (run ∷ runs) = 95 ∷ (run ++ later_runs runs)

joined : (run : List ℕ) (runs : List (List ℕ)) → join (95 ∷ []) (run ∷ runs) ≡ run ++ later_runs runs
joined run [] = sym (append-nil run)
joined run (next ∷ runs) = ap (λ t. run ++ (95 ∷ t)) (joined next runs)

value_append : (base n : ℕ) (xs ys : List ℕ) → digits_value_after base n (xs ++ ys) ≡ digits_value_after base (digits_value_after base n xs) ys
value_append base n [] ys = refl
value_append base n (x ∷ xs) ys = value_append base (n * base + digit_value x) xs ys

-- ---- what is read is runs

-- the rest of a run, which is not empty where no digit was read before, and runs after it
record Rest (base n : ℕ) (digit : Bool) (cs : List ℕ) (m : ℕ) : Type 0 where
  run : List ℕ
  runs : List (List ℕ)
  some : digit ≡ false → run ≢ []
  all : AllDigits base run
  each : All (IsRun base) runs
  written : cs ≡ run ++ later_runs runs
  value : m ≡ digits_value_after base n (run ++ concat runs)

no_more : (base n m : ℕ) (digit : Bool) → digits_after base digit n [] ≡ Some m → Rest base n digit [] m
no_more base n m true e =
    record {
      run = [];
      runs = [];
      some = λ f. absurd (false≢true (sym f));
      all = tt;
      each = All-nil (IsRun base);
      written = refl;
      value = let s : m ≡ n = cc in s;
    }
no_more base n m false e = absurd (cc)

a_digit : (base n m c : ℕ) (digit : Bool) (cs : List ℕ) → digit_value c < base → Rest base (n * base + digit_value c) true cs m → Rest base n digit (c ∷ cs) m
a_digit base n m c digit cs h r =
    record {
      run = c ∷ r.run;
      runs = r.runs;
      some = λ f e. cc;
      all = (h, r.all);
      each = r.each;
      written = ap (λ t. c ∷ t) r.written;
      value = r.value;
    }

an_underscore : (base n m c : ℕ) (digit : Bool) (cs : List ℕ) → digit ≡ true → c ≡ 95 → Rest base n false cs m → Rest base n digit (c ∷ cs) m
an_underscore base n m c digit cs d u r =
    record {
      run = [];
      runs = r.run ∷ r.runs;
      some = λ f. absurd (false≢true (sym f ∙ d));
      all = tt;
      each = All-cons (IsRun base) r.run r.runs (r.some refl, r.all) r.each;
      written = ap (λ t. t ∷ cs) u ∙ ap (λ t. 95 ∷ t) r.written;
      value = r.value;
    }

rest_of : (base n m : ℕ) (digit : Bool) (cs : List ℕ) → digits_after base digit n cs ≡ Some m → Rest base n digit cs m
rest_of base n m digit [] e = no_more base n m digit e
rest_of base n m digit (c ∷ cs) e =
    elim (cases_Bool (nat_lt (digit_value c) base)) [
      | inl t ↦ a_digit base n m c digit cs (grind (arith, nat_tests, t)) (rest_of base (n * base + digit_value c) m true cs (let s : digits_after base true (n * base + digit_value c) cs ≡ Some m = cc in s))
      | inr f ↦ elim (cases_Bool (digit && eqb c 95)) [
        | inl t ↦ an_underscore base n m c digit cs (grind (arith, nat_tests, t)) (grind (arith, nat_tests, t)) (rest_of base n m false cs (let s : digits_after base false n cs ≡ Some m = cc in s))
        | inr g ↦ absurd (let s : None ≡ Some m = cc in cc)
      ]
    ]

are_runs : (base n : ℕ) (cs : List ℕ) → digits base cs ≡ Some n → AreRuns base cs n
are_runs base n cs e =
    let r = rest_of base 0 n false cs e in
    record {
      runs = r.run ∷ r.runs;
      some = λ f. cc;
      each = All-cons (IsRun base) r.run r.runs (r.some refl, r.all) r.each;
      written = r.written ∙ sym (joined r.run r.runs);
      value = r.value;
    }

-- ---- runs are read

reads_all : (base n : ℕ) (run more : List ℕ) → AllDigits base run → digits_after base true n (run ++ more) ≡ digits_after base true (digits_value_after base n run) more
reads_all base n [] more h = refl
reads_all base n (c ∷ run) more h =
    let t : nat_lt (digit_value c) base ≡ true = grind (arith, nat_tests, h.0) in
    rw t (reads_all base (n * base + digit_value c) run more h.1)

reads_run : (base n : ℕ) (run more : List ℕ) → IsRun base run → digits_after base false n (run ++ more) ≡ digits_after base true (digits_value_after base n run) more
reads_run base n [] more h = absurd (h.0 refl)
reads_run base n (c ∷ run) more h =
    let t : nat_lt (digit_value c) base ≡ true = grind (arith, nat_tests, h.1.0) in
    rw t (reads_all base (n * base + digit_value c) run more h.1.1)

reads_later : (base n : ℕ) (runs : List (List ℕ)) → base ≤ greatest_base → All (IsRun base) runs → digits_after base true n (later_runs runs) ≡ Some (digits_value_after base n (concat runs))
reads_later base n [] b h = refl
reads_later base n (run ∷ runs) b h =
    let f : nat_lt 36 base ≡ false = grind (arith, nat_tests, b) in
    rw f (reads_run base n run (later_runs runs) (All-head (IsRun base) run runs h)
    ∙ reads_later base (digits_value_after base n run) runs b (All-tail (IsRun base) run runs h)
    ∙ ap Some (sym (value_append base n run (concat runs))))

are_read : (base n : ℕ) (cs : List ℕ) (runs : List (List ℕ)) → base ≤ greatest_base → runs ≢ [] → All (IsRun base) runs → cs ≡ join (95 ∷ []) runs → n ≡ digits_value base (concat runs) → digits base cs ≡ Some n
are_read base n cs [] b s h w v = absurd (s refl)
are_read base n cs (run ∷ runs) b s h w v =
    ap (digits base) (w ∙ joined run runs)
    ∙ reads_run base 0 run (later_runs runs) (All-head (IsRun base) run runs h)
    ∙ reads_later base (digits_value_after base 0 run) runs b (All-tail (IsRun base) run runs h)
    ∙ ap Some (sym (v ∙ value_append base 0 run (concat runs)))

pub digits_are_runs : DigitsAreRuns
digits_are_runs base n cs b = (are_runs base n cs, λ r. are_read base n cs r.runs b r.some r.each r.written r.value)
