-- Searches and walks as lists of numbers, which a model asks for.
use Rattle.std.specs.Prelude.{ℕ, Bool, List, refl}
use Rattle.std.specs.Coded.{Coded, code_by, coded×, coded_ℕ, coded_bool, coded_list}
use Rattle.sre_code.specs.PlainTree.{PlainTree}
use Rattle.sre_code.specs.TreeCode.{plain_tree_code}
use Rattle.sre_match.specs.Attempts.{Captured}
use Rattle.sre_match.specs.Matches.{Span}
use Rattle.sre_match.specs.Search.{Search, NextStart, Walk}

abbrev pub search_code : Coded Search
search_code =
    code_by (List ℕ × (List ℕ × (ℕ × (PlainTree × (Bool × Bool)))))
    (coded× (coded_list coded_ℕ) (coded× (coded_list coded_ℕ)
    (coded× coded_ℕ (coded× plain_tree_code (coded× coded_bool coded_bool)))))
    (λ r. (r.units, (r.subject, (r.start, (r.tree, (r.whole, r.advance))))))
    (λ p. record {
      units = p.0;
      subject = p.1.0;
      start = p.1.1.0;
      tree = p.1.1.1.0;
      whole = p.1.1.1.1.0;
      advance = p.1.1.1.1.1;
    })
    (λ _. refl)

abbrev captured_code : Coded Captured
captured_code =
    code_by (ℕ × (ℕ × ℕ)) (coded× coded_ℕ (coded× coded_ℕ coded_ℕ))
    (λ c. (c.group, (c.start, c.stop)))
    (λ p. record { group = p.0; start = p.1.0; stop = p.1.1 }) (λ _. refl)

abbrev span_code : Coded Span
span_code =
    code_by (ℕ × (ℕ × List Captured))
    (coded× coded_ℕ (coded× coded_ℕ (coded_list captured_code)))
    (λ x. (x.start, (x.stop, x.marks)))
    (λ p. record { start = p.0; stop = p.1.0; marks = p.1.1 }) (λ _. refl)

abbrev next_start_code : Coded NextStart
next_start_code =
    code_by (ℕ × Bool) (coded× coded_ℕ coded_bool) (λ x. (x.place, x.advance))
    (λ p. record { place = p.0; advance = p.1 }) (λ _. refl)

abbrev pub walk_code : Coded Walk
walk_code =
    code_by (Search × (NextStart × Span)) (coded× search_code (coded× next_start_code span_code))
    (λ w. (w.search, (w.next_start, w.span)))
    (λ p. record { search = p.0; next_start = p.1.0; span = p.1.1 }) (λ _. refl)
