use Rattle.std.proofs.Common.{rules, ◌≡◌, ◌∙◌, ◌∷◌, ◌+◌, ℕ, List, sym, ap, chars, take, drop, get_or, length, slice_range, arith}
use Rattle.py_str.specs.Tabs.{is_inside}
use Rattle.py_str.proofs.PassingLemmas.{stop_taken, stop_skipped, all_taken, none_skipped}
use Rattle.py_str.proofs.StopLemmas.{found, found_ends, passed_found, passed_whole, none_left, stop_splits, stop_fails, stop_begins}
use Rattle.py_str.proofs.tabs.first_stop.Goals as goal

pub range_from-requires : goal.range_from-requires
range_from-requires c = λ _.
    found_ends c.args.text.now c.in-Some.at c.utf8.text (found c.args.text.now c.as_bytes-bytes.result.now c.in-Some.at c.as_bytes-bytes.ensures.value c.in-Some.ensures.0 c.in-Some.ensures.1)

pub returns-in-Some-clause-before : goal.returns-in-Some-clause-before
returns-in-Some-clause-before c =
    let s = c.args.text.now in
    let at = c.in-Some.at in
    let f = found s c.as_bytes-bytes.result.now at c.as_bytes-bytes.ensures.value c.in-Some.ensures.0 c.in-Some.ensures.1 in
    let t : slice_range c.args.text.now 0 c.in-Some.at ≡ take c.in-Some.at c.args.text.now = grind arith in
    stop_taken is_inside s (drop at s) (drop (at + 1) s) at (get_or s at 0) (stop_fails (get_or s at 0) f.stop) (stop_splits s at f.within f.stop) (passed_found s at c.utf8.text f)
    ∙ ap chars (sym (c.range.ensures.value ∙ t))

pub returns-in-Some-clause-rest : goal.returns-in-Some-clause-rest
returns-in-Some-clause-rest c =
    let s = c.args.text.now in
    let at = c.in-Some.at in
    let f = found s c.as_bytes-bytes.result.now at c.as_bytes-bytes.ensures.value c.in-Some.ensures.0 c.in-Some.ensures.1 in
    let e : c.from.result ≡ get_or c.as_bytes-bytes.result.now c.in-Some.at 0 = search rules in
    let b : get_or c.args.text.now c.in-Some.at 0 ≡ c.from.result = sym (e ∙ ap (λ (x : List ℕ). get_or x c.in-Some.at 0) c.as_bytes-bytes.ensures.value) in
    stop_skipped is_inside s (drop at s) (drop (at + 1) s) at (get_or s at 0) (stop_fails (get_or s at 0) f.stop) (stop_splits s at f.within f.stop) (passed_found s at c.utf8.text f)
    ∙ ap (λ (d : ℕ). d ∷ chars (drop (c.in-Some.at + 1) c.args.text.now)) b
    ∙ ap (λ (l : List ℕ). c.from.result ∷ chars l) (sym c.range_from.ensures.value)

pub returns-in-None-clause-before : goal.returns-in-None-clause-before
returns-in-None-clause-before c =
    let s = c.args.text.now in
    all_taken is_inside s (drop (length s) s) (length s) (none_left s) (passed_whole s c.as_bytes-bytes.result.now c.as_bytes-bytes.ensures.value c.utf8.text c.in-None.ensures)

pub returns-in-None-clause-rest : goal.returns-in-None-clause-rest
returns-in-None-clause-rest c =
    let s = c.args.text.now in
    none_skipped is_inside s (drop (length s) s) (length s) (none_left s) (passed_whole s c.as_bytes-bytes.result.now c.as_bytes-bytes.ensures.value c.utf8.text c.in-None.ensures)
