use Rattle.std.proofs.Common.{◌<◌, ◌+◌, ◌∙◌, ap, sym, chars, length, arith, option_map}
use Rattle.py_text.specs.Window.{window_start, window_end}
use Rattle.py_text.proofs.WindowLemmas.{last_outside, is_window, window_length, window_last, window_place, last_means}
use Rattle.py_text.proofs.search.last_in_window.Goals as goal

pub returns-in_err-from-clause-place : goal.returns-in_err-from-clause-place
returns-in_err-from-clause-place c =
    let closed : window_end (length c.args.text.now) c.args.args.now.end < window_start (length c.args.text.now) c.args.args.now.start = rw c.len.ensures at c.in_err-from.ensures in
    c.from_residual.ensures ∙ sym (last_outside c.args.args.now.sub c.args.text.now _ _ closed)

pub last_place-requires : goal.last_place-requires
last_place-requires c = window_length c.args.text.now (chars c.between-part.result.now) c.args.args.now.start c.args.args.now.end c.in_ok-from.from c.in_ok-from.to
    (is_window c.args.text.now (chars c.between-part.result.now) c.args.args.now.start c.args.args.now.end c.len.result c.in_ok-from.from c.in_ok-from.to c.len.ensures c.in_ok-from.ensures c.between-part.ensures.part)

pub returns-in_err-place-clause-place : goal.returns-in_err-place-clause-place
returns-in_err-place-clause-place c =
    let w = is_window c.args.text.now (chars c.between-part.result.now) c.args.args.now.start c.args.args.now.end c.len.result c.in_ok-from.from c.in_ok-from.to c.len.ensures c.in_ok-from.ensures c.between-part.ensures.part in
    c.from_residual-in_err-place.ensures ∙ ap (λ o. option_map (λ a. c.in_ok-from.from + a) o) (sym c.in_err-place.was)
    ∙ window_last c.args.args.now.sub (chars c.as_str.result.now) _ _ _ _ _ _ c.last_place.result w c.as_str.ensures.value c.last_place.ensures

pub overflow_add-result : goal.overflow_add-result
overflow_add-result c =
    let w = is_window c.args.text.now (chars c.between-part.result.now) c.args.args.now.start c.args.args.now.end c.len.result c.in_ok-from.from c.in_ok-from.to c.len.ensures c.in_ok-from.ensures c.between-part.ensures.part in
    omega (arith, c.between-part.ensures.bound, window_place _ _ (chars c.as_str.result.now) _ _ _ _ c.in_ok-place.place w (last_means (chars c.as_str.result.now) _ 0 _ _ (sym c.last_place.ensures ∙ c.in_ok-place.was)))

pub returns-clause-place : goal.returns-clause-place
returns-clause-place c =
    let w = is_window c.args.text.now (chars c.between-part.result.now) c.args.args.now.start c.args.args.now.end c.len.result c.in_ok-from.from c.in_ok-from.to c.len.ensures c.in_ok-from.ensures c.between-part.ensures.part in
    ap (λ o. option_map (λ a. c.in_ok-from.from + a) o) (sym c.in_ok-place.was)
    ∙ window_last c.args.args.now.sub (chars c.as_str.result.now) _ _ _ _ _ _ c.last_place.result w c.as_str.ensures.value c.last_place.ensures

pub returns-clause-bound : goal.returns-clause-bound
returns-clause-bound c =
    let w = is_window c.args.text.now (chars c.between-part.result.now) c.args.args.now.start c.args.args.now.end c.len.result c.in_ok-from.from c.in_ok-from.to c.len.ensures c.in_ok-from.ensures c.between-part.ensures.part in
    omega (arith, c.between-part.ensures.bound, window_place _ _ (chars c.as_str.result.now) _ _ _ _ c.in_ok-place.place w (last_means (chars c.as_str.result.now) _ 0 _ _ (sym c.last_place.ensures ∙ c.in_ok-place.was)))
