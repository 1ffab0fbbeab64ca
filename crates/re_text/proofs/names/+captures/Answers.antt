use Rattle.std.proofs.Common.{◌≡◌, ◌∙◌, ap, ℕ, drop, arith}
use Rattle.re_tree.specs.PlainText.{all_captures}
use Rattle.re_tree.specs.TextView.{texts_of}
use Rattle.re_text.proofs.names.+captures.Goals as goal

pub captures_in-returns : goal.captures_in-returns
captures_in-returns t c =
    let first : c.loop-i.i ≡ 0 = omega (arith, c.loop-i-test.false) in
    c.loop-i.invariant ∙ ap (λ (n : ℕ). all_captures (texts_of (drop n c.args.parts.now))) first
