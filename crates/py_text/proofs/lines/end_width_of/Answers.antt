use Rattle.std.proofs.Common.{◌≡◌, ◌<◌, ◌∙◌, ap, sym, refl, Bool, true, false, if◌then◌else◌, List, ℕ, [], ◌∷◌, length, arith, IsUtf8, MatchBool, None}
use Rattle.std.specs.Str.{chars}
use Rattle.std.specs.Str.Pattern.{FindsTextPrefix, HasPrefixMatch}
use Rattle.std.proofs.lemmas.Bool.Decides.{nat_tests}
use Rattle.std.proofs.lemmas.Str.{chars-nil, IsUtf8-from_ascii}
use Rattle.std.proofs.lemmas.List.{nil_from_length}
use Rattle.py_text.specs.Lines.{end_width}
use Rattle.py_text.specs.Occurrences.{occurs_at}
use Rattle.py_text.proofs.PointLemmas.{is_ascii}
use Rattle.py_text.proofs.EndLemmas.{prefix_is}
use Rattle.py_text.proofs.UntilLemmas.{some_chars}
use Rattle.py_text.proofs.LineLemmas.{width_by}
use Rattle.py_text.proofs.lines.end_width_of.Goals as goal

crlf_chars : chars (13 ∷ 10 ∷ []) ≡ 13 ∷ 10 ∷ []
unfolding chars
crlf_chars = refl

pub returns-then-is_empty : goal.returns-then-is_empty
returns-then-is_empty c =
    let bytes : length c.args.tail.now ≡ 0 = grind (arith, nat_tests) in
    sym (ap (λ l. end_width (chars l)) (nil_from_length c.args.tail.now bytes) ∙ ap end_width chars-nil)

is_text : IsUtf8 (13 ∷ 10 ∷ [])
is_text = IsUtf8-from_ascii (13 ∷ 10 ∷ []) (is_ascii (13 ∷ 10 ∷ []) refl)

width : (s : List ℕ) (r t : Bool) → r ≡ t → IsUtf8 s → 0 < length s → MatchBool r (HasPrefixMatch (FindsTextPrefix (13 ∷ 10 ∷ [])) s) (FindsTextPrefix (13 ∷ 10 ∷ []) s None) → (if t then 2 else 1) ≡ end_width (chars s)
width s r t e u h m =
    ap (λ b. if b then 2 else 1) (sym e) ∙ width_by (chars s) r (some_chars s u h) (prefix_is r (13 ∷ 10 ∷ []) s is_text u m ∙ ap (λ n. occurs_at n (chars s) 0 (length (chars s)) 0) crlf_chars)

pub returns-then-starts_with : goal.returns-then-starts_with
returns-then-starts_with c =
    let bytes : 0 < length c.args.tail.now = grind (arith, nat_tests) in
    width c.args.tail.now c.starts_with.result true c.if-starts_with.true c.utf8.tail bytes c.starts_with.ensures.cases

pub returns-else-starts_with : goal.returns-else-starts_with
returns-else-starts_with c =
    let bytes : 0 < length c.args.tail.now = grind (arith, nat_tests) in
    width c.args.tail.now c.starts_with.result false c.if-starts_with.false c.utf8.tail bytes c.starts_with.ensures.cases
