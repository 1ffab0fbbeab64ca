use Rattle.std.proofs.Common.{◌≡◌, ℕ, List, [], ◌∷◌, ap, sym, ◌∙◌, encode_utf8_all, string_bytes}
use Rattle.std.specs.Str.{IsUtf8}
use Rattle.std.proofs.lemmas.Bool.Decides.{Decides-eqb}
use Rattle.std.proofs.lemmas.Slice.Eq.{strip_prefix_is}
use Rattle.std.proofs.lemmas.Str.{encodes-chars, scalars-chars, IsUtf8-string_bytes}
use Rattle.hex.specs.Hex.{IsBytes, encode_lower}
use Rattle.sre_commands.proofs.Utf8Lemmas.{encodes_bytes}
use Rattle.sre_commands.proofs.HexadecimalLemmas.{encode_lower_same}
use Rattle.sre_commands.proofs.tokens.text.text_in.Goals as goal

pub returns-in_default-2-clause-no_request : goal.returns-in_default-2-clause-no_request
returns-in_default-2-clause-no_request c = λ was text ok e.
    let h = strip_prefix_is Decides-eqb c.args.bytes.now (116 ∷ []) c.strip_prefix.result c.strip_prefix.ensures.cases in
    let some : c.args.bytes.now ≡ 116 ∷ c.in-Some.digits.now = rw c.in-Some.is at h in
    let digits : c.in-Some.digits.now ≡ encode_lower (encode_utf8_all text) = cc (some, e) in
    let none = rw c.in_default-2.is at c.in_ok-encoded.ensures.none in
    none (encode_utf8_all text) (encodes_bytes text ok) digits

pub returns-in_default-from_utf8-clause-no_request : goal.returns-in_default-from_utf8-clause-no_request
returns-in_default-from_utf8-clause-no_request c = λ was text ok e.
    let h = strip_prefix_is Decides-eqb c.args.bytes.now (116 ∷ []) c.strip_prefix.result c.strip_prefix.ensures.cases in
    let some : c.args.bytes.now ≡ 116 ∷ c.in-Some.digits.now = rw c.in-Some.is at h in
    let digits : c.in-Some.digits.now ≡ encode_lower (encode_utf8_all text) = cc (some, e) in
    let found : c.in-Some.digits.now ≡ encode_lower c.in-Some-2.encoded.items = rw c.in-Some-2.is at c.in_ok-encoded.ensures.found in
    let are : IsBytes c.in-Some-2.encoded.items = rw c.in-Some-2.is at c.in_ok-encoded.ensures.bytes in
    let bytes : c.in-Some-2.encoded.items ≡ encode_utf8_all text =
    encode_lower_same c.in-Some-2.encoded.items (encode_utf8_all text) are (encodes_bytes text ok) (sym found ∙ digits) in
    let utf8 : IsUtf8 c.in-Some-2.encoded.items = (text, (ok, sym bytes)) in
    let fine = c.from_utf8.ensures.succeeds utf8 in
    cc (rw c.in_default-from_utf8.is at fine)

pub returns-clause-found : goal.returns-clause-found
returns-clause-found c =
    let h = strip_prefix_is Decides-eqb c.args.bytes.now (116 ∷ []) c.strip_prefix.result c.strip_prefix.ensures.cases in
    let some : c.args.bytes.now ≡ 116 ∷ c.in-Some.digits.now = rw c.in-Some.is at h in
    let text : string_bytes c.in-Ok.text ≡ c.in-Some-2.encoded.items = cc (c.in-Ok.ensures.ok) in
    let points : encode_utf8_all c.from.result ≡ c.in-Some-2.encoded.items =
    ap encode_utf8_all c.from.ensures ∙ encodes-chars (string_bytes c.in-Ok.text) (IsUtf8-string_bytes c.in-Ok.text) ∙ text in
    let found : c.in-Some.digits.now ≡ encode_lower c.in-Some-2.encoded.items = rw c.in-Some-2.is at c.in_ok-encoded.ensures.found in
    some ∙ ap (λ (l : List ℕ). 116 ∷ l) (found ∙ ap encode_lower (sym points))

pub returns-clause-scalars : goal.returns-clause-scalars
returns-clause-scalars c =
    rw c.from.ensures (scalars-chars (string_bytes c.in-Ok.text) (IsUtf8-string_bytes c.in-Ok.text))
