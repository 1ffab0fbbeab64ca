-- A title, from its front.
use Rattle.std.proofs.Common.{◌≡◌, ◌∙◌, ℕ, Bool, true, false, ◌&&◌, List, ◌++◌, sym, ap, length, chars, IsUtf8}
use Rattle.std.specs.Char.{encode_utf8}
use Rattle.std.specs.List.{list_all}
use Rattle.std.proofs.lemmas.List.{nil_from_length}
use Rattle.std.proofs.lemmas.Str.{chars_past_char, chars-nil}
use Rattle.py_base.specs.Chars.Classes.{is_id_start, is_id_continue}
use Rattle.py_str.specs.TestsOf.{is_cased, fits_title, titled, isidentifier}

pub titled_more : (after : Bool) (bs rest : List ℕ) (c : ℕ) (whole : Bool) → IsUtf8 bs → bs ≡ encode_utf8 c ++ rest → fits_title after c ≡ true → titled after (chars bs) ≡ whole → titled (is_cased c) (chars rest) ≡ whole
titled_more after bs rest c whole u e h t =
    sym (ap (titled after) (chars_past_char bs rest c u e) ∙ ap (λ (b : Bool). b && titled (is_cased c) (chars rest)) h) ∙ t

pub titled_stops : (after : Bool) (bs rest : List ℕ) (c : ℕ) (whole : Bool) → IsUtf8 bs → bs ≡ encode_utf8 c ++ rest → fits_title after c ≡ false → titled after (chars bs) ≡ whole → false ≡ whole
titled_stops after bs rest c whole u e h t =
    sym (ap (titled after) (chars_past_char bs rest c u e) ∙ ap (λ (b : Bool). b && titled (is_cased c) (chars rest)) h) ∙ t

pub titled_ends : (after : Bool) (bs : List ℕ) (whole : Bool) → length bs ≡ 0 → titled after (chars bs) ≡ whole → true ≡ whole
titled_ends after bs whole n t = sym (ap (titled after) (ap chars (nil_from_length bs n) ∙ chars-nil)) ∙ t

pub identifier_is : (bs rest : List ℕ) (c : ℕ) (b r : Bool) → IsUtf8 bs → bs ≡ encode_utf8 c ++ rest → is_id_start c ≡ true → r ≡ list_all is_id_continue (chars rest) → r ≡ isidentifier (chars bs)
identifier_is bs rest c b r u e h i =
    i ∙ sym (ap isidentifier (chars_past_char bs rest c u e) ∙ ap (λ (s : Bool). s && list_all is_id_continue (chars rest)) h)
