-- One turn of the loops over the characters of a text.
use Rattle.std.proofs.Common.{◌≡◌, ◌∙◌, ℕ, pos, List, [], ◌∷◌, ◌++◌, sym, ap, length, chars, IsUtf8}
use Rattle.std.specs.Char.{encode_utf8}
use Rattle.std.proofs.lemmas.List.{nil_from_length}
use Rattle.std.proofs.lemmas.Str.{chars_past_char, chars-nil}
use Rattle.py_value.specs.declared.value.DictKey.TheVariants.{Int}
use Rattle.py_value.specs.Dict.{put}
use Rattle.py_value.specs.Maketrans.{put_pairs, put_nones}
use Rattle.py_value.specs.Plain.{Entries, none, int}

pub no_chars : (bs : List ℕ) → length bs ≡ 0 → chars bs ≡ []
no_chars bs n = ap chars (nil_from_length bs n) ∙ chars-nil

pub nones_more : (bs rest : List ℕ) (c : ℕ) (old new whole : Entries) → IsUtf8 bs → bs ≡ encode_utf8 c ++ rest → new ≡ put (Int (pos c)) none old → put_nones (chars bs) old ≡ whole → put_nones (chars rest) new ≡ whole
nones_more bs rest c old new whole u e n t =
    ap (put_nones (chars rest)) n ∙ sym (ap (λ (l : List ℕ). put_nones l old) (chars_past_char bs rest c u e)) ∙ t

pub nones_end : (bs : List ℕ) (made whole : Entries) → length bs ≡ 0 → put_nones (chars bs) made ≡ whole → made ≡ whole
nones_end bs made whole n t = sym (ap (λ (l : List ℕ). put_nones l made) (no_chars bs n)) ∙ t

pub pairs_more : (bs rest ds more : List ℕ) (c d : ℕ) (old new whole : Entries) → IsUtf8 bs → bs ≡ encode_utf8 c ++ rest → IsUtf8 ds → ds ≡ encode_utf8 d ++ more → new ≡ put (Int (pos c)) (int (pos d)) old → put_pairs (chars bs) (chars ds) old ≡ whole → put_pairs (chars rest) (chars more) new ≡ whole
pairs_more bs rest ds more c d old new whole u e v f n t =
    ap (put_pairs (chars rest) (chars more)) n
    ∙ sym (ap (λ (l : List ℕ). put_pairs l (chars ds) old) (chars_past_char bs rest c u e) ∙ ap (λ (l : List ℕ). put_pairs (c ∷ chars rest) l old) (chars_past_char ds more d v f)) ∙ t

pub pairs_end : (bs ds : List ℕ) (made whole : Entries) → length bs ≡ 0 → put_pairs (chars bs) (chars ds) made ≡ whole → made ≡ whole
pairs_end bs ds made whole n t = sym (ap (λ (l : List ℕ). put_pairs l (chars ds) made) (no_chars bs n)) ∙ t

pub pairs_stop : (bs rest ds : List ℕ) (c : ℕ) (made whole : Entries) → IsUtf8 bs → bs ≡ encode_utf8 c ++ rest → length ds ≡ 0 → put_pairs (chars bs) (chars ds) made ≡ whole → made ≡ whole
pairs_stop bs rest ds c made whole u e n t =
    sym (ap (λ (l : List ℕ). put_pairs l (chars ds) made) (chars_past_char bs rest c u e) ∙ ap (λ (l : List ℕ). put_pairs (c ∷ chars rest) l made) (no_chars ds n)) ∙ t
