-- A text is its pieces between whitespace, and whitespace.
use Rattle.std.specs.Prelude.{◌≡◌, ℕ, zero, suc, Bool, true, false, not, cond, if◌then◌else◌, List, [], ◌∷◌, ◌++◌, reverse, take_while, length}
use Rattle.std.proofs.Common.{refl, ap, sym, ◌∙◌, subst, append-nil}
use Rattle.std.proofs.lemmas.List.Sums.{take_while-cons}
use Rattle.std.proofs.lemmas.List.Elements.{All-nil, All-cons}
use Rattle.py_base.specs.Chars.Whitespace.{is_ascii_whitespace, skip_while}
use Rattle.py_text.specs.Laws.{HasOnlyWhitespace, IsCutOff, IsSpaced, WhitespacePiecesAreTheText, WhitespacePiecesFromRightAreTheText}
use Rattle.py_text.specs.Pieces.{limit}
use Rattle.py_text.proofs.LimitLemmas.{mirrored_twice}
use Rattle.py_text.specs.Whitespace.{until_whitespace, from_whitespace, split_whitespace}

-- what is skipped is whitespace
abbrev Skipped : List ℕ → Type 0
Skipped L = (gap : List ℕ) × (L ≡ gap ++ skip_while is_ascii_whitespace L) × HasOnlyWhitespace gap

skipped_case : (c : ℕ) (cs : List ℕ) (t : Bool) → is_ascii_whitespace c ≡ t → Skipped cs → Skipped (c ∷ cs)
skipped_case c cs true h more =
    let step : skip_while is_ascii_whitespace (c ∷ cs) ≡ skip_while is_ascii_whitespace cs = ap (λ t. if t then skip_while is_ascii_whitespace cs else c ∷ cs) h in
    (c ∷ more.0, ap (λ r. c ∷ r) more.1 ∙ ap (λ r. c ∷ (more.0 ++ r)) (sym step), All-cons (λ d. is_ascii_whitespace d ≡ true) c more.0 h more.2)
skipped_case c cs false h more =
    let step : skip_while is_ascii_whitespace (c ∷ cs) ≡ c ∷ cs = ap (λ t. if t then skip_while is_ascii_whitespace cs else c ∷ cs) h in
    ([], sym step, All-nil (λ d. is_ascii_whitespace d ≡ true))

skipped : (L : List ℕ) → Skipped L
skipped [] = ([], refl, All-nil (λ d. is_ascii_whitespace d ≡ true))
skipped (c ∷ cs) = skipped_case c cs (is_ascii_whitespace c) refl (skipped cs)

-- what is after a piece
cut_case : (c : ℕ) (cs : List ℕ) (t : Bool) → is_ascii_whitespace c ≡ t → IsCutOff (from_whitespace cs) → IsCutOff (from_whitespace (c ∷ cs))
cut_case c cs true h more = subst IsCutOff (sym (ap (λ t. if not t then from_whitespace cs else c ∷ cs) h)) h
cut_case c cs false h more = subst IsCutOff (sym (ap (λ t. if not t then from_whitespace cs else c ∷ cs) h)) more

cut_off : (L : List ℕ) → IsCutOff (from_whitespace L)
cut_off [] = tt
cut_off (c ∷ cs) = cut_case c cs (is_ascii_whitespace c) refl (cut_off cs)

-- a list is what is taken of it and what is skipped
parted_case : (q : ℕ → Bool) (c : ℕ) (cs : List ℕ) (t : Bool) → q c ≡ t → cs ≡ take_while q cs ++ skip_while q cs → c ∷ cs ≡ take_while q (c ∷ cs) ++ skip_while q (c ∷ cs)
parted_case q c cs true h more =
    ap (λ r. c ∷ r) more
    ∙ sym (ap (λ t. t ++ skip_while q (c ∷ cs)) (take_while-cons q c cs ∙ ap (λ t. cond t (c ∷ take_while q cs) []) h) ∙ ap (λ t. (c ∷ take_while q cs) ++ (if t then skip_while q cs else c ∷ cs)) h)
parted_case q c cs false h more =
    sym (ap (λ t. t ++ skip_while q (c ∷ cs)) (take_while-cons q c cs ∙ ap (λ t. cond t (c ∷ take_while q cs) []) h) ∙ ap (λ t. if t then skip_while q cs else c ∷ cs) h)

parted : (q : ℕ → Bool) (L : List ℕ) → L ≡ take_while q L ++ skip_while q L
parted q [] = refl
parted q (c ∷ cs) = parted_case q c cs (q c) refl (parted q cs)

only_whitespace : (L : List ℕ) → skip_while is_ascii_whitespace L ≡ [] → HasOnlyWhitespace L
only_whitespace L e =
    let s = skipped L in subst HasOnlyWhitespace (sym (s.1 ∙ ap (λ r. s.0 ++ r) e ∙ append-nil s.0)) s.2

spaced_zero : (L M : List ℕ) → skip_while is_ascii_whitespace L ≡ M → IsSpaced (elim M [ [] ↦ [] | c ∷ cs ↦ (c ∷ cs) ∷ [] ]) L
spaced_zero L [] e = only_whitespace L e
spaced_zero L (c ∷ cs) e =
    let s = skipped L in
    (s.0, [], s.1 ∙ ap (λ r. s.0 ++ r) (e ∙ sym (append-nil (c ∷ cs))), s.2, tt, All-nil (λ d. is_ascii_whitespace d ≡ true))

spaced_more : (k : ℕ) (L M : List ℕ) → skip_while is_ascii_whitespace L ≡ M → ((N : List ℕ) → IsSpaced (split_whitespace k N) N) → IsSpaced (elim M [ [] ↦ [] | c ∷ cs ↦ until_whitespace (c ∷ cs) ∷ split_whitespace k (from_whitespace (c ∷ cs)) ]) L
spaced_more k L [] e more = only_whitespace L e
spaced_more k L (c ∷ cs) e more =
    let s = skipped L in
    (s.0, from_whitespace (c ∷ cs), s.1 ∙ ap (λ r. s.0 ++ r) (e ∙ parted (λ d. not (is_ascii_whitespace d)) (c ∷ cs)), s.2, cut_off (c ∷ cs), more (from_whitespace (c ∷ cs)))

spaced : (k : ℕ) (L : List ℕ) → IsSpaced (split_whitespace k L) L
spaced zero L = spaced_zero L (skip_while is_ascii_whitespace L) refl
spaced (suc k) L = spaced_more k L (skip_while is_ascii_whitespace L) refl (λ N. spaced k N)

pub whitespace_pieces : WhitespacePiecesAreTheText
whitespace_pieces = λ m L. spaced (limit (length L) m) L

pub whitespace_pieces_from_right : WhitespacePiecesFromRightAreTheText
whitespace_pieces_from_right = λ m L.
    let k = limit (length L) m in
    subst (λ ps. IsSpaced ps (reverse L)) (sym (mirrored_twice (split_whitespace k (reverse L)))) (spaced k (reverse L))
