-- The classes of ASCII characters are ranges.
use Rattle.std.proofs.Common.{◌≡◌, ◌<◌, inl, inr, ℕ, zero, suc, Bool, true, false, not, ◌&&◌, List, [], ◌∷◌, refl, sym, subst, arith, nat_lt}
use Rattle.std.proofs.lemmas.Bool.Decides.{nat_tests}
use Rattle.std.specs.Char.{is_ascii_alphabetic, is_ascii_alphanumeric}
use Rattle.std.specs.List.{list_all}
use Rattle.ucd_category.specs.GeneralCategory.{general_category}
use Rattle.ucd_category.specs.GeneralCategoryRows.{general_category_rows}
use Rattle.ucd_derived.specs.Binary.{is_alphabetic as has_alphabetic}
use Rattle.ucd_derived.specs.AlphabeticRanges.{alphabetic_ranges}
use Rattle.ucd_table.specs.Rows.{value_in, in_ranges}
use Rattle.py_base.specs.Chars.Classes.{between, is_alphabetic, is_alnum, is_printable}
use Rattle.py_text.specs.Text.{all_ascii}
use Rattle.py_text.proofs.OccursLemmas.{below_or_last}

abbrev same_bool : Bool → Bool → Bool
same_bool true b = b
same_bool false b = not b

-- two tests agree below n
abbrev agree_below : (ℕ → Bool) → (ℕ → Bool) → ℕ → Bool
agree_below p q zero = true
agree_below p q (suc n) = agree_below p q n && same_bool (p n) (q n)

both : (a b : Bool) → (a && b) ≡ true → (a ≡ true) × (b ≡ true)
both true b h = (refl, h)
both false b h = absurd (cc)

same_is : (a b : Bool) → same_bool a b ≡ true → a ≡ b
same_is true true h = refl
same_is true false h = absurd (cc)
same_is false true h = absurd (cc)
same_is false false h = refl

agree_at : (p q : ℕ → Bool) (n c : ℕ) → agree_below p q n ≡ true → c < n → p c ≡ q c
agree_at p q zero c h l = absurd (omega arith)
agree_at p q (suc n) c h l =
    let r = both (agree_below p q n) (same_bool (p n) (q n)) h in
    elim (below_or_last c n l) [ inl k ↦ agree_at p q n c r.0 k | inr e ↦ subst (λ (m : ℕ). p m ≡ q m) (sym e) (same_is (p n) (q n) r.1) ]

below : (c : ℕ) → nat_lt c 128 ≡ true → c < 128
below c h = grind (arith, nat_tests)

-- tests that agree on ASCII characters agree on ASCII texts
each_same : (p q : ℕ → Bool) (cs : List ℕ) → agree_below p q 128 ≡ true → all_ascii cs ≡ true → list_all p cs ≡ list_all q cs
each_same p q [] h a = refl
each_same p q (c ∷ cs) h a =
    let r = both (nat_lt c 128) (all_ascii cs) a in
    let first = agree_at p q 128 c h (below c r.0) in
    let rest = each_same p q cs h r.1 in
    λ j. first j && rest j

letters : agree_below is_ascii_alphabetic is_alphabetic 128 ≡ true
unfolding has_alphabetic in_ranges alphabetic_ranges
letters = refl

pub letters_same : (cs : List ℕ) → all_ascii cs ≡ true → list_all is_ascii_alphabetic cs ≡ list_all is_alphabetic cs
letters_same cs a = each_same is_ascii_alphabetic is_alphabetic cs letters a

letters_digits : agree_below is_ascii_alphanumeric is_alnum 128 ≡ true
unfolding has_alphabetic in_ranges alphabetic_ranges general_category value_in general_category_rows
letters_digits = refl

pub alnum_same : (cs : List ℕ) → all_ascii cs ≡ true → list_all is_ascii_alphanumeric cs ≡ list_all is_alnum cs
alnum_same cs a = each_same is_ascii_alphanumeric is_alnum cs letters_digits a

seen : agree_below (between 32 126) is_printable 128 ≡ true
unfolding general_category value_in general_category_rows
seen = refl

pub printable_same : (cs : List ℕ) → all_ascii cs ≡ true → list_all (between 32 126) cs ≡ list_all is_printable cs
printable_same cs a = each_same (between 32 126) is_printable cs seen a
