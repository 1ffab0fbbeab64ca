-- One turn of the loop that reads a key.
use Rattle.std.proofs.Common.{◌≡◌, ◌∙◌, ℕ, ◌+◌, ◌≤◌, List, [], ◌∷◌, ◌++◌, sym, ap, refl, arith, append_assoc, append-nil, Option, Some, None, Ok, Err}
use Rattle.std.proofs.lemmas.Bool.Decides.{nat_tests}
use Rattle.py_base.specs.Reading.{◌and_then◌}
use Rattle.py_base.specs.declared.error.PyError.TheVariants.{PercentParse}
use Rattle.py_base.specs.declared.error.percent.PercentFault.TheVariants.{IncompleteKey}
use Rattle.py_spec.specs.Percent.Reading.{Read, open_after, key_on, key_in, more_key}

-- units in front of what is still to be read of a key
abbrev pub joined : List ℕ → Read (List ℕ) → Read (List ℕ)
joined key r = r and_then λ more rest. Ok (key ++ more, rest)

pub key_none : (r : Read (List ℕ)) → r ≡ joined [] r
key_none (Ok r) = refl
key_none (Err e) = refl

joined_more : (key : List ℕ) (c : ℕ) (r : Read (List ℕ)) → joined key (more_key c r) ≡ joined (key ++ c ∷ []) r
joined_more key c (Ok r) = ap (λ k. Ok (k, r.1)) (sym (append_assoc key (c ∷ []) r.0))
joined_more key c (Err e) = refl

by_level : (place c : ℕ) (rest : List ℕ) (o : Option ℕ) (level : ℕ) → open_after level c ≡ o → key_in place level (c ∷ rest) ≡ key_on o c rest (λ e. key_in place e rest)
by_level place c rest o level is = ap (λ o. key_on o c rest (λ e. key_in place e rest)) is

pub key_goes_on : (whole : Read (List ℕ)) (place c level now : ℕ) (cs rest key : List ℕ) → open_after level c ≡ Some now → cs ≡ c ∷ rest → whole ≡ joined key (key_in place level cs) → whole ≡ joined (key ++ c ∷ []) (key_in place now rest)
key_goes_on whole place c level now cs rest key is e w =
    w ∙ ap (λ l. joined key (key_in place level l)) e ∙ ap (joined key) (by_level place c rest (Some now) level is) ∙ joined_more key c (key_in place now rest)

pub key_closes : (whole : Read (List ℕ)) (place c level : ℕ) (cs rest key : List ℕ) → open_after level c ≡ None → cs ≡ c ∷ rest → whole ≡ joined key (key_in place level cs) → whole ≡ Ok (key, rest)
key_closes whole place c level cs rest key is e w =
    w ∙ ap (λ l. joined key (key_in place level l)) e ∙ ap (joined key) (by_level place c rest None level is) ∙ ap (λ k. Ok (k, rest)) (append-nil key)

pub key_ends : (whole : Read (List ℕ)) (place level : ℕ) (cs key : List ℕ) → cs ≡ [] → whole ≡ joined key (key_in place level cs) → whole ≡ Err (PercentParse IncompleteKey place)
key_ends whole place level cs key e w = w ∙ ap (λ l. joined key (key_in place level l)) e

pub few_open : (level c now : ℕ) → open_after level c ≡ Some now → now ≤ level + 1
few_open level c now is = grind (arith, nat_tests)

-- the turns of the loop that reads a key
pub ruleset key_steps = (key_none, key_goes_on, key_closes, key_ends, few_open)
