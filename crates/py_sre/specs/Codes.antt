-- Patterns as lists of numbers, which a model asks for.
use Rattle.std.specs.Prelude.{ℕ, Bool, List, Option, refl}
use Rattle.std.specs.Coded.{Coded, code_by, coded×, coded_ℕ, coded_bool, coded_list, coded_option}
use Rattle.sre_code.specs.Checked.{Code, code_code}
use Rattle.py_value.specs.Plain.{Plain, Plains, none, empty, ◌then◌}
use Rattle.py_value.specs.PlainCode.{plains_code}
use Rattle.py_sre.specs.Names.{Entry}
use Rattle.py_sre.specs.Pattern.{PlainPattern}

abbrev pub entries_code : Coded (List (List ℕ × ℕ))
entries_code = coded_list (coded× (coded_list coded_ℕ) coded_ℕ)

abbrev pub names_code : Coded (List (Option (List ℕ)))
names_code = coded_list (coded_option (coded_list coded_ℕ))

abbrev first_value : Plains → Plain
first_value empty = none
first_value (v then vs) = v

-- a value by the list of it alone
abbrev pub value_code : Coded Plain
value_code = code_by Plains plains_code (λ v. v then empty) first_value (λ _. refl)

abbrev pub pattern_code : Coded PlainPattern
pattern_code =
    code_by (Plain × (Bool × (ℕ × (Code × (List Entry × List (Option (List ℕ)))))))
    (coded× value_code (coded× coded_bool (coded× coded_ℕ
    (coded× code_code (coded× entries_code names_code)))))
    (λ p. (p.source, (p.is_bytes, (p.flags, (p.code, (p.groupindex, p.indexgroup))))))
    (λ p. record {
      source = p.0;
      is_bytes = p.1.0;
      flags = p.1.1.0;
      code = p.1.1.1.0;
      groupindex = p.1.1.1.1.0;
      indexgroup = p.1.1.1.1.1;
    })
    (λ _. refl)
