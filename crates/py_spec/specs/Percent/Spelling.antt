-- How parts spell a percent template.
use Rattle.std.specs.Prelude.{◌≡◌, ℕ, ◌==◌, if◌then◌else◌, List, [], ◌∷◌, ◌++◌, Ok}
use Rattle.py_spec.specs.declared.percent.parts.CFormatPart.{CFormatPart}
use Rattle.py_spec.specs.declared.percent.parts.CFormatPart.TheVariants.{Literal, LiteralBytes, Spec}
use Rattle.py_spec.specs.Percent.Reading.{place_of, read_specifier}
use Rattle.py_spec.specs.Percent.Template.{Parts}

-- units as a literal spells them: a percent sign, which is 37, is written twice
abbrev pub doubled : List ℕ → List ℕ
doubled [] = []
doubled (c ∷ cs) = if c == 37 then 37 ∷ 37 ∷ doubled cs else c ∷ doubled cs

-- the units of a part, before the rest of a template of n units: those of a literal, and of a
-- specifier a percent sign and units that are read as it
abbrev pub Spells : ℕ → CFormatPart → List ℕ → List ℕ → Type 0
Spells n (Literal text) units rest = units ≡ doubled text
Spells n (LiteralBytes bytes) units rest = units ≡ doubled bytes
Spells n (Spec s) units rest = (written : List ℕ) × (units ≡ 37 ∷ written)
    × (read_specifier n (written ++ rest) ≡ Ok (s, rest))

-- the parts of a rest of a template of n units: the units of each, one after another, are the rest,
-- and each is at its place
abbrev pub SpellAll : ℕ → Parts → List ℕ → Type 0
SpellAll n [] cs = cs ≡ []
SpellAll n (p ∷ ps) cs = (units : List ℕ) × (rest : List ℕ) × (cs ≡ units ++ rest)
    × (p.0 ≡ place_of n cs) × Spells n p.1 units rest × SpellAll n ps rest
