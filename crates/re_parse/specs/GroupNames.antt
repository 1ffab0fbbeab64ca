-- The names of groups, with a look-up by name.
use Rattle.std.specs.Prelude.{◌≡◌, ℕ, nat_eq, List, [], ◌∷◌, Option, Some, None, if◌then◌else◌, String, chars, string_bytes}
use lib.Pointwise.{pointwise}
use Rattle.re_tree.specs.PlainText.{Names}
use Rattle.re_parse.specs.declared.group_names.Named.{Named}

abbrev pub names_in : List Named → Names
names_in [] = []
names_in (x ∷ xs) = (x.name, x.number) ∷ names_in xs

-- the number of the first group of a name, where there is one
abbrev pub number_in : Names → List ℕ → Option ℕ
number_in [] name = None
number_in (x ∷ names) name = if pointwise nat_eq x.0 name then Some x.1 else number_in names name

-- the number that the entries of a map have for a name
abbrev pub number_under : {Z : Type 0} → List (String Z × ℕ) → List ℕ → Option ℕ
number_under [] name = None
number_under (e ∷ es) name =
    if pointwise nat_eq (chars (string_bytes e.0)) name then Some e.1 else number_under es name

-- the entries have the number of the first group of each name, and no other name
abbrev pub AreFirstNumbers : {Z : Type 0} → List (String Z × ℕ) → Names → Type 0
AreFirstNumbers es names = (name : List ℕ) → number_under es name ≡ number_in names name

-- this number, or else that of one name more
abbrev pub number_or : Option ℕ → List ℕ → ℕ → List ℕ → Option ℕ
number_or (Some n) name number text = Some n
number_or None name number text = if pointwise nat_eq name text then Some number else None

-- the entries have also this number for this name, where they had none for it
abbrev pub HasAlso : {Z : Type 0} → List ℕ → ℕ → List (String Z × ℕ) → List (String Z × ℕ) → Type 0
HasAlso name number es longer = (text : List ℕ)
    → number_under longer text ≡ number_or (number_under es text) name number text
