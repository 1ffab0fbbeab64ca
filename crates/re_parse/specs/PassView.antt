-- The first pass in memory.
use Rattle.std.specs.Prelude.{List, [], ◌∷◌}
use Rattle.re_parse.specs.declared.pass.Pass.{Pass as PassInMemory}
use Rattle.re_parse.specs.FirstPass.{Opened, Pass}
use Rattle.re_parse.specs.Groups.{conditionals_in}

-- the innermost opening is the last in memory, and the first of the pass
abbrev pub onto : List Opened → List Opened → List Opened
onto [] outer = outer
onto (f ∷ fs) outer = onto fs (f ∷ outer)

abbrev pub pass_in : PassInMemory → Pass
pass_in p = record {
  groups = p.groups.count;
  outer = onto p.outer.items [];
  body = p.body;
  names = p.groups.names;
  closed = p.ended;
  conditionals = conditionals_in p.groups.conditionals.items;
  first = p.first;
}
