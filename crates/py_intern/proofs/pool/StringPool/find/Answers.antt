use Rattle.std.proofs.Common.{◌∙◌, ap}
use Rattle.std.specs.Str.{chars}
use Rattle.py_intern.specs.Pool.{place_of}
use Rattle.py_intern.proofs.EntryLemmas.{place_same}
use Rattle.py_intern.proofs.pool.StringPool.find.Goals as goal

pub returns : goal.returns
returns c =
    c.get_index_of.ensures.index ∙ place_same c.args.text.now c.self.inside.texts.entries c.utf8.text c.self.invariant.keys
    ∙ ap (place_of (chars c.args.text.now)) c.self.view_is
