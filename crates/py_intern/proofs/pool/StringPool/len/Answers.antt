use Rattle.std.proofs.Common.{rules, ◌≡◌, ◌∙◌, ap, length, hash_map_len}
use Rattle.py_intern.proofs.EntryLemmas.{values_length}
use Rattle.py_intern.proofs.pool.StringPool.len.Goals as goal

pub returns-clause-len : goal.returns-clause-len
returns-clause-len c =
    let e : hash_map_len c.self.inside.texts ≡ length c.self.inside.texts.entries = search rules in
    c.len.ensures.len ∙ e ∙ values_length c.self.inside.texts.entries ∙ ap length c.self.view_is
