use Rattle.std.proofs.Common.{rules, ◌≡◌, ◌∙◌, ap, length, hash_map_len, arith}
use Rattle.py_intern.proofs.EntryLemmas.{values_length}
use Rattle.py_intern.proofs.pool.StringPool.text_of.Goals as goal

pub index-requires : goal.index-requires
index-requires c =
    let e : hash_map_len c.self.inside.texts ≡ length c.self.inside.texts.entries = search rules in
    let n = e ∙ values_length c.self.inside.texts.entries ∙ ap length c.self.view_is in
    omega (arith, n, c.requires, c.place.ensures)
