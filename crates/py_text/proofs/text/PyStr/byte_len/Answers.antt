use Rattle.std.proofs.Common.{◌∙◌, sym, ap, length, chars, encode_utf8_all}
use Rattle.std.proofs.lemmas.Str.{encodes-chars}
use Rattle.py_text.proofs.text.PyStr.byte_len.Goals as goal

pub returns : goal.returns
returns c = ap length (sym (encodes-chars _ c.as_str.utf8) ∙ ap encode_utf8_all (ap chars c.as_str.ensures.value ∙ c.self.view_is))
