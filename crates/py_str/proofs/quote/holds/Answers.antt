use Rattle.std.proofs.Common.{◌≡◌, ◌∙◌, ap, nat_eq}
use Rattle.std.specs.List.{list_any}
use Rattle.py_str.proofs.StopLemmas.{byte_is_char}
use Rattle.py_str.proofs.quote.holds.Goals as goal

pub returns : goal.returns
returns c =
    c.contains.ensures.value ∙ ap (list_any (λ y. nat_eq y c.args.mark)) c.as_bytes.ensures.value ∙ byte_is_char c.args.mark c.args.text.now c.utf8.text c.requires
