use Rattle.std.proofs.Common.{arith}
use Rattle.sre_match.proofs.ChoiceLemmas.{stacked_last}
use Rattle.sre_match.proofs.matcher.frames.frames_kept.Goals as goal

pub returns-in-len1-up : goal.returns-in-len1-up
returns-in-len1-up c high n r h =
    stacked_last 0 c.args.choices.now high n c.choice-item.result r (omega (arith, c.in-len1-up.len_at_least)) c.choice-item.is h
