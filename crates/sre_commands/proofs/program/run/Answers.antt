use Rattle.std.proofs.Common.{sym, ◌∙◌}
use Rattle.sre_commands.proofs.EndingLemmas.{good_request, spells_none, text_of_none, too_many, unwritten, is_no_command, within}
use Rattle.sre_commands.proofs.program.run.Goals as goal

pub returns-clause-known : goal.returns-clause-known
returns-clause-known g c = (c.act.result, c.status_of.ensures)

pub returns-clause-within : goal.returns-clause-within
returns-clause-within g c = λ h. within c.act.result _ _ _ _ c.act.ensures.ends (λ e. h (c.status_of.ensures ∙ e))

pub returns-clause-unread : goal.returns-clause-unread
returns-clause-unread g c = λ h. c.act.ensures.unread (is_no_command c.act.result (sym c.status_of.ensures ∙ h))

pub returns-clause-unwritten : goal.returns-clause-unwritten
returns-clause-unwritten g c = λ x y z. c.act.ensures.unwritten (unwritten c.act.result (λ e. x (c.status_of.ensures ∙ e)) (λ e. y (c.status_of.ensures ∙ e)) (λ e. z (c.status_of.ensures ∙ e)))

pub returns-clause-good_request : goal.returns-clause-good_request
returns-clause-good_request g c = λ r t is spells asks le read write. rw c.status_of.ensures (good_request c.act.result _ _ _ _ r t c.act.ensures.ends is spells asks le read write)

pub returns-clause-spells_none : goal.returns-clause-spells_none
returns-clause-spells_none g c = λ r is none asks le read write. rw c.status_of.ensures (spells_none c.act.result _ _ _ _ r c.act.ensures.ends is none asks le read write)

pub returns-clause-text_of_none : goal.returns-clause-text_of_none
returns-clause-text_of_none g c = λ bytes none asks le read. rw c.status_of.ensures (text_of_none c.act.result _ _ _ _ bytes c.act.ensures.ends none asks le read)

pub returns-clause-too_many : goal.returns-clause-too_many
returns-clause-too_many g c = λ bytes asks more read. rw c.status_of.ensures (too_many c.act.result _ _ _ _ bytes c.act.ensures.ends asks more read)
