use Rattle.std.proofs.Common.{◌≡◌, true}
use Rattle.sre_match.proofs.Spans.{turns}
use Rattle.sre_commands.specs.Commands.Sub.Template.{replacement_of}
use Rattle.sre_commands.proofs.WalkLemmas.{Copied}
use Rattle.sre_commands.proofs.commands.sub.answer.replaced_over.Given as goal

abbrev pub invariant-spans : goal.invariant-spans
invariant-spans g l = record {
  tree : l.walk.search.tree ≡ l.code.tree;
  subject : l.walk.search.subject ≡ l.asked.subject;
  units : l.walk.search.units ≡ l.asked.subject;
  is_text : g.S.TextParts.is_text l.asked.subject;
  fits : g.S.StrDrive.fits l.asked.subject l.from ≡ true;
  copied : Copied (replacement_of l.asked.template) l.asked.subject l.code.tree l.asked.limit l.count l.walk.next_start l.from.place l.bytes.items;
}

abbrev pub decreases-spans : goal.decreases-spans
decreases-spans g l = turns l.asked.subject l.walk.next_start.place l.walk.next_start.advance
