use Rattle.sre_match.specs.Captures.{captures}
use Rattle.std.proofs.Common.{ap, ◌∙◌, length}
use Rattle.std.proofs.lemmas.List.{length-take-le}
use Rattle.sre_match.specs.Machine.{pile, run}
use Rattle.sre_match.proofs.ChoiceLemmas.{rewound_all}
use Rattle.sre_match.proofs.FrameLemmas.{run_cut, down_take}
use Rattle.std.proofs.lemmas.List.Elements.{All-take}
use Rattle.sre_match.specs.Captures.{capture_fits}
use Rattle.sre_match.specs.Fits.{frame_fits}
use Rattle.sre_match.proofs.CaptureLemmas.{captures_take}
use Rattle.sre_match.proofs.matcher.choices.rewind.Goals as goal

pub returns-clause-tried : goal.returns-clause-tried
returns-clause-tried c s xs =
    let t = c.args.trail.now in
    (λ i. pile s (c.truncate-2.ensures.items i) ((ap captures c.truncate.ensures.items ∙ captures_take c.args.marks t.marks.items) i) t.choices.items xs)
    ∙ rewound_all s t.frames.items t.choices.items c.args.marks c.args.frames (captures t.marks.items) xs c.requires.rising c.requires.stacked c.requires.deep

pub returns-clause-stays : goal.returns-clause-stays
returns-clause-stays c s =
    ap (λ gs. run gs c.args.rest s) c.truncate-2.ensures.items ∙ run_cut c.args.trail.now.frames.items c.args.frames c.args.rest s c.requires.reach c.requires.deep

pub returns-clause-count : goal.returns-clause-count
returns-clause-count c = ap length c.truncate-2.ensures.items ∙ length-take-le c.args.frames c.args.trail.now.frames.items c.requires.deep

pub returns-clause-sound : goal.returns-clause-sound
returns-clause-sound c =
    let t = c.args.trail.now in
    record {
      rising = rw (c.truncate.ensures.items, captures_take c.args.marks t.marks.items, length-take-le c.args.marks (captures t.marks.items) c.requires.within) c.requires.rising;
      stacked = rw (c.truncate-2.ensures.items, length-take-le c.args.frames t.frames.items c.requires.deep) c.requires.stacked;
      inside = c.requires.sound.inside;
      down = rw c.truncate-2.ensures.items (down_take 0 c.args.frames t.frames.items c.requires.sound.down);
    }

pub returns-clause-marks : goal.returns-clause-marks
returns-clause-marks c = ap captures c.truncate.ensures.items ∙ captures_take c.args.marks c.args.trail.now.marks.items

pub returns-clause-fit : goal.returns-clause-fit
returns-clause-fit c ok f = record {
  choices = f.choices;
  frames = rw c.truncate-2.ensures.items (All-take (frame_fits ok) c.args.frames c.args.trail.now.frames.items f.frames);
  marks = rw c.truncate.ensures.items (All-take (capture_fits ok) c.args.marks c.args.trail.now.marks.items f.marks);
}
