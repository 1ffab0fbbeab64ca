use Rattle.std.proofs.Common.{sym, subst, ◌-◌, ◌<◌, length, arith}
use Rattle.sre_match.proofs.FrameLemmas.{run_get, down_get}
use Rattle.sre_match.specs.Fits.{frame_fits}
use Rattle.sre_match.proofs.matcher.frames.frame_in.Goals as goal

pub returns-clause-run : goal.returns-clause-run
returns-clause-run c s =
    let f = c.index-frames-rest.result in
    let i = c.args.rest - 1 in
    let within : i < length c.args.frames.now = omega (arith, c.requires.some, c.requires.deep) in
    run_get c.args.frames.now c.args.rest f s c.requires.some within c.index-frames-rest.is (omega (arith, down_get 0 c.args.frames.now i f c.requires.down within c.index-frames-rest.is))

pub returns-clause-below : goal.returns-clause-below
returns-clause-below c =
    let f = c.index-frames-rest.result in
    let i = c.args.rest - 1 in
    let within : i < length c.args.frames.now = omega (arith, c.requires.some, c.requires.deep) in
    omega (arith, within, down_get 0 c.args.frames.now i f c.requires.down within c.index-frames-rest.is)

pub returns-clause-fit : goal.returns-clause-fit
returns-clause-fit c ok h =
    let within : c.args.rest - 1 < length c.args.frames.now = omega (arith, c.requires.some, c.requires.deep) in
    subst (frame_fits ok) (sym c.index-frames-rest.is) (h (c.args.rest - 1) c.index-frames-rest.result within)
