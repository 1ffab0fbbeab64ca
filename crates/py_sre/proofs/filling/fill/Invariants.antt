use Rattle.std.proofs.Common.{◌≡◌, ◌++◌, map, drop}
use Rattle.py_sre.specs.Pieces.{piece_of, replacement_of}
use Rattle.py_sre.specs.Replacing.{fill, fill_pieces}
use Rattle.py_sre.proofs.filling.fill.Given as goal

abbrev pub invariant-loop-piece : goal.invariant-loop-piece
invariant-loop-piece g l = g.B.Built.units l.out ++ fill_pieces (map (piece_of g.B.Built.literal_units) (drop l.piece-index l.pieces)) (g.S.StrDrive.units l.view) (g.B.Built.literal_units l.unset) l.span ≡ g.B.Built.units l.fn.out ++ fill (replacement_of g.B.Built.literal_units l.pieces l.unset) (g.S.StrDrive.units l.view) l.span
