-- The state of the machine that makes a tree, in memory.
use Rattle.std.specs.Prelude.{List, [], ◌∷◌}
use Rattle.re_tree.specs.PlainText.{PlainTexts}
use Rattle.re_tree.specs.TextView.{texts_of}
use Rattle.re_tree.specs.Machine.{Frame, frame, State, state}
use Rattle.re_parse.specs.TokenView.{opening_of}
use Rattle.re_parse.specs.declared.branches.Branches.{Branches}
use Rattle.re_parse.specs.declared.frame.Frame.{Frame as InMemory}
use Rattle.re_parse.specs.declared.token.Opening.{Opening}
use Rattle.re_parse.specs.declared.parser.Parser.{Parser}

-- the branches that have ended, and the pieces of the last one
abbrev pub ended_of : Branches → PlainTexts
ended_of b = texts_of b.ended.items

abbrev pub last_of : Branches → PlainTexts
last_of b = texts_of b.last.items

abbrev pub FrameInMemory : Type 0
FrameInMemory = InMemory Opening Branches

abbrev pub frame_of : FrameInMemory → Frame
frame_of f = frame f.at (opening_of f.opening) f.number (ended_of f.around) (last_of f.around)

-- the innermost frame is the last in memory, and the first of the state
abbrev pub frames_onto : List FrameInMemory → List Frame → List Frame
frames_onto [] outer = outer
frames_onto (f ∷ fs) outer = frames_onto fs (frame_of f ∷ outer)

abbrev pub state_of : Parser → State
state_of p = state p.groups (frames_onto p.outer.items []) (ended_of p.inside) (last_of p.inside)
