-- Branches and pieces in memory.
use Rattle.std.proofs.Common.{◌≡◌, refl, sym, ◌∙◌, ap, ℕ, ◌+◌, true, false, List, [], ◌∷◌, ◌++◌}
use Rattle.std.specs.Prelude.{Some, None}
use Rattle.re_tree.specs.declared.tree.TextTree.{TextTree}
use Rattle.re_tree.specs.PlainText.{GroupName, PlainText, PlainTexts, sequence, alternation, done, ◌also◌}
use Rattle.re_tree.specs.TextView.{text_of, texts_of}
use Rattle.re_tree.specs.Tokens.{Opening, conditional_opening}
use Rattle.re_tree.specs.Grammar.{is_countable}
use Rattle.re_tree.specs.Machine.{Frame, state, groups_begun, part_of, closed_state, close_frame, snoc, count_last, regex_of, finish}
use Rattle.re_parse.specs.TokenView.{opening_of}
use Rattle.re_parse.specs.ParserView.{FrameInMemory, ended_of, last_of, frame_of, frames_onto}
use Rattle.re_parse.proofs.PartLemmas.{count_at_last, no_count_at_last}

pub texts_push : (rs : List TextTree) (r : TextTree) → texts_of (rs ++ r ∷ []) ≡ snoc (texts_of rs) (text_of r)
texts_push [] r = refl
texts_push (q ∷ rs) r = ap (λ l. text_of q also l) (texts_push rs r)

-- a count after the last piece
pub counted_push : (f : PlainText → PlainText) (old front new : List TextTree) (r : TextTree) → old ≡ front ++ r ∷ [] → is_countable (text_of r) ≡ true
    → texts_of new ≡ snoc (texts_of front) (f (text_of r)) → Some (texts_of new) ≡ count_last f (texts_of old)
counted_push f old front new r e h k =
    ap Some k ∙ sym (count_at_last f (texts_of front) (text_of r) h) ∙ ap (count_last f) (sym (texts_push front r)) ∙ ap (λ l. count_last f (texts_of l)) (sym e)

pub counted_none : (f : PlainText → PlainText) (old front : List TextTree) (r : TextTree) → old ≡ front ++ r ∷ [] → is_countable (text_of r) ≡ false → None ≡ count_last f (texts_of old)
counted_none f old front r e h =
    sym (no_count_at_last f (texts_of front) (text_of r) h) ∙ ap (count_last f) (sym (texts_push front r)) ∙ ap (λ l. count_last f (texts_of l)) (sym e)

-- with a branch before the last one
pub regex_more : (bs : List TextTree) (ps : PlainTexts) → (bs ≡ [] → ⊥) → alternation (snoc (texts_of bs) (sequence ps)) ≡ regex_of (texts_of bs) ps
regex_more [] ps h = absurd (h refl)
regex_more (b ∷ bs) ps h = refl

-- a conditional with more than two branches
pub more_branches : (id : GroupName) (at : ℕ) (old front : List TextTree) (r : TextTree) (ps : PlainTexts) → old ≡ front ++ r ∷ [] → (front ≡ [] → ⊥)
    → None ≡ part_of (conditional_opening id) at 0 (texts_of old) ps
more_branches id at old [] r ps e h = absurd (h refl)
more_branches id at old (q ∷ []) r ps e h = ap (λ l. part_of (conditional_opening id) at 0 (texts_of l) ps) (sym e)
more_branches id at old (q ∷ p ∷ front) r ps e h = ap (λ l. part_of (conditional_opening id) at 0 (texts_of l) ps) (sym e)

-- a conditional begins no group
pub any_number : (id : GroupName) (at number : ℕ) (bs ps : PlainTexts) → part_of (conditional_opening id) at 0 bs ps ≡ part_of (conditional_opening id) at number bs ps
any_number id at number done ps = refl
any_number id at number (r also done) ps = refl
any_number id at number (r also q also rs) ps = refl

-- what is open in memory, with one more, which is the innermost
pub frames_push : (fs : List FrameInMemory) (f : FrameInMemory) (outer : List Frame) → frames_onto (fs ++ f ∷ []) outer ≡ frame_of f ∷ frames_onto fs outer
frames_push [] f outer = refl
frames_push (g ∷ fs) f outer = frames_push fs f (frame_of g ∷ outer)

-- a closing parenthesis, where the innermost opening is the last in memory
closed : (g : ℕ) (old front : List FrameInMemory) (f : FrameInMemory) (bs ps : PlainTexts) → old ≡ front ++ f ∷ []
    → closed_state g (frames_onto front []) (ended_of f.around) (last_of f.around) (part_of (opening_of f.opening) f.at f.number bs ps) ≡ close_frame g (frames_onto old []) bs ps
closed g old front f bs ps e = sym (ap (λ fs. close_frame g fs bs ps) (ap (λ l. frames_onto l []) e ∙ frames_push front f []))

pub closes : (g : ℕ) (old front : List FrameInMemory) (f : FrameInMemory) (bs ps around before : PlainTexts) (r : PlainText) → old ≡ front ++ f ∷ []
    → Some r ≡ part_of (opening_of f.opening) f.at f.number bs ps → around ≡ ended_of f.around → before ≡ snoc (last_of f.around) r
    → Some (state g (frames_onto front []) around before) ≡ close_frame g (frames_onto old []) bs ps
closes g old front f bs ps around before r e p a b =
    (λ i. Some (state g (frames_onto front []) (a i) (b i)))
    ∙ ap (closed_state g (frames_onto front []) (ended_of f.around) (last_of f.around)) p ∙ closed g old front f bs ps e

pub closes_not : (g : ℕ) (old front : List FrameInMemory) (f : FrameInMemory) (bs ps : PlainTexts) → old ≡ front ++ f ∷ []
    → None ≡ part_of (opening_of f.opening) f.at f.number bs ps → None ≡ close_frame g (frames_onto old []) bs ps
closes_not g old front f bs ps e p =
    ap (closed_state g (frames_onto front []) (ended_of f.around) (last_of f.around)) p ∙ closed g old front f bs ps e

-- an opening
pub opens_frame : (g groups : ℕ) (o : Opening) (old new : List FrameInMemory) (f : FrameInMemory) (here : Frame) (bs ps : PlainTexts) → groups ≡ g + groups_begun o → new ≡ old ++ f ∷ [] → frame_of f ≡ here
    → bs ≡ done → ps ≡ done → Some (state groups (frames_onto new []) bs ps) ≡ Some (state (g + groups_begun o) (here ∷ frames_onto old []) done done)
opens_frame g groups o old new f here bs ps e n h b p =
    ap (λ l. Some (state groups l bs ps)) (ap (λ l. frames_onto l []) n ∙ frames_push old f [])
    ∙ (λ i. Some (state (e i) (h i ∷ frames_onto old []) (b i) (p i)))

-- there is no tree where something is open
none_made : (g : ℕ) (fs : List FrameInMemory) (f : Frame) (outer : List Frame) (bs ps : PlainTexts) → finish (Some (state g (frames_onto fs (f ∷ outer)) bs ps)) ≡ None
none_made g [] f outer bs ps = refl
none_made g (h ∷ fs) f outer bs ps = none_made g fs (frame_of h) (f ∷ outer) bs ps

pub still_open : (g : ℕ) (fs : List FrameInMemory) (bs ps : PlainTexts) → (fs ≡ [] → ⊥) → None ≡ finish (Some (state g (frames_onto fs []) bs ps))
still_open g [] bs ps h = absurd (h refl)
still_open g (f ∷ fs) bs ps h = sym (none_made g fs (frame_of f) [] bs ps)
