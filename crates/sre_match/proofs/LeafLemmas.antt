-- What one attempt leaves to be tried, and what the parts of a turn mean.
use Rattle.sre_match.specs.Captures.{captures}
use Rattle.std.proofs.Common.{◌≡◌, sym, ap, ◌∙◌, ℕ, ◌+◌, ◌≤◌, Bool, true, false, List, []}
use Rattle.sre_match.specs.declared.matcher.trail.Part.TheVariants.{Skip}
use Rattle.sre_match.specs.declared.matcher.trail.Trail.{Trail}
use Rattle.sre_match.specs.Attempts.{Marks, Next, after}
use Rattle.sre_match.specs.Paths.{attempt}
use Rattle.sre_match.specs.Machine.{part_next, onward, run, to_try, Leaves}
use Rattle.sre_match.proofs.AfterLemmas.{IsTotal}
use Rattle.sre_match.proofs.ChoiceLemmas.{pile_fail}
use Rattle.sre_match.proofs.FrameLemmas.{skip_is}
use Rattle.sre_match.proofs.LessLemmas.{leaves_is, leaves_then, leaves_charge, leaves_failed}
use Rattle.sre_match.proofs.TurnLemmas.{to_try_charge, passed_on, run_full}

-- an attempt that passes
pub leaf_go : (s : List ℕ) (t : Trail) (b : Bool) (c e old new : ℕ) (m : Marks) (f : Next) → IsTotal f → b ≡ true → new ≤ old + c
    → Leaves old new (to_try s t (after (attempt b c e m) f)) (to_try s t (f e m))
leaf_go s t b c e old new m f k h l =
    let more = to_try_charge s t c (f e m) (k e m) in
    leaves_charge old new c _ _ l more.1 (ap (λ x. to_try s t (after (attempt x c e m) f)) h ∙ ap (to_try s t) (passed_on c e m f) ∙ more.0)

-- one that fails
pub leaf_fail : (s : List ℕ) (t : Trail) (b : Bool) (c e old new : ℕ) (m : Marks) (f : Next) → b ≡ false → new ≤ old + c
    → Leaves old new (to_try s t (after (attempt b c e m) f)) (to_try s t [])
leaf_fail s t b c e old new m f h l =
    leaves_failed old new c _ _ l (ap (λ x. to_try s t (after (attempt x c e m) f)) h ∙ pile_fail s t.frames.items (captures t.marks.items) t.choices.items c [])

-- what follows, with nothing before it
pub skip_on : (s : List ℕ) (t : Trail) (n i e : ℕ) (m : Marks) → Leaves n n (to_try s t (run t.frames.items i s e m)) (to_try s t (onward t.frames.items (part_next Skip s) i s e m))
skip_on s t n i e m = leaves_is n _ _ (ap (λ (f : Next). to_try s t (f e m)) (sym (skip_is t.frames.items i s)))

-- an attempt that passes, and then what follows
pub leaf_skip : (s : List ℕ) (t : Trail) (b : Bool) (c i e old new : ℕ) (m : Marks) → b ≡ true → new ≤ old + c
    → Leaves old new (to_try s t (after (attempt b c e m) (run t.frames.items i s))) (to_try s t (onward t.frames.items (part_next Skip s) i s e m))
leaf_skip s t b c i e old new m h l =
    leaves_then old new new _ _ _ (leaf_go s t b c e old new m (run t.frames.items i s) (run_full t.frames.items i s) h l) (skip_on s t new i e m)
