-- What the frames mean.
use Rattle.std.proofs.Common.{◌≡◌, refl, sym, ap, subst, ◌∙◌, ℕ, zero, suc, ◌+◌, ◌-◌, ◌<◌, ◌≤◌, List, [], ◌∷◌, ◌++◌, take, drop, length, arith, length-append, get_or}
use Rattle.std.proofs.lemmas.List.{length-take-le}
use Rattle.sre_match.specs.declared.matcher.trail.Frame.{Frame}
use Rattle.sre_match.specs.declared.matcher.trail.Part.TheVariants.{Skip}
use Rattle.sre_match.specs.Attempts.{Marks, Next, stay, after}
use Rattle.sre_match.specs.Machine.{part_next, task_next, Down, Frames, following, built, run, onward}
use Rattle.sre_match.proofs.AfterLemmas.{stay_after, after_stay}

following_grow : (xs ys : List Next) (i : ℕ) → i < length xs → following (xs ++ ys) i ≡ following xs i
following_grow [] ys i h = let f : ⊥ = omega (arith, h) in absurd f
following_grow (x ∷ xs) ys zero h = refl
following_grow (x ∷ xs) ys (suc i) h = following_grow xs ys i (omega (arith, h))

following_last : (xs : List Next) (f : Next) (i : ℕ) → i ≡ length xs → following (xs ++ f ∷ []) i ≡ f
following_last [] f zero h = refl
following_last [] f (suc i) h = let g : ⊥ = omega (arith, h) in absurd g
following_last (x ∷ xs) f zero h = let g : ⊥ = omega (arith, h) in absurd g
following_last (x ∷ xs) f (suc i) h = following_last xs f i (omega (arith, h))

built_append : (s : List ℕ) (done : List Next) (fs gs : Frames) → built s done (fs ++ gs) ≡ built s (built s done fs) gs
built_append s done [] gs = refl
built_append s done (f ∷ fs) gs = built_append s (done ++ (λ p m. after (task_next f.task s p m) (following done f.rest)) ∷ []) fs gs

built_length : (s : List ℕ) (done : List Next) (fs : Frames) → length (built s done fs) ≡ length done + length fs
built_length s done [] = omega arith
built_length s done (f ∷ fs) =
    let g : Next = λ p m. after (task_next f.task s p m) (following done f.rest) in
    omega (arith, built_length s (done ++ g ∷ []) fs, length-append done (g ∷ []))

built_keeps : (s : List ℕ) (done : List Next) (fs : Frames) (i : ℕ) → i < length done → following (built s done fs) i ≡ following done i
built_keeps s done [] i h = refl
built_keeps s done (f ∷ fs) i h =
    let g : Next = λ p m. after (task_next f.task s p m) (following done f.rest) in
    built_keeps s (done ++ g ∷ []) fs i (omega (arith, h, length-append done (g ∷ []))) ∙ following_grow done (g ∷ []) i h

pub run_grow : (fs gs : Frames) (i : ℕ) (s : List ℕ) → i ≤ length fs → run (fs ++ gs) i s ≡ run fs i s
run_grow fs gs i s h =
    ap (λ xs. following xs i) (built_append s (stay ∷ []) fs gs) ∙ built_keeps s (built s (stay ∷ []) fs) gs i (omega (arith, h, built_length s (stay ∷ []) fs))

take_drop : {X : Type 0} (n : ℕ) (xs : List X) → take n xs ++ drop n xs ≡ xs
take_drop zero xs = refl
take_drop (suc n) [] = refl
take_drop (suc n) (x ∷ xs) = ap (λ ys. x ∷ ys) (take_drop n xs)

pub run_cut : (fs : Frames) (n i : ℕ) (s : List ℕ) → i ≤ n → n ≤ length fs → run (take n fs) i s ≡ run fs i s
run_cut fs n i s h k =
    sym (run_grow (take n fs) (drop n fs) i s (omega (arith, h, length-take-le n fs k))) ∙ ap (λ gs. run gs i s) (take_drop n fs)

pub onward_grow : (fs gs : Frames) (f : Next) (i : ℕ) (s : List ℕ) → i ≤ length fs → onward (fs ++ gs) f i s ≡ onward fs f i s
onward_grow fs gs f i s h = λ j p m. after (f p m) (run_grow fs gs i s h j)

pub onward_cut : (fs : Frames) (n : ℕ) (f : Next) (i : ℕ) (s : List ℕ) → i ≤ n → n ≤ length fs → onward (take n fs) f i s ≡ onward fs f i s
onward_cut fs n f i s h k = λ j p m. after (f p m) (run_cut fs n i s h k j)

-- a new frame
pub run_new : (fs : Frames) (f : Frame) (i : ℕ) (s : List ℕ) → i ≡ length fs + 1 → run (fs ++ f ∷ []) i s ≡ onward fs (task_next f.task s) f.rest s
run_new fs f i s h =
    let g : Next = onward fs (task_next f.task s) f.rest s in
    ap (λ xs. following xs i) (built_append s (stay ∷ []) fs (f ∷ [])) ∙ following_last (built s (stay ∷ []) fs) g i (omega (arith, h, built_length s (stay ∷ []) fs))

pub run_put : (fs gs : Frames) (f : Frame) (i : ℕ) (s : List ℕ) → gs ≡ fs ++ f ∷ [] → i ≡ length fs + 1 → run gs i s ≡ onward fs (task_next f.task s) f.rest s
run_put fs gs f i s e h = ap (λ hs. run hs i s) e ∙ run_new fs f i s h

pub run_stays : (fs gs : Frames) (f : Frame) (i : ℕ) (s : List ℕ) → gs ≡ fs ++ f ∷ [] → i ≤ length fs → run gs i s ≡ run fs i s
run_stays fs gs f i s e h = ap (λ hs. run hs i s) e ∙ run_grow fs (f ∷ []) i s h

split_at : (fs : Frames) (i : ℕ) (f : Frame) → i < length fs → f ≡ get_or fs i f → fs ≡ (take i fs ++ f ∷ []) ++ drop (suc i) fs
split_at [] i f h e = let g : ⊥ = omega (arith, h) in absurd g
split_at (x ∷ xs) zero f h e = ap (λ y. y ∷ xs) (sym e)
split_at (x ∷ xs) (suc i) f h e = ap (λ ys. x ∷ ys) (split_at xs i f (omega (arith, h)) e)

-- the frame of a number
pub run_get : (fs : Frames) (i : ℕ) (f : Frame) (s : List ℕ) → 0 < i → i - 1 < length fs → f ≡ get_or fs (i - 1) f → f.rest ≤ i - 1 → run fs i s ≡ onward fs (task_next f.task s) f.rest s
run_get fs i f s z h e k =
    let b = take (i - 1) fs in
    let l : length b ≡ i - 1 = length-take-le (i - 1) fs (omega (arith, h)) in
    ap (λ gs. run gs i s) (split_at fs (i - 1) f h e)
    ∙ run_grow (b ++ f ∷ []) (drop (suc (i - 1)) fs) i s (omega (arith, z, l, length-append b (f ∷ [])))
    ∙ run_new b f i s (omega (arith, z, l))
    ∙ onward_cut fs (i - 1) (task_next f.task s) f.rest s k (omega (arith, h))

-- nothing to do before what follows
pub skip_is : (fs : Frames) (i : ℕ) (s : List ℕ) → onward fs (part_next Skip s) i s ≡ run fs i s
skip_is fs i s = λ j p m. stay_after p m (run fs i s) j

-- nothing follows
run_end : (fs : Frames) (s : List ℕ) → run fs 0 s ≡ stay
run_end fs s = built_keeps s (stay ∷ []) fs 0 (omega arith)

pub end_is : (fs : Frames) (f : Next) (s : List ℕ) (p : ℕ) (m : Marks) → onward fs f 0 s p m ≡ f p m
end_is fs f s p m = ap (λ (g : Next). after (f p m) g) (run_end fs s) ∙ after_stay (f p m)

pub run_zero : (fs : Frames) (i : ℕ) (s : List ℕ) → i ≡ 0 → run fs i s ≡ stay
run_zero fs i s e = ap (λ j. run fs j s) e ∙ run_end fs s

-- what follows a frame is below it
pub down_get : (n : ℕ) (fs : Frames) (i : ℕ) (f : Frame) → Down n fs → i < length fs → f ≡ get_or fs i f → f.rest ≤ n + i
down_get n [] i f d h e = let g : ⊥ = omega (arith, h) in absurd g
down_get n (x ∷ fs) zero f d h e = omega (arith, d.0, ap (λ (y : Frame). y.rest) e)
down_get n (x ∷ fs) (suc i) f d h e = omega (arith, down_get (n + 1) fs i f d.1 (omega (arith, h)) e)

down_new : (n : ℕ) (fs : Frames) (f : Frame) → Down n fs → f.rest ≤ n + length fs → Down n (fs ++ f ∷ [])
down_new n [] f d h = (omega (arith, h), tt)
down_new n (x ∷ fs) f d h = (d.0, down_new (n + 1) fs f d.1 (omega (arith, h)))

pub down_put : (fs gs : Frames) (f : Frame) → gs ≡ fs ++ f ∷ [] → Down 0 fs → f.rest ≤ length fs → Down 0 gs
down_put fs gs f e d h = subst (Down 0) (sym e) (down_new 0 fs f d (omega (arith, h)))

pub down_take : (n k : ℕ) (fs : Frames) → Down n fs → Down n (take k fs)
down_take n zero fs d = tt
down_take n (suc k) [] d = tt
down_take n (suc k) (f ∷ fs) d = (d.0, down_take (n + 1) k fs d.1)
