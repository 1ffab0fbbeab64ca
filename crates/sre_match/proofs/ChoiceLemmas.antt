-- The choices' numbers of marks, and what they mean.
use Rattle.std.proofs.Common.{◌≡◌, refl, sym, ap, subst, ◌∙◌, ℕ, zero, suc, ◌+◌, ◌-◌, ◌<◌, ◌≤◌, List, [], ◌∷◌, ◌++◌, take, length, arith, length-append}
use Rattle.std.specs.Prelude.{Ok, Err, Result, OnOk, slice_index_or}
use Rattle.std.proofs.lemmas.List.{take-append-le}
use Rattle.std.proofs.Math.Seq.{take-length}
use Rattle.sre_match.specs.declared.matcher.trail.ChoiceKind.{ChoiceKind}
use Rattle.sre_match.specs.declared.matcher.trail.ChoiceKind.TheVariants.{Try, Atomic, Ahead, Not}
use Rattle.sre_match.specs.declared.matcher.trail.Choice.{Choice}
use Rattle.sre_match.specs.Attempts.{Attempt, failed, passed, Marks, Next, charge, after, cut, back_to, negated}
use Rattle.sre_match.specs.Machine.{part_next, onward, Frames, wrap, pile, Rising, Stacked, levels, level_of}
use Rattle.sre_match.proofs.FrameLemmas.{onward_grow, onward_cut}
use Rattle.sre_match.proofs.AfterLemmas.{IsFull, IsTotal, charge_append, append_full, after-charge, after_full, stay_after}

take_take : {X : Type 0} (k n : ℕ) (xs : List X) → k ≤ n → take k (take n xs) ≡ take k xs
take_take zero n xs h = refl
take_take (suc k) zero xs h = let f : ⊥ = omega arith in absurd f
take_take (suc k) (suc n) [] h = refl
take_take (suc k) (suc n) (x ∷ xs) h = ap (λ ys. x ∷ ys) (take_take k n xs (omega arith))

pub rising_weak : (low : ℕ) (cs : List Choice) (high more : ℕ) → Rising low cs high → high ≤ more → Rising low cs more
rising_weak low [] high more r h = omega arith
rising_weak low (c ∷ cs) high more r h = (r.0, rising_weak c.marks cs high more r.1 h)

pub rising_below : (low : ℕ) (cs : List Choice) (high : ℕ) → Rising low cs high → low ≤ high
rising_below low [] high r = r
rising_below low (c ∷ cs) high r = omega (arith, r.0, rising_below c.marks cs high r.1)

pub rising_grow : (low : ℕ) (cs : List Choice) (m x : Marks) → Rising low cs (length m) → Rising low cs (length (m ++ x))
rising_grow low cs m x r = rising_weak low cs (length m) (length (m ++ x)) r (omega (arith, length-append m x))

pub pile_grow : (s : List ℕ) (fs : Frames) (low : ℕ) (cs : List Choice) (m x : Marks) (xs : List Attempt) → Rising low cs (length m) → pile s fs (m ++ x) cs xs ≡ pile s fs m cs xs
pile_grow s fs low [] m x xs r = refl
pile_grow s fs low (c ∷ cs) m x xs r =
    λ i. wrap c.kind (onward fs (part_next c.part s) c.rest s) c.cursor.place (take-append-le c.marks m x (rising_below c.marks cs (length m) r.1) i) (pile_grow s fs c.marks cs m x xs r.1 i)

pub pile_cut : (s : List ℕ) (fs : Frames) (low : ℕ) (cs : List Choice) (n : ℕ) (m : Marks) (xs : List Attempt) → Rising low cs n → pile s fs (take n m) cs xs ≡ pile s fs m cs xs
pile_cut s fs low [] n m xs r = refl
pile_cut s fs low (c ∷ cs) n m xs r =
    λ i. wrap c.kind (onward fs (part_next c.part s) c.rest s) c.cursor.place (take_take c.marks n m (rising_below c.marks cs n r.1) i) (pile_cut s fs c.marks cs n m xs r.1 i)

pub rising_push : (low : ℕ) (cs : List Choice) (c : Choice) (high : ℕ) → Rising low cs high → c.marks ≡ high → Rising low (cs ++ c ∷ []) high
rising_push low [] c high r e = (omega (arith, r, e), omega (arith, e))
rising_push low (d ∷ cs) c high r e = (r.0, rising_push d.marks cs c high r.1 e)

pub rising_pop : (low : ℕ) (cs : List Choice) (c : Choice) (high : ℕ) → Rising low (cs ++ c ∷ []) high → Rising low cs c.marks × (c.marks ≤ high)
rising_pop low [] c high r = (r.0, r.1)
rising_pop low (d ∷ cs) c high r = let h = rising_pop d.marks cs c high r.1 in ((r.0, h.0), h.1)

pub pile_last : (s : List ℕ) (fs : Frames) (m : Marks) (cs : List Choice) (c : Choice) (xs : List Attempt) → pile s fs m (cs ++ c ∷ []) xs ≡ pile s fs m cs (wrap c.kind (onward fs (part_next c.part s) c.rest s) c.cursor.place (take c.marks m) xs)
pile_last s fs m [] c xs = refl
pile_last s fs m (d ∷ cs) c xs = ap (wrap d.kind (onward fs (part_next d.part s) d.rest s) d.cursor.place (take d.marks m)) (pile_last s fs m cs c xs)

pub level_most : (k : ChoiceKind) → level_of k ≤ 1
level_most Try = omega arith
level_most Atomic = omega arith
level_most Ahead = omega arith
level_most Not = omega arith

pub levels_most : (cs : List Choice) → levels cs ≤ length cs
levels_most [] = omega arith
levels_most (d ∷ cs) = omega (arith, level_most d.kind, levels_most cs)

pub levels_last : (cs : List Choice) (c : Choice) → levels (cs ++ c ∷ []) ≡ levels cs + level_of c.kind
levels_last [] c = omega arith
levels_last (d ∷ cs) c = omega (arith, levels_last cs c)

-- in the form that a push and a pop meet
pub pile_keep : (s : List ℕ) (fs : Frames) (m : Marks) (cs ds : List Choice) (c : Choice) (xs : List Attempt) → ds ≡ cs ++ c ∷ [] → c.marks ≡ length m → pile s fs m ds xs ≡ pile s fs m cs (wrap c.kind (onward fs (part_next c.part s) c.rest s) c.cursor.place m xs)
pile_keep s fs m cs ds c xs h e =
    ap (λ es. pile s fs m es xs) h ∙ pile_last s fs m cs c xs
    ∙ ap (λ l. pile s fs m cs (wrap c.kind (onward fs (part_next c.part s) c.rest s) c.cursor.place l xs)) (ap (λ n. take n m) e ∙ take-length m)

pub rising_keep : (low : ℕ) (cs ds : List Choice) (c : Choice) (high : ℕ) → Rising low cs high → ds ≡ cs ++ c ∷ [] → c.marks ≡ high → Rising low ds high
rising_keep low cs ds c high r h e = let P : List Choice → Type 0 = λ xs. Rising low xs high in subst P (sym h) (rising_push low cs c high r e)

pub rising_at : (low : ℕ) (ds cs : List Choice) (c : Choice) (high : ℕ) → ds ≡ cs ++ c ∷ [] → Rising low ds high → Rising low cs c.marks × (c.marks ≤ high)
rising_at low ds cs c high e r = let P : List Choice → Type 0 = λ xs. Rising low xs high in rising_pop low cs c high (subst P e r)

-- it is taken away, and the marks stay
pub rising_drop : (m : Marks) (ds cs : List Choice) (c : Choice) → ds ≡ cs ++ c ∷ [] → Rising 0 ds (length m) → Rising 0 cs (length m)
rising_drop m ds cs c e r = let h = rising_at 0 ds cs c (length m) e r in rising_weak 0 cs c.marks (length m) h.0 h.1

pub pile_drop : (s : List ℕ) (fs : Frames) (m : Marks) (ds cs : List Choice) (c : Choice) (xs : List Attempt) → ds ≡ cs ++ c ∷ []
    → pile s fs m ds xs ≡ pile s fs m cs (wrap c.kind (onward fs (part_next c.part s) c.rest s) c.cursor.place (take c.marks m) xs)
pile_drop s fs m ds cs c xs e = ap (λ es. pile s fs m es xs) e ∙ pile_last s fs m cs c xs

pub levels_back : (ds cs : List Choice) (c : Choice) → ds ≡ cs ++ c ∷ [] → levels ds ≡ levels cs + level_of c.kind
levels_back ds cs c e = ap levels e ∙ levels_last cs c

pub on_ok : {T E P Q : Type 0} (r : Result T E) → (P → Q) → OnOk r P → OnOk r Q
on_ok (Ok x) f h = f h
on_ok (Err e) f h = h

-- cuts and costs
pub cut_charge : (c : ℕ) (xs : List Attempt) → cut (charge c xs) ≡ charge c (cut xs)
cut_charge c [] = refl
cut_charge c (failed d ∷ xs) = refl
cut_charge c (passed d e m ∷ xs) = refl

pub cut_full : (xs : List Attempt) → IsFull xs → IsFull (cut xs)
cut_full [] h = h
cut_full (failed c ∷ xs) h = tt
cut_full (passed c e m ∷ xs) h = tt

back_charge : (c p : ℕ) (xs : List Attempt) → back_to p (charge c xs) ≡ charge c (back_to p xs)
back_charge c p [] = refl
back_charge c p (failed d ∷ xs) = refl
back_charge c p (passed d e m ∷ xs) = refl

back_full : (p : ℕ) (xs : List Attempt) → IsFull xs → IsFull (back_to p xs)
back_full p [] h = h
back_full p (failed c ∷ xs) h = tt
back_full p (passed c e m ∷ xs) h = tt

negated_charge : (c p : ℕ) (m : Marks) (xs : List Attempt) → IsFull xs → negated p m (charge c xs) ≡ charge c (negated p m xs)
negated_charge c p m [] h = absurd h
negated_charge c p m (failed d ∷ xs) h = refl
negated_charge c p m (passed d e n ∷ xs) h = refl

negated_full : (p : ℕ) (m : Marks) (xs : List Attempt) → IsFull (negated p m xs)
negated_full p m [] = tt
negated_full p m (failed c ∷ xs) = tt
negated_full p m (passed c e n ∷ xs) = tt

wrap_charge : (k : ChoiceKind) (f : Next) (p : ℕ) (m : Marks) (c : ℕ) (xs : List Attempt) → IsTotal f → IsFull xs → wrap k f p m (charge c xs) ≡ charge c (wrap k f p m xs)
wrap_charge Try f p m c xs t h = sym (charge_append c xs (f p m) h)
wrap_charge Atomic f p m c xs t h = ap (λ l. after l f) (cut_charge c xs) ∙ after-charge c (cut xs) f t
wrap_charge Ahead f p m c xs t h =
    ap (λ l. after (back_to p l) f) (cut_charge c xs) ∙ ap (λ l. after l f) (back_charge c p (cut xs)) ∙ after-charge c (back_to p (cut xs)) f t
wrap_charge Not f p m c xs t h =
    ap (λ l. after (negated p m l) f) (cut_charge c xs) ∙ ap (λ l. after l f) (negated_charge c p m (cut xs) (cut_full xs h)) ∙ after-charge c (negated p m (cut xs)) f t

wrap_full : (k : ChoiceKind) (f : Next) (p : ℕ) (m : Marks) (xs : List Attempt) → IsTotal f → IsFull xs → IsFull (wrap k f p m xs)
wrap_full Try f p m xs t h = append_full xs (f p m) h
wrap_full Atomic f p m xs t h = after_full (cut xs) f (cut_full xs h) t
wrap_full Ahead f p m xs t h = after_full (back_to p (cut xs)) f (back_full p (cut xs) (cut_full xs h)) t
wrap_full Not f p m xs t h = after_full (negated p m (cut xs)) f (negated_full p m (cut xs)) t

wrap_fail : (k : ChoiceKind) (f : Next) (p : ℕ) (m : Marks) (c : ℕ) (xs : List Attempt) → wrap k f p m (failed c ∷ xs) ≡ failed c ∷ wrap k f p m xs
wrap_fail Try f p m c xs = refl
wrap_fail Atomic f p m c xs = refl
wrap_fail Ahead f p m c xs = refl
wrap_fail Not f p m c xs = refl

-- a failure comes out through all choices
pub pile_fail : (s : List ℕ) (fs : Frames) (m : Marks) (cs : List Choice) (c : ℕ) (xs : List Attempt) → pile s fs m cs (failed c ∷ xs) ≡ failed c ∷ pile s fs m cs xs
pile_fail s fs m [] c xs = refl
pile_fail s fs m (d ∷ cs) c xs =
    ap (wrap d.kind (onward fs (part_next d.part s) d.rest s) d.cursor.place (take d.marks m)) (pile_fail s fs m cs c xs) ∙ wrap_fail d.kind (onward fs (part_next d.part s) d.rest s) d.cursor.place (take d.marks m) c (pile s fs m cs xs)

-- and a cost, where there is an attempt
pub pile_charge : (s : List ℕ) (fs : Frames) (m : Marks) (cs : List Choice) (c : ℕ) (xs : List Attempt) → IsFull xs → ((d : Choice) → IsTotal (onward fs (part_next d.part s) d.rest s))
    → (pile s fs m cs (charge c xs) ≡ charge c (pile s fs m cs xs)) × IsFull (pile s fs m cs xs)
pile_charge s fs m [] c xs h t = (refl, h)
pile_charge s fs m (d ∷ cs) c xs h t =
    let more = pile_charge s fs m cs c xs h t in (
      ap (wrap d.kind (onward fs (part_next d.part s) d.rest s) d.cursor.place (take d.marks m)) more.0 ∙ wrap_charge d.kind (onward fs (part_next d.part s) d.rest s) d.cursor.place (take d.marks m) c (pile s fs m cs xs) (t d) more.1,
      wrap_full d.kind (onward fs (part_next d.part s) d.rest s) d.cursor.place (take d.marks m) (pile s fs m cs xs) (t d) more.1,
    )

-- outside all cuts so does a match
wrap_pass : (k : ChoiceKind) (f : Next) (q : ℕ) (n : Marks) (p : ℕ) (m : Marks) (xs : List Attempt) → level_of k ≡ 0 → wrap k f q n (passed 0 p m ∷ xs) ≡ passed 0 p m ∷ wrap k f q n xs
wrap_pass Try f q n p m xs h = refl
wrap_pass Atomic f q n p m xs h = let g : ⊥ = omega (arith, h) in absurd g
wrap_pass Ahead f q n p m xs h = let g : ⊥ = omega (arith, h) in absurd g
wrap_pass Not f q n p m xs h = let g : ⊥ = omega (arith, h) in absurd g

pub pile_pass : (s : List ℕ) (fs : Frames) (l : Marks) (cs : List Choice) (p : ℕ) (m : Marks) (xs : List Attempt) → levels cs ≡ 0 → pile s fs l cs (passed 0 p m ∷ xs) ≡ passed 0 p m ∷ pile s fs l cs xs
pile_pass s fs l [] p m xs h = refl
pile_pass s fs l (c ∷ cs) p m xs h =
    ap (wrap c.kind (onward fs (part_next c.part s) c.rest s) c.cursor.place (take c.marks l)) (pile_pass s fs l cs p m xs (omega (arith, h)))
    ∙ wrap_pass c.kind (onward fs (part_next c.part s) c.rest s) c.cursor.place (take c.marks l) p m (pile s fs l cs xs) (omega (arith, h))

-- a choice that goes back to marks within
pub rewound : (s : List ℕ) (fs : Frames) (cs : List Choice) (n : ℕ) (m : Marks) (xs : List Attempt) → Rising 0 cs n → pile s fs (take n m) cs xs ≡ pile s fs m cs xs
rewound s fs cs n m xs r = pile_cut s fs 0 cs n m xs r

-- a part is left where its match is the first
pub left_cut : (f : Next) (p : ℕ) (m : Marks) (xs : List Attempt) → after (cut (passed 0 p m ∷ xs)) f ≡ f p m
left_cut f p m xs = stay_after p m f

pub left_ahead : (f : Next) (q p : ℕ) (m : Marks) (xs : List Attempt) → after (back_to q (cut (passed 0 p m ∷ xs))) f ≡ f q m
left_ahead f q p m xs = stay_after q m f

-- the choices' numbers of frames
pub stacked_weak : (low : ℕ) (cs : List Choice) (high more : ℕ) → Stacked low cs high → high ≤ more → Stacked low cs more
stacked_weak low [] high more r h = omega arith
stacked_weak low (c ∷ cs) high more r h = (r.0, r.1, stacked_weak c.frames cs high more r.2 h)

pub stacked_below : (low : ℕ) (cs : List Choice) (high : ℕ) → Stacked low cs high → low ≤ high
stacked_below low [] high r = r
stacked_below low (c ∷ cs) high r = omega (arith, r.0, stacked_below c.frames cs high r.2)

stacked_push : (low : ℕ) (cs : List Choice) (c : Choice) (high : ℕ) → Stacked low cs high → c.frames ≡ high → c.rest ≤ high → Stacked low (cs ++ c ∷ []) high
stacked_push low [] c high r e k = (omega (arith, r, e), omega (arith, e, k), omega (arith, e))
stacked_push low (d ∷ cs) c high r e k = (r.0, r.1, stacked_push d.frames cs c high r.2 e k)

stacked_pop : (low : ℕ) (cs : List Choice) (c : Choice) (high : ℕ) → Stacked low (cs ++ c ∷ []) high → Stacked low cs c.frames × (c.rest ≤ c.frames) × (c.frames ≤ high)
stacked_pop low [] c high r = (r.0, r.1, r.2)
stacked_pop low (d ∷ cs) c high r = let h = stacked_pop d.frames cs c high r.2 in ((r.0, r.1, h.0), h.1, h.2)

pub stacked_keep : (low : ℕ) (cs ds : List Choice) (c : Choice) (high : ℕ) → Stacked low cs high → ds ≡ cs ++ c ∷ [] → c.frames ≡ high → c.rest ≤ high → Stacked low ds high
stacked_keep low cs ds c high r h e k = let P : List Choice → Type 0 = λ xs. Stacked low xs high in subst P (sym h) (stacked_push low cs c high r e k)

pub stacked_at : (low : ℕ) (ds cs : List Choice) (c : Choice) (high : ℕ) → ds ≡ cs ++ c ∷ [] → Stacked low ds high → Stacked low cs c.frames × (c.rest ≤ c.frames) × (c.frames ≤ high)
stacked_at low ds cs c high e r = let P : List Choice → Type 0 = λ xs. Stacked low xs high in stacked_pop low cs c high (subst P e r)

pub stacked_drop : (fs : Frames) (ds cs : List Choice) (c : Choice) → ds ≡ cs ++ c ∷ [] → Stacked 0 ds (length fs) → Stacked 0 cs (length fs)
stacked_drop fs ds cs c e r = let h = stacked_at 0 ds cs c (length fs) e r in stacked_weak 0 cs c.frames (length fs) h.0 h.2

pub pile_frames_grow : (s : List ℕ) (fs gs : Frames) (low : ℕ) (cs : List Choice) (m : Marks) (xs : List Attempt) → Stacked low cs (length fs) → pile s (fs ++ gs) m cs xs ≡ pile s fs m cs xs
pile_frames_grow s fs gs low [] m xs r = refl
pile_frames_grow s fs gs low (c ∷ cs) m xs r =
    λ i. wrap c.kind (onward_grow fs gs (part_next c.part s) c.rest s (omega (arith, r.1, stacked_below c.frames cs (length fs) r.2)) i) c.cursor.place (take c.marks m) (pile_frames_grow s fs gs c.frames cs m xs r.2 i)

pub pile_frames_cut : (s : List ℕ) (fs : Frames) (n low : ℕ) (cs : List Choice) (m : Marks) (xs : List Attempt) → Stacked low cs n → n ≤ length fs → pile s (take n fs) m cs xs ≡ pile s fs m cs xs
pile_frames_cut s fs n low [] m xs r h = refl
pile_frames_cut s fs n low (c ∷ cs) m xs r h =
    λ i. wrap c.kind (onward_cut fs n (part_next c.part s) c.rest s (omega (arith, r.1, stacked_below c.frames cs n r.2)) h i) c.cursor.place (take c.marks m) (pile_frames_cut s fs n c.frames cs m xs r.2 h i)

-- both go back
pub rewound_all : (s : List ℕ) (fs : Frames) (cs : List Choice) (n k : ℕ) (m : Marks) (xs : List Attempt) → Rising 0 cs n → Stacked 0 cs k → k ≤ length fs → pile s (take k fs) (take n m) cs xs ≡ pile s fs m cs xs
rewound_all s fs cs n k m xs r t h = pile_frames_cut s fs k 0 cs (take n m) xs t h ∙ rewound s fs cs n m xs r

-- the frames may end where the newest choice's do
pub stacked_last : (low : ℕ) (cs : List Choice) (high n : ℕ) (d : Choice) → Stacked low cs high → 0 < length cs → d ≡ slice_index_or cs (length cs - 1) d → d.frames ≤ n → Stacked low cs n
stacked_last low [] high n d r z e h = let f : ⊥ = omega (arith, z) in absurd f
stacked_last low (c ∷ []) high n d r z e h = (r.0, r.1, omega (arith, h, ap (λ (x : Choice). x.frames) e))
stacked_last low (c ∷ b ∷ cs) high n d r z e h =
    let k : length (c ∷ b ∷ cs) - 1 ≡ suc (length (b ∷ cs) - 1) = omega arith in
    (r.0, r.1, stacked_last c.frames (b ∷ cs) high n d r.2 (omega arith) (e ∙ ap (λ i. slice_index_or (c ∷ b ∷ cs) i d) k) h)
