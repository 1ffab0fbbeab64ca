-- The number of optional times that a text's count and its tree's repeat are gone on with.
use Rattle.std.proofs.Common.{◌≡◌, sym, ◌∙◌, ap, ℕ, ◌+◌, ◌-◌, ◌≤◌, ◌<◌, ◌⊎◌, inl, inr, Bool, true, false, arith}
use Rattle.std.specs.Prelude.{Option, Some, None, min}
use Rattle.std.proofs.lemmas.Bool.{ne_eqb, cases_lt}
use Rattle.sre_match.specs.Attempts.{Next, Marks}
use Rattle.sre_match.specs.Repeats.{repeat_paths, room_in}
use Rattle.sre_match.proofs.RoomLemmas.{Inside, cap_is_enough}
use Rattle.re_text.specs.Outcomes.{optional_count}
use Rattle.re_text.specs.Trees.{greatest}
use Rattle.re_text.specs.Fits.{count_fits}

room_below : (n least most : ℕ) → most < 4294967295 → room_in n least most ≡ min (most - least) (n + 2)
room_below n least most h =
    ap (λ (b : Bool). elim b as (λ _. ℕ) [ true ↦ n + 2 | false ↦ min (most - least) (n + 2) ]) (ne_eqb most 4294967295 (λ e. omega (arith, e, h)))

-- both are alike, or more than the subject has places
enough : (body : Next) (greedy : Bool) (l n : ℕ) (least : ℕ) (most : Option ℕ) → Inside l body → count_fits least most → l + 2 ≤ n
    → (p : ℕ) (m : Marks) → p ≤ l
    → repeat_paths body greedy least (room_in l least (greatest most)) p m ≡ repeat_paths body greedy least (optional_count n least most) p m
enough body greedy l n least None inside fits h p m within = sym (cap_is_enough body greedy l inside least n p m within h)
enough body greedy l n least (Some most) inside fits h p m within =
    ap (λ j. repeat_paths body greedy least j p m) (room_below l least most fits.1) ∙ capped (cases_lt (most - least) (l + 2))
  where
    capped : (most - least < l + 2) ⊎ (l + 2 ≤ most - least)
        → repeat_paths body greedy least (min (most - least) (l + 2)) p m ≡ repeat_paths body greedy least (most - least) p m
    capped (inl lt) = let e : min (most - least) (l + 2) ≡ most - least = omega (arith, lt) in ap (λ j. repeat_paths body greedy least j p m) e
    capped (inr le) =
        let e : min (most - least) (l + 2) ≡ l + 2 = omega (arith, le) in
        ap (λ j. repeat_paths body greedy least j p m) e ∙ sym (cap_is_enough body greedy l inside least (most - least) p m within le)

pub room_is_count : (body : Next) (greedy : Bool) (l n : ℕ) (least : ℕ) (most : Option ℕ) → Inside l body → count_fits least most → l + 2 ≤ n
    → (p : ℕ) (m : Marks) → p ≤ l
    → repeat_paths body greedy least (room_in l least (greatest most)) p m ≡ repeat_paths body greedy least (optional_count n least most) p m
room_is_count = enough
