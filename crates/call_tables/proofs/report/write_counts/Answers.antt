use Rattle.std.proofs.Common.{◌≡◌, ◌++◌, List, [], ◌∷◌, ℕ, Result, OnOk, string_bytes}
use Rattle.std.specs.Fmt.{decimal}
use Rattle.call_tables.specs.Report.{counts_text}
use Rattle.call_tables.proofs.report.write_counts.Goals as goal

counts_told : {T E : Type 0} (r : Result T E) (new old a b : List ℕ) →
    OnOk r (new ≡ old ++ (a ++ (32 ∷ 111 ∷ 102 ∷ 32 ∷ (b ++ (32 ∷ 99 ∷ 97 ∷ 108 ∷ 108 ∷ 115 ∷ 32 ∷ 97 ∷ 103 ∷ 114 ∷ 101 ∷ 101 ∷ 10 ∷ []))))) →
    OnOk r (new ≡ old ++ counts_text a b)
counts_told r new old a b h = h

pub returns : goal.returns
returns c =
    counts_told c.write.result (string_bytes c.write.new.self) (string_bytes c.args.text.now) (decimal c.args.all.agreeing) (decimal c.args.all.calls) c.write.ensures.bytes
