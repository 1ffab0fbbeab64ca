-- What a call of a host in memory tells.
use Rattle.std.proofs.Common.{◌≡◌, ◌≤◌, ℕ, Some, Err, ap, refl}
use Rattle.py_base.specs.Stream.Faults.{Rose}
use Rattle.py_value.specs.declared.host.HostAnswer.TheVariants.{Failed}
use Rattle.py_value.specs.declared.host.HostMethod.{HostMethod}
use Rattle.py_value.specs.Asking.{Tells}
use Rattle.py_value.specs.HostSeen.{seen_of, table_of}
use Rattle.py_value.specs.HostTable.{InMemory, after_call}
use Rattle.py_value.specs.Plain.{Plain}

-- a call that failed keeps the promise of each method
pub failed_tells : (h : ℕ) (m : HostMethod) (k : Plain) (old new : InMemory) → new ≡ after_call old → old.faults ≤ new.faults → Rose old.faults new.faults → Tells h m k (seen_of old) (seen_of new) (Err Failed)
failed_tells h m k old new after later rose = record {
  kept = ap (λ (s : InMemory). Some (table_of s.rows)) after;
  later = later;
  failed = λ e. rose;
  short = λ e. refl;
  told = tt;
  noted = tt;
}
