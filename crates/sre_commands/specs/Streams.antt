-- What is seen of the source and the sink of a run.
use Rattle.std.specs.Prelude.{ℕ, ◌<◌, ◌≤◌, List, length, take, Option}
use Rattle.std.specs.Io.KnownBytes.{Consumes, IsAtEnd, Appends}
use Rattle.py_base.specs.Stream.Faults.{Rose}

-- of a source: the bytes that are left, where they are told, and how often it failed, before and
-- after
pub record Reading : Type 0 where
  pub left_old : Option (List ℕ)
  pub left_new : Option (List ℕ)
  pub faults_old : ℕ
  pub faults_new : ℕ

abbrev pub reading_of : {S : Type 0} → (S → Option (List ℕ)) → (S → ℕ) → S → S → Reading
reading_of left faults old new =
    record {
      left_old = left old;
      left_new = left new;
      faults_old = faults old;
      faults_new = faults new;
    }

-- of a sink: the bytes that it holds, where they are told, and how often it failed, before and
-- after
pub record Writing : Type 0 where
  pub held_old : Option (List ℕ)
  pub held_new : Option (List ℕ)
  pub faults_old : ℕ
  pub faults_new : ℕ

abbrev pub writing_of : {K : Type 0} → (K → Option (List ℕ)) → (K → ℕ) → K → K → Writing
writing_of held faults old new =
    record {
      held_old = held old;
      held_new = held new;
      faults_old = faults old;
      faults_new = faults new;
    }

-- the source, the sink failed
abbrev pub ReadFailed : Reading → Type 0
ReadFailed r = Rose r.faults_old r.faults_new

abbrev pub WriteFailed : Writing → Type 0
WriteFailed w = Rose w.faults_old w.faults_new

-- the source was read to its end, and these bytes were taken
pub record ReadWhole (r : Reading) (bytes : List ℕ) : Type 0 where
  pub read : Consumes r.left_old r.left_new bytes
  pub at_end : IsAtEnd r.left_new

-- at most so many bytes were taken
pub record TookAtMost (most : ℕ) (r : Reading) : Type 0 where
  pub bytes : List ℕ
  pub read : Consumes r.left_old r.left_new bytes
  pub within : length bytes ≤ most

-- more bytes than this were taken
pub record TookMoreThan (most : ℕ) (r : Reading) : Type 0 where
  pub bytes : List ℕ
  pub read : Consumes r.left_old r.left_new bytes
  pub more : most < length bytes

-- these bytes were written, all of them
abbrev pub Wrote : Writing → List ℕ → Type 0
Wrote w bytes = Appends w.held_old w.held_new bytes

-- a prefix of these bytes was written, and not all of them
pub record WroteLess (w : Writing) (bytes : List ℕ) : Type 0 where
  pub count : ℕ
  pub fewer : count < length bytes
  pub written : Appends w.held_old w.held_new (take count bytes)
