-- What a source and a sink in memory are, and what one call of each does.
use Rattle.std.specs.Prelude.{ℕ, ◌-◌, ◌^◌, ◌==◌, ◌&&◌, nat_lt, not, min, Bool, if◌then◌else◌, List, [], ◌++◌, length, take, drop, Option, Some, None}
use Rattle.std.specs.List.{list_any}
use Rattle.py_base.specs.Counts.{one_more}

-- a source: the bytes that are left, the numbers of the calls that fail, how many bytes one call
-- gives at most, how many calls were made, and how many failed
pub record Store : Type 0 where
  pub bytes : List ℕ
  pub fails : List ℕ
  pub most : ℕ
  pub calls : ℕ
  pub faults : ℕ

-- a sink: the bytes that it holds, for how many it has room, and the rest as in a source
pub record Room : Type 0 where
  pub held : List ℕ
  pub room : ℕ
  pub fails : List ℕ
  pub most : ℕ
  pub calls : ℕ
  pub faults : ℕ

abbrev pub store_of : List ℕ → List ℕ → ℕ → ℕ → ℕ → Store
store_of bytes fails most calls faults =
    record { bytes = bytes; fails = fails; most = most; calls = calls; faults = faults }

abbrev pub room_of : List ℕ → ℕ → List ℕ → ℕ → ℕ → ℕ → Room
room_of held room fails most calls faults =
    record { held = held; room = room; fails = fails; most = most; calls = calls; faults = faults }

-- whether the call after so many calls fails: its number is one of those that fail, and not the
-- last
-- one of the type
abbrev pub fails_after : List ℕ → ℕ → Bool
fails_after fails calls =
    nat_lt (one_more calls) (2 ^ 64 - 1) && list_any (λ n. n == one_more calls) fails

-- a source of which no call was made
abbrev pub new_store : List ℕ → List ℕ → ℕ → Store
new_store bytes fails most = store_of bytes fails most 0 0

-- how many bytes a call gives that has room for n
abbrev pub read_count : Store → ℕ → ℕ
read_count s n = min (min (length s.bytes) n) s.most

-- that count, or none where the call fails
abbrev pub read_answer : Store → ℕ → Option ℕ
read_answer s n = if fails_after s.fails s.calls then None else Some (read_count s n)

-- a call that fails takes nothing and raises the count of faults
abbrev pub after_read : Store → ℕ → Store
after_read s n = record {
  bytes = if fails_after s.fails s.calls then s.bytes else drop (read_count s n) s.bytes;
  fails = s.fails;
  most = s.most;
  calls = one_more s.calls;
  faults = if fails_after s.fails s.calls then one_more s.faults else s.faults;
}

-- a sink that holds nothing
abbrev pub new_room : ℕ → List ℕ → ℕ → Room
new_room room fails most = room_of [] room fails most 0 0

-- how many of n bytes a call takes
abbrev pub write_count : Room → ℕ → ℕ
write_count s n = min (min n s.most) (s.room - length s.held)

-- that count, or none where the call fails
abbrev pub write_answer : Room → ℕ → Option ℕ
write_answer s n = if fails_after s.fails s.calls then None else Some (write_count s n)

-- whether a call with n bytes takes none of them
abbrev pub is_stuck : Room → ℕ → Bool
is_stuck s n = write_count s n == 0 && not (n == 0)

-- a call that fails, or that takes nothing of a piece, raises the count of faults
abbrev pub after_write : Room → List ℕ → Room
after_write s piece = record {
  held =
      if fails_after s.fails s.calls then s.held
      else s.held ++ take (write_count s (length piece)) piece;
  room = s.room;
  fails = s.fails;
  most = s.most;
  calls = one_more s.calls;
  faults =
      if fails_after s.fails s.calls then one_more s.faults
      else if is_stuck s (length piece) then one_more s.faults
      else s.faults;
}
