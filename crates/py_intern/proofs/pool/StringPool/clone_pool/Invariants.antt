use Rattle.std.proofs.Common.{◌≡◌, take}
use Rattle.py_intern.proofs.pool.StringPool.clone_pool.Given as goal

abbrev pub invariant-loop-place : goal.invariant-loop-place
invariant-loop-place l = l.copy ≡ take l.place l.self
