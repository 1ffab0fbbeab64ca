use Rattle.std.proofs.Common.{map, sym, arith}
use Rattle.std.proofs.lemmas.Result.{err_from_is_err_and}
use Rattle.py_value.specs.ValueView.{plain_of}
use Rattle.py_sre.specs.Pieces.{piece_of}
use Rattle.py_sre.proofs.ItemLemmas.{from_end, from_none, some_within}
use Rattle.py_sre.proofs.SubstituteLemmas.{no_subject, nothing_followed, subject_fails, subject_more}
use Rattle.py_sre.proofs.pattern.Pattern.each_replaced.Goals as goal

pub subjects-init : goal.subjects-init
subjects-init g c = record {
  within = omega arith;
  so_far = rw c.new-made.ensures (nothing_followed _);
}

pub returns-in_default : goal.returns-in_default
returns-in_default g c =
    sym (no_subject c.args.self.now.is_bytes c.args.self.now.code.tree (map (piece_of g.K.Kind.units) c.args.pieces.now) (g.K.Kind.units c.args.unset.now) c.args.count c.subjects.place c.args.subjects.now c.subjects.made _ (from_none c.args.subjects.now c.subjects.place c.in_default.ensures) c.subjects.invariant.so_far)

pub returns-in_err-pair_of : goal.returns-in_err-pair_of
returns-in_err-pair_of g c =
    let p = err_from_is_err_and c.from_residual.result c.from_residual.ensures.1 in
    rw (p.1, p.2) (subject_fails c.args.self.now.is_bytes c.args.self.now.code.tree (map (piece_of g.K.Kind.units) c.args.pieces.now) (g.K.Kind.units c.args.unset.now) c.args.count c.subjects.place c.args.subjects.now (plain_of c.in-Some.string.now) c.subjects.made _ _ c.in-Some.ensures c.in_err-pair_of.ensures c.subjects.invariant.so_far)

pub subjects-preserved : goal.subjects-preserved
subjects-preserved g c = record {
  within = some_within c.args.subjects.now c.subjects.place (plain_of c.in-Some.string.now) c.in-Some.ensures;
  so_far = rw c.in_ok-push.ensures.ok (subject_more c.args.self.now.is_bytes c.args.self.now.code.tree (map (piece_of g.K.Kind.units) c.args.pieces.now) (g.K.Kind.units c.args.unset.now) c.args.count c.subjects.place c.args.subjects.now (plain_of c.in-Some.string.now) c.subjects.made (plain_of c.in_ok-pair_of.field-0) _ c.in-Some.ensures (sym c.in_ok-pair_of.ensures) c.subjects.invariant.so_far);
}

pub returns : goal.returns
returns g c =
    sym (no_subject c.args.self.now.is_bytes c.args.self.now.code.tree (map (piece_of g.K.Kind.units) c.args.pieces.now) (g.K.Kind.units c.args.unset.now) c.args.count c.subjects.place c.args.subjects.now c.subjects.made _ (from_end c.args.subjects.now c.subjects.place (omega (arith, c.len.ensures, c.subjects-test.false))) c.subjects.invariant.so_far)
