use Rattle.std.proofs.Common.{map, sym, arith}
use Rattle.std.proofs.lemmas.Result.{err_from_is_err_and}
use Rattle.std.proofs.lemmas.List.{map-append}
use Rattle.py_value.specs.ValueView.{plain_of}
use Rattle.py_sre.specs.Pieces.{piece_of}
use Rattle.py_sre.proofs.ItemLemmas.{from_end, from_none, less_meets, no_more, one_more, some_within}
use Rattle.py_sre.proofs.template.pieces_from.Goals as goal

pub returns-in_default : goal.returns-in_default
returns-in_default g c =
    sym (no_more g.K.Kind.is_bytes c.args.groups c.items.is_group c.items.place c.args.list.now (map (piece_of g.K.Kind.units) c.items.pieces.items) _ (from_none c.args.list.now c.items.place c.in_default.ensures) c.items.invariant.so_far)

pub returns-in_err-piece_at : goal.returns-in_err-piece_at
returns-in_err-piece_at g c =
    let p = err_from_is_err_and c.from_residual.result c.from_residual.ensures.1 in
    rw (p.1, p.2) (less_meets g.K.Kind.is_bytes c.args.groups c.items.is_group c.items.place c.args.list.now (plain_of c.in-Some.value.now) (map (piece_of g.K.Kind.units) c.items.pieces.items) _ _ c.in-Some.ensures c.in_err-piece_at.ensures c.items.invariant.so_far)

pub items-preserved : goal.items-preserved
items-preserved g c = record {
  within = some_within c.args.list.now c.items.place (plain_of c.in-Some.value.now) c.in-Some.ensures;
  so_far = rw (c.in_ok-push.ensures.items, map-append (piece_of g.K.Kind.units) c.items.pieces.items _) (one_more g.K.Kind.is_bytes c.args.groups c.items.is_group c.items.place c.args.list.now (plain_of c.in-Some.value.now) (map (piece_of g.K.Kind.units) c.items.pieces.items) (piece_of g.K.Kind.units c.in_ok-piece_at.field-0) _ c.in-Some.ensures (sym c.in_ok-piece_at.ensures) c.items.invariant.so_far);
}

pub returns : goal.returns
returns g c =
    sym (no_more g.K.Kind.is_bytes c.args.groups c.items.is_group c.items.place c.args.list.now (map (piece_of g.K.Kind.units) c.items.pieces.items) _ (from_end c.args.list.now c.items.place (omega (arith, c.len.ensures, c.items-test.false))) c.items.invariant.so_far)
